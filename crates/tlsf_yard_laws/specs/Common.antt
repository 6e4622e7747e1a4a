-- The names of other crates that definitions of this crate cite, passed on from one place. Declares nothing.
pub use Rattle.std.specs.List.{AllByRecursion}
pub use Rattle.tlsf_calls.specs.declared.call.Call.{Call}
pub use Rattle.tlsf_calls.specs.declared.call.Call.TheVariants.{Allocate, Resize, Release, Take, Write, Read, Drain}
pub use Rattle.tlsf_calls.specs.declared.entry.Entry.{Entry}
pub use Rattle.tlsf_calls.specs.declared.event.Event.{Event}
pub use Rattle.tlsf_calls.specs.declared.reply.Reply.TheVariants.{Freed, Posted, Took as Taken, Made, Drained, Refused}
pub use Rattle.tlsf_calls.specs.declared.target.Target.{Target}
pub use Rattle.tlsf_calls.specs.declared.took.Took.{Took}
pub use Rattle.tlsf_class.specs.Classes.{most_words}
pub use Rattle.tlsf_crew.specs.histories.History.{answers_on, calls_on, StandsBehind, entries_of, posts_made, posts_taken, AreLawful, RunsTo, answer_told, call_on_own, post_of_release}
pub use Rattle.tlsf_crew.specs.model.World.{World, heap_in, replies, name_of, Replayed, after, begun}
pub use Rattle.tlsf_crew.specs.races.Race.{record_of, IsRace}
pub use Rattle.tlsf_heap.specs.Blocks.{want}
pub use Rattle.tlsf_heap.specs.Lawful.{IsRegion}
pub use Rattle.tlsf_heap.specs.Laws.{IsLive}
pub use Rattle.tlsf_heap.specs.declared.name.Name.{Name}
pub use Rattle.tlsf_heap.specs.declared.refusal.Refusal.TheVariants.{Stale}
pub use Rattle.tlsf_pool.specs.laws.Contents.{contents, after_all, is_same}
pub use Rattle.tlsf_pool.specs.laws.Held.{held_after_all}
pub use Rattle.tlsf_pool.specs.laws.Kinds.{Inventory, inventory_after_all, inventory_after}
pub use Rattle.tlsf_pool.specs.laws.MixedSizes.{mixed_words, IsServed, AreModest, HasRoomFor}
pub use Rattle.tlsf_pool.specs.laws.Room.{live_count}
pub use Rattle.tlsf_post.specs.declared.post.Post.{Post}
