-- The names of other crates, and the types of this one, that definitions cite, passed on from one place. Declares nothing.
pub use Rattle.std.specs.List.{fold, range_with_len, count_by, filter, filter_map, AllByRecursion}
pub use Rattle.std.specs.Option.{option_map, option_to_list}
pub use Rattle.std.specs.declared.alloc.Global.{Global}
pub use Rattle.std.specs.declared.vec.Vec.{Vec}
pub use Rattle.tlsf_calls.specs.Bytes.{bytes_of, chunk_of}
pub use Rattle.tlsf_calls.specs.Entries.{record_of}
pub use Rattle.tlsf_calls.specs.declared.call.Call.{Call}
pub use Rattle.tlsf_calls.specs.declared.call.Call.TheVariants.{Take, Drain, Release, Allocate, Write, Read, Resize}
pub use Rattle.tlsf_calls.specs.declared.chunk.Chunk.{Chunk}
pub use Rattle.tlsf_calls.specs.declared.crew_refusal.CrewRefusal.{CrewRefusal}
pub use Rattle.tlsf_calls.specs.declared.crew_refusal.CrewRefusal.TheVariants.{Full, Stranger, Heap, Unmade}
pub use Rattle.tlsf_calls.specs.declared.entry.Entry.{Entry}
pub use Rattle.tlsf_calls.specs.declared.event.Event.{Event}
pub use Rattle.tlsf_calls.specs.declared.released.Released.{Released}
pub use Rattle.tlsf_calls.specs.declared.released.Released.TheVariants.{Freed as WasFreed, Posted as WasPosted}
pub use Rattle.tlsf_calls.specs.declared.reply.Reply.{Reply}
pub use Rattle.tlsf_calls.specs.declared.reply.Reply.TheVariants.{Refused, Drained, Took as Taken, Empty, Posted, Freed, Made, Wrote, Got, Resized}
pub use Rattle.tlsf_calls.specs.declared.target.Target.{Target}
pub use Rattle.tlsf_calls.specs.declared.took.Took.{Took}
pub use Rattle.tlsf_class.specs.Classes.{IsLevel}
pub use Rattle.tlsf_crew.specs.declared.queues.queues.Queues.{Queues}
pub use Rattle.tlsf_crew.specs.declared.scripts.journal.Journal.{Journal}
pub use Rattle.tlsf_crew.specs.declared.worker.lanes.Lanes.{Lanes}
pub use Rattle.tlsf_crew.specs.declared.worker.worker.Worker.{Worker}
pub use Rattle.tlsf_heap.specs.Blocks.{HeapState}
pub use Rattle.tlsf_heap.specs.Calls.{opened, released, Outcome}
pub use Rattle.tlsf_heap.specs.Lawful.{IsLawful, IsRegion}
pub use Rattle.tlsf_heap.specs.Shown.{Shown, Seen, seen}
pub use Rattle.tlsf_heap.specs.declared.name.Name.{Name}
pub use Rattle.tlsf_heap.specs.declared.refusal.Refusal.{Refusal}
pub use Rattle.tlsf_heap.specs.declared.refusal.Refusal.TheVariants.{Range, Foreign}
pub use Rattle.tlsf_post.specs.Lanes.{ready, posts_sent, free_slots, waited, taken, capacity_of, IsLane, post_extent, take_extent, KeepsPost, KeepsTake}
pub use Rattle.tlsf_post.specs.Mailboxes.{got_by, put_by, known_to, number_of, most_of, owner_of, out_of, IsMailbox, gone_from, plan_of, IsOnlyPoster, IsWhole, poster_extent, owner_extent, HasFilled, PosterSaw, OwnerSaw, KeepsPoster, KeepsOwner, IsAllTaken}
pub use Rattle.tlsf_post.specs.Rule.{posts_of}
pub use Rattle.tlsf_post.specs.declared.post.Post.{Post}
pub use Rattle.tlsf_post.specs.declared.post_end.PostEnd.{PostEnd}
pub use Rattle.tlsf_post.specs.declared.poster_end.PosterEnd.{PosterEnd}
pub use Rattle.tlsf_post.specs.declared.take_end.TakeEnd.{TakeEnd}
pub use Rattle.tlsf_words.specs.Memory.{Extent, Extents}
pub use mathlib.Core.List.{IsPrefix}
