-- The names that most proofs of this crate cite, passed on from one place. Declares nothing.
pub use Rattle.std.proofs.Common.{List, None, [], ap, refl, subst, ℕ, ◌∙◌, ◌∷◌, ◌≡◌, Option, arith, inl, inr, length, sym, ◌<◌, Some, ◌++◌, ◌≢◌, ◌≤◌, false, length-append, suc, true, ◌+◌, All, Bool, Ok, append-nil, map, zero, ◌*◌, ◌==◌, ◌⊎◌, Err, append_assoc, cond, eq-eqb, eqb, ◌-◌, Result, drop, filter, not, replicate, take, get_or, nat_le, nat_lt, slice_get, length-set, get_or-set_same, get_or-set_other, take_all}
pub use Rattle.std.proofs.lemmas.Bool.Decides.{nat_tests}
pub use Rattle.std.proofs.lemmas.Option.{slice_get-get_or}
pub use Rattle.std.specs.Prelude.{IsSome, if◌then◌else◌, ⊤}
pub use Rattle.std.proofs.lemmas.Bool.{cases_eq, cases_lt, false≢true, ne_eqb, eqb-true}
pub use Rattle.std.proofs.lemmas.List.{length-map, length-drop, length_push, take-append-drop}
pub use Rattle.std.proofs.lemmas.List.Elements.{All-tail, All-take, filter-append, Contains-append_cases, All-push}
pub use Rattle.std.specs.List.{AllByRecursion, cons_option, filter_map, fold, Contains, slice_index_or}
pub use Rattle.std.specs.Option.{option_map}
pub use Rattle.tlsf_calls.specs.Bytes.{bytes_of}
pub use Rattle.tlsf_calls.specs.declared.call.Call.{Call}
pub use Rattle.tlsf_calls.specs.declared.call.Call.TheVariants.{Allocate, Drain, Read, Release, Resize, Take, Write}
pub use Rattle.tlsf_calls.specs.declared.chunk.Chunk.{Chunk}
pub use Rattle.tlsf_calls.specs.declared.crew_refusal.CrewRefusal.{CrewRefusal}
pub use Rattle.tlsf_calls.specs.declared.crew_refusal.CrewRefusal.TheVariants.{Stranger, Heap, Full}
pub use Rattle.tlsf_calls.specs.declared.entry.Entry.{Entry}
pub use Rattle.tlsf_calls.specs.declared.event.Event.{Event}
pub use Rattle.tlsf_calls.specs.declared.reply.Reply.{Reply}
pub use Rattle.tlsf_calls.specs.declared.reply.Reply.TheVariants.{Refused, Drained, Freed, Posted, Took as Taken}
pub use Rattle.tlsf_calls.specs.declared.target.Target.{Target}
pub use Rattle.tlsf_calls.specs.declared.took.Took.{Took}
pub use Rattle.tlsf_class.specs.Classes.{IsLevel, most_words}
unfoldable pub use Rattle.tlsf_class.specs.Classes.{search_of, classes, low, class_of}
pub use Rattle.tlsf_crew.proofs.lemmas.histories.AllEntries.{called_knows, called_told, replies_tell, more_knows}
pub use Rattle.tlsf_crew.proofs.lemmas.histories.DrainEntries.{drain_makes, drain_told, ToldOnce}
pub use Rattle.tlsf_crew.proofs.lemmas.histories.Fronts.{runs_through}
pub use Rattle.tlsf_crew.proofs.lemmas.histories.JoinedEntries.{HasItsAnswer, told_other, told_own, runs_then, told_then, length_told, told_nothing, taken_then}
pub use Rattle.tlsf_crew.proofs.lemmas.model.Edits.{cases_both, edited_same, edited_other}
pub use Rattle.tlsf_crew.proofs.lemmas.model.EventSteps.{after_far, after_near, replies_is}
pub use Rattle.tlsf_crew.proofs.lemmas.model.OneEvent.{drain_by, posting_by, releasing_by, same_heap, taking_by, taking_far, taking_own}
pub use Rattle.tlsf_crew.proofs.lemmas.race_laws.SameDrains.{own_post, ran_take, take_entry, drain_apart, nothing_before}
pub use Rattle.tlsf_crew.proofs.lemmas.worker.Slots.{some_same, at_push}
pub use Rattle.tlsf_crew.specs.histories.History.{RunsTo, answers_on, calls_on, answer_told, call_on_own, handed_on, post_of_release, post_of_take, posts_made, posts_taken, entries_of, meant, name_on_heap, AreTakes, RunsThrough, StandsBehind, TellsCall, taken_name}
unfoldable pub use Rattle.tlsf_crew.specs.model.Heaps.{allocated, released, written, resized, chunk_read}
pub use Rattle.tlsf_crew.specs.model.Heaps.{bytes_read, too_many, as_chunk}
pub use Rattle.tlsf_crew.specs.model.Opening.{opened_world}
pub use Rattle.tlsf_crew.specs.model.Progress.{MayTell, told_by}
pub use Rattle.tlsf_crew.specs.model.Sums.{sum_below}
pub use Rattle.tlsf_crew.specs.model.World.{World, heap_in, Replayed, called, name_of, taking, DrainState, answered, begun, by_own, drained_below, releasing_named, took_first, took_more, with_waiting, WorldReply, with_heap, made_by, reply_made, reply_freed, releasing, freeing, reply_wrote, reply_got, reply_resized, writing_named, reading_named, resizing_named, took, no_heap}
unfoldable pub use Rattle.tlsf_crew.specs.model.World.{draining, replies, after_drain, drained_waiting, posting, taking_next}
pub use Rattle.tlsf_crew.specs.race_laws.Alone.{OnlyLastDrains, alone}
pub use Rattle.tlsf_crew.specs.races.Race.{record_of, IsRace}
pub use Rattle.tlsf_crew.specs.scripts.Scripts.{last_call}
pub use Rattle.tlsf_heap.proofs.lemmas.blocks.Lawful.{opened_lawful, all_append}
pub use Rattle.tlsf_heap.proofs.lemmas.calls.Outcomes.{by_test, gives, writes, ids, lawful_run, takes}
pub use Rattle.tlsf_heap.proofs.lemmas.laws.Live.{given, kept, known}
pub use Rattle.tlsf_heap.specs.Blocks.{HeapState, want}
pub use Rattle.tlsf_heap.specs.Calls.{refused, is_worn, allocated_at, named, has_bytes, written_at, resized_at, room_of, read_at}
pub use Rattle.tlsf_heap.specs.GoodFit.{Site, choice}
pub use Rattle.tlsf_heap.specs.Lawful.{IsLawful, IsRegion}
pub use Rattle.tlsf_heap.specs.Laws.{IsLive}
pub use Rattle.tlsf_heap.specs.declared.name.Name.{Name}
pub use Rattle.tlsf_heap.specs.declared.refusal.Refusal.{Refusal}
pub use Rattle.tlsf_heap.specs.declared.refusal.Refusal.TheVariants.{Stale, Foreign, Worn, Range, NoRoom}
pub use Rattle.tlsf_pool.proofs.lemmas.laws.Inventories.{AreNamesApart, lookup, Agrees, agrees_run, live_agrees, new_agrees, agrees_call, lookup_without}
pub use Rattle.tlsf_pool.proofs.lemmas.laws.Looks.{change, live, told_new}
pub use Rattle.tlsf_pool.proofs.lemmas.laws.ModestCalls.{serves, suffices, InMixed, opens}
pub use Rattle.tlsf_pool.proofs.lemmas.laws.Names.{same_self, same_is}
pub use Rattle.tlsf_pool.specs.laws.Contents.{is_same, Contents, after, contents, after_all, bytes_there}
pub use Rattle.tlsf_pool.specs.laws.Held.{held_after, held_after_all}
pub use Rattle.tlsf_pool.specs.laws.Kinds.{Inventory, inventory_after, inventory_after_all, with_length}
pub use Rattle.tlsf_pool.specs.laws.MixedSizes.{IsServed, mixed_words, AreModest, IsModest, HasRoomFor}
pub use Rattle.tlsf_pool.specs.laws.Room.{live_count}
pub use Rattle.tlsf_post.specs.declared.post.Post.{Post}
pub use Rattle.tlsf_yard_laws.specs.Carriers.{Carrier, IsRaceOver, OverLanes, OverQueues}
pub use Rattle.tlsf_yard_laws.specs.FairRuns.{IsNotStale, IsFairRun, fair_entries, fair_events, NoneStale, IsUsable, IsFairCall, IsAnswered, GivesBack, IsFair, HasIds, WaitLive, IsLiveIn}
pub use Rattle.tlsf_yard_laws.specs.Races.{HasPast, NewHasNoPast, RaceAddsToPast, RaceHoldsWhatIsLive, RaceKeepsBytes, RaceMixedSizesServe, RaceMixedSizesSuffice, ReplayAddsToPast}
pub use Rattle.tlsf_yard_laws.specs.RunsAlone.{RaceRunsAlone, drained_alone, posted_alone}
pub use Rattle.tlsf_yard_laws.specs.Sharing.{without_post, AreSparing, IsSparing, SharedMixedSizesServe, most_under_way, unreleased_after, with_call}
