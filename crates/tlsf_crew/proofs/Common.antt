-- The names that most proofs of this crate cite, passed on from one place. Declares nothing.
pub use Rattle.std.proofs.Common.{eq-eqb, ◌≡◌, arith, refl, ◌∙◌, ap, sym, length, ℕ, List, Some, subst, ◌≤◌, [], ◌<◌, ◌∷◌, inl, ◌++◌, inr, Option, None, ◌≢◌, ◌+◌, suc, zero, append-nil, map, take, get_or, drop, ◌-◌, append_assoc, set, false, length-append, ◌⊎◌, Result, true, vec_capacity, Err, Ok, vec_len, ◌==◌, All, ◌*◌, replicate, slice_get, slice_index, cond, get_or-set_other, add-one, get_or-set_same, nat_le, nat_lt, Bool, length-set, length-take, reverse, ◌^◌, IfOk, length-drop, length-take-le, take_all, rules}
pub use Rattle.std.proofs.lemmas.List.FromFn.{map-range_with_len_more, get_or-map-range_with_len, length-range_with_len}
pub use Rattle.std.specs.Prelude.{◌↔◌, ⊤, OnErr, if◌then◌else◌}
pub use Rattle.std.proofs.Math.Seq.{drop-append_seam, take-append_seam, map-set_same, set-append_seam}
pub use Rattle.std.proofs.lemmas.Bool.{cases_eq, cases_lt, ne_eqb}
pub use Rattle.std.proofs.lemmas.Bool.Decides.{nat_tests}
pub use Rattle.std.proofs.lemmas.Grind.{common_steps}
pub use Rattle.std.proofs.lemmas.List.{length-map, map-append, nil_from_length, length_push, take-append-drop, append_cancel_left, length-replicate, map-set, drop-drop, drop_at, ext_get_or, get_or-replicate, same_from_push, same_lists, set-get_or, take_more, get_or-drop, get_or-take, map_push, replicate-append-replicate, reverse-append, set-append_left, set-append_right, take_more_set}
pub use Rattle.std.proofs.lemmas.List.Elements.{All-nil, All-cons, All-append, All-tail, All-head, All-push, All-pop, filter-append, All-drop, All-take, filter_map-append}
pub use Rattle.std.proofs.lemmas.List.Sums.{fold-append, sum_by-append, count_by-le-length, fold_more, sum_by-cons}
pub use Rattle.std.proofs.lemmas.Option.{slice_get_within, slice_get-get_or, get_or_from_slice_get, slice_get_past, slice_get-map}
pub use Rattle.std.specs.List.{fold, cons_option, AllByRecursion, filter_map, range_with_len, count_by}
pub use Rattle.std.specs.Option.{option_copied_mut, option_map, option_to_list}
pub use Rattle.std.specs.declared.alloc.Global.{Global}
pub use Rattle.std.specs.declared.vec.Vec.{Vec}
pub use Rattle.tlsf_calls.specs.Bytes.{bytes_of, chunk_of}
pub use Rattle.tlsf_calls.specs.Entries.{record_of}
pub use Rattle.tlsf_calls.specs.declared.call.Call.{Call}
pub use Rattle.tlsf_calls.specs.declared.call.Call.TheVariants.{Take, Drain, Release, Allocate, Read, Resize, Write}
pub use Rattle.tlsf_calls.specs.declared.chunk.Chunk.{Chunk}
pub use Rattle.tlsf_calls.specs.declared.crew_refusal.CrewRefusal.{CrewRefusal}
pub use Rattle.tlsf_calls.specs.declared.crew_refusal.CrewRefusal.TheVariants.{Full, Stranger, Unmade, Heap}
pub use Rattle.tlsf_calls.specs.declared.entry.Entry.{Entry}
pub use Rattle.tlsf_calls.specs.declared.event.Event.{Event}
pub use Rattle.tlsf_calls.specs.declared.released.Released.{Released}
pub use Rattle.tlsf_calls.specs.declared.reply.Reply.{Reply}
pub use Rattle.tlsf_calls.specs.declared.reply.Reply.TheVariants.{Refused, Drained, Posted, Empty, Freed, Got, Resized, Wrote, Made, Took as Taken}
pub use Rattle.tlsf_calls.specs.declared.target.Target.{Target}
pub use Rattle.tlsf_calls.specs.declared.target.Target.TheVariants.{Made as MadeBy}
pub use Rattle.tlsf_calls.specs.declared.took.Took.{Took}
pub use Rattle.tlsf_class.specs.Classes.{IsLevel}
pub use Rattle.tlsf_crew.specs.declared.jobs.job.Job.{Job}
pub use Rattle.tlsf_crew.specs.declared.queues.queues.Queues.{Queues}
pub use Rattle.tlsf_crew.specs.declared.scripts.journal.Journal.{Journal}
pub use Rattle.tlsf_crew.specs.declared.worker.lanes.Lanes.{Lanes}
pub use Rattle.tlsf_crew.specs.declared.worker.worker.Worker.{Worker}
pub use Rattle.tlsf_crew.specs.histories.History.{posts_taken, posts_made, post_of_take, post_of_release, call_on_own, RunsTo, StandsBehind, answer_told, calls_on, answers_on, AreLawful, AreTakes, IsNoPost, RunsThrough, TellsCall, TookFromOther, IsDrain, entries_of, handed_on, Tells, TellsEvent, meant, name_on_heap, AnswersPost}
pub use Rattle.tlsf_crew.specs.jobs.Job.{KnowsSome, IsDone}
pub use Rattle.tlsf_crew.specs.jobs.Parts.{EachJobRan, IsPrepared, AllDone, JobRan}
pub use Rattle.tlsf_crew.specs.lanes.LaneCalls.{KeepsYards, PutsIntoLane, TakenFromLane}
pub use Rattle.tlsf_crew.specs.lanes.LaneNotes.{lane_rules}
pub use Rattle.tlsf_crew.specs.lanes.LaneSteps.{SameLane, ColumnSettled, LaneChange, OnlyLaneSettled, EachColumnSettled, InYard}
pub use Rattle.tlsf_crew.specs.lanes.LaneWorkers.{end_from, id_and_capacity, end_to, KnowsYard, HasTake, PostEndPut, TakeEndTook, TookThrough, lane_from, HasPost, lane_memory, lane_to, lane_places, lane_extents}
pub use Rattle.tlsf_crew.specs.lanes.NewLanes.{IsLaid, opened_numbers, IsBefore}
pub use Rattle.tlsf_crew.specs.lanes.Ready.{count_of, ready_from, ready_below}
unfoldable pub use Rattle.tlsf_crew.specs.lanes.Ready.{ready_in}
pub use Rattle.tlsf_crew.specs.lanes.Settle.{EachLaneSettled, KeepsWorld, LaneSettled}
pub use Rattle.tlsf_crew.specs.lanes.Yard.{IsYard, shown_in, take_at, post_at, capacity_in, lane_waits, heap_of_worker, waits_in, end_from_in, HasYardLane, end_to_in, BothBeside, id_in}
unfoldable pub use Rattle.tlsf_crew.specs.lanes.Yard.{world_of}
pub use Rattle.tlsf_crew.specs.model.Heaps.{as_chunk, too_many}
unfoldable pub use Rattle.tlsf_crew.specs.model.Heaps.{released, allocated, chunk_read, resized, written}
pub use Rattle.tlsf_crew.specs.model.Opening.{opened_heaps, opened_world}
pub use Rattle.tlsf_crew.specs.model.OwnReplies.{HeapReply, own_reading, own_resizing, own_writing, reply_by, IsHeapReply, own_allocating, own_named, own_freeing, own_unmade}
pub use Rattle.tlsf_crew.specs.model.Progress.{Progress, MayTell, untold, told_by, MayTellAll, IsModelAnswer, HasHeap, AllTold, Suits, told_more}
pub use Rattle.tlsf_crew.specs.model.QueueProgress.{with_takes, MayTellQueue, with_reply, IsFromOther, take_entry, with_take, MayTellQueueAll}
pub use Rattle.tlsf_crew.specs.model.Sums.{sum_below, sum_of, lanes_sum}
unfoldable pub use Rattle.tlsf_crew.specs.model.Sums.{waiting_count}
pub use Rattle.tlsf_crew.specs.model.Targets.{target_name}
pub use Rattle.tlsf_crew.specs.model.World.{World, heap_in, Replayed, called, no_heap, name_of, DrainState, drained_below, took_more, WorldReply, releasing_named, taking, took, with_heap, with_waiting, answered, begun, releasing, took_first, made_by, reading_named, resizing_named, writing_named, allocating, by_own, resumed, freeing, edited, reply_freed, reply_got, reply_made, reply_resized, reply_wrote, drained_from}
unfoldable pub use Rattle.tlsf_crew.specs.model.World.{after_drain, drained_waiting, draining, after, posting, replies, taking_next, replies_behind}
pub use Rattle.tlsf_crew.specs.queues.QueueCalls.{TakenFromQueue, DrainedQueue}
pub use Rattle.tlsf_crew.specs.queues.QueueNotes.{queue_rules, StopsAtQueue}
pub use Rattle.tlsf_crew.specs.queues.QueueOpening.{GaveEnds, AreGiven, AreUngiven, GotEnd, AreFreshQueues, HaveSlotsFor, IsNewQueueWorker}
pub use Rattle.tlsf_crew.specs.queues.QueueSettle.{EachQueueSettled, Gathered, StaysPut, QueueKnown, end_at, GaveUpEnd, QueueSettled, StaysSettled, ends_below}
pub use Rattle.tlsf_crew.specs.queues.QueueWorkers.{queue_end_to, KeepsQueueYards, KnowsQueueYard, AsksQueue, queue_to, HasQueueEnd, KeepsSlot, OwnEndTook, PosterEndPut, PutsIntoQueue, queue_extents}
pub use Rattle.tlsf_crew.specs.queues.QueueYard.{IsQueueYard, first_capacity, queue_capacity_in, queue_end_in, queue_waits_in, waits_of, FitsQueueYard}
unfoldable pub use Rattle.tlsf_crew.specs.queues.QueueYard.{queue_world_of}
pub use Rattle.tlsf_crew.specs.race_laws.Alone.{OnlyLastDrains, TakesNoPost, alone, RaceIsOne}
pub use Rattle.tlsf_crew.specs.races.LaneTasks.{KeepRooms, EachLastDrained, HaveRooms, EachLaneWorkerRan, HasFew, LaneWorkerRan, EachHasLastRoom, HasLastRoom, LastTold}
pub use Rattle.tlsf_crew.specs.races.QueueRace.{IsQueueRace, AgreeQueue, IsLegalQueue}
pub use Rattle.tlsf_crew.specs.races.QueueTasks.{QueueLastDrained, EachQueueLastDrained, EachQueueWorkerRan, HasPlace, KnowsSomeYard, QueueWorkerRan, SettledAndDrained}
pub use Rattle.tlsf_crew.specs.races.Race.{IsRace, events_by, Agree, IsLegal, events_of_race}
pub use Rattle.tlsf_crew.specs.races.Rooms.{HaveQueueRecordRooms, HaveRecordRooms}
pub use Rattle.tlsf_crew.specs.replays.ReplaySteps.{replay_of, ConcernsCall, IsReplied, AreLimits, drain_of}
pub use Rattle.tlsf_crew.specs.scripts.EntryRoom.{releases_of, is_release, AreLaneLimits, releases_in}
pub use Rattle.tlsf_crew.specs.scripts.Journals.{EntersTake, IsAdmitted, OneFewer}
pub use Rattle.tlsf_crew.specs.scripts.LaneMoves.{LaneMoved, Spent, one, LaneStepped, PostEndMoved, TakeEndMoved, EachLaneSpent, EachLaneTaken, LaneTakenWithin, WorkerDrain, drain_at, lane_promise, took_by, took_each_lane, took_posts, LaneSpent, LaneTaken, SuitsCall, SuitsDrain, took_post}
pub use Rattle.tlsf_crew.specs.scripts.QueueMoves.{QueueStepped, QueueMoved, entry_by, queue_promise}
pub use Rattle.tlsf_crew.specs.scripts.Scripts.{last_call, script_of, at_stage, stage_of, ScriptRun, Stage, told_of, AreMoves, QuietCall, reply_released, IsNoTake, IsQuiet, ScriptPromise, TakenWithin, reply_took, CallMade, Step, told_at}
pub use Rattle.tlsf_crew.specs.worker.Calls.{AfterTake, Posts, ReleasesOrPosts, ReleasedThere, by_heap, TakenFrom, posted_as, put_answer, ReleasedHere, TakesInTurn, freed_by}
pub use Rattle.tlsf_crew.specs.worker.Drains.{IsCountOf, heap_after, is_freed}
pub use Rattle.tlsf_crew.specs.worker.Notes.{EachNoted, EachTakeNoted, SourceNoted, TakeRules, AllNoted, SourceEnds, TurnNoted}
pub use Rattle.tlsf_crew.specs.worker.Sizes.{AreSizes}
pub use Rattle.tlsf_crew.specs.worker.Slices.{KeepsRoom, MayTake, PortsInTurn, EachReleased, SliceTaken, post_of}
pub use Rattle.tlsf_crew.specs.worker.Workers.{heap_of, shown_of, id_of, SameButHeap, end_extents, extent_of, KeepsHeap, slot_of, IsHeapOf, SameButPorts, IsOther, Stays, WorksWithin}
pub use Rattle.tlsf_heap.proofs.lemmas.calls.Outcomes.{lawful_run, ids}
pub use Rattle.tlsf_heap.specs.Blocks.{HeapState}
pub use Rattle.tlsf_heap.specs.Calls.{opened, read_of, read_answer}
pub use Rattle.tlsf_heap.specs.Lawful.{IsLawful, IsRegion}
pub use Rattle.tlsf_heap.specs.declared.name.Name.{Name}
pub use Rattle.tlsf_heap.specs.declared.refusal.Refusal.{Refusal}
pub use Rattle.tlsf_heap.specs.declared.refusal.Refusal.TheVariants.{Range, Foreign}
pub use Rattle.tlsf_post.proofs.Numbers.{but_more, but_skip}
pub use Rattle.tlsf_post.proofs.RuleSteps.{parts, of_append, of_kept, of_other, of_others, of_own}
pub use Rattle.tlsf_post.specs.Lanes.{post_extent, take_extent}
unfoldable pub use Rattle.tlsf_post.specs.Lanes.{taken, ready, posts_sent, waited, capacity_of, free_slots, IsLane}
pub use Rattle.tlsf_post.specs.Mailboxes.{got_by, known_to, number_of, put_by, below_but, poster_extent, IsWhole, most_of, IsMailbox, IsOnlyPoster, KeepsPoster, gone_from, out_of, owner_of, AllBeside, HasFilled, IsAllTaken, KeepsOwner, owner_extent, plan_of}
pub use Rattle.tlsf_post.specs.Rule.{posts_of, plan_for, posts_but}
pub use Rattle.tlsf_post.specs.declared.owner_end.OwnerEnd.{OwnerEnd}
pub use Rattle.tlsf_post.specs.declared.plan.Plan.{Plan}
pub use Rattle.tlsf_post.specs.declared.post.Post.{Post}
pub use Rattle.tlsf_post.specs.declared.post_end.PostEnd.{PostEnd}
pub use Rattle.tlsf_post.specs.declared.poster_end.PosterEnd.{PosterEnd}
pub use Rattle.tlsf_post.specs.declared.take_end.TakeEnd.{TakeEnd}
pub use Rattle.tlsf_words.specs.Memory.{Extent}
pub use mathlib.Core.List.{IsPrefix}
