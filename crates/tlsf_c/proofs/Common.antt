-- The names that most proofs of this crate cite, passed on from one place. Declares nothing.
pub use Rattle.std.proofs.Common.{◌∙◌, sym, ap, ◌≡◌, arith, subst, ℕ, length, List, Result, take, ◌++◌, ◌+◌, rules, ◌≤◌, Ok, inr, refl, ◌<◌, Err, Option, [], inl, true, ◌∷◌, Some, drop, length-append, ◌*◌, ◌≢◌, None, append_assoc, max, suc, ◌-◌, get_or, if◌then◌else◌, map, min, take_all, ◌↔◌}
pub use Rattle.std.specs.Prelude.{is_some, IfOk, OnErr, IfSome, IsErrOf, MatchResult, OnOk, nat_le, vec_capacity, vec_len}
pub use Rattle.core.proofs.alloc.Calls.{handle_tells, Fits, α, token, Goes-blank}
pub use Rattle.std.proofs.lemmas.Bool.{cases_lt, false≢true, eqb-true, ltb-true}
pub use Rattle.std.specs.Global.{Global}
pub use Rattle.std_alloc.proofs.BoxSteps.Form.{B, D, word, box_typed, Bx, box_ty, R, P, τ, args, handle}
pub use Rattle.std_alloc.proofs.BoxSteps.Steps.{box_in, box_out}
pub use Rattle.std_alloc.proofs.ResultValues.{and_tt}
pub use Rattle.std_alloc.proofs.SendSync.{lies, quiet}
pub use Rattle.std_heap.specs.contracts.GlobalAllocator.TheImpl.{dict, ghosts}
pub use Rattle.tlsf_c.specs.Counting.{counted, no_counts}
pub use Rattle.tlsf_c.specs.Drains.{drained, LeavesUnnamed}
pub use Rattle.tlsf_c.specs.Handles.{serves, heap_in, touched_in, counts_in, posts_named, touches_in, post_of}
pub use Rattle.tlsf_c.specs.Levels.{LevelHeap, GoesOn}
pub use Rattle.tlsf_c.specs.Names.{name_of}
pub use Rattle.tlsf_c.specs.OffsetLevels.{LevelOffsets}
pub use Rattle.tlsf_c.specs.OffsetsOf.{offsets_shown}
pub use Rattle.tlsf_c.specs.PoolCalls.{ReleasesInPools, WritesInPools, AllocatesInPools, PartsLeavePayloads, ReadsInPools, ReportsInPools, LooksInPools, ChecksInPools}
pub use Rattle.tlsf_c.specs.PoolLevels.{LevelPools}
pub use Rattle.tlsf_c.specs.PoolsOf.{pools_shown}
pub use Rattle.tlsf_c.specs.Queues.{IsNew, left_of, owner_of_end}
pub use Rattle.tlsf_c.specs.declared.any_offsets.OffsetsOfLevel.{OffsetsOfLevel}
pub use Rattle.tlsf_c.specs.declared.any_pools.AnyPools.TheInside.{Inside}
pub use Rattle.tlsf_c.specs.declared.any_pools.PoolsOfLevel.{PoolsOfLevel}
pub use Rattle.tlsf_c.specs.declared.any_end.AnyEnd.{AnyEnd}
pub use Rattle.tlsf_c.specs.declared.heap_counts.HeapCounts.{HeapCounts}
pub use Rattle.tlsf_c.specs.declared.queue_end.QueueEnd.{QueueEnd}
pub use Rattle.tlsf_heap.specs.Blocks.{HeapState, want, Block, words_in}
pub use Rattle.tlsf_heap.specs.Calls.{allocated, allocated_words, refused, released, written, Outcome, Release, Write, has_serial, last_tick, named, resized_words, with_bytes}
pub use Rattle.tlsf_heap.specs.Footprint.{IsOthersWord, IsLiveWord, LeavesLive, LeavesPayloads}
pub use Rattle.tlsf_heap.specs.InPlace.{IsPayloadCheck, payload_of}
pub use Rattle.tlsf_heap.specs.Shown.{seen, Shown, Seen}
pub use Rattle.tlsf_heap.specs.Touched.{release_touches, FollowsNoForgery, allocate_touches, resize_touches}
pub use Rattle.tlsf_heap.specs.WordsInUse.{words_in_use, words_at}
pub use Rattle.tlsf_heap.specs.declared.name.Name.{Name}
pub use Rattle.tlsf_heap.specs.declared.refusal.Refusal.{Refusal}
pub use Rattle.tlsf_offsets.specs.Offsets.{IsHeld, KeepsOthers}
pub use Rattle.tlsf_offsets.specs.declared.span.Span.{Span}
unfoldable pub use Rattle.tlsf_post.specs.Lanes.{posts_sent, IsLane, free_slots}
pub use Rattle.tlsf_post.specs.declared.post.Post.{Post}
pub use Rattle.tlsf_post.specs.declared.post_end.PostEnd.{PostEnd}
pub use Rattle.tlsf_post.specs.declared.take_end.TakeEnd.{TakeEnd}
