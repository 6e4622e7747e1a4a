-- The names that most proofs of this crate cite, passed on from one place. Declares nothing.
pub use Rattle.std.proofs.Common.{arith, ◌∙◌, ap, sym, subst, ◌≡◌, ℕ, ◌+◌, List, refl, length, ◌≤◌, ◌∷◌, ◌<◌, [], take, ◌++◌, true, inl, inr, suc, drop, false, Bool, ◌-◌, Ok, ◌≢◌, cond, eqb, Err, Some, ◌*◌, append_assoc, zero, None, get_or, Result, Option, ◌/◌, eq-eqb, rules, find, replicate, nat_le, ◌^◌, length-append, ◌&&◌, nat_lt, min, set, ◌⊎◌, add-zero, filter, length-drop, length-take-le, map, ◌%◌, add_assoc, ext_get_or, get_or-take, length-take, not, zero-add, IsOk, add-one, ltb, max, ◌||◌, fold, get_or-drop, get_or-set_other, get_or-set_same}
pub use Rattle.std.specs.Prelude.{Contains, IsSome, ◌==◌, OnErr, slice_get, ◌↔◌, IsPermutation, MatchOption, IfOk, IsErrOf, is_some, reverse, sum_by, ⊤}
pub use Rattle.std.proofs.Math.Nat.{mod-add-div', add-mod-mod, add-mul-mod_self_right, mod-lt, mod_self, mul-add-mod_self_right, mul_assoc, zero-div}
pub use Rattle.std.proofs.lemmas.Bool.{false≢true, cases_lt, eqb-true, ne_eqb, cases_order, and_from, cases_eq, le-leb, leb-true, and_parts, eqb-false}
pub use Rattle.std.proofs.lemmas.Bool.Decides.{nat_tests}
pub use Rattle.std.proofs.lemmas.List.{length-set, append-nil, length-replicate, take-append-drop, drop_more, take_all, take_more, drop_all, drop_at, get_or-replicate, map-append, places, get_or_append_left, get_or_at, get_or_past, reverse-append, reverse-reverse, set-get_or, take-append-le, take_at}
pub use Rattle.std.proofs.lemmas.List.Elements.{filter-append, Contains-append_cases, Contains-append_left, Contains-append_right, filter_agree}
pub use Rattle.std.proofs.lemmas.List.Sorted.{Contains-permutation, IsPermutation-sym, IsPermutation-cons, IsPermutation-middle, IsPermutation-refl, IsPermutation-trans, length_permutation, sum_by-IsPermutation}
pub use Rattle.std.proofs.lemmas.Result.{err_from_is_err_and}
pub use Rattle.std.specs.Fn.{FnOnceReturnsAt, FnOnceReturnsAtMut, FnOnceTakesAt, FnOnceTakesAtMut, Once}
pub use Rattle.std.specs.List.{AllByRecursion, list_all, list_any, range_with_len}
pub use Rattle.tlsf_class.specs.Classes.{IsLevel, most_words, serves, last_class}
unfoldable pub use Rattle.tlsf_class.specs.Classes.{class_of, classes, low, search_of}
pub use Rattle.tlsf_heap.specs.Aligned.{words_from, aligned_words, gap_of, moved_on, words_aligned, HasRoomAt, aligned_by, given_from, is_free_at, moved_by, AnswersFrom, HasFreeAt, IsFreeAt}
pub use Rattle.tlsf_heap.specs.Blocks.{Block, HeapState, size_of, Free, Live, StandsAt, words_in, is_free, bytes_of, want, words_for, stamps, IsPlace, serials, payload_words, stamp_of}
pub use Rattle.tlsf_heap.specs.ByPlace.{IsLiveAt, name_at, released_by_place, call_by, name_with, serial_at, serial_in, serial_of}
pub use Rattle.tlsf_heap.specs.Calls.{Outcome, first_free, with_bytes, released, carved, has_serial, named, past_free, allocated_words, resized_words, overwritten, written, last_tick, refitted, refused, with_blocks, before_free, coalesced, last_free, ticked, allocated, room_of, Release, Write, fitted, is_worn, is_named, recut, Allocate, resized, Call, Read, Resize, answered, resized_at, run, allocated_at, released_at, cut, has_bytes, is_sized, opened, read_answer, read_of, written_at, read_at}
pub use Rattle.tlsf_heap.specs.Checks.{Begins, OnlyHeaders, AreSound, OnlyLooks, FindsSound, IsSound, end_at, BeginsFree, GoSound, IsCheck, JoinsBefore, JoinsBehind, LeadsBack, NextLeadsBack, PreviousLeadsBack, Tells, block_touches, place_or_first}
pub use Rattle.tlsf_heap.specs.Chosen.{NoneFits, IsChoice, IsHead, IsBestClass}
pub use Rattle.tlsf_heap.specs.Effects.{seen_by, Allocates, Releases, ReleasesAt, Resizes, Writes}
pub use Rattle.tlsf_heap.specs.Footprint.{IsOthersWord, IsLiveWord, LeavesLive, IsWordOf, LeavesBoth, LeavesPayloads}
pub use Rattle.tlsf_heap.specs.FreePlaces.{free_places, FreePlace, AreFreeLists, IsFreeList, of_class, AreFalling, ShowsLists, AreMarked}
pub use Rattle.tlsf_heap.specs.Given.{payload_words_at, payload_words_given, payload_words_left}
pub use Rattle.tlsf_heap.specs.GoodFit.{block_at, site_at, Site, is_fit, place_of, fits, sites, choice, is_as_good, sites_behind}
pub use Rattle.tlsf_heap.specs.Headers.{OnlyFrom, Merges, HasFree, HasLive, Recuts, Splits, Wholes, Widens}
unfoldable pub use Rattle.tlsf_heap.specs.Headers.{with_back, without_start}
pub use Rattle.tlsf_heap.specs.Image.{Image, Shows, back_behind, mark_of, HoldsPayload, BlockAt, StartsOnce, ShowsFrom}
pub use Rattle.tlsf_heap.specs.InPlace.{payload_of, bytes_at, payload_at, Alters, ArePayload, IsRefusedAsRead}
pub use Rattle.tlsf_heap.specs.Lawful.{IsLawful, HasRoom, FreeBlocksAreApart, IsRegion}
pub use Rattle.tlsf_heap.specs.Laws.{IsLive, IsTaken, IsGiven, IsGone, LieApart, LieInRegion}
pub use Rattle.tlsf_heap.specs.Moved.{resized_or_moved, copied, moved, is_nearly_worn, moved_for, moved_to, resized_else}
pub use Rattle.tlsf_heap.specs.Named.{IsNamed, IsFirst, RefusesName, IsNameCheck, NoneNamed}
unfoldable pub use Rattle.tlsf_heap.specs.Read.{blocks_of, block_in, blocks_from}
pub use Rattle.tlsf_heap.specs.Regions.{RegionState, image_of, list_in, IsTagOf, AreRegions, IsInOrder, AwaitsTick, Relists, AreUnlisted, SameLists, EachAt, IsTagBehind, IsWhole, AreNeighbours, Edits, AreLinked, AreTagsAround, OnlyReads, Rewrites, TakenOut, IsWithout, MovedToFront, AwaitsZeros, HasAt, IsNextTag, IsPreviousTag, PutInFront, withheld, withheld_alone}
pub use Rattle.tlsf_heap.specs.Reports.{free_among, live_among, IsGrant, largest_of, payload_in, report_of, is_served}
unfoldable pub use Rattle.tlsf_heap.specs.Reports.{grant_of}
pub use Rattle.tlsf_heap.specs.Shown.{Shown, seen, Seen}
pub use Rattle.tlsf_heap.specs.Steady.{HasPayload, Holds, AreEvenFrom, IsEven, IsEvenFrom, IsPayloadWord}
pub use Rattle.tlsf_heap.specs.Steps.{Step, Give, GiveFrom, Take, Fit, Put, Fill, Reset, Look, stepped, after, step_of, IsRoomy, TakesBack, IsOfOtherBlocks, IsOfOthers, IsWrite, IsEvenStep}
pub use Rattle.tlsf_heap.specs.Stored.{state_of, IsStored}
pub use Rattle.tlsf_heap.specs.Tallies.{tally_of, IsTallyUpTo, granted, told}
pub use Rattle.tlsf_heap.specs.Touched.{FollowsNoPlace, FollowsNoForgery, groups_of, allocate_groups, allocate_touches, resize_touches, write_touches}
pub use Rattle.tlsf_heap.specs.Unset.{with_payload, lying, with_payload_at, unset_from}
pub use Rattle.tlsf_heap.specs.WordsInUse.{words_in_use, words_at, live_words, words_held}
pub use Rattle.tlsf_heap.specs.declared.heap.Heap.TheInside.{Inside}
pub use Rattle.tlsf_heap.specs.declared.name.Name.{Name}
pub use Rattle.tlsf_heap.specs.declared.refusal.Refusal.{Refusal}
pub use Rattle.tlsf_heap.specs.declared.refusal.Refusal.TheVariants.{Worn, Stale, NoRoom, NoFit, Foreign, Range}
pub use Rattle.tlsf_heap.specs.declared.tally.Tally.{Tally}
pub use Rattle.tlsf_heap.specs.ledger.Grants.{GrantCount, accepted, AreCounts, live_count}
pub use Rattle.tlsf_heap.specs.ledger.Ledgers.{LedgerState}
pub use Rattle.tlsf_words.specs.Bytes.{payload_byte}
unfoldable pub use Rattle.tlsf_words.specs.Bytes.{bytes_in, byte_in}
unfoldable pub use Rattle.tlsf_words.specs.Fields.{tag_word, size_in, back_in, last_in, length_word, low_half, free_in, high_half, links_word}
pub use Rattle.tlsf_words.specs.Lists.{nowhere, AreDistinct, ListHeads, without_place, IsUnlisted, AreThreaded, LinkedFrom, OnlyLinksChange, first_of, listed_classes}
unfoldable pub use Rattle.tlsf_words.specs.Lists.{list_of, places_from}
pub use Rattle.tlsf_words.specs.Memory.{Memory, Extents}
pub use Rattle.tlsf_words.specs.Touched.{InGroups}
unfoldable pub use Rattle.tlsf_words.specs.Touched.{times}
pub use Rattle.tlsf_words.specs.declared.tag.Tag.{Tag}
