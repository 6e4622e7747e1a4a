-- The words for mixed sizes are enough.
use Rattle.tlsf_held.proofs.Common.{◌≡◌, ◌==◌, ℕ, ◌<◌, Bool, true, false, true≢false, cond, List, [], ◌∷◌, length, map, Option, Some, Result, Ok, Err, inl, inr, sym, subst, arith, AllByRecursion, cases_eq, nat_tests, get_or-map-range_with_len, length-map-range_with_len, HeapState, Call, Got, answered, opened, read_of, run, Refusal, mixed_region, AreModest, HasRoomFor, Event, answers_on, calls_on, handed_on, World, heap_in, replies, no_heap, events_of, level_in, yard_of, held_region, HeldWordsSuffice}
use Rattle.tlsf_heap.specs.Calls.{Allocate, Release, Write, Resize, Read}
use Rattle.tlsf_pool.specs.laws.Held.{held_after}
use Rattle.tlsf_pool.proofs.lemmas.laws.ModestCalls.{region_is}
use Rattle.tlsf_crew.proofs.lemmas.histories.AllEntries.{replies_tell}
use Rattle.tlsf_yard_laws.proofs.Told.{never_refuses}
use Rattle.tlsf_held.proofs.Measured.{is_level}

-- ---- where no block is asked for

-- calls that ask for none are answered by no refusal of one
none_asked : (sli len held : ℕ) (h : HeapState) (calls : List Call) → AreModest 0 len held calls (map handed_on (run sli h calls).0)
    → AllByRecursion HasRoomFor (map handed_on (run sli h calls).0)
none_asked sli len held h [] modest = tt
none_asked sli len held h (Allocate n ∷ calls) modest = absurd (omega (arith, modest.0.1))
none_asked sli len held h (Release name ∷ calls) modest =
    let step = answered sli h (Release name) in ((λ e. cc), none_asked sli len (held_after held (Release name) (handed_on step.0)) step.1 calls modest.1)
none_asked sli len held h (Write name at bytes ∷ calls) modest =
    let step = answered sli h (Write name at bytes) in ((λ e. cc), none_asked sli len (held_after held (Write name at bytes) (handed_on step.0)) step.1 calls modest.1)
none_asked sli len held h (Resize name n ∷ calls) modest =
    let step = answered sli h (Resize name n) in ((λ e. cc), none_asked sli len (held_after held (Resize name n) (handed_on step.0)) step.1 calls modest.1)
none_asked sli len held h (Read name at n ∷ calls) modest =
    let step = answered sli h (Read name at n) in (read_answered (read_of h name at n), none_asked sli len (held_after held (Read name at n) (handed_on step.0)) step.1 calls modest.1)
  where
    read_answered : (r : Result (List ℕ) Refusal) → HasRoomFor (handed_on (Got r))
    read_answered (Ok bytes) = λ e. cc
    read_answered (Err why) = λ e. cc

-- and so are those on a heap of a yard
none_refused : {sli : ℕ} (w : World sli) (es : List Event) (j len : ℕ) → j < length w.heaps
    → let r = replies w es in AreModest 0 len 0 (calls_on j r.made r.entries) (answers_on j r.entries) → AllByRecursion HasRoomFor (answers_on j r.entries)
none_refused {sli} w es j len inside modest =
    let r = replies w es in
    let runs = (replies_tell w es).history.heaps j inside in
    subst (AllByRecursion HasRoomFor) runs.told
    (none_asked sli len 0 (heap_in w j) (calls_on j r.made r.entries) (subst (AreModest 0 len 0 (calls_on j r.made r.entries)) (sym runs.told) modest))

-- ---- the words of a line

by_most : (b : Bool) (o : Option ℕ) (words : ℕ) → cond b (Some 4) o ≡ Some words → b ≡ false → o ≡ Some words
by_most true o words is clear = absurd (true≢false clear)
by_most false o words is clear = is

pub words_suffice : HeldWordsSuffice
unfolding held_region
words_suffice trace j most len words region inside bounds is upto =
    let sli = level_in trace.header in
    let heaps = λ (i : ℕ). opened i trace.header.words 0 in
    let count = length-map-range_with_len heaps 0 trace.header.workers in
    let modest = (bounds most len).1 (omega arith, omega arith) in
    elim (cases_eq most 0) [
      | inl none ↦ none_refused (yard_of trace.header) (events_of trace) j len (omega (arith, count, inside)) ((bounds 0 len).1 (omega (arith, none), omega arith))
      | inr some ↦
          let no : (most == 0) ≡ false = grind (arith, nat_tests) in
          let has = (region_is sli most len words).0 (by_most (most == 0) (mixed_region sli most len) words is no) in
          never_refuses sli (is_level trace.header.version) (yard_of trace.header) (events_of trace) j trace.header.words 0 most len
          (record { within = omega (arith, count, inside); new = get_or-map-range_with_len heaps 0 trace.header.workers j j no_heap inside (omega arith) })
          region has.0.0 (omega (arith, has.1, upto)) modest
    ]
