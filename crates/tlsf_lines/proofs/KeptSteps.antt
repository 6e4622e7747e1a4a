-- Events that are kept: one more.
use Rattle.tlsf_lines.proofs.Common.{◌≡◌, ℕ, ◌+◌, ◌-◌, ◌≤◌, List, [], ◌∷◌, ◌++◌, length, take, drop, map, All, refl, ap, sym, ◌∙◌, arith, length-append, drop-map, get_or_append_left, map-append, take-map, take_all, All-head, All-push, All-tail, All-weaker, Event, made_by, Grows, IsCallWithin, IsWithin, call_kept, event_kept}
use Rattle.tlsf_calls.specs.Bytes.{chunk_of}
use Rattle.tlsf_calls.specs.declared.call.Call.{Call}
use Rattle.tlsf_calls.specs.declared.call.Call.TheVariants as call
use Rattle.tlsf_calls.specs.declared.chunk.Chunk.{Chunk}
use Rattle.tlsf_lines.specs.declared.kept_event.KeptCall.{KeptCall}
use Rattle.tlsf_lines.specs.declared.kept_event.KeptCall.TheVariants.{Write}
use Rattle.tlsf_lines.specs.declared.kept_event.KeptEvent.{KeptEvent}

-- ---- the bytes of more writes

call_stays : (chunks more : List Chunk) (kept : KeptCall) → IsCallWithin (length chunks) kept → call_kept (chunks ++ more) kept ≡ call_kept chunks kept
call_stays chunks more (Write made at place) within = ap (λ (bytes : Chunk). call.Write (made_by made) at bytes) (get_or_append_left chunks more (chunk_of []) place within)
call_stays chunks more kept within = refl

abbrev event_by : ℕ → Call → Event
event_by worker call = record { worker = worker; call = call }

events_stay : (chunks more : List Chunk) (kept : List KeptEvent) → All (IsWithin (length chunks)) kept → map (event_kept (chunks ++ more)) kept ≡ map (event_kept chunks) kept
events_stay chunks more [] within = refl
events_stay chunks more (k ∷ kept) within =
    let first : event_kept (chunks ++ more) k ≡ event_kept chunks k = ap (event_by k.worker) (call_stays chunks more k.call (All-head (IsWithin (length chunks)) k kept within)) in
    rw (first, events_stay chunks more kept (All-tail (IsWithin (length chunks)) k kept within)) refl

call_is_within : (n m : ℕ) (kept : KeptCall) → n ≤ m → IsCallWithin n kept → IsCallWithin m kept
call_is_within n m (Write made at place) le within = omega (arith, le, within)
call_is_within n m kept le within = tt

module _ (chunks chunks' : List Chunk) (kept : List KeptEvent) (grows : Grows chunks chunks') (within : All (IsWithin (length chunks)) kept) where
  -- the bytes of all writes are there
  pub still_within : All (IsWithin (length chunks')) kept
  still_within =
      let longer : length chunks ≤ length chunks' = rw grows.is (omega (arith, length-append chunks grows.more)) in
      All-weaker (IsWithin (length chunks)) (IsWithin (length chunks')) (λ k. call_is_within (length chunks) (length chunks') k.call longer) kept within

  -- also those of one event more
  pub more_within : (k : KeptEvent) → IsCallWithin (length chunks') k.call → All (IsWithin (length chunks')) (kept ++ k ∷ [])
  more_within k is = All-push (IsWithin (length chunks')) kept k still_within is

  -- the events, and one more
  pub one_more : (k : KeptEvent) (events : List Event) → event_kept chunks' k ∷ [] ≡ events → map (event_kept chunks') (kept ++ k ∷ []) ≡ map (event_kept chunks) kept ++ events
  one_more k events is =
      let before : map (event_kept chunks') kept ≡ map (event_kept chunks) kept = rw grows.is (events_stay chunks grows.more kept within) in
      map-append (event_kept chunks') kept (k ∷ []) ∙ rw (before, is) refl

-- ---- a part of the events

-- what was made of all of a part of what is kept is that part of the events
pub part_made : (f : KeptEvent → Event) (kept : List KeptEvent) (events old new : List Event) (first n i : ℕ) → map f kept ≡ events
    → new ≡ old ++ map f (take i (take (first + n - first) (drop first kept))) → length (take (first + n - first) (drop first kept)) ≤ i → new ≡ old ++ take n (drop first events)
part_made f kept events old new first n i is made all =
    let count : first + n - first ≡ n = omega arith in
    let whole : take i (take n (drop first kept)) ≡ take n (drop first kept) = take_all i (take n (drop first kept)) (rw count at all) in
    let same : map f (take n (drop first kept)) ≡ take n (drop first events) = sym (rw (← is, drop-map f first kept, take-map f n (drop first kept)) refl) in
    (rw (count, whole, same) at made)
