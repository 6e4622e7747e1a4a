-- How many blocks of a heap are live after each call on it.
use Rattle.tlsf_heap.proofs.Common.{◌≡◌, ℕ, ◌+◌, ◌-◌, ◌≤◌, ◌&&◌, true, cond, eqb, nat_le, nat_lt, List, [], ◌∷◌, ◌++◌, Option, Some, None, Ok, length, refl, sym, ap, ◌∙◌, arith, length-append, add-zero, filter-append, false≢true, Block, Live, Free, HeapState, size_of, bytes_of, want, Site, is_fit, live_among, Outcome, carved, allocated, has_serial, is_worn, named, past_free, before_free, first_free, last_free, refused, released, room_of, fitted, cut, refitted, resized, resized_at, ticked, overwritten, with_bytes, written, Name, Refusal, Foreign, Stale, NoRoom, Worn, AreCounts, GrantCount, live_count, accepted}
use Rattle.tlsf_heap.proofs.lemmas.blocks.Find.{and_left}
use Rattle.tlsf_heap.proofs.lemmas.blocks.Coalesce.{by_last}
use Rattle.tlsf_heap.proofs.lemmas.calls.Outcomes.{IsSiteOf, by_test, by_allocated, by_released, by_written, named_site}

abbrev live_in : List Block → ℕ
live_in bs = length (live_among bs)

live_append : (xs ys : List Block) → live_in (xs ++ ys) ≡ live_in xs + live_in ys
live_append xs ys = ap length (filter-append _ xs ys) ∙ length-append (live_among xs) (live_among ys)

live_past : (bs : List Block) → live_in (past_free bs) ≡ live_in bs
live_past [] = refl
live_past (Live m s xs ∷ bs) = refl
live_past (Free m s ∷ bs) = refl

live_before : (bs : List Block) → live_in (before_free bs) ≡ live_in bs
live_before bs = by_last (λ all k left. live_in left ≡ live_in all) bs refl (λ all m s xs. refl) (λ all m s. sym (live_append all (Free m s ∷ []) ∙ add-zero (live_in all)))

live_fit : (sli n : ℕ) (b : Block) (bs : List Block) → is_fit sli n b ≡ true → live_in (b ∷ bs) ≡ live_in bs
live_fit sli n (Live m s xs) bs f = absurd (false≢true f)
live_fit sli n (Free m s) bs f = refl

live_named : (serial : ℕ) (b : Block) (bs : List Block) → has_serial serial b ≡ true → live_in (b ∷ bs) ≡ live_in bs + 1
live_named serial (Live m s xs) bs f = omega arith
live_named serial (Free m s) bs f = absurd (false≢true f)

live_with : (b : Block) (new : List ℕ) (bs : List Block) → live_in (with_bytes b new ∷ bs) ≡ live_in (b ∷ bs)
live_with (Live m s xs) new bs = refl
live_with (Free m s) new bs = refl

live_carved : (size n tick len : ℕ) → live_in (carved size n tick len) ≡ 1
live_carved size n tick len = by_test (λ bs. live_in bs ≡ 1) (nat_le (n + 4) size) _ _ (λ _. refl) refl

-- the live blocks of a heap, by a block where it stands
live_site : (bs : List Block) (s : Site) → IsSiteOf bs s → live_in bs ≡ live_in s.before + live_in (s.block ∷ s.after)
live_site bs s site = ap live_in (sym site) ∙ live_append s.before (s.block ∷ s.after)

-- this many live blocks more, and this many ticks later
abbrev pub Grows : {A : Type 0} → HeapState → Outcome A → Type 0
Grows h o = (live_count o.heap ≡ live_count h + accepted o.answer) × (o.heap.tick ≡ h.tick + accepted o.answer)

-- this many live blocks less, and this many ticks later
abbrev pub Shrinks : {A : Type 0} → HeapState → Outcome A → Type 0
Shrinks h o = (live_count o.heap + accepted o.answer ≡ live_count h) × (o.heap.tick ≡ h.tick + accepted o.answer)

pub allocated_grows : (sli : ℕ) (h : HeapState) (len : ℕ) → Grows h (allocated sli h len)
allocated_grows sli h len = by_allocated sli (Grows h) h len (λ why. (sym (add-zero (live_count h)), sym (add-zero h.tick))) (λ s site fit.
    let new : List Block = carved (size_of s.block) (want len) h.tick len in
    let more : live_in (s.before ++ new ++ s.after) ≡ live_in h.blocks + 1 =
    omega (arith, live_site h.blocks s site, live_fit sli (want len) s.block s.after fit, live_append (s.before ++ new) s.after, live_append s.before new, live_carved (size_of s.block) (want len) h.tick len) in
    (more, refl))

pub released_shrinks : (h : HeapState) (name : Name) → Shrinks h (released h name)
released_shrinks h name = by_released (Shrinks h) h name (λ why. (add-zero (live_count h), sym (add-zero h.tick))) (λ s own site is.
    let free : Block = Free (last_free s.before + size_of s.block + first_free s.after) h.tick in
    (omega (arith, live_site h.blocks s site, live_named name.serial s.block s.after (and_left _ _ is), live_append (before_free s.before) (free ∷ past_free s.after), live_before s.before, live_past s.after), refl))

-- a resize leaves a live block, and those behind it
live_refitted : (tick n len : ℕ) (b : Block) (bs : List Block) → live_in (refitted tick n len b bs) ≡ live_in (b ∷ bs)
live_refitted tick n len (Live m s xs) bs =
    let new : List ℕ = fitted xs len in
    let room = m + first_free bs in
    let past = live_past bs in
    by_test (λ l. live_in l ≡ live_in (Live m s xs ∷ bs)) (nat_le n m && nat_lt m (n + 4)) (Live m s new ∷ bs) (cut room n tick s new ++ past_free bs) (λ _. refl)
    (by_test (λ l. live_in (l ++ past_free bs) ≡ live_in (Live m s xs ∷ bs)) (nat_le (n + 4) room) (Live n s new ∷ Free (room - n) tick ∷ []) (Live room s new ∷ []) (λ _. omega (arith, past)) (omega (arith, past)))
live_refitted tick n len (Free m s) bs = by_test (λ l. live_in l ≡ live_in bs) (nat_le n m && nat_lt m (n + 4)) (Free m s ∷ bs) (Free m s ∷ bs) (λ _. refl) refl

-- equally many live blocks, at no earlier tick
abbrev Lasts : HeapState → Outcome (Unit {0}) → Type 0
Lasts h o = (live_count o.heap ≡ live_count h) × (h.tick ≤ o.heap.tick)

pub resized_lasts : (h : HeapState) (name : Name) (len : ℕ) → Lasts h (resized h name len)
resized_lasts h name len = by_test (Lasts h) (eqb name.heap h.id) (resized_at h (want len) len (named name h.blocks)) (refused h Foreign) (λ _. on (named name h.blocks) refl) (none Foreign)
  where
    none : (why : Refusal) → Lasts h (refused h why)
    none why = (refl, omega arith)

    on : (o : Option Site) → named name h.blocks ≡ o → Lasts h (resized_at h (want len) len o)
    on None e = none Stale
    on (Some s) e =
        let left : Outcome (Unit {0}) = record { answer = Ok tt; heap = ticked h (s.before ++ refitted h.tick (want len) len s.block s.after) } in
        let site = (named_site name h.blocks s e).0 in
        let same : live_count left.heap ≡ live_count h =
        omega (arith, live_site h.blocks s site, live_refitted h.tick (want len) len s.block s.after, live_append s.before (refitted h.tick (want len) len s.block s.after)) in
        by_test (Lasts h) (nat_lt (room_of s.block s.after) (want len)) (refused h NoRoom) (cond (is_worn h) (refused h Worn) left) (λ _. none NoRoom)
        (by_test (Lasts h) (is_worn h) (refused h Worn) left (λ _. none Worn) (same, omega arith))

-- a write leaves how many are live, and the tick
abbrev pub Stays : {A : Type 0} → HeapState → Outcome A → Type 0
Stays h o = (live_count o.heap ≡ live_count h) × (o.heap.tick ≡ h.tick)

pub written_stays : (h : HeapState) (name : Name) (at : ℕ) (bytes : List ℕ) → Stays h (written h name at bytes)
written_stays h name at bytes = by_written (Stays h) h name at bytes (λ why. (refl, refl)) (λ s site has.
    let new : List ℕ = overwritten (bytes_of s.block) at bytes in
    (omega (arith, live_site h.blocks s site, live_with s.block new s.after, live_append s.before (with_bytes s.block new ∷ s.after)), refl))

-- ---- a counted heap

-- after a resize, done or refused
pub resized_counted : (h left : HeapState) (c : GrantCount) (name : Name) (len : ℕ) → AreCounts h c → left ≡ (resized h name len).heap → AreCounts left c
resized_counted h left c name len is heap =
    let lasts = resized_lasts h name len in
    record {
      live = omega (arith, ap live_count heap, lasts.0, is.live);
      below = omega (arith, ap (λ (h : HeapState). h.tick) heap, lasts.1, is.below);
    }
