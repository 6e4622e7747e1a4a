-- Blocks that begin an even number of words behind a place go on doing so.
use Rattle.tlsf_heap.proofs.Common.{◌≡◌, ℕ, zero, suc, ◌+◌, ◌*◌, ◌/◌, ◌%◌, nat_le, Result, Ok, Err, ◌<◌, ◌≤◌, List, [], ◌∷◌, ◌++◌, length, take, false, true, refl, sym, ap, ◌∙◌, subst, inl, inr, arith, ◌⊎◌, ⊤, AllByRecursion, add-zero, mod-add-div', mul-add-mod_self_right, mul_assoc, false≢true, eqb-true, cases_lt, Block, Live, Free, HeapState, size_of, bytes_of, words_in, is_free, want, Site, block_at, place_of, Outcome, refused, last_tick, carved, coalesced, first_free, past_free, before_free, has_serial, with_bytes, overwritten, opened, allocated_words, refitted, room_of, Step, Give, GiveFrom, Take, Fit, Put, Fill, Reset, Look, stepped, after, gap_of, aligned_by, aligned_words, words_aligned, resized_or_moved, IsEven, IsEvenFrom, AreEvenFrom, IsEvenStep, Name, Refusal, Worn}
use Rattle.tlsf_heap.proofs.lemmas.calls.AllocateAligned.{by_gap, gap_fits}
use Rattle.tlsf_heap.proofs.lemmas.blocks.Coalesce.{by_last}
use Rattle.tlsf_heap.proofs.lemmas.blocks.Replace.{carved_small, carved_large}
use Rattle.tlsf_heap.proofs.lemmas.blocks.Find.{and_left, and_right}
use Rattle.tlsf_heap.proofs.lemmas.blocks.Lawful.{words_in-append}
use Rattle.tlsf_heap.proofs.lemmas.laws.Live.{words_carved}
use Rattle.tlsf_heap.proofs.lemmas.calls.ResizeOrMove.{by_moved}
use Rattle.tlsf_heap.proofs.lemmas.calls.Outcomes.{IsSiteOf, by_test, by_allocated_words, by_words_from, by_released, by_resized_words, by_written, by_filled, by_reset, by_steps}
use Rattle.tlsf_heap.proofs.lemmas.words.Bytes.{size_of-with_bytes, is_free-with_bytes}
use Rattle.tlsf_heap.proofs.lemmas.calls.Resize.{by_refitted}

-- a multiple of an even number is even
multiple_even : (a step : ℕ) → IsEven step → a % step ≡ 0 → IsEven a
multiple_even a step even none =
    let half = mod-add-div' step 2 in
    let whole = mod-add-div' a step in
    let is : step ≡ step / 2 * 2 = omega (arith, half, even) in
    let times : a / step * step ≡ a / step * (step / 2) * 2 + 0 = ap (λ (k : ℕ). a / step * k) is ∙ sym (mul_assoc (a / step) (step / 2) 2) ∙ sym (add-zero (a / step * (step / 2) * 2)) in
    let same : a ≡ a / step * (step / 2) * 2 + 0 = omega (arith, whole, none) ∙ times in
    ap (λ (k : ℕ). k % 2) same ∙ mul-add-mod_self_right (a / step * (step / 2)) 2 0

module _ (from : ℕ) where
  -- a block begins an even number of words behind the place, or is live in front of it
  abbrev EvenAt : ℕ → Block → Type 0
  EvenAt at b = IsEvenFrom from at ⊎ ((at < from) × (is_free b ≡ false))

  -- of these blocks, the first of which begins at `place`, each does
  abbrev Evens : ℕ → List Block → Type 0
  Evens place [] = ⊤
  Evens place (b ∷ bs) = EvenAt place b × Evens (place + size_of b) bs

  moved : (j k : ℕ) (bs : List Block) → j ≡ k → Evens j bs → Evens k bs
  moved j k bs e all = subst (λ (i : ℕ). Evens i bs) e all

  -- ---- by the index of each

  of_index : (place : ℕ) (bs : List Block) → ((i : ℕ) → i < length bs → EvenAt (place + words_in (take i bs)) (block_at bs i)) → Evens place bs
  of_index place [] each = tt
  of_index place (b ∷ bs) each = (
    subst (λ (k : ℕ). EvenAt k b) (omega arith) (each 0 (omega arith)),
    of_index (place + size_of b) bs (λ i within. let e : place + (size_of b + words_in (take i bs)) ≡ place + size_of b + words_in (take i bs) = omega arith in subst (λ (k : ℕ). EvenAt k (block_at bs i)) e (each (suc i) (omega arith))),
  )

  to_index : (place : ℕ) (bs : List Block) → Evens place bs → (i : ℕ) → i < length bs → EvenAt (place + words_in (take i bs)) (block_at bs i)
  to_index place [] all i within = absurd (omega (arith, within))
  to_index place (b ∷ bs) all zero within = subst (λ (k : ℕ). EvenAt k b) (omega arith) all.0
  to_index place (b ∷ bs) all (suc i) within =
      let e : place + size_of b + words_in (take i bs) ≡ place + (size_of b + words_in (take i bs)) = omega arith in
      subst (λ (k : ℕ). EvenAt k (block_at bs i)) e (to_index (place + size_of b) bs all.1 i (omega arith))

  these : (bs : List Block) → AreEvenFrom from bs → Evens 0 bs
  these bs even = of_index 0 bs (λ i within. even (0 + words_in (take i bs)) i (record { within = within; place = omega arith }))

  those : (bs : List Block) → Evens 0 bs → AreEvenFrom from bs
  those bs all at i stands = subst (λ (k : ℕ). EvenAt k (block_at bs i)) (omega (arith, stands.place)) (to_index 0 bs all i stands.within)

  -- ---- parts

  both : (place : ℕ) (xs ys : List Block) → Evens place xs → Evens (place + words_in xs) ys → Evens place (xs ++ ys)
  both place [] ys left right = moved _ _ ys (omega arith) right
  both place (x ∷ xs) ys left right = (left.0, both (place + size_of x) xs ys left.1 (moved _ _ ys (omega arith) right))

  front : (place : ℕ) (xs ys : List Block) → Evens place (xs ++ ys) → Evens place xs
  front place [] ys all = tt
  front place (x ∷ xs) ys all = (all.0, front (place + size_of x) xs ys all.1)

  back : (place : ℕ) (xs ys : List Block) → Evens place (xs ++ ys) → Evens (place + words_in xs) ys
  back place [] ys all = moved _ _ ys (omega arith) all
  back place (x ∷ xs) ys all = moved _ _ ys (omega arith) (back (place + size_of x) xs ys all.1)

  past : (place : ℕ) (bs : List Block) → Evens place bs → Evens (place + first_free bs) (past_free bs)
  past place [] all = tt
  past place (Live m s xs ∷ bs) all = moved _ _ (Live m s xs ∷ bs) (omega arith) all
  past place (Free m s ∷ bs) all = all.1

  -- a block that isn't in front of the place begins an even number of words behind it
  behind : (at : ℕ) (b : Block) → EvenAt at b → from ≤ at → IsEvenFrom from at
  behind at b even past = elim even [ inl e ↦ e | inr before ↦ absurd (let l = before.0 in omega (arith, l, past)) ]

  -- and so does a free one
  free_even : (at : ℕ) (b : Block) → is_free b ≡ true → EvenAt at b → IsEvenFrom from at
  free_even at b free even = elim even [ inl e ↦ e | inr before ↦ absurd (false≢true (sym before.1 ∙ free)) ]

  later : (at n : ℕ) → IsEvenFrom from at → IsEven n → IsEvenFrom from (at + n)
  later at n even wants = let start = even.0 in (omega (arith, start), let rest = even.1 in omega (arith, start, rest, wants))

  -- ---- what each call leaves

  carved_even : (at size n tick len : ℕ) → IsEvenFrom from at → IsEven n → Evens at (carved size n tick len)
  carved_even at size n tick len even wants = elim (cases_lt size (n + 4)) [
    | inl small ↦ subst (Evens at) (sym (carved_small size n tick len small)) (inl even, tt)
    | inr large ↦ subst (Evens at) (sym (carved_large size n tick len large)) (inl even, (inl (later at n even wants), tt))
  ]

  -- a free block is given
  given_even : (h : HeapState) (s : Site) (n len : ℕ) → IsSiteOf h.blocks s → is_free s.block ≡ true → IsEven n → AreEvenFrom from h.blocks → AreEvenFrom from (s.before ++ carved (size_of s.block) n h.tick len ++ s.after)
  given_even h s n len site free wants even =
      let old : Evens 0 (s.before ++ s.block ∷ s.after) = subst (Evens 0) (sym site) (these h.blocks even) in
      let here = back 0 s.before (s.block ∷ s.after) old in
      let new : List Block = carved (size_of s.block) n h.tick len in
      let place : IsEvenFrom from (0 + words_in s.before) = free_even _ s.block free here.0 in
      let words = words_carved (size_of s.block) n h.tick len in
      those _ (both 0 (s.before ++ new) s.after (both 0 s.before new (front 0 s.before (s.block ∷ s.after) old) (carved_even _ (size_of s.block) n h.tick len place wants))
      (moved _ _ s.after (omega (arith, words, words_in-append s.before new)) here.1))

  coalesced_even : (tick : ℕ) (s : Site) → from ≤ words_in s.before → Evens 0 (s.before ++ s.block ∷ s.after) → Evens 0 (coalesced tick s)
  coalesced_even tick s inside all =
      let here = back 0 s.before (s.block ∷ s.after) all in
      let place : IsEvenFrom from (words_in s.before) = subst (IsEvenFrom from) (omega arith) (behind (0 + words_in s.before) s.block here.0 (omega (arith, inside))) in
      let ahead = by_last (λ bs k left. Evens 0 bs → IsEvenFrom from (words_in bs) → Evens 0 left × IsEvenFrom from (words_in left) × (words_in left + k ≡ words_in bs)) s.before
      (λ e p. (tt, p, omega arith))
      (λ bs m t xs e p. (e, p, omega arith))
      (λ bs m t e p.
      let last = back 0 bs (Free m t ∷ []) e in
      (front 0 bs (Free m t ∷ []) e, subst (IsEvenFrom from) (omega arith) (free_even (0 + words_in bs) (Free m t) refl last.0), omega (arith, words_in-append bs (Free m t ∷ []))))
      (front 0 s.before (s.block ∷ s.after) all) place in
      let rest = past (0 + words_in s.before + size_of s.block) s.after here.1 in
      let words = ahead.2 in
      both 0 (before_free s.before) _ ahead.0 (inl (subst (IsEvenFrom from) (omega arith) ahead.1), moved _ _ (past_free s.after) (omega (arith, words)) rest)

  refitted_even : (at tick n len : ℕ) (b : Block) (more : List Block) (serial : ℕ) → has_serial serial b ≡ true → n ≤ room_of b more → IsEven n → from ≤ at → Evens at (b ∷ more) → Evens at (refitted tick n len b more)
  refitted_even at tick n len (Free m s) more serial is room wants inside all = absurd (false≢true is)
  refitted_even at tick n len (Live m s xs) more serial is room wants inside all =
      let place = behind at (Live m s xs) all.0 inside in
      let rest = past (at + m) more all.1 in
      by_refitted (Evens at) tick n len m s xs more room
      (λ enough. (inl place, all.1))
      (inl place, moved _ _ (past_free more) (omega arith) rest)
      (λ large. (inl place, (inl (later at n place wants), moved _ _ (past_free more) (omega (arith, large)) rest)))

  -- a block gets other bytes
  rebyted_even : (h : HeapState) (s : Site) (bytes : List ℕ) → IsSiteOf h.blocks s → AreEvenFrom from h.blocks → AreEvenFrom from (s.before ++ with_bytes s.block bytes ∷ s.after)
  rebyted_even h s bytes site even =
      let all : Evens 0 (s.before ++ s.block ∷ s.after) = subst (Evens 0) (sym site) (these h.blocks even) in
      let here = back 0 s.before (s.block ∷ s.after) all in
      let own : EvenAt (0 + words_in s.before) (with_bytes s.block bytes) = elim here.0 [ inl e ↦ inl e | inr before ↦ inr (before.0, is_free-with_bytes s.block bytes ∙ before.1) ] in
      those _ (both 0 s.before (with_bytes s.block bytes ∷ s.after) (front 0 s.before (s.block ∷ s.after) all) (own, moved _ _ s.after (ap (λ (k : ℕ). 0 + words_in s.before + k) (sym (size_of-with_bytes s.block bytes))) here.1))

  -- a new heap has one block, at place 0
  first_even : (id words first : ℕ) → from ≡ 0 → AreEvenFrom from (opened id words first).blocks
  first_even id words first none = those (opened id words first).blocks (inl (omega (arith, none), omega (arith, none)), tt)

  pub even_step : (sli : ℕ) (h : HeapState) (step : Step) → IsEvenStep from step → AreEvenFrom from h.blocks → AreEvenFrom from (stepped sli h step).blocks
  even_step sli h (Give n len) wants even = by_allocated_words sli (λ o. AreEvenFrom from o.heap.blocks) h n len (λ why. even) (λ s site fit. given_even h s n len site (and_left _ _ fit) wants even)
  even_step sli h (GiveFrom at n) wants even = by_words_from (λ o. AreEvenFrom from o.heap.blocks) h at n (λ why. even) (λ s site is room. given_even h s n 0 site (and_left _ _ is) wants even)
  even_step sli h (Take name) inside even = by_released (λ o. AreEvenFrom from o.heap.blocks) h name (λ why. even) (λ s own site is.
      let place : words_in s.before ≡ name.at = eqb-true _ _ (and_right (has_serial name.serial s.block) _ is) in
      those _ (coalesced_even h.tick s (omega (arith, place, inside)) (subst (Evens 0) (sym site) (these h.blocks even))))
  even_step sli h (Fit name n len) wants even = by_resized_words (λ o. AreEvenFrom from o.heap.blocks) h name n len (λ why. even) (λ s own site is room.
      let place : words_in s.before ≡ name.at = eqb-true _ _ (and_right (has_serial name.serial s.block) _ is) in
      let all : Evens 0 (s.before ++ s.block ∷ s.after) = subst (Evens 0) (sym site) (these h.blocks even) in
      those _ (both 0 s.before _ (front 0 s.before (s.block ∷ s.after) all)
      (refitted_even (0 + words_in s.before) h.tick n len s.block s.after name.serial (and_left _ _ is) room wants.1 (omega (arith, place, wants.0)) (back 0 s.before (s.block ∷ s.after) all))))
  even_step sli h (Put name at bytes) wants even = by_written (λ o. AreEvenFrom from o.heap.blocks) h name at bytes (λ why. even) (λ s site fits. rebyted_even h s (overwritten (bytes_of s.block) at bytes) site even)
  even_step sli h (Fill name bytes) wants even = by_filled (λ k. AreEvenFrom from k.blocks) h name bytes even (λ s site is. rebyted_even h s bytes site even)
  even_step sli h Reset wants even = by_reset (λ o. AreEvenFrom from o.heap.blocks) h (λ late. even) (λ fresh. first_even h.id h.words h.tick wants)
  even_step sli h Look wants even = even

  pub even_run : (sli : ℕ) (h : HeapState) (steps : List Step) → AllByRecursion (IsEvenStep from) steps → AreEvenFrom from h.blocks → AreEvenFrom from (after sli h steps).blocks
  even_run sli = by_steps sli (IsEvenStep from) (λ h. AreEvenFrom from h.blocks) (even_step sli)

  pub even_moved : (sli : ℕ) (h : HeapState) (name : Name) (len : ℕ) → IsEven (want len) → from ≤ name.at → AreEvenFrom from h.blocks → AreEvenFrom from (resized_or_moved sli h name len).heap.blocks
  even_moved sli h name len wants inside even = by_moved sli (λ o. AreEvenFrom from o.heap.blocks) h name len (λ why. even) (even_step sli h (Fit name (want len) len) (inside, wants) even)
      (λ new e live fresh. even_run sli h (Give (want len) len ∷ Put new 0 _ ∷ Take name ∷ []) (wants, (tt, (inside, tt))) even)

  -- a payload that is aligned to a multiple of `step` words, where the gap in front of it is even
  pub even_aligned : (sli : ℕ) (h : HeapState) (n step skew : ℕ) → IsEven n → 0 < step → IsEven step → IsEven (from + 3 + skew) → AreEvenFrom from h.blocks → AreEvenFrom from (words_aligned sli h n step skew).heap.blocks
  even_aligned sli h n step skew wants steps by_two parity even =
      by_test (λ o. AreEvenFrom from o.heap.blocks) (nat_le last_tick (h.tick + 3)) (refused h Worn) (aligned_by h n step skew asked.answer asked.heap) (λ _. even) (on asked.answer refl)
    where
      asked : Outcome Name
      asked = allocated_words sli h (aligned_words n step) 0

      on : (r : Result Name Refusal) → asked.answer ≡ r → AreEvenFrom from (aligned_by h n step skew r asked.heap).heap.blocks
      on (Err why) e = even
      on (Ok name) e =
          let place : IsEvenFrom from name.at = by_allocated_words sli (λ o. o.answer ≡ Ok name → IsEvenFrom from name.at) h (aligned_words n step) 0 (λ why e. absurd cc) (λ s site fit e.
          let same : record { heap = h.id; at = place_of s; serial = h.tick } ≡ name = cc in
          let old : Evens 0 (s.before ++ s.block ∷ s.after) = subst (Evens 0) (sym site) (these h.blocks even) in
          subst (λ (m : Name). IsEvenFrom from m.at) same (subst (IsEvenFrom from) (omega arith) (free_even (0 + words_in s.before) s.block (and_left _ _ fit) (back 0 s.before (s.block ∷ s.after) old).0))) e in
          let given = even_step sli h (Give (aligned_words n step) 0) (omega (arith, wants, by_two)) even in
          let gap = gap_of name.at step skew in
          let multiple = multiple_even (name.at + gap + 3 + skew) step by_two (gap_fits name.at step skew steps).2 in
          let start = place.0 in
          let rest = place.1 in
          let even_gap : IsEven gap = omega (arith, multiple, start, rest, parity) in
          by_gap (λ o. AreEvenFrom from o.heap.blocks) asked.heap name gap n
          (λ none. even_step sli asked.heap (Fit name n 0) (start, wants) given)
          (λ more. even_run sli asked.heap (Fit name gap 0 ∷ GiveFrom (name.at + gap) n ∷ Take name ∷ []) ((start, even_gap), (wants, (start, tt))) given)

pub even_opened : (id words first : ℕ) → AreEvenFrom 0 (opened id words first).blocks
even_opened id words first = first_even 0 id words first refl
