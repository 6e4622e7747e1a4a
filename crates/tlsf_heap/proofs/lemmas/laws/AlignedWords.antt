-- The words in use over a request for a block whose payload is aligned.
use Rattle.tlsf_heap.proofs.Common.{◌≡◌, ◌≢◌, ℕ, ◌+◌, ◌<◌, ◌≤◌, Result, Ok, Err, refl, sym, ap, ◌∙◌, subst, inl, inr, arith, cases_lt, IsLevel, words_from, gap_of, moved_by, moved_on, aligned_words, words_aligned, HeapState, words_in, want, GiveFrom, Take, Outcome, last_tick, allocated_words, released, resized_words, IsLawful, IsLive, IsTaken, words_in_use, words_at, Name, Refusal}
use Rattle.tlsf_heap.proofs.lemmas.calls.AllocateAligned.{has_live, from_has, moved_done, gap_fits, first_given, by_gap, aligned_worn, aligned_refused, aligned_is, first_has}
use Rattle.tlsf_heap.proofs.lemmas.blocks.Find.{and_left}
use Rattle.tlsf_heap.proofs.lemmas.laws.Live.{kept_resized}
use Rattle.tlsf_heap.proofs.lemmas.calls.Outcomes.{gives_words, by_words_from, lawful_step, lawful_allocated_words, lawful_resized_words}
use Rattle.tlsf_heap.proofs.lemmas.laws.WordsInUse.{in_use_given, in_use_allocated, in_use_resized, in_use_released, words_kept}

-- ---- out of the free block at a place

in_use_from : (h : HeapState) (at n : ℕ) (name : Name) → IsLawful (words_from h at n).heap → (words_from h at n).answer ≡ Ok name
    → words_in_use (words_from h at n).heap ≡ words_in_use h + words_at (words_from h at n).heap name.at
in_use_from h at n name =
    by_words_from (λ o. IsLawful o.heap → o.answer ≡ Ok name → words_in_use o.heap ≡ words_in_use h + words_at o.heap name.at) h at n (λ why left e. absurd cc)
    (λ s site is room left e.
    let place : words_in s.before ≡ name.at = cc in
    in_use_given h n 0 s site (and_left _ _ is) left ∙ ap (λ (p : ℕ). words_in_use h + words_at (gives_words h n 0 s).heap p) place)

-- ---- the whole call

module _ (sli : ℕ) (level : IsLevel sli) (h : HeapState) (n step skew : ℕ) (lawful : IsLawful h) (some : 0 < step) (least : 4 ≤ n) (name : Name) where
  abbrev asked : Outcome Name
  asked = allocated_words sli h (aligned_words n step) 0

  abbrev Sums : Outcome Name → Type 0
  Sums o = o.answer ≡ Ok name → words_in_use o.heap ≡ words_in_use h + words_at o.heap name.at

  module _ (left : h.tick + 3 < last_tick) (first : Name) (given : Ok first ≡ asked.answer) where
    abbrev gap : ℕ
    gap = gap_of first.at step skew

    was_lawful : IsLawful asked.heap
    was_lawful = lawful_allocated_words sli level h (aligned_words n step) 0 (omega (arith, least)) lawful

    more : words_in_use asked.heap ≡ words_in_use h + words_at asked.heap first.at
    more = in_use_allocated sli level h (aligned_words n step) 0 first (omega (arith, least)) lawful (sym given)

    go : 0 < gap → Sums (moved_by asked.heap first gap n)
    go behind e =
        let a = asked.heap in
        let wide : want 0 ≤ gap = omega (arith, (gap_fits first.at step skew some).0 behind) in
        let has = first_has sli level h n step skew lawful left some least first given was_lawful in
        let r = (resized_words a first gap 0).heap in
        let there = words_from r (first.at + gap) n in
        let lawful_r = lawful_resized_words a first gap 0 wide was_lawful in
        let lawful_t = lawful_step sli level r (GiveFrom (first.at + gap) n) (omega (arith, least)) lawful_r in
        let live : IsLive r first = kept_resized a first first gap 0 (has_live a first (gap + n) has) in
        let came = from_has r (first.at + gap) n name e in
        let differ : first ≢ name = λ same. omega (arith, came.1, ap (λ (m : Name). m.at) same, behind) in
        let ticks = first_given sli h (aligned_words n step) first given in
        let taken : IsTaken there.heap first = accepted (released there.heap first).answer refl (λ why bad.
        moved_done a first gap n was_lawful has least (omega (arith, left, ticks.1)) there.heap why name refl (sym e) bad) in
        omega (
          arith,
          more,
          in_use_resized a first gap 0 wide was_lawful,
          in_use_from r (first.at + gap) n name lawful_t e,
          in_use_released there.heap first lawful_t taken,
          words_kept sli level first r (GiveFrom (first.at + gap) n) (omega (arith, least)) tt lawful_r live,
          words_kept sli level name there.heap (Take first) tt differ lawful_t (has_live there.heap name n came.0),
        )
      where
        accepted : (answer : Result (Unit {0}) Refusal) → {x : Result (Unit {0}) Refusal} → x ≡ answer → ((why : Refusal) → Err why ≡ x → ⊥) → x ≡ Ok tt
        accepted (Ok done) e never = e
        accepted (Err why) e never = absurd (never why (sym e))

    moves_on : Sums (moved_on asked.heap first gap n)
    moves_on = by_gap Sums asked.heap first gap n (λ none e.
        let k = (resized_words asked.heap first n 0).heap in
        let same : first ≡ name = cc in
        omega (arith, more, in_use_resized asked.heap first n 0 (omega (arith, least)) was_lawful, ap (λ (m : Name). words_at k m.at) same)) go

  pub in_use_aligned : Sums (words_aligned sli h n step skew)
  in_use_aligned = elim (cases_lt (h.tick + 3) last_tick) [
    | inl left ↦ on left asked.answer refl
    | inr worn ↦ λ e. let bad = sym e ∙ ap (λ (o : Outcome Name). o.answer) (aligned_worn sli level h n step skew lawful worn) in absurd cc
  ]
    where
      on : h.tick + 3 < last_tick → (r : Result Name Refusal) → r ≡ asked.answer → Sums (words_aligned sli h n step skew)
      on left (Err why) e = subst Sums (sym (aligned_refused sli level h n step skew lawful left why e)) (λ bad. absurd cc)
      on left (Ok first) e = subst Sums (sym (aligned_is sli level h n step skew lawful left some least first e (was_lawful left first e))) (moves_on left first e)
