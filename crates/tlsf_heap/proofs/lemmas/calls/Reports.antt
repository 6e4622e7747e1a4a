-- The report that the sums over a heap make.
use Rattle.tlsf_heap.proofs.Common.{◌≡◌, ℕ, ◌*◌, ◌-◌, ◌^◌, ◌<◌, ◌≤◌, inl, inr, refl, sym, ap, ◌∙◌, subst, arith, IsLevel, low, class_of, most_words, HeapState, stamps, IsLawful, IsRegion, free_among, largest_of, report_of, IsGrant, tally_of, told, Tally}
use Rattle.tlsf_class.proofs.TwoLevels.{most_words_any}
use Rattle.tlsf_heap.proofs.lemmas.blocks.Sums.{words_apart, payload_small, oldest_small, greatest_part, greatest_reached}
use Rattle.tlsf_heap.proofs.lemmas.blocks.Grant.{is_granted, four_words, granted_large}

-- how great the sums are
pub record AreSums (sli tick : ℕ) (t : Tally) : Type 0 where
  pub live : t.live_words ≤ 2 ^ 24
  pub free : t.free_words ≤ 2 ^ 24
  pub bytes : t.live_bytes ≤ 8 * t.live_words
  pub largest : 0 < t.largest → IsRegion sli t.largest
  pub part : t.largest ≤ t.free_words
  pub past : t.oldest ≤ tick

module _ (sli : ℕ) (level : IsLevel sli) (h : HeapState) (lawful : IsLawful h) (small : h.words ≤ most_words sli) (t : Tally) (sums : t ≡ tally_of h.tick h.blocks) where
  largest_region : 0 < largest_of (free_among h.blocks) → IsRegion sli (largest_of (free_among h.blocks))
  largest_region some = elim (greatest_reached 0 h.blocks) [
    | inl none ↦ absurd (omega (arith, some, none))
    | inr found ↦ (
      omega (arith, found.3, four_words h.blocks lawful.rooms found.0 found.1),
      omega (arith, small, lawful.whole, greatest_part 0 h.blocks, words_apart h.blocks),
    )
  ]

  pub sums_are : AreSums sli h.tick t
  sums_are = subst (AreSums sli h.tick) (sym sums) (record {
    live = omega (arith, small, most_words_any sli, lawful.whole, words_apart h.blocks);
    free = omega (arith, small, most_words_any sli, lawful.whole, words_apart h.blocks);
    bytes = payload_small h.blocks lawful.rooms;
    largest = largest_region;
    part = let part = greatest_part 0 h.blocks in omega arith;
    past = oldest_small h.tick (stamps h.blocks);
  })

  -- they make the report
  pub told_is : told sli t h.tick ≡ report_of sli h
  told_is = ap (λ (s : Tally). told sli s h.tick) sums ∙ rw (is_granted sli level h.blocks lawful.rooms).formula refl

-- ---- the law

pub greatest_length : (sli : ℕ) (level : IsLevel sli) (h : HeapState) → IsLawful h → IsGrant sli h.blocks (report_of sli h).grant
greatest_length sli level h lawful = (is_granted sli level h.blocks lawful.rooms).greatest

pub formula : (sli : ℕ) (level : IsLevel sli) (h : HeapState) → IsLawful h → 0 < (report_of sli h).largest → (report_of sli h).grant ≡ 8 * (low sli (class_of sli (report_of sli h).largest) - 3)
formula sli level h lawful some = elim (greatest_reached 0 h.blocks) [
  | inl none ↦ absurd (omega (arith, some, none))
  | inr found ↦ (is_granted sli level h.blocks lawful.rooms).formula ∙ granted_large sli (largest_of (free_among h.blocks)) (omega (arith, found.3, four_words h.blocks lawful.rooms found.0 found.1))
]
