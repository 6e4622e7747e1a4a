-- An arena of mixed sizes: a new one, what its calls leave, and that a request finds room.
use Rattle.tlsf_pool_arena.proofs.Common.{◌≡◌, ℕ, ◌+◌, ◌<◌, ◌≤◌, Result, Ok, Err, [], refl, sym, subst, arith, HeapState, want, Release, Released, allocated_words, released, resized_words, live_count, requested, IsUnit, lacking, units_for}
use Rattle.tlsf_class.specs.Classes.{IsLevel, most_words}
use Rattle.tlsf_heap.specs.GoodFit.{fits}
use Rattle.tlsf_heap.specs.declared.name.Name.{Name}
use Rattle.tlsf_heap.specs.declared.refusal.Refusal.{Refusal}
use Rattle.tlsf_heap.proofs.lemmas.calls.Outcomes.{by_allocated_words, by_resized_words, gives_words, lawful_allocated_words, lawful_resized_words, resizes}
use Rattle.tlsf_heap.proofs.lemmas.laws.NoFit.{no_fit}
use Rattle.tlsf_pool.specs.laws.Held.{held_after}
use Rattle.tlsf_pool.specs.laws.FixedSize.{HasFixedSize}
use Rattle.tlsf_pool.specs.laws.MixedSizes.{IsSmall}
use Rattle.tlsf_pool.proofs.lemmas.laws.Around.{all_allocated, all_resized}
use Rattle.tlsf_pool.proofs.lemmas.laws.FixedSize.{fixed_kept}
use Rattle.tlsf_pool.proofs.lemmas.laws.Held.{counted, held_is, one}
use Rattle.tlsf_pool.proofs.lemmas.laws.Loads.{load_given, load_resized}
use Rattle.tlsf_pool.proofs.lemmas.laws.ModestCalls.{AreSmall, InMixed, has_room, kept, opens, region_is, free_small, small_suits}
use Rattle.tlsf_arena.specs.Arenas.{refitted as refitted_to}
use Rattle.tlsf_pool_arena.specs.MixedUnits.{IsMixedArena, MixedUnitsAreKept, MixedUnitsBegin, MixedUnitsFindRoom, length_for}
use Rattle.tlsf_pool_arena.proofs.UnitWords.{lacks_few, least_units, lengths_rise, units_rise, wants_units}

pub new_mixed : (sli u : ℕ) → MixedUnitsBegin sli u
new_mixed sli u id most longest units some =
    let has = (region_is sli most (length_for u longest) units).0 some in
    let new = opens sli id units 0 (units_for u longest + 3) (omega (arith, has.1, has.0.1.0), omega (arith, has.1, has.0.1.1)) in
    record {
      lawful = new.lawful;
      words = omega (arith, has.1);
      class = omega (arith, has.0.0, wants_units u longest);
      few = omega arith;
      small = new.small;
      fours = λ few. new.fours (omega (arith, few));
    }

-- a release leaves no more blocks
no_more : (held : ℕ) (name : Name) (answer : Result (Unit {0}) Refusal) → held_after held (Release name) (Released answer) ≤ held
no_more held name (Ok done) = omega arith
no_more held name (Err why) = omega arith

module _ (sli u : ℕ) (level : IsLevel sli) (unit : IsUnit u) (most longest : ℕ) where
  abbrev k : ℕ
  k = units_for u longest + 3

  module _ (h : HeapState) (is : IsMixedArena sli u most longest h) where
    in_mixed : InMixed h.words (want (length_for u longest) + 3) h
    in_mixed = record {
      lawful = is.lawful;
      words_are = refl;
      small = subst (λ (n : ℕ). AreSmall (n + 3) h.blocks) (sym (wants_units u longest)) is.small;
      fours = λ few. is.fours (omega (arith, few, wants_units u longest));
    }

    in_class : want (length_for u longest) ≤ most_words sli
    in_class = omega (arith, wants_units u longest, is.class)

    finds : (len : ℕ) → len ≤ longest → live_count h < most → ¬ (fits sli (units_for u len) h.blocks ≡ [])
    finds len short few none =
        has_room sli level h.words most (length_for u longest) in_class is.words h (length_for u len) in_mixed (lengths_rise u len longest unit short) few
        ((no_fit sli h (length_for u len)).1 (subst (λ (n : ℕ). fits sli n h.blocks ≡ []) (sym (wants_units u len)) none))

    -- where the longest request gets four units, so does this one
    gets_four : (len : ℕ) → len ≤ longest → units_for u longest ≤ 4 → units_for u len ≡ 4
    gets_four len short four = omega (arith, four, units_rise u len longest unit short, least_units u len)

    on_allocate : (len : ℕ) → len ≤ longest → live_count h < most → IsMixedArena sli u most longest (requested sli u h len).heap
    on_allocate len short few =
        let n : ℕ = units_for u len in
        let enough : n + 3 ≤ k = omega (arith, units_rise u len longest unit short) in
        record {
          lawful = lawful_allocated_words sli level h n (lacking n) (lacks_few n (least_units u len)) is.lawful;
          words = omega (arith, is.words, by_allocated_words sli (λ o. o.heap.words ≡ h.words) h n (lacking n) (λ why. refl) (λ s site fit. refl));
          class = is.class;
          few = by_allocated_words sli (λ o. live_count o.heap ≤ most) h n (lacking n) (λ why. is.few)
              (λ s site fit. omega (arith, few, load_given sli one h s n (lacking n) site fit, counted h.blocks, counted (gives_words h n (lacking n) s).heap.blocks));
          small = all_allocated (IsSmall k) (free_small k) sli 0 h n (lacking n) (λ b fit. omega arith) (omega arith) (small_suits k 0 n (lacking n) enough) is.small;
          fours = λ four. subst (λ (j : ℕ). HasFixedSize 4 (allocated_words sli h j (lacking n)).heap) (sym (gets_four len short four)) ((fixed_kept sli level 4 h (is.fours four)).allocate (lacking n));
        }

    on_release : (name : Name) → IsMixedArena sli u most longest (released h name).heap
    on_release name =
        let after = kept sli level h.words most (length_for u longest) in_class is.words h (Release name) in_mixed tt in
        record {
          lawful = after.lawful;
          words = omega (arith, is.words, after.words_are);
          class = is.class;
          few = omega (arith, is.few, held_is sli h (Release name), no_more (live_count h) name (released h name).answer);
          small = subst (λ (n : ℕ). AreSmall (n + 3) (released h name).heap.blocks) (wants_units u longest) after.small;
          fours = λ four. after.fours (omega (arith, four, wants_units u longest));
        }

    on_resize : (name : Name) (len : ℕ) → len ≤ longest → IsMixedArena sli u most longest (refitted_to u h name len).heap
    on_resize name len short =
        let n : ℕ = units_for u len in
        let enough : n + 3 ≤ k = omega (arith, units_rise u len longest unit short) in
        record {
          lawful = lawful_resized_words h name n (lacking n) (lacks_few n (least_units u len)) is.lawful;
          words = omega (arith, is.words, by_resized_words (λ o. o.heap.words ≡ h.words) h name n (lacking n) (λ why. refl) (λ s own site has room. refl));
          class = is.class;
          few = by_resized_words (λ o. live_count o.heap ≤ most) h name n (lacking n) (λ why. is.few)
              (λ s own site has room. omega (arith, is.few, load_resized one h s name.at name.serial n (lacking n) site has, counted h.blocks, counted (resizes h n (lacking n) s).heap.blocks));
          small = all_resized (IsSmall k) (free_small k) h name n (lacking n) (small_suits k n n (lacking n) enough) is.small;
          fours = λ four. subst (λ (j : ℕ). HasFixedSize 4 (resized_words h name j (lacking n)).heap) (sym (gets_four len short four)) ((fixed_kept sli level 4 h (is.fours four)).resize name (lacking n));
        }

pub mixed_kept : (sli u : ℕ) → IsLevel sli → IsUnit u → MixedUnitsAreKept sli u
mixed_kept sli u level unit most longest h is = record { allocate = on_allocate sli u level unit most longest h is; release = on_release sli u level unit most longest h is; resize = on_resize sli u level unit most longest h is }

pub mixed_room : (sli u : ℕ) → IsLevel sli → IsUnit u → MixedUnitsFindRoom sli u
mixed_room sli u level unit most longest len h is = finds sli u level unit most longest h is len
