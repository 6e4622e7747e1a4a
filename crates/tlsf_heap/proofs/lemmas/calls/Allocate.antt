-- The answer and the effect of an allocate, by the place of the block that is chosen.
use Rattle.tlsf_heap.proofs.Common.{find, None, ◌≡◌, ℕ, suc, ◌+◌, ◌-◌, ◌^◌, ◌<◌, ◌≤◌, Bool, true, false, cond, eqb, List, [], ◌∷◌, ◌++◌, length, take, drop, Some, Result, Ok, Err, IsOk, refl, sym, ap, ◌∙◌, subst, inl, inr, arith, add-one, eq-eqb, ◌↔◌, AllByRecursion, list_all, drop_more, take-append-drop, false≢true, cases_lt, nat_tests, IsLevel, most_words, Block, Live, Free, HeapState, size_of, words_in, is_free, want, IsLawful, HasRoom, AreRegions, IsInOrder, AwaitsTick, OnlyReads, IsStored, state_of, Inside, RegionState, Site, is_fit, fits, is_as_good, choice, block_at, site_at, NoneFits, IsChoice, with_blocks, carved, ticked, allocated_words, allocated_at, refused, Outcome, last_tick, Name, Refusal, NoFit, Worn}
use Rattle.tlsf_heap.proofs.lemmas.blocks.Find.{and_left, not_true}
use Rattle.tlsf_class.proofs.ClassOfSize.{le_from_serves}
use Rattle.tlsf_heap.proofs.lemmas.blocks.Sites.{choice_none, choice_is, fits_nothing}
use Rattle.tlsf_heap.proofs.lemmas.blocks.Replace.{carved_small, carved_large}
use Rattle.tlsf_heap.proofs.lemmas.blocks.Lawful.{lawful_split, lawful_whole, with_region, region_is}

-- what a fit block is
pub fits_size : (sli : ℕ) (level : IsLevel sli) (n : ℕ) (b : Block) → is_fit sli n b ≡ true → n ≤ size_of b
fits_size sli level n (Live m s xs) h = absurd (false≢true h)
fits_size sli level n (Free m s) h = le_from_serves sli level n m h

pub split_at : (bs : List Block) (i : ℕ) → i < length bs → bs ≡ take i bs ++ block_at bs i ∷ drop (suc i) bs
split_at bs i h = sym (take-append-drop i bs) ∙ ap (λ (l : List Block). take i bs ++ l) (drop_more bs i (Free 0 0) h) ∙ ap (λ (n : ℕ). take i bs ++ block_at bs i ∷ drop n bs) (add-one i)

-- a free block of n words or more may be given
pub lawful_given : (h : HeapState) (front back : List Block) (b : Block) (n len : ℕ) → want len ≤ n → is_free b ≡ true → n ≤ size_of b → IsLawful (with_blocks h (front ++ b ∷ back)) → IsLawful (ticked h (front ++ carved (size_of b) n h.tick len ++ back))
lawful_given h front back (Live m s xs) n len wanted free room lawful = absurd (false≢true free)
lawful_given h front back (Free m s) n len wanted free room lawful =
    let P : List Block → Type 0 = λ l. IsLawful (ticked h (front ++ l ++ back)) in
    elim (cases_lt m (n + 4)) [
      | inl small ↦ subst P (sym (carved_small m n h.tick len small)) (lawful_whole h front back m s n len wanted lawful room)
      | inr large ↦ subst P (sym (carved_large m n h.tick len large)) (lawful_split h front back m s n len wanted lawful large)
    ]

pub lawful_carved : (sli : ℕ) (level : IsLevel sli) (h : HeapState) (front back : List Block) (b : Block) (n len : ℕ) → want len ≤ n → is_fit sli n b ≡ true → IsLawful (with_blocks h (front ++ b ∷ back)) → IsLawful (ticked h (front ++ carved (size_of b) n h.tick len ++ back))
lawful_carved sli level h front back b n len wanted f = lawful_given h front back b n len wanted (and_left _ _ f) (fits_size sli level n b f)

module _ (sli : ℕ) (level : IsLevel sli) (h : HeapState) (n len : ℕ) (wanted : want len ≤ n) (lawful : IsLawful h) where
  allocated_none : NoneFits sli n h.blocks → allocated_words sli h n len ≡ refused h NoFit
  allocated_none none = ap (allocated_at h n len) (choice_none sli n h.blocks none)

  fits_none : NoneFits sli n h.blocks → fits sli n h.blocks ≡ []
  fits_none none = fits_nothing sli n h.blocks none

  module _ (i : ℕ) (c : IsChoice sli n h.blocks i) where
    chosen : choice sli n h.blocks ≡ Some (site_at h.blocks i)
    chosen = choice_is sli n h.blocks i lawful.stamps_differ c

    -- the blocks that are left
    abbrev left : ℕ → List Block
    left k = take i h.blocks ++ carved (size_of (block_at h.blocks i)) n h.tick len ++ drop k h.blocks

    abbrev answered : ℕ → Outcome Name
    answered k = record { answer = Ok (record { heap = h.id; at = words_in (take i h.blocks); serial = h.tick }); heap = ticked h (left k) }

    allocated_worn : h.tick ≡ 2 ^ 64 - 1 → allocated_words sli h n len ≡ refused h Worn
    allocated_worn e = ap (allocated_at h n len) chosen ∙ ap (λ (b : Bool). cond b (refused h Worn) (answered (suc i))) (eq-eqb h.tick (2 ^ 64 - 1) e)

    allocated_is : (h.tick ≡ 2 ^ 64 - 1 → ⊥) → allocated_words sli h n len ≡ answered (suc i)
    allocated_is f =
        let t : eqb h.tick (2 ^ 64 - 1) ≡ false = not_true _ (λ e. f (grind (arith, nat_tests))) in
        ap (allocated_at h n len) chosen ∙ ap (λ (b : Bool). cond b (refused h Worn) (answered (suc i))) t

    allocated_lawful : IsLawful (ticked h (left (suc i)))
    allocated_lawful =
        let P : List Block → Type 0 = λ l. IsLawful (with_blocks h l) in
        lawful_carved sli level h (take i h.blocks) (drop (suc i) h.blocks) (block_at h.blocks i) n len wanted c.fit (subst P (split_at h.blocks i c.within) lawful)

-- where there is a choice there is a fit
fits_some : (sli : ℕ) (h : HeapState) (n i : ℕ) → IsLawful h → IsChoice sli n h.blocks i → fits sli n h.blocks ≡ [] → ⊥
fits_some sli h n i lawful c e =
    let some = choice_is sli n h.blocks i lawful.stamps_differ c in
    let none : choice sli n h.blocks ≡ None = ap (λ (l : List Site). find (λ s. list_all (λ t. is_as_good sli s.block t.block) l) l) e in
    let bad : Some (site_at h.blocks i) ≡ None = sym some ∙ none in cc

-- the ensures of a call of `allocate_words` on the heap h, with this answer and this heap
pub record Allocates (sli : ℕ) (h : HeapState) (n len : ℕ) (answer : Result Name Refusal) (left : HeapState) : Type 0 where
  pub is_answer : answer ≡ (allocated_words sli h n len).answer
  pub is_heap : left ≡ (allocated_words sli h n len).heap
  pub no_fit : (answer ≡ Err NoFit) ↔ (fits sli n h.blocks ≡ [])
  pub ok : IsOk answer ↔ (¬ (fits sli n h.blocks ≡ []) × ¬ (h.tick ≡ last_tick))
  pub lawful : IsLawful left

-- the outcomes, for a heap h that a representation shows and the heap k that it stands for, by the region that is left
module _ (sli : ℕ) (level : IsLevel sli) (h k : HeapState) (n len : ℕ) (wanted : want len ≤ n) (lawful : IsLawful h) (same : h ≡ k) (region : RegionState) (words : region.words ≡ h.words) where
  pub allocates_none : region.blocks ≡ h.blocks → NoneFits sli n h.blocks → Allocates sli k n len (Err NoFit) (with_region h h.tick region)
  allocates_none blocks none =
      let kept = region_is h h.tick region h.blocks words blocks in
      subst (λ (s : HeapState). Allocates sli s n len (Err NoFit) (with_region h h.tick region)) same (record {
        is_answer = sym (ap (λ (o : Outcome Name). o.answer) (allocated_none sli level h n len wanted lawful none));
        is_heap = kept ∙ sym (ap (λ (o : Outcome Name). o.heap) (allocated_none sli level h n len wanted lawful none));
        no_fit = (λ _. fits_none sli level h n len wanted lawful none, λ _. refl);
        ok = (λ f. absurd (false≢true f), λ p. absurd (p.0 (fits_none sli level h n len wanted lawful none)));
        lawful = subst IsLawful (sym kept) lawful;
      })

  module _ (i : ℕ) (best : IsChoice sli n h.blocks i) where
    pub allocates_worn : region.blocks ≡ h.blocks → h.tick ≡ last_tick → Allocates sli k n len (Err Worn) (with_region h h.tick region)
    allocates_worn blocks worn =
        let kept = region_is h h.tick region h.blocks words blocks in
        subst (λ (s : HeapState). Allocates sli s n len (Err Worn) (with_region h h.tick region)) same (record {
          is_answer = sym (ap (λ (o : Outcome Name). o.answer) (allocated_worn sli level h n len wanted lawful i best worn));
          is_heap = kept ∙ sym (ap (λ (o : Outcome Name). o.heap) (allocated_worn sli level h n len wanted lawful i best worn));
          no_fit = (λ f. cc, λ f. absurd (fits_some sli h n i lawful best f));
          ok = (λ f. absurd (false≢true f), λ p. absurd (p.1 worn));
          lawful = subst IsLawful (sym kept) lawful;
        })

    pub allocates_some : (at : ℕ) → words_in (take i h.blocks) ≡ at → region.blocks ≡ take i h.blocks ++ carved (size_of (block_at h.blocks i)) n h.tick len ++ drop (suc i) h.blocks
        → ¬ (h.tick ≡ last_tick) → Allocates sli k n len (Ok (record { heap = h.id; at = at; serial = h.tick })) (with_region h (h.tick + 1) region)
    allocates_some at is_at blocks fresh =
        let is_left = region_is h (h.tick + 1) region _ words blocks in
        let made = allocated_is sli level h n len wanted lawful i best fresh in
        subst (λ (s : HeapState). Allocates sli s n len (Ok (record { heap = h.id; at = at; serial = h.tick })) (with_region h (h.tick + 1) region)) same (record {
          is_answer = ap (λ (m : ℕ). Ok (record { heap = h.id; at = m; serial = h.tick })) (sym is_at) ∙ sym (ap (λ (o : Outcome Name). o.answer) made);
          is_heap = is_left ∙ sym (ap (λ (o : Outcome Name). o.heap) made);
          no_fit = (λ f. cc, λ f. absurd (fits_some sli h n i lawful best f));
          ok = (λ _. (fits_some sli h n i lawful best, fresh), λ _. refl);
          lawful = subst IsLawful (sym is_left) (allocated_lawful sli level h n len wanted lawful i best);
        })

-- the blocks of a lawful heap are of sizes that a region may have
pub regions_of : (sli : ℕ) (bs : List Block) → AllByRecursion HasRoom bs → words_in bs ≤ most_words sli → AreRegions sli bs
regions_of sli [] h g = tt
regions_of sli (Live m s xs ∷ bs) h g = ((h.0.0, omega arith), regions_of sli bs h.1 (omega arith))
regions_of sli (Free m s ∷ bs) h g = ((h.0, omega arith), regions_of sli bs h.1 (omega arith))

pub lawful_regions : (sli : ℕ) (h : HeapState) → IsLawful h → h.words ≤ most_words sli → AreRegions sli h.blocks
lawful_regions sli h lawful small = regions_of sli h.blocks lawful.rooms (omega (arith, lawful.whole))

-- the region of a stored heap is in order
pub in_order : (sli : ℕ) (h : Inside sli) → IsStored sli h → IsInOrder sli h.region
in_order sli h is = record { level = is.level; whole = is.lawful.whole; sized = lawful_regions sli (state_of sli h) is.lawful is.small; small = omega (arith, is.lawful.whole, is.small); listed = is.listed }

pub awaits_tick : (sli : ℕ) (h : Inside sli) → IsStored sli h → AwaitsTick sli h.tick h.region
awaits_tick sli h is = record { order = in_order sli h is; stamped = is.lawful.stamps_past }

-- and so is one that was only read
pub order_read : {sli most : ℕ} {old new : RegionState} → IsInOrder sli old → OnlyReads old new most → IsInOrder sli new
order_read is reads = record { level = is.level; whole = rw (reads.blocks, reads.words) is.whole; sized = rw reads.blocks is.sized; small = rw reads.blocks is.small; listed = rw (reads.blocks, reads.lists) is.listed }

pub tick_read : {sli tick most : ℕ} {old new : RegionState} → AwaitsTick sli tick old → OnlyReads old new most → AwaitsTick sli tick new
tick_read is reads = record { order = order_read is.order reads; stamped = rw reads.blocks is.stamped }
