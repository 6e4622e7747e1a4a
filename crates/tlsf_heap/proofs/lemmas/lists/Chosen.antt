-- The choice by classes: the free block of the least class that serves a request, which became free last.
use Rattle.tlsf_heap.proofs.Common.{◌≡◌, ℕ, zero, suc, ◌<◌, ◌≤◌, nat_le, eqb, ◌||◌, Bool, true, false, List, [], ◌∷◌, length, filter, Option, Some, None, refl, sym, ap, ◌∙◌, inl, inr, arith, slice_get, list_any, cases_lt, false≢true, and_from, leb-true, le-leb, eq-eqb, nat_tests, IsLevel, class_of, search_of, serves, classes, most_words, Block, Live, Free, size_of, is_free, stamp_of, IsRegion, AreRegions, is_fit, is_as_good, block_at, NoneFits, IsChoice, IsHead, IsBestClass, listed_classes, AreFreeLists}
use Rattle.std.proofs.lemmas.List.Folds.{list_any_at}
use Rattle.std.specs.Option.{option_map_or}
use Rattle.tlsf_class.specs.Members.{next_member}
use Rattle.tlsf_class.proofs.ClassOfSize.{search_of-above, serves-from, class_of-bounds, HasClass}
use Rattle.tlsf_class.proofs.Members.{filter-classes_same, next_member-filter_is, next_member-filter_is_none, IsNextMember}
use Rattle.tlsf_heap.proofs.lemmas.blocks.Find.{not_true}
use Rattle.tlsf_heap.proofs.lemmas.lists.Heads.{is_free_of, NoneOf, IsLastFreed, IsLastFreedAt, free_and_of, is_some_list, some_listed, head_is_last}

-- each block has a number of words that a region may have
pub region_at : (sli : ℕ) (bs : List Block) → AreRegions sli bs → (i : ℕ) → i < length bs → IsRegion sli (size_of (block_at bs i))
region_at sli [] a i h = absurd (omega (arith, h))
region_at sli (b ∷ bs) a zero h = a.0
region_at sli (b ∷ bs) a (suc i) h = region_at sli bs a.1 i (omega arith)

-- no block serves more words than a region may have
pub none_above : (sli : ℕ) (level : IsLevel sli) (n : ℕ) (bs : List Block) → most_words sli < n → NoneFits sli n bs
none_above sli level n bs above = λ i h. unfit (block_at bs i)
  where
    unfit : (b : Block) → is_fit sli n b ≡ false
    unfit (Live m s xs) = refl
    unfit (Free m s) = ap (λ o. option_map_or (λ least. nat_le least (class_of sli m)) o false) (search_of-above sli level n above)

-- whether a block of the list is free and of this class
abbrev has_free_of : ℕ → List Block → ℕ → Bool
has_free_of sli bs class = list_any (is_free_of sli class) bs

-- a class of which no block is has no free block
none_has : (sli : ℕ) (bs : List Block) (class : ℕ) → NoneOf sli class bs → has_free_of sli bs class ≡ false
none_has sli [] class h = refl
none_has sli (b ∷ bs) class h = ap (λ x. x || has_free_of sli bs class) (h 0 (omega arith)) ∙ none_has sli bs class (λ i l. h (suc i) (omega arith))

-- ---- the least class that serves

module _ (sli : ℕ) (level : IsLevel sli) (n from : ℕ) (lists : ℕ → List ℕ) (bs : List Block) (search : search_of sli n ≡ Some from) (sized : AreRegions sli bs) (listed : AreFreeLists sli bs lists) where
  fit_class : (b : Block) → is_fit sli n b ≡ true → (is_free b ≡ true) × (from ≤ class_of sli (size_of b))
  fit_class (Live m s xs) h = absurd (false≢true h)
  fit_class (Free m s) h = (refl, leb-true from (class_of sli m) (sym (serves-from sli level n from (class_of sli m) search) ∙ h))

  class_at : (i : ℕ) → i < length bs → HasClass sli level (size_of (block_at bs i))
  class_at i h = let region = region_at sli bs sized i h in class_of-bounds sli level (size_of (block_at bs i)) region.0 region.1

  has_at : (i : ℕ) → i < length bs → is_free (block_at bs i) ≡ true → has_free_of sli bs (class_of sli (size_of (block_at bs i))) ≡ true
  has_at i h free =
      let class = class_of sli (size_of (block_at bs i)) in
      list_any_at (is_free_of sli class) bs i (Free 0 0) h (and_from (is_free (block_at bs i)) (eqb class class) free (eq-eqb class class refl))

  -- the classes whose lists aren't empty are those of the free blocks
  next_listed : next_member (listed_classes sli lists) from ≡ next_member (filter (has_free_of sli bs) (classes sli)) from
  next_listed = ap (λ members. next_member members from) (filter-classes_same sli level (λ d. is_some_list (lists d)) (has_free_of sli bs) (λ d l h. some_listed sli d bs (lists d) (listed d)))

  -- no class has a free block, and none fits
  none_listed : next_member (listed_classes sli lists) from ≡ None → NoneFits sli n bs
  none_listed none = λ i h. not_true _ (λ fit.
      let free = fit_class (block_at bs i) fit in
      let class = class_at i h in
      false≢true (sym (next_member-filter_is_none sli level (has_free_of sli bs) from (sym next_listed ∙ none) _ class.least free.1 class.most) ∙ has_at i h free.0))

  module _ (class : ℕ) (next : next_member (listed_classes sli lists) from ≡ Some class) where
    is_next : IsNextMember sli level (has_free_of sli bs) from class
    is_next = next_member-filter_is sli level (has_free_of sli bs) from class (sym next_listed ∙ next)

    -- the class that was found has a free block
    has_listed : NoneOf sli class bs → ⊥
    has_listed none = false≢true (sym (none_has sli bs class none) ∙ is_next.passes)

    -- no class below it serves
    least_class : (j : ℕ) → j < length bs → is_fit sli n (block_at bs j) ≡ true → class ≤ class_of sli (size_of (block_at bs j))
    least_class j h fit =
        let free = fit_class (block_at bs j) fit in
        elim (cases_lt (class_of sli (size_of (block_at bs j))) class) [
          | inl lower ↦ absurd (false≢true (sym (is_next.before _ (class_at j h).least free.1 lower) ∙ has_at j h free.0))
          | inr fine ↦ fine
        ]

    good : (a b : Block) → class_of sli (size_of a) ≡ class → class ≤ class_of sli (size_of b) → (class_of sli (size_of b) ≡ class → stamp_of b ≤ stamp_of a) → is_as_good sli a b ≡ true
    good a b same above last = elim (cases_lt class (class_of sli (size_of b))) [
      | inl higher ↦ grind (arith, nat_tests)
      | inr lower ↦ let equal : class_of sli (size_of b) ≡ class = omega arith in let late = last equal in grind (arith, nat_tests)
    ]

    -- the block of that class that became free last is the choice
    choice_listed : (i : ℕ) → IsLastFreed sli class bs i → IsChoice sli n bs i
    choice_listed i l =
        let own = free_and_of sli class (block_at bs i) l.here in
        record {
          within = l.within;
          fit = and_from (is_free (block_at bs i)) (serves sli (class_of sli (size_of (block_at bs i))) n) own.0
              (serves-from sli level n from (class_of sli (size_of (block_at bs i))) search ∙ le-leb from (class_of sli (size_of (block_at bs i))) (omega (arith, own.1, is_next.above)));
          best = λ j h fit. good (block_at bs i) (block_at bs j) own.1 (least_class j h fit) (λ same.
              l.last j h (and_from (is_free (block_at bs j)) (eqb (class_of sli (size_of (block_at bs j))) class) (fit_class (block_at bs j) fit).0 (eq-eqb _ class same)));
        }

    -- so the head of the list of that class is what good fit asks
    best_listed : (at : ℕ) × (i : ℕ) × IsHead sli bs lists class at i × IsChoice sli n bs i
    best_listed = as_best (slice_get (lists class) 0) refl (head_is_last sli class bs (lists class) (listed class))
      where
        as_best : (found : Option ℕ) → slice_get (lists class) 0 ≡ found → IsLastFreedAt sli class bs found → (at : ℕ) × (i : ℕ) × IsHead sli bs lists class at i × IsChoice sli n bs i
        as_best None e none = absurd (has_listed none)
        as_best (Some at) e last =
            (at, last.0, record { first = e; stands = last.1; classed = sym (free_and_of sli class (block_at bs last.0) last.2.here).1 }, choice_listed last.0 last.2)

-- what a search for the least class that serves answers
pub best_class : (sli : ℕ) (level : IsLevel sli) (n from : ℕ) (lists : ℕ → List ℕ) (bs : List Block) → search_of sli n ≡ Some from → AreRegions sli bs → AreFreeLists sli bs lists
    → (found : Option ℕ) → found ≡ next_member (listed_classes sli lists) from → IsBestClass sli n bs lists found
best_class sli level n from lists bs search sized listed None e = none_listed sli level n from lists bs search sized listed (sym e)
best_class sli level n from lists bs search sized listed (Some class) e = best_listed sli level n from lists bs search sized listed class (sym e)
