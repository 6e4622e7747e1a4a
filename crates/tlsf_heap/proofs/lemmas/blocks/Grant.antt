-- The greatest length that is served: the payload of the least block of the class of the greatest free block.
use Rattle.tlsf_heap.proofs.Common.{◌≡◌, ℕ, zero, suc, ◌*◌, ◌-◌, ◌<◌, ◌≤◌, nat_lt, inl, inr, Bool, true, false, cond, List, [], ◌∷◌, length, refl, sym, ap, ◌∙◌, arith, ◌==◌, AllByRecursion, list_all, false≢true, cases_lt, and_from, le-leb, leb-true, nat_tests, IsLevel, low, class_of, serves, last_class, most_words, Block, Live, Free, size_of, words_in, is_free, want, HasRoom, Site, sites, fits, is_fit, block_at, NoneFits, free_among, largest_of, is_served, grant_of, IsGrant, granted}
use Rattle.tlsf_class.proofs.Lows.{low-first, low-last, low-rises_or_same}
use Rattle.tlsf_class.proofs.ClassOfSize.{class_of-is, class_of-rises, search_of-is, serves-from}
use Rattle.tlsf_class.proofs.RangeSearch.{greatest-range, greatest-range_none}
use Rattle.tlsf_heap.proofs.lemmas.blocks.Find.{not_true, and_left, and_right, filter_none, in_all}
use Rattle.tlsf_heap.proofs.lemmas.blocks.Sites.{nowhere, length-sites, get_or-sites, fits_nothing}
use Rattle.tlsf_heap.proofs.lemmas.lists.Chosen.{none_above}
use Rattle.tlsf_heap.proofs.lemmas.blocks.Sums.{words_apart, greatest_above, greatest_reached, greatest_part}

-- ---- what is served

-- where a block fits, the list of those that do isn't empty
pub fits_something : (sli n : ℕ) (bs : List Block) (i : ℕ) → i < length bs → is_fit sli n (block_at bs i) ≡ true → ¬ (fits sli n bs ≡ [])
fits_something sli n bs i within fit none =
    false≢true (in_all (λ s. false) (λ s. is_fit sli n s.block) nowhere (sites bs) (ap (list_all (λ s. false)) none) i (omega (arith, length-sites bs))
    (ap (λ (s : Site). is_fit sli n s.block) (get_or-sites nowhere bs i within) ∙ fit))

is_some : (xs : List Site) → ¬ (xs ≡ []) → nat_lt 0 (length xs) ≡ true
is_some [] some = absurd (some refl)
is_some (x ∷ xs) some = grind (arith, nat_tests)

not_served : (sli : ℕ) (bs : List Block) (len : ℕ) → NoneFits sli (want len) bs → is_served sli bs len ≡ false
not_served sli bs len none = ap (λ (s : List Site). nat_lt 0 (length s)) (fits_nothing sli (want len) bs none)

-- the least size of a class in use
pub low_bounds : (sli : ℕ) (level : IsLevel sli) (n : ℕ) → 4 ≤ n → (4 ≤ low sli (class_of sli n)) × (low sli (class_of sli n) ≤ n) × (low sli (class_of sli n) ≤ most_words sli)
low_bounds sli level n h =
    let is = class_of-is sli level n h in (
      omega (arith, low-first sli level, low-rises_or_same sli level 4 (class_of sli n) is.least (omega (arith, is.most))),
      is.reached,
      omega (arith, low-last sli level, low-rises_or_same sli level (class_of sli n) (last_class sli) is.most (omega arith)),
    )

-- a free block serves what its class begins with
fit_low : (sli : ℕ) (level : IsLevel sli) (n : ℕ) (b : Block) → is_free b ≡ true → 4 ≤ size_of b → n ≤ low sli (class_of sli (size_of b)) → is_fit sli n b ≡ true
fit_low sli level n b free four h =
    let least = low_bounds sli level (size_of b) four in
    let search = search_of-is sli level n (omega (arith, least.2)) in
    let is = class_of-is sli level (size_of b) four in
    let under : search.0 ≤ class_of sli (size_of b) = elim (cases_lt (class_of sli (size_of b)) search.0) [
      | inl above ↦
          let tight = search.1.tight (omega (arith, above, is.least)) in
          absurd (omega (arith, tight, h, low-rises_or_same sli level (class_of sli (size_of b)) (search.0 - 1) (omega (arith, above)) (omega (arith, search.1.most))))
      | inr fine ↦ fine
    ] in
    and_from (is_free b) (serves sli (class_of sli (size_of b)) n) free (serves-from sli level n search.0 (class_of sli (size_of b)) search.1.found ∙ le-leb search.0 (class_of sli (size_of b)) under)

-- and no more than the class of a greater one begins with
fit_below : (sli : ℕ) (level : IsLevel sli) (n m : ℕ) (b : Block) → n ≤ most_words sli → 4 ≤ m → size_of b ≤ m → is_fit sli n b ≡ true → n ≤ low sli (class_of sli m)
fit_below sli level n m b region four less fit =
    let search = search_of-is sli level n region in
    let under : search.0 ≤ class_of sli (size_of b) =
    leb-true search.0 (class_of sli (size_of b)) (sym (serves-from sli level n search.0 (class_of sli (size_of b)) search.1.found) ∙ and_right (is_free b) _ fit) in
    let rises = class_of-rises sli level (size_of b) m less in
    omega (arith, search.1.enough, low-rises_or_same sli level search.0 (class_of sli m) (omega arith) (omega (arith, (class_of-is sli level m four).most)))

-- ---- the greatest length

pub four_words : (bs : List Block) → AllByRecursion HasRoom bs → (i : ℕ) → i < length bs → 4 ≤ size_of (block_at bs i)
four_words [] rooms i within = absurd (omega (arith, within))
four_words (Live size serial bytes ∷ bs) rooms zero within = rooms.0.0
four_words (Free size stamp ∷ bs) rooms zero within = rooms.0
four_words (b ∷ bs) rooms (suc i) within = four_words bs rooms.1 i (omega arith)

pub granted_large : (sli n : ℕ) → 4 ≤ n → granted sli n ≡ 8 * (low sli (class_of sli n) - 3)
granted_large sli n h = let some : (n == 0) ≡ false = grind (arith, nat_tests) in ap (λ (b : Bool). cond b 0 (8 * (low sli (class_of sli n) - 3))) some

module _ (sli : ℕ) (level : IsLevel sli) (bs : List Block) (rooms : AllByRecursion HasRoom bs) where
  abbrev largest : ℕ
  largest = largest_of (free_among bs)

  -- what is known of the grant: it is the greatest, and comes from the class of the greatest free block
  pub record Granted : Type 0 where
    pub greatest : IsGrant sli bs (grant_of sli bs)
    pub formula : grant_of sli bs ≡ granted sli largest

  -- ---- nothing is free

  module _ (none : largest ≡ 0) where
    not_free : (i : ℕ) → i < length bs → is_free (block_at bs i) ≡ false
    not_free i within = not_true _ (λ free. omega (arith, none, greatest_above 0 bs i within free, four_words bs rooms i within))

    none_fits : (n : ℕ) → NoneFits sli n bs
    none_fits n i within = not_true _ (λ fit. false≢true (sym (not_free i within) ∙ and_left (is_free (block_at bs i)) _ fit))

    granted_none : Granted
    unfolding grant_of
    granted_none =
        let zero_grant : grant_of sli bs ≡ 0 = greatest-range_none (is_served sli bs) 0 0 (8 * words_in bs) (λ d l g. not_served sli bs d (none_fits (want d))) in
        record {
          greatest = record {
            none = λ e. zero_grant;
            served = λ some. absurd (some (filter_none is_free (Free 0 0) bs not_free));
            greatest = λ len some. absurd (some (fits_nothing sli (want len) bs (none_fits (want len))));
          };
          formula = zero_grant ∙ ap (granted sli) (sym none);
        }

  -- ---- the greatest free block

  module _ (i : ℕ) (within : i < length bs) (free : is_free (block_at bs i) ≡ true) (size : size_of (block_at bs i) ≡ largest) where
    abbrev most : ℕ
    most = 8 * (low sli (class_of sli largest) - 3)

    four : 4 ≤ largest
    four = omega (arith, size, four_words bs rooms i within)

    fit_upto : (len : ℕ) → len ≤ most → is_fit sli (want len) (block_at bs i) ≡ true
    fit_upto len h =
        let least = low_bounds sli level largest four in
        let wanted : want len ≤ low sli (class_of sli largest) = omega (arith, h, least.0) in
        fit_low sli level (want len) (block_at bs i) free (omega (arith, size, four)) (rw size wanted)

    none_beyond : (len : ℕ) → most < len → NoneFits sli (want len) bs
    none_beyond len h = elim (cases_lt (most_words sli) (want len)) [
      | inl above ↦ none_above sli level (want len) bs above
      | inr region ↦ λ j inside. not_true _ (λ fit.
          let below = fit_below sli level (want len) largest (block_at bs j) region four (greatest_above 0 bs j inside (and_left _ _ fit)) fit in
          omega (arith, h, below, (low_bounds sli level largest four).0))
    ]

    granted_some : Granted
    unfolding grant_of
    granted_some =
        let least = low_bounds sli level largest four in
        let part = greatest_part 0 bs in
        let apart = words_apart bs in
        let is : grant_of sli bs ≡ most = greatest-range (is_served sli bs) most 0 0 (8 * words_in bs) (omega arith) (omega (arith, four, least.0, least.1, part, apart)) (omega arith)
        (λ d l g. is_some (fits sli (want d) bs) (fits_something sli (want d) bs i within (fit_upto d g)))
        (λ d l g. not_served sli bs d (none_beyond d l)) in
        record {
          greatest = record {
            none = λ e. absurd (let none : largest ≡ 0 = ap largest_of e in omega (arith, four));
            served = λ some. fits_something sli (want (grant_of sli bs)) bs i within (fit_upto (grant_of sli bs) (omega (arith, is)));
            greatest = λ len some. elim (cases_lt (grant_of sli bs) len) [
              | inl more ↦ absurd (some (fits_nothing sli (want len) bs (none_beyond len (omega (arith, is, more)))))
              | inr fine ↦ fine
            ];
          };
          formula = is ∙ sym (granted_large sli largest four);
        }

  pub is_granted : Granted
  is_granted = elim (greatest_reached 0 bs) [
    | inl none ↦ granted_none none
    | inr some ↦ granted_some some.0 some.1 some.2 some.3
  ]
