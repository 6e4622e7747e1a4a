-- Room by counting: free blocks are few, and those that don't serve are small.
use Rattle.tlsf_pool.proofs.Common.{◌≡◌, ℕ, suc, ◌+◌, ◌-◌, ◌*◌, ◌<◌, ◌≤◌, true, List, [], ◌∷◌, length, refl, sym, ap, ◌∙◌, inl, inr, arith, AllByRecursion, option_map_or, mul-le-mul_right, false≢true, cases_lt, le-leb, IsLevel, low, class_of, most_words, Block, Live, Free, HeapState, size_of, is_free, words_in, want, fits, is_fit, NoneFits, IsLawful, HasRoom, FreeBlocksAreApart, live_among, free_among, live_count, free_words, sure}
use Rattle.tlsf_class.proofs.Lows.{low-rises_or_same}
use Rattle.tlsf_class.proofs.ClassOfSize.{IsSearchOf, class_of-is, search_of-is, serves-from}
use Rattle.tlsf_heap.proofs.lemmas.blocks.Find.{not_true}
use Rattle.tlsf_heap.proofs.lemmas.blocks.Grant.{fits_something}

-- free blocks don't touch, so at most one more is free than live
pub few_free : (bs : List Block) → FreeBlocksAreApart bs → length (free_among bs) ≤ length (live_among bs) + 1
few_free [] a = omega arith
few_free (Live m s xs ∷ bs) a = let e = few_free bs a in omega arith
few_free (Free m s ∷ []) a = omega arith
few_free (Free m s ∷ Live n t xs ∷ bs) a = let e = few_free bs a in omega arith
few_free (Free m s ∷ Free n t ∷ bs) a = absurd a

pub sure_is : (sli : ℕ) (level : IsLevel sli) (n c : ℕ) → IsSearchOf sli level n c → sure sli n ≡ low sli c
sure_is sli level n c is = ap (λ o. option_map_or (low sli) o 0) is.found

pub sure_enough : (sli : ℕ) (level : IsLevel sli) (n : ℕ) → n ≤ most_words sli → n ≤ sure sli n
sure_enough sli level n region = let search = search_of-is sli level n region in omega (arith, sure_is sli level n search.0 search.1, search.1.enough)

-- a free block serves from the least size of the search class on
pub serves_sure : (sli : ℕ) (level : IsLevel sli) (n c m s : ℕ) → IsSearchOf sli level n c → 4 ≤ m → low sli c ≤ m → is_fit sli n (Free m s) ≡ true
serves_sure sli level n c m s is four h =
    let own = class_of-is sli level m four in
    serves-from sli level n c (class_of sli m) is.found ∙ le-leb c (class_of sli m) (elim (cases_lt (class_of sli m) c) [
      | inl lower ↦ absurd (omega (arith, own.passed (omega (arith, lower, is.most)), low-rises_or_same sli level (class_of sli m + 1) c (omega arith) (omega (arith, is.most))))
      | inr fine ↦ fine
    ])

-- a free block has at most t words
abbrev pub IsHole : ℕ → Block → Type 0
IsHole t block = is_free block ≡ true → size_of block ≤ t

-- blocks that don't serve are below it
pub holes_below : (sli : ℕ) (level : IsLevel sli) (n : ℕ) → n ≤ most_words sli → (bs : List Block) → AllByRecursion HasRoom bs → NoneFits sli n bs → AllByRecursion (IsHole (sure sli n - 1)) bs
holes_below sli level n region [] rooms none = tt
holes_below sli level n region (Live m s xs ∷ bs) rooms none = ((λ free. absurd (false≢true free)), holes_below sli level n region bs rooms.1 (λ i l. none (suc i) (omega arith)))
holes_below sli level n region (Free m s ∷ bs) rooms none =
    let search = search_of-is sli level n region in
    let below : m ≤ sure sli n - 1 = elim (cases_lt m (low sli search.0)) [
      | inl below ↦ omega (arith, sure_is sli level n search.0 search.1)
      | inr above ↦ absurd (false≢true (sym (none 0 (omega arith)) ∙ serves_sure sli level n search.0 m s search.1 rooms.0 above))
    ] in
    ((λ _. below), holes_below sli level n region bs rooms.1 (λ i l. none (suc i) (omega arith)))

pub holes_sum : (t : ℕ) (bs : List Block) → AllByRecursion (IsHole t) bs → words_in (free_among bs) ≤ length (free_among bs) * t
holes_sum t [] holes = omega arith
holes_sum t (Live m s xs ∷ bs) holes = holes_sum t bs holes.1
holes_sum t (Free m s ∷ bs) holes = let few = holes.0 refl in let rest = holes_sum t bs holes.1 in omega (arith, few, rest)

-- where no block serves, each is below it
pub holes_where_none : (sli : ℕ) (level : IsLevel sli) (n : ℕ) → n ≤ most_words sli → (bs : List Block) → AllByRecursion HasRoom bs → fits sli n bs ≡ [] → AllByRecursion (IsHole (sure sli n - 1)) bs
holes_where_none sli level n region bs rooms none = holes_below sli level n region bs rooms (λ i within. not_true _ (λ fit. fits_something sli n bs i within fit none))

pub finds_room : (sli : ℕ) (level : IsLevel sli) (h : HeapState) (len : ℕ) → IsLawful h → want len ≤ most_words sli → (live_count h + 1) * (sure sli (want len) - 1) < free_words h → ¬ (fits sli (want len) h.blocks ≡ [])
finds_room sli level h len lawful region more none =
    let small = holes_sum (sure sli (want len) - 1) h.blocks (holes_where_none sli level (want len) region h.blocks lawful.rooms none) in
    omega (arith, small, mul-le-mul_right (sure sli (want len) - 1) (few_free h.blocks lawful.apart), more)

-- a request that is no greater than the least size of another has no higher one
pub sure_upto : (sli : ℕ) (level : IsLevel sli) (n m : ℕ) → n ≤ sure sli m → n ≤ most_words sli → m ≤ most_words sli → sure sli n ≤ sure sli m
sure_upto sli level n m h small region =
    let a = search_of-is sli level n small in
    let b = search_of-is sli level m region in
    let below : low sli a.0 ≤ low sli b.0 = elim (cases_lt b.0 a.0) [
      | inl l ↦ absurd (omega (arith, a.1.tight (omega (arith, l, b.1.least)), sure_is sli level m b.0 b.1, h, low-rises_or_same sli level b.0 (a.0 - 1) (omega (arith, l)) (omega (arith, a.1.most))))
      | inr g ↦ low-rises_or_same sli level a.0 b.0 g (omega (arith, b.1.most))
    ] in
    omega (arith, below, sure_is sli level n a.0 a.1, sure_is sli level m b.0 b.1)

-- a greater request has no lower least size
pub sure_rises : (sli : ℕ) (level : IsLevel sli) (n m : ℕ) → n ≤ m → m ≤ most_words sli → sure sli n ≤ sure sli m
sure_rises sli level n m h region = sure_upto sli level n m (omega (arith, h, sure_enough sli level m region)) (omega (arith, h, region)) region

-- ---- steps

pub wants : (a b : ℕ) → a ≤ b → want a ≤ want b
wants a b f = omega (arith, f)

pub less : (a b : ℕ) → a ≤ b → a - 1 ≤ b - 1
less a b f = omega (arith, f)
