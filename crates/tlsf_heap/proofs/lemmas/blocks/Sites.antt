-- The sites of a list by their places in it, and the choice among them.
use Rattle.tlsf_heap.proofs.Common.{◌≡◌, ◌≢◌, ℕ, zero, suc, ◌<◌, Bool, true, false, ◌&&◌, List, [], ◌∷◌, ◌++◌, length, get_or, take, drop, find, Some, None, refl, sym, ap, ◌∙◌, arith, append_assoc, list_all, AllByRecursion, append-nil, false≢true, nat_tests, Block, Live, Free, is_free, stamp_of, stamps, AreDistinct, Site, sites, sites_behind, is_fit, fits, is_as_good, choice, block_at, site_at, NoneFits, IsChoice}
use Rattle.tlsf_heap.proofs.lemmas.blocks.Find.{and_left, and_right, not_true, find-filter, find_at, filter_none, all_in, in_all}

length-sites_behind : (p bs : List Block) → length (sites_behind p bs) ≡ length bs
length-sites_behind p [] = refl
length-sites_behind p (b ∷ bs) = ap suc (length-sites_behind (p ++ b ∷ []) bs)

get_or-sites_behind : (d : Site) (p bs : List Block) (i : ℕ) → i < length bs → get_or (sites_behind p bs) i d ≡ record { before = p ++ take i bs; block = block_at bs i; after = drop (suc i) bs }
get_or-sites_behind d p [] i h = absurd (omega (arith, h))
get_or-sites_behind d p (b ∷ bs) zero h = ap (λ (xs : List Block). record { before = xs; block = b; after = bs }) (sym (append-nil p))
get_or-sites_behind d p (b ∷ bs) (suc i) h =
    get_or-sites_behind d (p ++ b ∷ []) bs i (omega arith)
    ∙ ap (λ (xs : List Block). record { before = xs; block = block_at bs i; after = drop (suc i) bs }) (append_assoc p (b ∷ []) (take i bs))

pub length-sites : (bs : List Block) → length (sites bs) ≡ length bs
length-sites bs = length-sites_behind [] bs

pub get_or-sites : (d : Site) (bs : List Block) (i : ℕ) → i < length bs → get_or (sites bs) i d ≡ site_at bs i
get_or-sites d bs i h = get_or-sites_behind d [] bs i h

pub nowhere : Site
nowhere = record { before = []; block = Free 0 0; after = [] }

-- no place's stamp is that of a later place
stamp_in : (P : ℕ → Type 0) (bs : List Block) (i : ℕ) → i < length bs → is_free (block_at bs i) ≡ true → AllByRecursion P (stamps bs) → P (stamp_of (block_at bs i))
stamp_in P [] i h f a = absurd (omega (arith, h))
stamp_in P (Live m s xs ∷ bs) zero h f a = absurd (false≢true f)
stamp_in P (Free m s ∷ bs) zero h f a = a.0
stamp_in P (Live m s xs ∷ bs) (suc i) h f a = stamp_in P bs i (omega arith) f a
stamp_in P (Free m s ∷ bs) (suc i) h f a = stamp_in P bs i (omega arith) f a.1

stamps_apart : (bs : List Block) (i j : ℕ) → i < j → j < length bs → is_free (block_at bs i) ≡ true → is_free (block_at bs j) ≡ true → AreDistinct (stamps bs) → stamp_of (block_at bs i) ≢ stamp_of (block_at bs j)
stamps_apart [] i j l h f g a = absurd (omega (arith, h))
stamps_apart (b ∷ bs) i zero l h f g a = absurd (omega (arith, l))
stamps_apart (Live m s xs ∷ bs) zero (suc j) l h f g a = absurd (false≢true f)
stamps_apart (Free m s ∷ bs) zero (suc j) l h f g a = stamp_in (λ y. s ≢ y) bs j (omega arith) g a.0
stamps_apart (Live m s xs ∷ bs) (suc i) (suc j) l h f g a = stamps_apart bs i j (omega arith) (omega arith) f g a
stamps_apart (Free m s ∷ bs) (suc i) (suc j) l h f g a = stamps_apart bs i j (omega arith) (omega arith) f g a.1

free_if_fit : (sli n : ℕ) (b : Block) → is_fit sli n b ≡ true → is_free b ≡ true
free_if_fit sli n (Live m s xs) h = h
free_if_fit sli n (Free m s) h = refl

as_good_both : (sli : ℕ) (a b : Block) → is_as_good sli a b ≡ true → is_as_good sli b a ≡ true → stamp_of a ≡ stamp_of b
as_good_both sli a b g h = grind (arith, nat_tests)

pub fits_nothing : (sli n : ℕ) (bs : List Block) → NoneFits sli n bs → fits sli n bs ≡ []
fits_nothing sli n bs h =
    filter_none (λ s. is_fit sli n s.block) nowhere (sites bs) (λ j l. ap (λ (s : Site). is_fit sli n s.block) (get_or-sites nowhere bs j (omega (arith, length-sites bs, l))) ∙ h j (omega (arith, length-sites bs, l)))

pub choice_none : (sli n : ℕ) (bs : List Block) → NoneFits sli n bs → choice sli n bs ≡ None
choice_none sli n bs h = ap (find _) (fits_nothing sli n bs h)

pub choice_is : (sli n : ℕ) (bs : List Block) (i : ℕ) → AreDistinct (stamps bs) → IsChoice sli n bs i → choice sli n bs ≡ Some (site_at bs i)
choice_is sli n bs i apart c =
    let q : Site → Bool = λ s. is_fit sli n s.block in
    let p : Site → Bool = λ s. list_all (λ t. is_as_good sli s.block t.block) (fits sli n bs) in
    let at : (j : ℕ) → j < length bs → get_or (sites bs) j nowhere ≡ site_at bs j = get_or-sites nowhere bs in
    let is_best : p (site_at bs i) ≡ true = all_in (λ t. is_as_good sli (block_at bs i) t.block) q nowhere (sites bs) (λ j l f.
    let in_bs : j < length bs = omega (arith, length-sites bs, l) in
    rw (at j in_bs) (c.best j in_bs (rw (at j in_bs) at f))) in
    let worse : (j : ℕ) → j < i → (q (site_at bs j) && p (site_at bs j)) ≡ false = λ j l. not_true _ (λ e.
    let j_in : j < length bs = omega (arith, l, c.within) in
    let j_fit : is_fit sli n (block_at bs j) ≡ true = and_left _ _ e in
    let j_best : p (site_at bs j) ≡ true = and_right (q (site_at bs j)) _ e in
    let j_good : is_as_good sli (block_at bs j) (block_at bs i) ≡ true =
    rw (at i c.within) at (in_all (λ t. is_as_good sli (block_at bs j) t.block) q nowhere (sites bs) j_best i (omega (arith, length-sites bs, c.within)) (rw (at i c.within) c.fit)) in
    stamps_apart bs j i l c.within (free_if_fit sli n _ j_fit) (free_if_fit sli n _ c.fit) apart (as_good_both sli (block_at bs j) (block_at bs i) j_good (c.best j j_in j_fit))) in
    find-filter p q (sites bs)
    ∙ find_at (λ s. q s && p s) nowhere (sites bs) i (omega (arith, length-sites bs, c.within))
    (rw (at i c.within) (ap (λ (b : Bool). b && p (site_at bs i)) c.fit ∙ is_best))
    (λ j l. rw (at j (omega (arith, l, c.within))) (worse j l))
    ∙ ap Some (at i c.within)
