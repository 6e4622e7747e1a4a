-- Many small blocks and one large one: what each call leaves of the reserve.
use Rattle.tlsf_pool.proofs.Common.{◌≡◌, ◌≢◌, ℕ, ◌+◌, ◌-◌, ◌*◌, ◌<◌, ◌≤◌, ◌⊎◌, Bool, true, false, cond, max, nat_le, nat_lt, List, [], ◌∷◌, ◌++◌, length, map, fold, replicate, Err, refl, sym, ap, ◌∙◌, subst, inl, inr, arith, le_trans, AllByRecursion, mul-le-mul_right, cases_lt, false≢true, le-leb, leb-true, lt-ltb, le-ltb, length-replicate, IsLevel, class_of, most_words, Block, Live, Free, HeapState, size_of, words_in, bytes_of, is_free, want, Site, is_fit, IsLawful, HasRoom, Call, Allocate, Release, Write, Resize, Read, carved, allocated, answered, opened, run, overwritten, live_among, free_among, NoFit, live_count, sure, IsSnug, HasRoomFor, IsModest, IsSmall, Inventory, lengths, inventory_after, AreOfKinds, ArePlanned, IsPlanned, count_in, table_words, used, longest_of, scattered_words, one_large_words, ResizesNone, OneLargeSuffices, Kind}
use Rattle.tlsf_class.proofs.ClassOfSize.{search_of-is, serves-from}
use Rattle.tlsf_heap.proofs.lemmas.blocks.Replace.{carved_small, carved_large}
use Rattle.tlsf_heap.proofs.lemmas.blocks.Find.{and_left}
use Rattle.tlsf_heap.proofs.lemmas.blocks.Lawful.{all_weaker, opened_lawful, all_append}
use Rattle.tlsf_heap.proofs.lemmas.calls.Outcomes.{IsSiteOf, by_released, by_written, lawful_run}
use Rattle.tlsf_heap.proofs.lemmas.laws.NoFit.{no_fit}
use Rattle.tlsf_heap.proofs.lemmas.blocks.Sums.{words_apart}
use Rattle.tlsf_heap.proofs.lemmas.calls.Write.{length-overwritten, range_fits}
use Rattle.tlsf_pool.proofs.lemmas.laws.Around.{around_site, live_named, words_kept, requests_alone}
use Rattle.tlsf_pool.proofs.lemmas.laws.Choices.{IsChosen, IsNoBetter, by_chosen, no_lower}
use Rattle.tlsf_pool.proofs.lemmas.laws.Comb.{too_small}
use Rattle.tlsf_pool.proofs.lemmas.laws.FreeRoom.{IsHole, few_free, holes_sum, holes_where_none, serves_sure, sure_is, sure_rises}
use Rattle.tlsf_pool.proofs.lemmas.laws.Held.{one, counted}
use Rattle.tlsf_pool.proofs.lemmas.laws.Inventories.{Agrees, agrees_call, new_agrees, sum_of, sum_one}
use Rattle.tlsf_pool.proofs.lemmas.laws.Loads.{load}
use Rattle.tlsf_pool.proofs.lemmas.laws.ModestCalls.{AreSmall, small_kept}
use Rattle.tlsf_pool.proofs.lemmas.laws.PlannedCalls.{live_spent}
use Rattle.tlsf_pool.proofs.lemmas.laws.Reserves.{HasHole, next_free, other_hole, reserve, reserve_append, reserve_holes, reserve_limit, reserve_released, reserve_short, reserve_written}
use Rattle.tlsf_pool.proofs.lemmas.laws.Snug.{snug_kept}
use Rattle.tlsf_pool.proofs.lemmas.laws.Tables.{best_least, all_used, counted_in, has_kind, of_all, short, long, spend, spend_rises, split}

-- ---- the table

all_longest : (best : ℕ) (kinds : List Kind) → AllByRecursion (λ kind. kind.len ≤ fold max best (map (λ kind. kind.len) kinds)) kinds
all_longest best [] = tt
all_longest best (kind ∷ kinds) = (omega (arith, best_least (max best kind.len) (map (λ kind. kind.len) kinds)), all_longest (max best kind.len) kinds)

words_with_large : (smalls : List Kind) (large : Kind) → large.most ≤ 1 → table_words (smalls ++ large ∷ []) ≤ table_words smalls + (want large.len + 3)
words_with_large [] large few = let one_block = mul-le-mul_right (want large.len + 3) few in omega (arith, one_block)
words_with_large (kind ∷ smalls) large few = omega (arith, words_with_large smalls large few)

count_with_large : (smalls : List Kind) (large : Kind) → large.most ≤ 1 → count_in (smalls ++ large ∷ []) ≤ count_in smalls + 1
count_with_large [] large few = omega (arith, few)
count_with_large (kind ∷ smalls) large few = omega (arith, count_with_large smalls large few)

-- one for a large block
abbrev large_one : ℕ → ℕ → ℕ
large_one k n = cond (nat_lt k n) 1 0

short_none : (k : ℕ) (kind : Kind) (lens : List ℕ) → kind.len ≤ k → sum_of (large_one k) (short kind.len lens) ≡ 0
short_none k kind [] few = refl
short_none k kind (n ∷ lens) few = at (nat_le n kind.len) refl (short_none k kind lens few)
  where
    at : (c : Bool) → nat_le n kind.len ≡ c → sum_of (large_one k) (short kind.len lens) ≡ 0 → sum_of (large_one k) (cond c (n ∷ short kind.len lens) (short kind.len lens)) ≡ 0
    at true is rest =
        let none : large_one k n ≡ 0 = ap (λ (c : Bool). cond c 1 0) (le-ltb k n (omega (arith, leb-true n kind.len is, few))) in
        omega (arith, rest, none)
    at false is rest = rest

-- where a large block is asked for, none is held
none_large : (k n : ℕ) (smalls : List Kind) (large : Kind) (lens : List ℕ) → AllByRecursion (λ kind. kind.len ≤ k) smalls → large.most ≤ 1 → k < n → AreOfKinds (smalls ++ large ∷ []) (n ∷ lens) → sum_of (large_one k) lens ≡ 0
none_large k n [] large lens all few more fit = on lens (counted_in (large ∷ []) (n ∷ lens) fit)
  where
    on : (lens : List ℕ) → length (n ∷ lens) ≤ large.most + 0 → sum_of (large_one k) lens ≡ 0
    on [] count = refl
    on (m ∷ lens) count = absurd (omega (arith, count, few))
none_large k n (kind ∷ smalls) large lens all few more fit =
    let past : nat_lt kind.len n ≡ true = lt-ltb kind.len n (omega (arith, all.0, more)) in
    let rest : AreOfKinds (smalls ++ large ∷ []) (n ∷ long kind.len lens) = subst (λ (c : Bool). AreOfKinds (smalls ++ large ∷ []) (cond c (n ∷ long kind.len lens) (long kind.len lens))) past fit.1 in
    omega (arith, split (large_one k) kind.len lens, short_none k kind lens all.0, none_large k n smalls large (long kind.len lens) all.1 few more rest)

not_more : (k n : ℕ) → nat_lt k n ≡ false → n ≤ k
not_more k n is = elim (cases_lt k n) [ inl more ↦ absurd (false≢true (sym is ∙ lt-ltb k n more)) | inr few ↦ few ]

all_short : (k : ℕ) (bs : List Block) → load (large_one k) bs ≡ 0 → AllByRecursion (λ b. length (bytes_of b) ≤ k) bs
all_short k [] none = tt
all_short k (Live m s xs ∷ bs) none = at (nat_lt k (length xs)) refl (all_short k bs) none
  where
    at : (c : Bool) → nat_lt k (length xs) ≡ c → (load (large_one k) bs ≡ 0 → AllByRecursion (λ b. length (bytes_of b) ≤ k) bs) → cond c 1 0 + load (large_one k) bs ≡ 0
        → AllByRecursion (λ b. length (bytes_of b) ≤ k) (Live m s xs ∷ bs)
    at true is rest none = absurd (omega (arith, none))
    at false is rest none = (not_more k (length xs) is, rest (omega (arith, none)))
all_short k (Free m s ∷ bs) none = (omega arith, all_short k bs none)

-- ---- holes beside the one that is chosen

free_beside : (m s : ℕ) (xs ys : List Block) → (words_in (free_among (xs ++ Free m s ∷ ys)) ≡ words_in (free_among xs) + (m + words_in (free_among ys)))
    × (length (free_among (xs ++ Free m s ∷ ys)) ≡ length (free_among xs) + (1 + length (free_among ys)))
free_beside m s [] ys = (omega arith, omega arith)
free_beside m s (Live a b c ∷ xs) ys = free_beside m s xs ys
free_beside m s (Free a b ∷ xs) ys = let e = free_beside m s xs ys in (omega (arith, e.0), omega (arith, e.1))

-- all have at most t words, or one has q
holes_or : (t q : ℕ) (xs : List Block) → AllByRecursion (λ b. IsHole t b ⊎ ((is_free b ≡ true) × (q ≤ size_of b))) xs → AllByRecursion (IsHole t) xs ⊎ HasHole q xs
holes_or t q [] each = inl tt
holes_or t q (b ∷ xs) each = elim each.0 [
  | inl small ↦ elim (holes_or t q xs each.1) [ inl all ↦ inl (small, all) | inr some ↦ inr (inr some) ]
  | inr large ↦ inr (inl large)
]

module _ (sli : ℕ) (level : IsLevel sli) where
  -- a free block of a class at or above that of another serves what that one serves surely
  as_large : (q m s c u : ℕ) → q ≤ most_words sli → 4 ≤ m → sure sli q ≤ m → class_of sli m ≤ class_of sli c → sure sli q ≤ c
  as_large q m s c u region four enough above = elim (cases_lt c (sure sli q)) [
    | inl below ↦
        let search = search_of-is sli level q region in
        let serves : is_fit sli q (Free m s) ≡ true = serves_sure sli level q search.0 m s search.1 four (omega (arith, enough, sure_is sli level q search.0 search.1)) in
        let least : search.0 ≤ class_of sli m = leb-true search.0 (class_of sli m) (sym (serves-from sli level q search.0 (class_of sli m) search.1.found) ∙ serves) in
        let also : is_fit sli q (Free c u) ≡ true = serves-from sli level q search.0 (class_of sli c) search.1.found ∙ le-leb search.0 (class_of sli c) (le_trans least above) in
        absurd (false≢true (sym (too_small sli level q c u region below) ∙ also))
    | inr fine ↦ fine
  ]

  -- beside a chosen block of q words or more there are holes that don't serve, and those of q words or more
  beside : (n t q m s : ℕ) (b : Block) → n ≤ most_words sli → q ≤ most_words sli → sure sli n ≤ t + 1 → 4 ≤ m → sure sli q ≤ m → HasRoom b → IsNoBetter sli n (Free m s) b
      → IsHole t b ⊎ ((is_free b ≡ true) × (sure sli q ≤ size_of b))
  beside n t q m s (Live c u xs) region class few four large room best = inl (λ free. absurd (false≢true free))
  beside n t q m s (Free c u) region class few four large room best = elim (cases_lt t c) [
    | inl more ↦
        let search = search_of-is sli level n region in
        let fit : is_fit sli n (Free c u) ≡ true = serves_sure sli level n search.0 c u search.1 room (omega (arith, more, few, sure_is sli level n search.0 search.1)) in
        inr (refl, as_large q m s c u class four large (no_lower (class_of sli m) (class_of sli c) _ (best fit)))
    | inr fewer ↦ inl (λ _. fewer)
  ]

  all_beside : (n t q m s : ℕ) (bs : List Block) → n ≤ most_words sli → q ≤ most_words sli → sure sli n ≤ t + 1 → 4 ≤ m → sure sli q ≤ m → AllByRecursion HasRoom bs → AllByRecursion (IsNoBetter sli n (Free m s)) bs
      → AllByRecursion (λ b. IsHole t b ⊎ ((is_free b ≡ true) × (sure sli q ≤ size_of b))) bs
  all_beside n t q m s [] region class few four large rooms best = tt
  all_beside n t q m s (b ∷ bs) region class few four large rooms best =
      (beside n t q m s b region class few four large rooms.0 best.0, all_beside n t q m s bs region class few four large rooms.1 best.1)

record InTable (words most : ℕ) (h : HeapState) (l : Inventory) : Type 0 where
  lawful : IsLawful h
  words_are : h.words ≡ words
  snug : AllByRecursion IsSnug h.blocks
  small : AreSmall most h.blocks
  agrees : Agrees h l

module _ (sli : ℕ) (level : IsLevel sli) (words : ℕ) (smalls : List Kind) (large : Kind) (few : large.most ≤ 1) (longer : longest_of smalls < large.len)
    (region : words ≤ most_words sli) (class : want large.len ≤ most_words sli) (enough : one_large_words sli smalls large ≤ words) where
  abbrev k : ℕ
  k = longest_of smalls

  abbrev kinds : List Kind
  kinds = smalls ++ large ∷ []

  abbrev outside : ℕ
  outside = scattered_words sli smalls large

  abbrev InLarge : HeapState → Inventory → Type 0
  InLarge h l = InTable words (want large.len + 3) h l × (words ≤ reserve k h.blocks 0 + outside)

  -- the words of the greatest hole have a class
  classed : outside + 1 ≤ most_words sli
  classed = omega (arith, enough, region)

  least_hole : outside + 1 ≤ sure sli (outside + 1)
  least_hole = let search = search_of-is sli level (outside + 1) classed in omega (arith, sure_is sli level (outside + 1) search.0 search.1, search.1.enough)

  all_lens : AllByRecursion (λ kind. kind.len ≤ large.len) kinds
  all_lens = all_append (λ kind. kind.len ≤ large.len) smalls (large ∷ []) (all_weaker (λ kind. kind.len ≤ k) (λ kind. kind.len ≤ large.len) (λ kind upto. omega (arith, upto, longer)) smalls (all_longest 0 smalls)) (omega arith, tt)

  short_len : (n : ℕ) (lens : List ℕ) → AreOfKinds kinds (n ∷ lens) → n ≤ large.len
  short_len n lens fit = let has = has_kind kinds n lens fit in le_trans has.short (of_all (λ kind. kind.len ≤ large.len) (used kinds) has.kind has.of (all_used (λ kind. kind.len ≤ large.len) kinds all_lens))

  count_is : (h : HeapState) (l : Inventory) → Agrees h l → live_count h ≡ length (lengths l)
  count_is h l agrees = counted h.blocks ∙ (agrees.totals one ∙ sum_one (lengths l))

  count_few : (h : HeapState) (l : Inventory) (n : ℕ) → Agrees h l → AreOfKinds kinds (n ∷ lengths l) → live_count h ≤ count_in smalls
  count_few h l n agrees fit = omega (arith, count_is h l agrees, counted_in kinds (n ∷ lengths l) fit, count_with_large smalls large few)

  -- ---- a request finds room

  has_room : (h : HeapState) (l : Inventory) (n : ℕ) → InLarge h l → n ≤ large.len → (allocated sli h n).answer ≢ Err NoFit
  has_room h l n is upto e =
      let wanted : want n ≤ want large.len = omega (arith, upto) in
      let holes = holes_where_none sli level (want n) (le_trans wanted class) h.blocks is.0.lawful.rooms ((no_fit sli h n).0 e) in
      let rises = sure_rises sli level (want n) (outside + 1) (omega (arith, wanted)) classed in
      omega (arith, enough, is.1, reserve_holes k (want large.len + 3) (sure sli (want n) - 1) h.blocks is.0.small holes, rises, least_hole)

  -- ---- what a request leaves

  abbrev Keeps : HeapState → ℕ → Site → Type 0
  Keeps h n s = words ≤ reserve k (s.before ++ carved (size_of s.block) (want n) h.tick n ++ s.after) 0 + outside

  -- the reserve of what is left, at least
  left_reserve : (h : HeapState) (n : ℕ) (s : Site) → let new = reserve k (s.before ++ carved (size_of s.block) (want n) h.tick n ++ s.after) 0 in
      (reserve k s.before 0 ≤ new) × (reserve k s.after 0 ≤ new) × (want n + 4 ≤ size_of s.block → size_of s.block - want n ≤ new) × (k < n → size_of s.block ≤ new)
  left_reserve h n s = elim (cases_lt (size_of s.block) (want n + 4)) [
    | inl less ↦
        let is = carved_small (size_of s.block) (want n) h.tick n less in
        let whole = reserve_append k (s.before ++ Live (size_of s.block) h.tick (replicate n 0) ∷ []) s.after 0 in
        let front = reserve_append k s.before (Live (size_of s.block) h.tick (replicate n 0) ∷ []) in
        subst (λ (new : List Block). let left = reserve k (s.before ++ new ++ s.after) 0 in
        (reserve k s.before 0 ≤ left) × (reserve k s.after 0 ≤ left) × (want n + 4 ≤ size_of s.block → size_of s.block - want n ≤ left) × (k < n → size_of s.block ≤ left)) (sym is)
        (omega (arith, whole, front (next_free s.after 0)), omega (arith, whole), (λ more. absurd (omega (arith, less, more))), (λ long. omega (arith, whole, front (next_free s.after 0), large_words (size_of s.block) n (next_free s.after 0) long)))
    | inr more ↦
        let is = carved_large (size_of s.block) (want n) h.tick n more in
        let rest : ℕ = size_of s.block - want n in
        let whole = reserve_append k (s.before ++ Live (want n) h.tick (replicate n 0) ∷ Free rest h.tick ∷ []) s.after 0 in
        let front = reserve_append k s.before (Live (want n) h.tick (replicate n 0) ∷ Free rest h.tick ∷ []) in
        subst (λ (new : List Block). let left = reserve k (s.before ++ new ++ s.after) 0 in
        (reserve k s.before 0 ≤ left) × (reserve k s.after 0 ≤ left) × (want n + 4 ≤ size_of s.block → size_of s.block - want n ≤ left) × (k < n → size_of s.block ≤ left)) (sym is)
        (omega (arith, whole, front (next_free s.after 0)), omega (arith, whole), (λ _. omega (arith, whole, front (next_free s.after 0))), (λ long. omega (arith, whole, front (next_free s.after 0), more, large_words (want n) n rest long)))
  ]
    where
      large_words : (m n a : ℕ) → k < n → cond (nat_lt k (length (replicate {A = ℕ} n 0))) (m + a) 0 ≡ m + a
      large_words m n a long = ap (λ (c : Bool). cond c (m + a) 0) (ap (nat_lt k) (length-replicate n 0) ∙ lt-ltb k n long)

  old_reserve : (h : HeapState) (s : Site) (m t : ℕ) → s.block ≡ Free m t → IsSiteOf h.blocks s → reserve k h.blocks 0 ≡ max (reserve k s.before m) (max m (reserve k s.after 0))
  old_reserve h s m t is site =
      sym (ap (λ (bs : List Block). reserve k bs 0) site) ∙ (ap (λ (b : Block). reserve k (s.before ++ b ∷ s.after) 0) is ∙ reserve_append k s.before (Free m t ∷ s.after) 0)

  -- a large block goes to the front of a hole, which counts with it
  large_given : (h : HeapState) (l : Inventory) (n m t : ℕ) (s : Site) → InLarge h l → AreOfKinds kinds (n ∷ lengths l) → k < n → s.block ≡ Free m t → IsSiteOf h.blocks s → Keeps h n s
  large_given h l n m t s is fit long block site =
      let none : load (large_one k) h.blocks ≡ 0 = is.0.agrees.totals (large_one k) ∙ none_large k n smalls large (lengths l) (all_longest 0 smalls) few long fit in
      let before = (around_site (λ b. length (bytes_of b) ≤ k) h s site (all_short k h.blocks none)).0 in
      let new = left_reserve h n s in
      omega (arith, is.1, old_reserve h s m t block site, reserve_short k s.before m before, new.0, new.1, new.3 long, ap size_of block)

  -- a small block goes to another hole
  elsewhere : (h : HeapState) (l : Inventory) (n m t : ℕ) (s : Site) → InLarge h l → m < sure sli (outside + 1) → s.block ≡ Free m t → IsSiteOf h.blocks s → Keeps h n s
  elsewhere h l n m t s is less block site =
      let before = (around_site (IsSmall (want large.len + 3)) h s site is.0.small).0 in
      let new = left_reserve h n s in
      omega (arith, enough, is.1, less, old_reserve h s m t block site, reserve_limit k (want large.len + 3) s.before m before, new.0, new.1)

  -- or to the greatest, where no other has room for it
  last_hole : (h : HeapState) (l : Inventory) (n m t : ℕ) (s : Site) → InLarge h l → AreOfKinds kinds (n ∷ lengths l) → n ≤ k → sure sli (outside + 1) ≤ m → s.block ≡ Free m t → IsChosen sli (want n) h.blocks s → Keeps h n s
  last_hole h l n m t s is fit upto great block chosen =
      let lost : ℕ = sure sli (want k) - 1 in
      let wanted : want n ≤ want k = omega (arith, upto) in
      let in_class : want k ≤ most_words sli = omega (arith, longer, class) in
      let rises = sure_rises sli level (want n) (want k) wanted in_class in
      let rooms = around_site HasRoom h s chosen.site is.0.lawful.rooms in
      let best = around_site (IsNoBetter sli (want n) (Free m t)) h s chosen.site (subst (λ (b : Block). AllByRecursion (IsNoBetter sli (want n) b) h.blocks) block chosen.best) in
      let four : 4 ≤ m = omega (arith, great, least_hole) in
      let place = λ (bs : List Block) (all : AllByRecursion HasRoom bs) (good : AllByRecursion (IsNoBetter sli (want n) (Free m t)) bs).
      holes_or lost (sure sli (outside + 1)) bs (all_beside sli level (want n) lost (outside + 1) m t bs (le_trans wanted in_class) classed (omega (arith, rises)) four great all good) in
      let whole : h.blocks ≡ s.before ++ Free m t ∷ s.after = sym chosen.site ∙ ap (λ (b : Block). s.before ++ b ∷ s.after) block in
      let sum : words_in h.blocks ≡ words = is.0.lawful.whole ∙ is.0.words_are in
      let other : HasHole (sure sli (outside + 1)) s.before ⊎ HasHole (sure sli (outside + 1)) s.after → ⊥
      = λ has. omega (arith, is.1, sum, least_hole, other_hole k (sure sli (outside + 1)) m t s.before s.after great has, ap words_in whole, ap (λ (bs : List Block). reserve k bs 0) whole) in
      let left : AllByRecursion (IsHole lost) s.before = elim (place s.before rooms.0 best.0) [ inl all ↦ all | inr some ↦ absurd (other (inl some)) ] in
      let right : AllByRecursion (IsHole lost) s.after = elim (place s.after rooms.2 best.2) [ inl all ↦ all | inr some ↦ absurd (other (inr some)) ] in
      let free = free_beside m t s.before s.after in
      let count : length (free_among s.before) + length (free_among s.after) ≤ count_in smalls
      = omega (arith, free.1, ap (λ (bs : List Block). length (free_among bs)) whole, few_free h.blocks is.0.lawful.apart, count_few h l n is.0.agrees fit) in
      let holes : (length (free_among s.before) + length (free_among s.after)) * lost ≤ count_in smalls * lost = mul-le-mul_right lost count in
      let has = has_kind kinds n (lengths l) fit in
      let asked = spend_rises n has.kind.len has.short in
      let live : words_in (live_among h.blocks) ≤ sum_of spend (lengths l) = omega (arith, live_spent h.blocks is.0.snug, is.0.agrees.totals spend) in
      let table = words_with_large smalls large few in
      let fits : want n + 4 ≤ m = omega (arith, great, least_hole, asked, has.left, table) in
      let size : size_of s.block ≡ m = ap size_of block in
      let new = (left_reserve h n s).2 (omega (arith, fits, size)) in
      omega (arith, new, size, fits, live, asked, has.left, table, holes, holes_sum lost s.before left, holes_sum lost s.after right, free.0, ap (λ (bs : List Block). words_in (free_among bs)) whole, words_apart h.blocks, sum)

  given : (h : HeapState) (l : Inventory) (n : ℕ) (s : Site) → InLarge h l → AreOfKinds kinds (n ∷ lengths l) → IsChosen sli (want n) h.blocks s → Keeps h n s
  given h l n s is fit chosen = on s.block refl
    where
      on : (b : Block) → s.block ≡ b → Keeps h n s
      on (Live m t xs) block = absurd (false≢true (sym (ap (is_fit sli (want n)) block) ∙ chosen.fit))
      on (Free m t) block = elim (cases_lt k n) [
        | inl long ↦ large_given h l n m t s is fit long block chosen.site
        | inr upto ↦ elim (cases_lt m (sure sli (outside + 1))) [
          | inl less ↦ elsewhere h l n m t s is less block chosen.site
          | inr great ↦ last_hole h l n m t s is fit upto great block chosen
        ]
      ]

  -- ---- what each call leaves

  reserve_kept : (h : HeapState) (l : Inventory) (call : Call) → InLarge h l → IsPlanned kinds l call → ResizesNone call → words ≤ reserve k (answered sli h call).1.blocks 0 + outside
  reserve_kept h l (Allocate n) is planned none = by_chosen sli (λ o. words ≤ reserve k o.heap.blocks 0 + outside) h n (λ why. is.1) (λ s chosen. given h l n s is planned chosen)
  reserve_kept h l (Release name) is planned none = by_released (λ o. words ≤ reserve k o.heap.blocks 0 + outside) h name (λ why. is.1)
      (λ s own site named. omega (arith, is.1, reserve_released k h.tick h s (live_named name.serial s.block (and_left _ _ named)) site))
  reserve_kept h l (Write name at bytes) is planned none = by_written (λ o. words ≤ reserve k o.heap.blocks 0 + outside) h name at bytes (λ why. is.1)
      (λ s site has. omega (arith, is.1, reserve_written k h s (overwritten (bytes_of s.block) at bytes) (length-overwritten (bytes_of s.block) bytes at (range_fits s.block at (length bytes) has)) site))
  reserve_kept h l (Resize name n) is planned none = absurd none
  reserve_kept h l (Read name at n) is planned none = is.1

  modest : (h : HeapState) (l : Inventory) (call : Call) → Agrees h l → IsPlanned kinds l call → ResizesNone call → IsModest (count_in kinds) large.len (live_count h) call
  modest h l (Allocate n) agrees planned none = (short_len n (lengths l) planned, omega (arith, count_is h l agrees, counted_in kinds (n ∷ lengths l) planned))
  modest h l (Release name) agrees planned none = tt
  modest h l (Write name at bytes) agrees planned none = tt
  modest h l (Resize name n) agrees planned none = absurd none
  modest h l (Read name at n) agrees planned none = tt

  kept : (h : HeapState) (l : Inventory) (call : Call) → InLarge h l → IsPlanned kinds l call → ResizesNone call → InLarge (answered sli h call).1 (inventory_after l call (answered sli h call).0)
  kept h l call is planned none = (
    record {
      lawful = lawful_run sli level h (call ∷ []) is.0.lawful;
      words_are = words_kept sli h call ∙ is.0.words_are;
      snug = snug_kept sli h call is.0.snug;
      small = small_kept sli (count_in kinds) large.len h call is.0.small (modest h l call is.0.agrees planned none);
      agrees = agrees_call sli h call l is.0.agrees is.0.lawful;
    },
    reserve_kept h l call is planned none,
  )

  not_refused : (h : HeapState) (l : Inventory) (call : Call) → InLarge h l → IsPlanned kinds l call → HasRoomFor (answered sli h call).0
  not_refused h l call is planned = requests_alone (IsPlanned kinds l) sli h call planned (λ n asked. has_room h l n is (short_len n (lengths l) asked))

  none_refused : (h : HeapState) (l : Inventory) (calls : List Call) → InLarge h l → AllByRecursion ResizesNone calls → ArePlanned kinds l calls (run sli h calls).0 → AllByRecursion HasRoomFor (run sli h calls).0
  none_refused h l [] is none planned = tt
  none_refused h l (call ∷ calls) is none planned =
      (not_refused h l call is planned.0, none_refused (answered sli h call).1 (inventory_after l call (answered sli h call).0) calls (kept h l call is planned.0 none.0) none.1 planned.1)

pub one_large_suffices : (sli : ℕ) (level : IsLevel sli) → OneLargeSuffices sli
one_large_suffices sli level id words first smalls large calls region class few longer enough none planned =
    none_refused sli level words smalls large few longer region.1 class enough (opened id words first) [] calls
    (record { lawful = opened_lawful id words first region.0; words_are = refl; snug = (tt, tt); small = ((λ f. absurd (false≢true (sym f))), tt); agrees = new_agrees id words first }, omega arith) none planned
