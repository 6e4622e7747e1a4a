-- The words for blocks of a fixed size are never more than those for mixed sizes, nor than those of a table.
use Rattle.tlsf_pool.proofs.Common.{◌≡◌, ℕ, zero, suc, ◌+◌, ◌-◌, ◌*◌, ◌<◌, ◌≤◌, ◌&&◌, Bool, true, false, cond, nat_le, nat_lt, List, [], ◌∷◌, map, fold, max, refl, sym, ap, ◌∙◌, subst, inl, inr, arith, le_trans, AllByRecursion, list_all, cases_lt, false≢true, leb-true, le-leb, nat_tests, IsLevel, most_words, low, classes, search_of, want, Kind, sure, are_fours, count_in, resized_words, table_words, used, words_with, HasClass, longest_of, fixed_words, FewerThanMixedSizes, FewerThanATable, HundredOfFixedSize}
use Rattle.tlsf_heap.proofs.lemmas.blocks.Find.{and_left, and_right}
use Rattle.tlsf_pool.proofs.lemmas.laws.FixedSize.{sure_four}
use Rattle.tlsf_pool.proofs.lemmas.laws.FreeRoom.{sure_enough}
use Rattle.tlsf_pool.proofs.lemmas.laws.ModestCalls.{mixed_of_fours, mixed_of_more}
use Rattle.tlsf_pool.proofs.lemmas.laws.Tables.{IsOf, all_used, best_least, count_used, most_of, of_all, table_used}

pub hundred_fixed : HundredOfFixedSize
unfolding low classes search_of
hundred_fixed = refl

-- up to 8 bytes want four words
short_sure : (sli : ℕ) → IsLevel sli → (len : ℕ) → len ≤ 8 → sure sli (want len) ≡ 4
short_sure sli level len short = let wanted : want len ≡ 4 = omega (arith, short) in rw wanted (sure_four sli level)

-- ---- mixed sizes

-- each block but the one asked for takes more than the word that its hole lacks
mixed_more : (most w t : ℕ) → most * (t + 1) ≤ (most - 1) * (w + 3) + most * t + 1
mixed_more zero w t = omega arith
mixed_more (suc m) w t = let less : suc m - 1 ≡ m = omega arith in rw less (omega arith)

pub fewer_mixed : (sli : ℕ) (level : IsLevel sli) → FewerThanMixedSizes sli
fewer_mixed sli level most len region = elim (cases_lt 8 len) [
  | inl more ↦
      let s : ℕ = sure sli (want len) in
      let same : s ≡ s - 1 + 1 = omega (arith, sure_enough sli level (want len) region) in
      let words : most * s ≤ (most - 1) * (want len + 3) + most * (s - 1) + 1 = subst (λ (k : ℕ). most * k ≤ (most - 1) * (want len + 3) + most * (s - 1) + 1) (sym same) (mixed_more most (want len) (s - 1)) in
      omega (arith, words, mixed_of_more sli most len more)
  | inr short ↦ let four : fixed_words sli most len ≡ max 4 (most * 4) = ap (λ (k : ℕ). max 4 (most * k)) (short_sure sli level len short) in omega (arith, four, mixed_of_fours sli most len short)
]

-- ---- the longest kind of a table

longest_short : (best : ℕ) (kinds : List Kind) → best ≤ 8 → list_all (λ kind. nat_le kind.len 8) kinds ≡ true → fold max best (map (λ kind. kind.len) kinds) ≤ 8
longest_short best [] short all = short
longest_short best (k ∷ kinds) short all = let own = leb-true k.len 8 (and_left _ _ all) in longest_short (max best k.len) kinds (omega (arith, short, own)) (and_right _ _ all)

-- it is one of the kinds, where it is longer than what the search begins with
longest_is : (best : ℕ) (kinds : List Kind) → best < fold max best (map (λ kind. kind.len) kinds) → (kind : Kind) × IsOf kind kinds × (kind.len ≡ fold max best (map (λ kind. kind.len) kinds))
longest_is best [] more = absurd (omega (arith, more))
longest_is best (k ∷ kinds) more = elim (cases_lt (max best k.len) (fold max (max best k.len) (map (λ kind. kind.len) kinds))) [
  | inl later ↦ let rest = longest_is (max best k.len) kinds later in (rest.0, inr rest.1, rest.2)
  | inr here ↦ (k, inl refl, omega (arith, more, here, best_least (max best k.len) (map (λ kind. kind.len) kinds)))
]

-- a table of short kinds alone is one of fours
short_fours : (best : ℕ) (kinds : List Kind) → fold max best (map (λ kind. kind.len) kinds) ≤ 8 → list_all (λ kind. nat_le kind.len 8) kinds ≡ true
short_fours best [] short = refl
short_fours best (k ∷ kinds) short =
    let own : nat_le k.len 8 ≡ true = le-leb k.len 8 (le_trans (le_trans (top best k.len) (best_least (max best k.len) (map (λ kind. kind.len) kinds))) short) in
    ap (λ (b : Bool). b && list_all (λ kind. nat_le kind.len 8) kinds) own ∙ short_fours (max best k.len) kinds short
  where
    top : (a b : ℕ) → b ≤ max a b
    top a b = omega arith

some_used : (kinds : List Kind) → AllByRecursion (λ kind. 0 < kind.most) (used kinds)
some_used [] = tt
some_used (k ∷ kinds) = at (nat_lt 0 k.most) refl (some_used kinds)
  where
    at : (c : Bool) → nat_lt 0 k.most ≡ c → AllByRecursion (λ kind. 0 < kind.most) (used kinds) → AllByRecursion (λ kind. 0 < kind.most) (cond c (k ∷ used kinds) (used kinds))
    at true is rest = (grind (arith, nat_tests), rest)
    at false is rest = rest

-- each block of a table takes a word at least
counted : (kinds : List Kind) → count_in kinds ≤ table_words kinds
counted [] = omega arith
counted (k ∷ kinds) = let rest = counted kinds in omega (arith, rest)

-- also beside one block of a kind that is held
counted_beside : (kinds : List Kind) (kind : Kind) → IsOf kind kinds → 0 < kind.most → count_in kinds + (want kind.len + 3) ≤ table_words kinds + 1
counted_beside [] kind of some = absurd of
counted_beside (k ∷ kinds) kind of some = elim of [
  | inl same ↦ subst (λ (it : Kind). k.most + count_in kinds + (want it.len + 3) ≤ k.most * (want k.len + 3) + table_words kinds + 1) same
      (own k.most (want k.len) (count_in kinds) (table_words kinds) (subst (λ (it : Kind). 0 < it.most) (sym same) some) (counted kinds))
  | inr later ↦ let rest = counted_beside kinds kind later some in omega (arith, rest)
]
  where
    own : (most w count table : ℕ) → 0 < most → count ≤ table → most + count + (w + 3) ≤ most * (w + 3) + table + 1
    own zero w count table some few = absurd (omega (arith, some))
    own (suc m) w count table some few = omega (arith, few)

-- ---- a table

table_more : (count s table own : ℕ) → 0 < s → count + own ≤ table + 1 → count * s ≤ table - own + count * (s - 1) + 1
table_more count zero table own some few = absurd (omega (arith, some))
table_more count (suc t) table own some few = let less : suc t - 1 ≡ t = omega arith in rw less (omega (arith, few))

pub fewer_table : (sli : ℕ) (level : IsLevel sli) → FewerThanATable sli
fewer_table sli level kinds all = at (are_fours kinds) refl
  where
    longest : ℕ
    longest = longest_of (used kinds)

    by_longest : 8 < longest → fixed_words sli (count_in kinds) longest ≤ resized_words sli kinds
    by_longest more =
        let is = longest_is 0 (used kinds) (omega (arith, more)) in
        let class : want is.0.len ≤ most_words sli = of_all (HasClass sli) (used kinds) is.0 is.1 (all_used (HasClass sli) kinds all) in
        let some : 0 < is.0.most = of_all (λ kind. 0 < kind.most) (used kinds) is.0 is.1 (some_used kinds) in
        let beside = counted_beside (used kinds) is.0 is.1 some in
        let words : count_in kinds * sure sli (want is.0.len) ≤ words_with sli kinds is.0 =
        table_more (count_in kinds) (sure sli (want is.0.len)) (table_words kinds) (want is.0.len + 3) (omega (arith, sure_enough sli level (want is.0.len) class)) (omega (arith, beside, table_used kinds, count_used kinds)) in
        let own : fixed_words sli (count_in kinds) is.0.len ≤ resized_words sli kinds =
        at_least _ _ (le_trans words (most_of (words_with sli kinds) (used kinds) 4 is.0 is.1)) (best_least 4 (map (words_with sli kinds) (used kinds))) in
        subst (λ (n : ℕ). fixed_words sli (count_in kinds) n ≤ resized_words sli kinds) is.2 own
      where
        at_least : (a b : ℕ) → a ≤ b → 4 ≤ b → max 4 a ≤ b
        at_least a b f g = omega (arith, f, g)

    at : (c : Bool) → are_fours kinds ≡ c → fixed_words sli (count_in kinds) longest ≤ cond c (max 4 (count_in kinds * 4)) (resized_words sli kinds)
    at true is = let four : sure sli (want longest) ≡ 4 = short_sure sli level longest (longest_short 0 (used kinds) (omega arith) is) in rw four (omega arith)
    at false is = elim (cases_lt 8 longest) [
      | inl more ↦ by_longest more
      | inr short ↦ absurd (false≢true (sym is ∙ short_fours 0 (used kinds) short))
    ]
