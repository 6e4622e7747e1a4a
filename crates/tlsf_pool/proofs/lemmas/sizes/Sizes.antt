-- Sizes of regions by sums, and how large they get.
use Rattle.tlsf_pool.proofs.Common.{◌≡◌, ℕ, zero, suc, ◌+◌, ◌*◌, ◌^◌, ◌<◌, ◌≤◌, Bool, true, false, cond, fold, map, max, ap, List, [], ◌∷◌, length, get_or, refl, arith, le_trans, AllByRecursion, mul-le-mul, IsLevel, most_words, low, classes, search_of, want, sure, are_fours, count_in, kinds_words, resized_words, HasClass, longest_of, Kind}
use Rattle.tlsf_class.proofs.TwoLevels.{by_level}
use Rattle.tlsf_pool.proofs.lemmas.laws.FreeRoom.{sure_rises}
use Rattle.tlsf_pool.specs.sizes.Limits.{most_kinds}

last_4 : sure 4 (2 ^ 20) ≡ 2 ^ 20
unfolding low classes search_of
last_4 = refl

last_5 : sure 5 (2 ^ 24) ≡ 2 ^ 24
unfolding low classes search_of
last_5 = refl

last_sure : (sli : ℕ) → IsLevel sli → sure sli (most_words sli) ≡ most_words sli
last_sure = by_level (λ sli. sure sli (most_words sli) ≡ most_words sli) last_4 last_5

same : (a : ℕ) → a ≤ a
same a = omega arith

pub sure_most : (sli : ℕ) → IsLevel sli → (n : ℕ) → n ≤ most_words sli → sure sli n ≤ most_words sli
sure_most sli level n region = omega (arith, sure_rises sli level n (most_words sli) region (same (most_words sli)), last_sure sli level)

pub class_at : (sli : ℕ) (kinds : List Kind) (i : ℕ) (kind : Kind) → AllByRecursion (HasClass sli) kinds → i < length kinds → HasClass sli (get_or kinds i kind)
class_at sli [] i kind all within = absurd (omega (arith, within))
class_at sli (k ∷ kinds) zero kind all within = all.0
class_at sli (k ∷ kinds) (suc i) kind all within = class_at sli kinds i kind all.1 (omega arith)

pub products : (a b c d : ℕ) → a ≤ b → c ≤ d → a * c ≤ b * d
products a b c d f g = mul-le-mul f g

-- the words of one kind, at most
abbrev pub kind_limit : ℕ → ℕ
kind_limit sli = 2 ^ 32 * (most_words sli + 3)

pub kind_small : (sli most wanted : ℕ) → most < 2 ^ 32 → wanted ≤ most_words sli → most * (wanted + 3) ≤ kind_limit sli
kind_small sli most wanted few region = products most (2 ^ 32) (wanted + 3) (most_words sli + 3) (omega arith) (omega (arith, region))

-- those of one kind more
one_more : (a b i k : ℕ) → a ≤ i * k → b ≤ k → a + b ≤ (i + 1) * k
one_more a b i k f g = omega (arith, f, g)

-- how many kinds a table may have, and their words
pub few_kinds : (sli : ℕ) → IsLevel sli → (1 ≤ most_kinds sli) × (most_kinds sli ≤ 1024)
few_kinds = by_level (λ sli. (1 ≤ most_kinds sli) × (most_kinds sli ≤ 1024)) (omega arith, omega arith) (omega arith, omega arith)

pub all_kinds : (sli : ℕ) → IsLevel sli → (n : ℕ) → n ≤ most_kinds sli → n * kind_limit sli ≤ 2 ^ 63
all_kinds = by_level (λ sli. (n : ℕ) → n ≤ most_kinds sli → n * kind_limit sli ≤ 2 ^ 63) (λ n few. omega arith) (λ n few. omega arith)

pub more_words : (sli a b i : ℕ) → a ≤ i * kind_limit sli → b ≤ kind_limit sli → a + b ≤ (i + 1) * kind_limit sli
more_words sli a b i f g = one_more a b i (kind_limit sli) f g

pub words_small : (sli : ℕ) → IsLevel sli → (a i : ℕ) → a ≤ i * kind_limit sli → i ≤ most_kinds sli → a ≤ 2 ^ 63
words_small sli level a i f few = le_trans f (all_kinds sli level i few)

-- what is lost beside the blocks that are held
lost_limit : (sli : ℕ) → IsLevel sli → most_kinds sli * 2 ^ 32 * most_words sli ≤ 2 ^ 62
lost_limit = by_level (λ sli. most_kinds sli * 2 ^ 32 * most_words sli ≤ 2 ^ 62) (omega arith) (omega arith)

pub lost_small : (sli : ℕ) → IsLevel sli → (count lost : ℕ) → count ≤ most_kinds sli * 2 ^ 32 → lost ≤ most_words sli → count * lost ≤ 2 ^ 62
lost_small sli level count lost f g = le_trans (products count (most_kinds sli * 2 ^ 32) lost (most_words sli) f g) (lost_limit sli level)

-- the words of a table by its cases
pub kinds_of_fours : (sli : ℕ) (kinds : List Kind) → are_fours kinds ≡ true → kinds_words sli kinds ≡ max 4 (count_in kinds * 4)
kinds_of_fours sli kinds is = ap (λ (c : Bool). cond c (max 4 (count_in kinds * 4)) (resized_words sli kinds)) is

pub kinds_of_more : (sli : ℕ) (kinds : List Kind) → are_fours kinds ≡ false → kinds_words sli kinds ≡ resized_words sli kinds
kinds_of_more sli kinds is = ap (λ (c : Bool). cond c (max 4 (count_in kinds * 4)) (resized_words sli kinds)) is

-- the largest region has words
pub some_words : (sli : ℕ) → IsLevel sli → 4 ≤ most_words sli
some_words = by_level (λ sli. 4 ≤ most_words sli) (omega arith) (omega arith)

-- the longest request of a table has a class
pub longest_class : (sli : ℕ) → IsLevel sli → (kinds : List Kind) → AllByRecursion (HasClass sli) kinds → want (longest_of kinds) ≤ most_words sli
longest_class sli level kinds all = at 0 kinds (omega (arith, some_words sli level)) all
  where
    at : (best : ℕ) (kinds : List Kind) → want best ≤ most_words sli → AllByRecursion (HasClass sli) kinds → want (fold max best (map (λ kind. kind.len) kinds)) ≤ most_words sli
    at best [] class all = class
    at best (kind ∷ kinds) class all = at (max best kind.len) kinds (omega (arith, class, all.0)) all.1
