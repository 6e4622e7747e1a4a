-- How many lengths count for each row of a table. The order of the lengths doesn't matter, so all goes by sums over them.
use Rattle.tlsf_pool.proofs.Common.{◌≡◌, ℕ, zero, suc, ◌+◌, ◌<◌, ◌≤◌, Bool, true, false, not, cond, List, [], ◌∷◌, length, filter, replicate, get_or, set, nat_le, nat_lt, Option, Some, None, refl, sym, ap, ap₂, ◌∙◌, subst, inl, inr, arith, zero-add, position_or_len, sum, nat_tests, sum_by-cons, lt-ltb, AreOfKinds, Kind, held_of, row_of}
use Rattle.tlsf_pool.proofs.lemmas.laws.Held.{one}
use Rattle.tlsf_pool.proofs.lemmas.laws.Inventories.{sum_of, sum_one}
use Rattle.tlsf_pool.proofs.lemmas.laws.Tables.{Add, parted, short, long, split}

-- ---- by sums

-- lengths that are the same but for their order
abbrev pub SameTotals : List ℕ → List ℕ → Type 0
SameTotals xs ys = (f : ℕ → ℕ) → sum_of f xs ≡ sum_of f ys

filtered_sum : (f : ℕ → ℕ) (p : ℕ → Bool) (xs : List ℕ) → sum_of f (filter p xs) ≡ sum_of (λ n. cond (p n) (f n) 0) xs
filtered_sum f p [] = refl
filtered_sum f p (n ∷ xs) = at (p n) (filtered_sum f p xs)
  where
    at : (c : Bool) → sum_of f (filter p xs) ≡ sum_of (λ n. cond (p n) (f n) 0) xs → sum_of f (cond c (n ∷ filter p xs) (filter p xs)) ≡ cond c (f n) 0 + sum_of (λ n. cond (p n) (f n) 0) xs
    at true e = ap (λ (m : ℕ). f n + m) e
    at false e = e ∙ sym (zero-add _)

same_filtered : (p : ℕ → Bool) (xs ys : List ℕ) → SameTotals xs ys → SameTotals (filter p xs) (filter p ys)
same_filtered p xs ys same f = filtered_sum f p xs ∙ same (λ n. cond (p n) (f n) 0) ∙ sym (filtered_sum f p ys)

pub same_length : (xs ys : List ℕ) → SameTotals xs ys → length xs ≡ length ys
same_length xs ys same = sym (sum_one xs) ∙ same one ∙ sum_one ys

none_of_none : (ys : List ℕ) → length ys ≡ 0 → ys ≡ []
none_of_none [] none = refl
none_of_none (y ∷ ys) none = absurd (omega (arith, none))

pub same_held : (kinds : List Kind) (xs ys : List ℕ) → SameTotals xs ys → held_of kinds xs ≡ held_of kinds ys
same_held [] xs ys same = refl
same_held (k ∷ kinds) xs ys same =
    ap₂ (λ (n : ℕ) (rest : List ℕ). n ∷ rest) (same_length (short k.len xs) (short k.len ys) (same_filtered (λ n. nat_le n k.len) xs ys same))
    (same_held kinds (long k.len xs) (long k.len ys) (same_filtered (λ n. nat_lt k.len n) xs ys same))

pub same_fit : (kinds : List Kind) (xs ys : List ℕ) → SameTotals xs ys → AreOfKinds kinds xs → AreOfKinds kinds ys
same_fit [] xs ys same fit = none_of_none ys (sym (same_length xs ys same) ∙ ap length fit)
same_fit (k ∷ kinds) xs ys same fit = (
  subst (λ (n : ℕ). n ≤ k.most) (same_length (short k.len xs) (short k.len ys) (same_filtered (λ n. nat_le n k.len) xs ys same)) fit.0,
  same_fit kinds (long k.len xs) (long k.len ys) (same_filtered (λ n. nat_lt k.len n) xs ys same) fit.1,
)

-- ---- one length more

-- the first row that is long enough, or the number of rows
abbrev pub place : List Kind → ℕ → ℕ
place kinds n = position_or_len (λ kind. nat_le n kind.len) kinds

one_and : (p : ℕ) → 1 + p ≡ suc p
one_and p = omega arith

module _ (k : Kind) (kinds : List Kind) (n : ℕ) (lens : List ℕ) where
  -- by the tests of the first row
  by_row : (G : Bool → Bool → Type 0) → G true false → G false true → G (nat_le n k.len) (nat_lt k.len n)
  by_row G here later = elim (parted k.len n) [
    | inl s ↦ subst (λ (c : Bool). G c (nat_lt k.len n)) (sym s.1) (subst (λ (d : Bool). G true d) (sym s.2) here)
    | inr s ↦ subst (λ (c : Bool). G c (nat_lt k.len n)) (sym s.1) (subst (λ (d : Bool). G false d) (sym s.2) later)
  ]

abbrev at_place : Bool → ℕ → ℕ
at_place c p = cond (not c) (1 + p) 0

-- one more counts for its row
pub held_more : (kinds : List Kind) (n : ℕ) (lens : List ℕ) → held_of kinds (n ∷ lens) ≡ set (held_of kinds lens) (place kinds n) (get_or (held_of kinds lens) (place kinds n) 0 + 1)
held_more [] n lens = refl
held_more (k ∷ kinds) n lens = by_row k kinds n lens
    (λ c d. let all = length (short k.len lens) ∷ held_of kinds (long k.len lens) in
    length (Add c n (short k.len lens)) ∷ held_of kinds (Add d n (long k.len lens)) ≡ set all (at_place c (place kinds n)) (get_or all (at_place c (place kinds n)) 0 + 1))
    (ap (λ (m : ℕ). m ∷ held_of kinds (long k.len lens)) (omega arith))
    (subst (λ (p : ℕ). let all = length (short k.len lens) ∷ held_of kinds (long k.len lens) in length (short k.len lens) ∷ held_of kinds (n ∷ long k.len lens) ≡ set all p (get_or all p 0 + 1)) (sym (one_and (place kinds n)))
    (ap (λ (rest : List ℕ). length (short k.len lens) ∷ rest) (held_more kinds n (long k.len lens))))

abbrev pub none : Kind
none = record { most = 0; len = 0 }

-- a row has room for one more
abbrev pub HasOneMore : List Kind → List ℕ → ℕ → Type 0
HasOneMore kinds held row = (row < length kinds) × (get_or held row 0 < (get_or kinds row none).most)

less_than : (a b : ℕ) → a < b → suc a ≤ b
less_than a b h = omega (arith, h)

pub next_row : (a b : ℕ) → a < b → suc a < suc b
next_row a b h = omega (arith, h)

pub this_row : (a b : ℕ) → suc a < suc b → a < b
this_row a b h = omega (arith, h)

pub fit_more : (kinds : List Kind) (n : ℕ) (lens : List ℕ) → AreOfKinds kinds lens → HasOneMore kinds (held_of kinds lens) (place kinds n) → AreOfKinds kinds (n ∷ lens)
fit_more [] n lens fit has = absurd (omega (arith, has.0))
fit_more (k ∷ kinds) n lens fit has = by_row k kinds n lens
    (λ c d. HasOneMore (k ∷ kinds) (length (short k.len lens) ∷ held_of kinds (long k.len lens)) (at_place c (place kinds n))
    → (length (Add c n (short k.len lens)) ≤ k.most) × AreOfKinds kinds (Add d n (long k.len lens)))
    (λ has. (less_than _ _ has.1, fit.1))
    (λ has. let next = subst (HasOneMore (k ∷ kinds) (length (short k.len lens) ∷ held_of kinds (long k.len lens))) (one_and (place kinds n)) has in
    (fit.0, fit_more kinds n (long k.len lens) fit.1 (this_row _ _ next.0, next.1)))
    has

pub fit_less : (kinds : List Kind) (n : ℕ) (lens : List ℕ) → AreOfKinds kinds (n ∷ lens) → AreOfKinds kinds lens × HasOneMore kinds (held_of kinds lens) (place kinds n)
fit_less [] n lens fit = absurd cc
fit_less (k ∷ kinds) n lens fit = by_row k kinds n lens
    (λ c d. (length (Add c n (short k.len lens)) ≤ k.most) × AreOfKinds kinds (Add d n (long k.len lens))
    → AreOfKinds (k ∷ kinds) lens × HasOneMore (k ∷ kinds) (length (short k.len lens) ∷ held_of kinds (long k.len lens)) (at_place c (place kinds n)))
    (λ fit. ((omega (arith, fit.0), fit.1), (omega arith, omega (arith, fit.0))))
    (λ fit.
    let rest = fit_less kinds n (long k.len lens) fit.1 in
    ((fit.0, rest.0), subst (HasOneMore (k ∷ kinds) (length (short k.len lens) ∷ held_of kinds (long k.len lens))) (sym (one_and (place kinds n))) (next_row _ _ rest.1.0, rest.1.1)))
    fit

-- no more are held of a row than may be
pub held_few : (kinds : List Kind) (lens : List ℕ) → AreOfKinds kinds lens → (row : ℕ) → get_or (held_of kinds lens) row 0 ≤ (get_or kinds row none).most
held_few [] lens fit row = omega arith
held_few (k ∷ kinds) lens fit zero = fit.0
held_few (k ∷ kinds) lens fit (suc row) = held_few kinds (long k.len lens) fit.1 row

pub held_length : (kinds : List Kind) (lens : List ℕ) → length (held_of kinds lens) ≡ length kinds
held_length [] lens = refl
held_length (k ∷ kinds) lens = ap suc (held_length kinds (long k.len lens))

-- each length counts for one row
pub held_sum : (kinds : List Kind) (lens : List ℕ) → AreOfKinds kinds lens → sum (held_of kinds lens) ≡ length lens
held_sum [] lens fit = sym (ap length fit)
held_sum (k ∷ kinds) lens fit =
    sum_by-cons (λ x. x) (length (short k.len lens)) (held_of kinds (long k.len lens))
    ∙ ap (λ (m : ℕ). length (short k.len lens) + m) (held_sum kinds (long k.len lens) fit.1)
    ∙ sym (sym (sum_one lens) ∙ split one k.len lens ∙ ap₂ (λ (a b : ℕ). a + b) (sum_one (short k.len lens)) (sum_one (long k.len lens)))

-- nothing is held of no lengths
pub held_none : (kinds : List Kind) → held_of kinds [] ≡ replicate (length kinds) 0
held_none [] = refl
held_none (k ∷ kinds) = ap (λ (rest : List ℕ). 0 ∷ rest) (held_none kinds)

pub fit_none : (kinds : List Kind) → AreOfKinds kinds []
fit_none [] = refl
fit_none (k ∷ kinds) = (omega arith, fit_none kinds)

-- ---- the row of a length

pub row_is : (kinds : List Kind) (n row : ℕ) → row_of kinds n ≡ Some row → (row ≡ place kinds n) × (row < length kinds)
row_is kinds n row e = at (nat_lt (place kinds n) (length kinds)) refl e
  where
    at : (c : Bool) → nat_lt (place kinds n) (length kinds) ≡ c → cond c (Some (place kinds n)) None ≡ Some row → (row ≡ place kinds n) × (row < length kinds)
    at true is e = let same : row ≡ place kinds n = cc in let within : place kinds n < length kinds = grind (arith, nat_tests) in (same, omega (arith, same, within))
    at false is e = absurd cc

pub row_within : (kinds : List Kind) (n : ℕ) → place kinds n < length kinds → row_of kinds n ≡ Some (place kinds n)
row_within kinds n within = ap (λ (c : Bool). cond {A = Option ℕ} c (Some (place kinds n)) None) (lt-ltb _ _ within)
