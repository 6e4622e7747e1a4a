-- The least sizes rise strictly from class to class.
use Rattle.tlsf_class.proofs.Common.{◌≡◌, ℕ, zero, suc, ◌+◌, ◌-◌, ◌<◌, ◌≤◌, true, nat_lt, refl, inl, inr, arith, add-zero, ltb-true, agree_below, agree_below_at, cases_eq, IsLevel, last_class, most_words, low}
use Rattle.tlsf_class.proofs.TwoLevels.{by_level}

-- from a class to the next, where a table says so
next_by : (sli most c : ℕ) → agree_below (λ c. nat_lt (low sli c) (low sli (suc c))) (λ c. true) most ≡ true → c < most → low sli c < low sli (c + 1)
next_by sli most c rises h =
    let t : nat_lt (low sli c) (low sli (suc c)) ≡ true = agree_below_at (λ k. nat_lt (low sli k) (low sli (suc k))) (λ _. true) most c rises h in
    let e : suc c ≡ c + 1 = omega arith in
    rw (← e) (ltb-true (low sli c) (low sli (suc c)) t)

-- from a class to the next, by a table for each level
pub low-next : (sli : ℕ) → IsLevel sli → (c : ℕ) → c ≤ last_class sli → low sli c < low sli (c + 1)
unfolding low
low-next = by_level (λ sli. (c : ℕ) → c ≤ last_class sli → low sli c < low sli (c + 1)) (λ c h. next_by 4 273 c refl (omega arith)) (λ c h. next_by 5 641 c refl (omega arith))

-- over k + 1 classes
from_below : (sli : ℕ) → IsLevel sli → (c k : ℕ) → c + k ≤ last_class sli → low sli c < low sli (c + k + 1)
from_below sli level c zero h = rw add-zero (low-next sli level c (omega arith))
from_below sli level c (suc k) h =
    let a = from_below sli level c k (omega arith) in
    let b = low-next sli level (c + k + 1) (omega arith) in
    let e : c + suc k + 1 ≡ c + k + 1 + 1 = omega arith in
    rw e (omega arith)

-- a class of a greater number has a greater least size
pub low-rises : (sli : ℕ) → IsLevel sli → (c d : ℕ) → c < d → d ≤ last_class sli + 1 → low sli c < low sli d
low-rises sli level c d h g =
    let e : c + (d - c - 1) + 1 ≡ d = omega arith in
    rw e at (from_below sli level c (d - c - 1) (omega arith))

-- a class of no lower number has no lower least size
pub low-rises_or_same : (sli : ℕ) → IsLevel sli → (c d : ℕ) → c ≤ d → d ≤ last_class sli + 1 → low sli c ≤ low sli d
low-rises_or_same sli level c d h g = elim (cases_eq c d) [ inl e ↦ rw e (omega arith) | inr n ↦ omega (arith, low-rises sli level c d (omega arith) g) ]

-- the first class begins at 4 words
pub low-first : (sli : ℕ) → IsLevel sli → low sli 4 ≡ 4
unfolding low
low-first = by_level (λ sli. low sli 4 ≡ 4) refl refl

-- and the last at as many as the largest region has
pub low-last : (sli : ℕ) → IsLevel sli → low sli (last_class sli) ≡ most_words sli
unfolding low
low-last = by_level (λ sli. low sli (last_class sli) ≡ most_words sli) refl refl

-- no least size is above that
pub low-most : (sli : ℕ) → IsLevel sli → (c : ℕ) → c ≤ last_class sli → low sli c ≤ most_words sli
low-most sli level c h = omega (arith, low-last sli level, low-rises_or_same sli level c (last_class sli) h (omega arith))
