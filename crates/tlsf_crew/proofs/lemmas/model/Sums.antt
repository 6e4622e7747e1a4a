-- The sum of two sums, the bound of a sum by its greatest part, and the sum over more numbers.
use Rattle.tlsf_crew.proofs.Common.{suc, zero, ◌≡◌, ℕ, ◌+◌, ◌*◌, ◌<◌, ◌≤◌, arith, refl, inl, inr, ◌≢◌, List, length, sym, ap, cases_eq, sum_below, lanes_sum, Post, edited}
use Rattle.tlsf_crew.proofs.lemmas.model.Edits.{edited_same, edited_other}

pub same_sum : (n : ℕ) (f g : ℕ → ℕ) → ((x : ℕ) → x < n → g x ≡ f x) → sum_below n g ≡ sum_below n f
same_sum zero f g e = refl
same_sum (suc k) f g e =
    let a = same_sum k f g (λ x lt. e x (omega arith)) in
    let b = e k (omega arith) in
    omega arith

pub changed_sum : (n : ℕ) (f g : ℕ → ℕ) (i : ℕ) → i < n → ((x : ℕ) → x ≢ i → g x ≡ f x) → sum_below n g + f i ≡ sum_below n f + g i
changed_sum zero f g i lt e = absurd (omega arith)
changed_sum (suc k) f g i lt e =
    elim (cases_eq i k) [
      | inl q ↦
          let a = same_sum k f g (λ x l. e x (let ne : x ≢ i = omega arith in ne)) in
          let b = ap f q in
          let d = ap g q in
          omega arith
      | inr q ↦
          let lt2 : i < k = omega arith in
          let ne : k ≢ i = λ h. q (sym h) in
          let a = changed_sum k f g i lt2 e in
          let b = e k ne in
          omega arith
    ]

-- none of the numbers is less
pub least_sum : (n : ℕ) (f g : ℕ → ℕ) → ((x : ℕ) → x < n → f x ≤ g x) → sum_below n f ≤ sum_below n g
least_sum zero f g le = omega arith
least_sum (suc k) f g le =
    let a = least_sum k f g (λ x lt. le x (omega arith)) in
    let b = le k (omega arith) in
    omega arith

-- other posts in one lane
pub edited_sum : (n : ℕ) (f : ℕ → ℕ → List Post) (i j : ℕ) (ps : List Post) → i < n → j < n
    → lanes_sum n (λ x y. length (edited f i j ps x y)) + length (f i j) ≡ lanes_sum n (λ x y. length (f x y)) + length ps
edited_sum n f i j ps i_in j_in =
    let one = changed_sum n (λ x. length (f x j)) (λ x. length (edited f i j ps x j)) i i_in (λ x ne. ap length (edited_other f i j x j ps (λ a _. ne a))) in
    let all = changed_sum n (λ y. sum_below n (λ x. length (f x y))) (λ y. sum_below n (λ x. length (edited f i j ps x y))) j j_in
    (λ y ne. same_sum n (λ x. length (f x y)) (λ x. length (edited f i j ps x y)) (λ x _. ap length (edited_other f i j x y ps (λ _ b. ne b)))) in
    let same = ap length (edited_same f i j ps) in
    omega arith

pub sum_both : (n : ℕ) (f g : ℕ → ℕ) → sum_below n (λ i. f i + g i) ≡ sum_below n f + sum_below n g
sum_both zero f g = refl
sum_both (suc k) f g = let a = sum_both k f g in omega arith

pub sum_most : (n m : ℕ) (f : ℕ → ℕ) → ((i : ℕ) → i < n → f i ≤ m) → sum_below n f ≤ n * m
sum_most zero m f le = omega arith
sum_most (suc k) m f le =
    let a = sum_most k m f (λ i lt. le i (omega arith)) in
    let b = le k (omega arith) in
    grind arith

pub sum_longer : (n k : ℕ) (f : ℕ → ℕ) → n ≤ k → sum_below n f ≤ sum_below k f
sum_longer n zero f le = let z : n ≡ 0 = omega arith in rw z (omega arith)
sum_longer n (suc k) f le = elim (cases_eq n (suc k)) [
  | inl e ↦ rw e (omega arith)
  | inr ne ↦ let a = sum_longer n k f (omega arith) in omega arith
]
