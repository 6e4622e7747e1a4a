-- In how many groups of eight words the words lie that stand in a row.
use Rattle.tlsf_heap.proofs.Common.{◌⊎◌, Contains, ◌≡◌, ◌≢◌, ℕ, zero, suc, ◌+◌, ◌-◌, ◌/◌, ◌<◌, ◌≤◌, List, [], ◌∷◌, ◌++◌, length, refl, sym, ap, subst, inl, inr, arith, cases_lt, length-append, Contains-append_left, Contains-append_right, times, InGroups, groups_of}

-- this many numbers from one on
numbers : ℕ → ℕ → List ℕ
numbers g zero = []
numbers g (suc n) = g ∷ numbers (suc g) n

length-numbers : (g n : ℕ) → length (numbers g n) ≡ n
unfolding numbers
length-numbers g zero = refl
length-numbers g (suc n) = ap suc (length-numbers (suc g) n)

has_number : (g n d : ℕ) → d < n → Contains (numbers g n) (g + d)
unfolding numbers
has_number g zero d low = absurd (omega (arith, low))
has_number g (suc n) zero low = let here : g ≡ g + 0 = omega arith in (0, omega (arith, length-numbers g (suc n)), here)
has_number g (suc n) (suc d) low =
    let next : suc g + d ≡ g + suc d = omega arith in
    subst (Contains (g ∷ numbers (suc g) n)) next (Contains-append_right (g ∷ []) (numbers (suc g) n) (suc g + d) (has_number (suc g) n d (omega (arith, low))))

-- the groups of n words from one on
abbrev row : ℕ → ℕ → List ℕ
row p n = numbers (p / 8) (groups_of n)

in_row : (p n k : ℕ) → p ≤ k → k < p + n → Contains (row p n) (k / 8)
in_row p n k low high =
    let there : p / 8 + (k / 8 - p / 8) ≡ k / 8 = omega (arith, low) in
    subst (Contains (row p n)) there (has_number (p / 8) (groups_of n) (k / 8 - p / 8) (omega (arith, low, high)))

-- a word of none of these is none of those
outside : (p n k : ℕ) → ¬ (Contains (row p n) (k / 8)) → (k < p) ⊎ (p + n ≤ k)
outside p n k out = elim (cases_lt k p) [
  | inl below ↦ inl below
  | inr from ↦ elim (cases_lt k (p + n)) [
    | inl within ↦ absurd (out (in_row p n k from within))
    | inr behind ↦ inr behind
  ]
]

-- where no word is touched but of one row
pub one_row : (p n : ℕ) {old new : List ℕ} → ((k : ℕ) → k < p → times new k ≡ times old k) → ((k : ℕ) → p + n ≤ k → times new k ≡ times old k) → InGroups (groups_of n) old new
one_row p n before behind = record {
  groups = row p n;
  few = omega (arith, length-numbers (p / 8) (groups_of n));
  only = λ k out. elim (outside p n k out) [ inl below ↦ before k below | inr past ↦ behind k past ];
}

-- or of two
pub two_rows : (p q n m : ℕ) {old new : List ℕ} → ((k : ℕ) → (k < p) ⊎ (p + n ≤ k) → (k < q) ⊎ (q + m ≤ k) → times new k ≡ times old k) → InGroups (groups_of n + groups_of m) old new
two_rows p q n m only = record {
  groups = row p n ++ row q m;
  few = omega (arith, length-append (row p n) (row q m), length-numbers (p / 8) (groups_of n), length-numbers (q / 8) (groups_of m));
  only = λ k out. only k (outside p n k (λ c. out (Contains-append_left (row p n) (row q m) (k / 8) c))) (outside q m k (λ c. out (Contains-append_right (row p n) (row q m) (k / 8) c)));
}

-- or of two and one word more
pub rows_and_word : (p q n m r : ℕ) {old new : List ℕ} → ((k : ℕ) → (k < p) ⊎ (p + n ≤ k) → (k < q) ⊎ (q + m ≤ k) → k ≢ r → times new k ≡ times old k) → InGroups (groups_of n + groups_of m + 1) old new
rows_and_word p q n m r only =
    let rows = row p n ++ row q m in record {
      groups = rows ++ r / 8 ∷ [];
      few = omega (arith, length-append rows (r / 8 ∷ []), length-append (row p n) (row q m), length-numbers (p / 8) (groups_of n), length-numbers (q / 8) (groups_of m));
      only = λ k out. let none : ¬ (Contains rows (k / 8)) = λ c. out (Contains-append_left rows (r / 8 ∷ []) (k / 8) c) in
          only k (outside p n k (λ c. none (Contains-append_left (row p n) (row q m) (k / 8) c))) (outside q m k (λ c. none (Contains-append_right (row p n) (row q m) (k / 8) c)))
          (λ e. out (Contains-append_right rows (r / 8 ∷ []) (k / 8) (subst (λ (x : ℕ). Contains (r / 8 ∷ []) (x / 8)) (sym e) (0, omega arith, refl))));
    }

-- all of a header at the begin of a region is in one
pub first_words : {old new : List ℕ} → ((k : ℕ) → 3 ≤ k → times new k ≡ times old k) → InGroups 1 old new
first_words only = record {
  groups = 0 ∷ [];
  few = omega arith;
  only = λ k out. only k (elim (cases_lt k 3) [
    | inl low ↦ absurd (out (let first : 0 ≡ k / 8 = omega (arith, low) in subst (Contains (0 ∷ [])) first (0, omega arith, refl)))
    | inr past ↦ past
  ]);
}
