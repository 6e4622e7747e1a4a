-- A world whose posts of one lane are others: what it has there, and elsewhere.
use Rattle.tlsf_crew.proofs.Common.{◌≡◌, ◌⊎◌, ℕ, List, sym, ◌∙◌, arith, refl, inl, inr, cases_eq, nat_tests, Post, World, edited, with_waiting}

-- worlds are equal by heaps, by what waits in each pair, and by capacity
pub same_world : {sli : ℕ} (v w : World sli) → v.heaps ≡ w.heaps → ((i j : ℕ) → v.waiting i j ≡ w.waiting i j) → v.capacity ≡ w.capacity → v ≡ w
same_world v w a b c = λ k. record { heaps = a k; waiting = λ i j. b i j k; capacity = c k }

-- two numbers are both those of a lane, or not both
pub cases_both : (x i y j : ℕ) → ((x ≡ i) × (y ≡ j)) ⊎ (x ≡ i → y ≡ j → ⊥)
cases_both x i y j = elim (cases_eq x i) [
  | inl a ↦ elim (cases_eq y j) [ inl b ↦ inl (a, b) | inr b ↦ inr (λ _ q. b q) ]
  | inr a ↦ inr (λ q _. a q)
]

pub edited_same : (f : ℕ → ℕ → List Post) (i j : ℕ) (ps : List Post) → edited f i j ps i j ≡ ps
edited_same f i j ps = grind (arith, nat_tests)

pub edited_other : (f : ℕ → ℕ → List Post) (i j x y : ℕ) (ps : List Post) → (x ≡ i → y ≡ j → ⊥) → edited f i j ps x y ≡ f x y
edited_other f i j x y ps away =
    elim (cases_eq x i) [
      | inl xi ↦ elim (cases_eq y j) [
        | inl yj ↦ absurd (away xi yj)
        | inr yj ↦ grind (arith, nat_tests)
      ]
      | inr xi ↦ grind (arith, nat_tests)
    ]

-- what is written back changes nothing
pub with_same : {sli : ℕ} (w : World sli) (i j : ℕ) (ps : List Post) → w.waiting i j ≡ ps → with_waiting w i j ps ≡ w
with_same w i j ps e =
    same_world (with_waiting w i j ps) w refl (λ x y.
    elim (cases_both x i y j) [
      | inl at ↦ rw (at.0, at.1) (edited_same w.waiting i j ps ∙ sym e)
      | inr away ↦ edited_other w.waiting i j x y ps away
    ]) refl
