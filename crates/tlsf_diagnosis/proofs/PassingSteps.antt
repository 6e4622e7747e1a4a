-- Fields that pass as those of their kinds, one after another.
use Rattle.tlsf_diagnosis.proofs.Common.{◌≡◌, ◌⊎◌, inl, inr, ℕ, zero, suc, ◌<◌, ◌≤◌, Bool, true, false, cond, List, [], ◌∷◌, ◌++◌, length, take, drop, map, refl, ap, arith, all_pass, passing_count}

-- the fields that pass, and then samples for the kinds that are left
module _ {A : Type 0} (pass : A → List ℕ → Bool) (sample : A → List ℕ) (good : (kind : A) → pass kind (sample kind) ≡ true) where
  samples_pass : (kinds : List A) → all_pass pass kinds (map sample kinds) ≡ true
  samples_pass [] = refl
  samples_pass (kind ∷ kinds) = rw (good kind) (samples_pass kinds)

  abbrev filled : List A → List (List ℕ) → ℕ → List (List ℕ)
  filled kinds fields n = take n fields ++ map sample (drop n kinds)

  one_more : (kind : A) (kinds : List A) (field : List ℕ) (fields : List (List ℕ)) (n : ℕ) (b : Bool) → pass kind field ≡ b
      → all_pass pass kinds (filled kinds fields n) ≡ true
      → all_pass pass (kind ∷ kinds) (filled (kind ∷ kinds) (field ∷ fields) (cond b (suc n) 0)) ≡ true
  one_more kind kinds field fields n true is rest = rw is rest
  one_more kind kinds field fields n false is rest = samples_pass (kind ∷ kinds)

  pub front_passes : (kinds : List A) (fields : List (List ℕ)) → all_pass pass kinds (filled kinds fields (passing_count pass kinds fields)) ≡ true
  front_passes [] fields = refl
  front_passes (kind ∷ kinds) [] = samples_pass (kind ∷ kinds)
  front_passes (kind ∷ kinds) (field ∷ fields) =
      one_more kind kinds field fields (passing_count pass kinds fields) (pass kind field) refl (front_passes kinds fields)

-- what follows where not all pass
module _ {A : Type 0} (pass : A → List ℕ → Bool) where
  -- nothing that begins with one field more passes, or there is none
  abbrev pub Fails : List A → List (List ℕ) → ℕ → Type 0
  Fails kinds fields n = ((more : List (List ℕ)) → all_pass pass kinds (take (suc n) fields ++ more) ≡ false) ⊎ (n ≡ length fields)

  next : (kind : A) (kinds : List A) (field : List ℕ) (fields : List (List ℕ)) (n : ℕ) (b : Bool) → pass kind field ≡ b
      → cond b (all_pass pass kinds fields) false ≡ false → (all_pass pass kinds fields ≡ false → Fails kinds fields n)
      → Fails (kind ∷ kinds) (field ∷ fields) (cond b (suc n) 0)
  next kind kinds field fields n true is fails rest = elim (rest fails) [
    | inl refused ↦ inl (λ more. rw is (refused more))
    | inr ends ↦ inr (ap (λ k. suc k) ends)
  ]
  next kind kinds field fields n false is fails rest = inl (λ more. rw is refl)

  pub next_fails : (kinds : List A) (fields : List (List ℕ)) → all_pass pass kinds fields ≡ false → Fails kinds fields (passing_count pass kinds fields)
  next_fails [] [] fails = cc
  next_fails [] (field ∷ fields) fails = inl (λ more. refl)
  next_fails (kind ∷ kinds) [] fails = inr refl
  next_fails (kind ∷ kinds) (field ∷ fields) fails =
      next kind kinds field fields (passing_count pass kinds fields) (pass kind field) refl fails (λ left. next_fails kinds fields left)

  -- where no field is left, none passes
  pub none_left : (kinds : List A) → passing_count pass kinds [] ≡ 0
  none_left [] = refl
  none_left (kind ∷ kinds) = refl

  -- and a kind that is left has none
  pub none_for : (kinds : List A) → 0 < length kinds → all_pass pass kinds [] ≡ false
  none_for [] some = absurd (omega (arith, some))
  none_for (kind ∷ kinds) some = refl

  -- a field that is left has no kind
  pub left_over : (fields : List (List ℕ)) → 0 < length fields → all_pass pass [] fields ≡ false
  left_over [] some = absurd (omega (arith, some))
  left_over (field ∷ fields) some = refl

-- no kind is left after all
pub drop_all : {A : Type 0} (kinds : List A) (n : ℕ) → length kinds ≤ n → drop n kinds ≡ []
drop_all [] zero all = refl
drop_all [] (suc n) all = refl
drop_all (kind ∷ kinds) zero all = absurd (omega (arith, all))
drop_all (kind ∷ kinds) (suc n) all = drop_all kinds n (omega (arith, all))
