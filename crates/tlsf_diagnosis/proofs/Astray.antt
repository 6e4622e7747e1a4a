-- The field by which fields go astray.
use Rattle.tlsf_diagnosis.proofs.Common.{◌≡◌, ◌⊎◌, inl, inr, ℕ, suc, ◌+◌, ◌-◌, Bool, false, List, ◌++◌, length, take, subst, arith, CanBegin, GoAstrayAt}

-- after m fields that can begin a whole line
pub astray_at : (is_whole : List (List ℕ) → Bool) (fields : List (List ℕ)) (m n : ℕ) → n ≡ m + 1 → CanBegin is_whole (take m fields)
    → ¬ (CanBegin is_whole (take (suc m) fields)) ⊎ (m ≡ length fields) → GoAstrayAt is_whole fields n
astray_at is_whole fields m n next begins here =
    let behind : m ≡ n - 1 = omega (arith, next) in
    let at : suc m ≡ n = omega (arith, next) in
    record {
      before = subst (λ (k : ℕ). CanBegin is_whole (take k fields)) behind begins;
      here = elim here [
        | inl refused ↦ inl (subst (λ (k : ℕ). CanBegin is_whole (take k fields) → ⊥) at refused)
        | inr ends ↦ inr (omega (arith, next, ends))
      ];
    }

-- nothing that begins so is whole
pub never : (is_whole : List (List ℕ) → Bool) (front : List (List ℕ)) → ((more : List (List ℕ)) → is_whole (front ++ more) ≡ false) → ¬ (CanBegin is_whole front)
never is_whole front fails = λ begins. let not_whole = fails begins.0 in let whole = begins.1 in cc (not_whole, whole)
