-- An end that is read from a slot is the one that stands there.
use Rattle.tlsf_crew.proofs.Common.{◌≡◌, ℕ, List, Option, Some, None, get_or, ◌∙◌, slice_get, get_or_from_slice_get}

pub same_end : {X : Type 0} (o : Option X) (xs : List (Option X)) (i : ℕ) (x y : X)
    → o ≡ get_or xs i o → slice_get xs i ≡ Some (Some x) → Some y ≡ o → y ≡ x
same_end o xs i x y a b c = let e : get_or xs i o ≡ Some x = get_or_from_slice_get xs i (Some x) o b in let f : Some y ≡ Some x = c ∙ (a ∙ e) in cc

-- where an end stands there is one to read
pub end_stands : {X : Type 0} (o : Option X) (xs : List (Option X)) (i : ℕ) (x : X) → o ≡ get_or xs i o → slice_get xs i ≡ Some (Some x) → None ≡ o → ⊥
end_stands o xs i x a b c = let e : get_or xs i o ≡ Some x = get_or_from_slice_get xs i (Some x) o b in let f : None ≡ Some x = c ∙ (a ∙ e) in cc
