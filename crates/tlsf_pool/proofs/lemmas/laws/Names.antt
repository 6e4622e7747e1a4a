-- Whether two names are the same.
use Rattle.tlsf_pool.proofs.Common.{◌≡◌, Bool, true, false, refl, sym, ◌∙◌, subst, eq-eqb, eqb-true, false≢true, and_from, Name, is_same}
use Rattle.tlsf_heap.proofs.lemmas.blocks.Find.{and_left, and_right, not_true}
use Rattle.tlsf_heap.proofs.lemmas.laws.Live.{same_name}

pub same_self : (name : Name) → is_same name name ≡ true
same_self name = and_from _ _ (eq-eqb name.heap name.heap refl) (and_from _ _ (eq-eqb name.serial name.serial refl) (eq-eqb name.at name.at refl))

pub same_is : (a b : Name) → is_same a b ≡ true → a ≡ b
same_is a b e =
    let rest = and_right _ _ e in
    same_name a b (eqb-true a.heap b.heap (and_left _ _ e)) (eqb-true a.at b.at (and_right _ _ rest)) (eqb-true a.serial b.serial (and_left _ _ rest))

pub same_flip : (a b : Name) (c : Bool) → is_same a b ≡ c → is_same b a ≡ c
same_flip a b true e = subst (λ (n : Name). is_same b n ≡ true) (sym (same_is a b e)) (same_self b)
same_flip a b false e = not_true _ (λ t. false≢true (sym e ∙ subst (λ (n : Name). is_same a n ≡ true) (sym (same_is b a t)) (same_self a)))
