-- A front of two texts in a row.
use Rattle.tlsf_command.proofs.Common.{◌≡◌, ◌+◌, ℕ, suc, List, [], ◌∷◌, ◌++◌, length, take, min, Option, refl, sym, ap, ◌∙◌, subst, arith, Appends-trans}
use Rattle.std.specs.Io.KnownBytes.{Appends}
use Rattle.std.proofs.lemmas.List.{take-append-le, take_min}
use Rattle.tlsf_lines.specs.Prefixes.{AppendsFront}

-- the first text and a front of the second are a front of both
past_first : (a b : List ℕ) (n : ℕ) → a ++ take n b ≡ take (length a + n) (a ++ b)
past_first [] b n = let same : 0 + n ≡ n = omega arith in subst (λ (k : ℕ). take n b ≡ take k b) (sym same) refl
past_first (x ∷ a) b n =
    let same : length (x ∷ a) + n ≡ suc (length a + n) = omega arith in
    subst (λ (k : ℕ). x ∷ (a ++ take n b) ≡ take k (x ∷ (a ++ b))) (sym same) (ap (λ (text : List ℕ). x ∷ text) (past_first a b n))

pub front_of_both : (old mid new : Option (List ℕ)) (a b : List ℕ) → Appends old mid a → AppendsFront mid new b → AppendsFront old new (a ++ b)
front_of_both old mid new a b whole front =
    (length a + front.0, subst (Appends old new) (past_first a b front.0) (Appends-trans old mid new a (take front.0 b) whole front.1))

-- a front of the first is one of both
pub front_of_first : (old new : Option (List ℕ)) (a b : List ℕ) → AppendsFront old new a → AppendsFront old new (a ++ b)
front_of_first old new a b front =
    let n = min front.0 (length a) in
    (n, subst (Appends old new) (sym (take-append-le n a b (omega arith) ∙ take_min front.0 a)) front.1)
