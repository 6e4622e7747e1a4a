-- The meaning of a plot of a heap.
use Rattle.tlsf_picture.proofs.Common.{◌≡◌, ℕ, List, [], ◌∷◌, ◌++◌, subst, Adds}
use Rattle.tlsf_map.proofs.Telling.{adds_before, adds_behind, adds_on, adds_then}

-- what is added to a text that something else was added to
pub adds_after : (told : List (List ℕ)) (old front mid new : List ℕ) → mid ≡ old ++ front → Adds told mid new → Adds told old new
adds_after told old front mid new is adds = adds_before told old front new (subst (λ t. Adds told t new) is adds)

-- four, with something else before, between and after them
pub adds_four : (old front one a two b three c four behind : List ℕ)
    → Adds (one ∷ two ∷ three ∷ four ∷ []) old (((((((((old ++ front) ++ one) ++ a) ++ two) ++ b) ++ three) ++ c) ++ four) ++ behind)
adds_four old front one a two b three c four behind =
    let first = (old ++ front) ++ one in
    let second = (first ++ a) ++ two in
    let third = (second ++ b) ++ three in
    let fourth = (third ++ c) ++ four in
    adds_on (one ∷ two ∷ three ∷ four ∷ []) old fourth behind
    (adds_then (one ∷ []) (two ∷ three ∷ four ∷ []) old first fourth (adds_behind old front one)
    (adds_then (two ∷ []) (three ∷ four ∷ []) first second fourth (adds_behind first a two)
    (adds_then (three ∷ []) (four ∷ []) second third fourth (adds_behind second b three) (adds_behind third c four))))
