-- Words of which some were handed out and came back.
use Rattle.tlsf_words.proofs.Common.{◌≡◌, ℕ, ◌+◌, ◌-◌, ◌≤◌, ◌<◌, List, ◌++◌, length, get_or, take, drop, ap, ◌∙◌, arith, length-append, length-take-le, length-drop, get_or-take, get_or_append_left, get_or-append_right, get_or-drop}

-- those before stay
pub altered_before : (old new part : List ℕ) (at n : ℕ) → new ≡ take at old ++ part ++ drop (at + n) old → (k : ℕ) → k < at → at ≤ length old → get_or new k 0 ≡ get_or old k 0
altered_before old new part at n is k low inside =
    let long = length-take-le at old inside in
    ap (λ l. get_or l k 0) is
    ∙ get_or_append_left (take at old ++ part) (drop (at + n) old) 0 k (omega (arith, length-append (take at old) part))
    ∙ get_or_append_left (take at old) part 0 k (omega arith)
    ∙ get_or-take at old k 0 low

-- and those after
pub altered_behind : (old new part : List ℕ) (at n : ℕ) → new ≡ take at old ++ part ++ drop (at + n) old → (k : ℕ) → at + n ≤ k → at + n ≤ length old → length new ≡ length old → get_or new k 0 ≡ get_or old k 0
altered_behind old new part at n is k past inside same =
    let front = length-take-le at old (omega arith) in
    let rest = length-drop (at + n) old in
    let all = ap length is ∙ length-append (take at old ++ part) (drop (at + n) old) in
    let mid = length-append (take at old) part in
    let many : length (take at old ++ part) ≡ at + n = omega arith in
    let place : at + n + (k - (at + n)) ≡ k = omega arith in
    ap (λ l. get_or l k 0) is
    ∙ get_or-append_right (take at old ++ part) (drop (at + n) old) (at + n) k 0 many past
    ∙ get_or-drop (at + n) old (k - (at + n)) 0
    ∙ ap (λ i. get_or old i 0) place
