-- The blocks that labels stand for after one line more.
use Rattle.tlsf_lines.proofs.Common.{◌≡◌, ◌∷◌, ◌++◌, [], ℕ, ◌+◌, ◌<◌, Bool, true, false, List, Option, None, Some, length, get_or, take, reverse, refl, ap, ◌∙◌, arith, cond, ◌==◌, reverse-append, length-reverse, length-take-le, take_more, Name, with_line, known_behind, call_that_makes, name_by, Line, Allocate}
use mathlib.Core.Path.{fun_ext}

-- the name of a label that this line makes, or else by the lines before
one_case : (b : Bool) (k n : ℕ) (maker : Option ℕ) (made : List (Option Name)) (earlier : Option Name) → k ≡ n
    → name_by (cond b (Some k) maker) made earlier ≡ cond b (get_or made n None) (name_by maker made earlier)
one_case true k n maker made earlier is = ap (λ n. get_or made n None) is
one_case false k n maker made earlier is = refl

behind_line : (known : ℕ → Option Name) (before : List Line) (line : Line) (made : List (Option Name)) (n : ℕ) → length before ≡ n → (label : ℕ)
    → name_by (call_that_makes label (line ∷ before)) made (known label) ≡ with_line (λ label. name_by (call_that_makes label before) made (known label)) line (get_or made n None) label
behind_line known before (Allocate worker made_label len) made n is label = one_case (made_label == label) (length before) n (call_that_makes label before) made (known label) is
behind_line known before line made n is label = refl

pub behind_more : (known : ℕ → Option Name) (lines : List Line) (line : Line) (made : List (Option Name))
    → known_behind known (lines ++ line ∷ []) made ≡ with_line (known_behind known lines made) line (get_or made (length lines) None)
behind_more known lines line made =
    fun_ext (λ label.
    ap (λ before. name_by (call_that_makes label before) made (known label)) (reverse-append lines (line ∷ []))
    ∙ behind_line known (reverse lines) line made (length lines) (length-reverse lines) label)

pub behind_more_at : (known : ℕ → Option Name) (lines : List Line) (k : ℕ) (made : List (Option Name)) → k < length lines
    → known_behind known (take (k + 1) lines) made ≡ with_line (known_behind known (take k lines) made) (get_or lines k (Allocate 0 0 0)) (get_or made k None)
behind_more_at known lines k made lt =
    let line = get_or lines k (Allocate 0 0 0) in
    let count : length (take k lines) ≡ k = length-take-le k lines (omega arith) in
    ap (λ ls. known_behind known ls made) (take_more lines k (Allocate 0 0 0) lt) ∙ (behind_more known (take k lines) line made
    ∙ ap (λ n. with_line (known_behind known (take k lines) made) line (get_or made n None)) count)
