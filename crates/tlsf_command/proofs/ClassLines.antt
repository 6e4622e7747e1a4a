-- The line on a size, piece by piece.
use Rattle.tlsf_command.proofs.Common.{◌≡◌, ◌∙◌, ℕ, List, ◌++◌, Some, codes, ap, sym, append_assoc, class_of, low, search_of}
use Rattle.std.specs.Fmt.{decimal}
use Rattle.tlsf_command.specs.ClassLines.{class_line, class_text}

-- the pieces of a class, and what follows them
class_then : (sli class : ℕ) (rest : List ℕ) → decimal class ++ (codes " low " ++ (decimal (low sli class) ++ rest)) ≡ class_text sli class ++ rest
class_then sli class rest = sym (append_assoc (decimal class) (codes " low " ++ decimal (low sli class)) rest)

-- the pieces in a row are the line
pub pieces_join : (sli n own served : ℕ) → own ≡ class_of sli n → search_of sli n ≡ Some served
    → codes "class " ++ (decimal own ++ (codes " low " ++ (decimal (low sli own) ++ (codes " search "
    ++ (decimal served ++ (codes " low " ++ (decimal (low sli served) ++ codes "\n"))))))) ≡ class_line sli n
pieces_join sli n own served is found =
    rw (is, found) (ap (λ (text : List ℕ). codes "class " ++ text) (class_then sli (class_of sli n) _
    ∙ ap (λ (text : List ℕ). class_text sli (class_of sli n) ++ (codes " search " ++ text)) (class_then sli served (codes "\n"))))
