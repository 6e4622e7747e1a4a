-- Labels: what the lines before have made of them, and which a line may make or use.
use Rattle.std.specs.Prelude.{ℕ, Bool, true, false, ◌==◌, if◌then◌else◌, List, [], ◌∷◌, Option, Some, None}
use Rattle.tlsf_lines.specs.declared.line.Line.{Line}
use Rattle.tlsf_lines.specs.declared.line.Line.TheVariants.{Allocate, Release, Write, Read, Resize, Drain, Phase}

-- when the lines before made a label
pub data Made : Type 0 where
  Never : Made
  Now : ℕ → Made  -- by this worker, and no phase has ended since
  Earlier : Made

-- the same, where a phase ends
abbrev pub at_phase : Made → Made
at_phase Never = Never
at_phase (Now worker) = Earlier
at_phase Earlier = Earlier

-- what these lines made of the label, the newest of them first
abbrev pub made_of : ℕ → List Line → Made
made_of label [] = Never
made_of label (Allocate worker made length ∷ before) = if made == label then Now worker else made_of label before
made_of label (Phase ∷ before) = at_phase (made_of label before)
made_of label (line ∷ before) = made_of label before

-- whether a line may make the label
abbrev pub can_make : Made → Bool
can_make Never = true
can_make (Now maker) = false
can_make Earlier = false

-- whether a line of the worker may use the label
abbrev pub can_use : ℕ → Made → Bool
can_use worker Never = false
can_use worker (Now maker) = maker == worker
can_use worker Earlier = true

-- whether a line may follow the lines before. It makes a new label, or uses one that its worker made or that was made in an earlier
-- phase
abbrev pub is_in_order : List Line → Line → Bool
is_in_order before (Allocate worker label length) = can_make (made_of label before)
is_in_order before (Release worker label) = can_use worker (made_of label before)
is_in_order before (Write worker label at bytes) = can_use worker (made_of label before)
is_in_order before (Read worker label at n) = can_use worker (made_of label before)
is_in_order before (Resize worker label length) = can_use worker (made_of label before)
is_in_order before (Drain worker most) = true
is_in_order before Phase = true

-- ---- the number of what makes a label

-- what is counted of the lines before the one that makes a label, where a line makes it; the newest stands first
abbrev pub counted_at : (List Line → ℕ) → ℕ → List Line → Option ℕ
counted_at count label [] = None
counted_at count label (Allocate worker made length ∷ before) = if made == label then Some (count before) else counted_at count label before
counted_at count label (line ∷ before) = counted_at count label before
