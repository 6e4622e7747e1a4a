-- The labels that a worker's lines in a phase make, as they are remembered. This serves the contracts of private functions alone.
use Rattle.std.specs.Prelude.{ℕ, ◌≡◌, List, Option, IfSome}
use Rattle.tlsf_heap.specs.declared.name.Name.{Name}
use Rattle.tlsf_lines.specs.ByLabel.{kept_of}
use Rattle.tlsf_lines.specs.Phases.{call_that_makes, with_name}
use Rattle.tlsf_lines.specs.Lines.{label_in}
use Rattle.tlsf_lines.specs.declared.line.Line.{Line}
use Rattle.tlsf_lines.specs.declared.line.Line.TheVariants.{Allocate}

-- the label has the call that makes it, by the worker's lines before, the newest first
abbrev pub RecallsCall : List (Option ℕ) → List Line → ℕ → Type 0
RecallsCall calls before label = kept_of calls label ≡ call_that_makes label before

-- so has the label of a line, where it has one
abbrev pub RecallsCallOf : List (Option ℕ) → List Line → Line → Type 0
RecallsCallOf calls before line = IfSome (label_in line) (RecallsCall calls before)

-- the blocks that labels stand for after one line more, whose call made this name
abbrev pub with_line : (ℕ → Option Name) → Line → Option Name → ℕ → Option Name
with_line known (Allocate worker label len) name = with_name known label name
with_line known line name = known
