-- The parser's memory of labels.
use Rattle.std.specs.Prelude.{ℕ, ◌≡◌, ◌≤◌, ◌==◌, if◌then◌else◌, List, Option, Some, None, IfSome}
use Rattle.tlsf_lines.specs.declared.line.Line.{Line}
use Rattle.tlsf_lines.specs.declared.maker.Maker.{Maker}
use Rattle.tlsf_lines.specs.ByLabel.{kept_of}
use Rattle.tlsf_lines.specs.Events.{maker_of}
use Rattle.tlsf_lines.specs.Labels.{Made, Never, Now, Earlier, made_of}

-- the number of the phase, from 0, and at the place of each label that was made its maker
pub record Memory : Type 0 where
  pub phase : ℕ
  pub made : List (Option Maker)

-- when a label was made, by its maker and the phase
abbrev pub when_made : ℕ → Option Maker → Made
when_made phase None = Never
when_made phase (Some maker) = if maker.phase == phase then Now maker.worker else Earlier

-- the memory tells what the lines before, the newest first, made of each label
pub record Remembers (memory : Memory) (before : List Line) : Type 0 where
  pub tells : (label : ℕ) → when_made memory.phase (kept_of memory.made label) ≡ made_of label before
  pub past : (label : ℕ) → IfSome (kept_of memory.made label) (λ maker. maker.phase ≤ memory.phase)

-- the event by which a label was made, where it was
abbrev pub event_by : Option Maker → Option ℕ
event_by None = None
event_by (Some maker) = Some maker.event

-- and by which event
abbrev pub Recalls : ℕ → Memory → List Line → Type 0
Recalls workers memory before = (label : ℕ) → event_by (kept_of memory.made label) ≡ maker_of workers label before
