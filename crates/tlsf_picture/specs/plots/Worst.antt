-- The line of a trace to look at, and the picture of its heaps after it.
use Rattle.std.specs.Prelude.{◌≡◌, ℕ, ◌+◌, ◌<◌, true, false, List, length}
use Rattle.tlsf_lines.specs.Trace.{Trace}
use Rattle.tlsf_picture.specs.Drawn.{DrawsAt}
use Rattle.tlsf_picture.specs.declared.form.Form.{Form}
use Rattle.tlsf_picture.specs.plots.Plots.{heap_points}
use Rattle.tlsf_picture.specs.plots.Points.{longest_of}
use Rattle.tlsf_picture.specs.plots.Standings.{IsLook, is_worse, standing_in}
use Rattle.tlsf_picture.specs.declared.plots.look.Look.{Look}
use Rattle.tlsf_picture.specs.declared.plots.standing.Standing.{Standing}

-- the line that the plot names above heap j, by the longest request of its worker
abbrev pub IsNamed : Trace → ℕ → Look → Type 0
IsNamed trace j look = IsLook (longest_of j trace.lines) (heap_points trace j) (length trace.lines + 2) look

-- how heap j stands at the point of a number
abbrev pub standing_at : Trace → ℕ → ℕ → Standing
standing_at trace j number = standing_in (longest_of j trace.lines) (heap_points trace j) number

-- of the first n heaps none stands worse at any point than this one after the line that the plot names above it. It is the first of
-- those
pub record IsWorstHeap (trace : Trace) (n j : ℕ) (look : Look) : Type 0 where
  pub within : j < n
  pub named : IsNamed trace j look
  pub most : (i number : ℕ) → i < n → number < length trace.lines + 2 → is_worse (standing_at trace i number) look.standing ≡ false
  pub first : (i number : ℕ) → i < j → number < length trace.lines + 2 → is_worse look.standing (standing_at trace i number) ≡ true

-- the line to look at of these heaps
abbrev pub IsWorstOf : Trace → ℕ → Look → Type 0
IsWorstOf trace n look = (j : ℕ) × IsWorstHeap trace n j look

-- the text is a picture of the heaps of a trace as they stand after the line to look at
pub record DrawsWorst (form : Form) (trace : Trace) (text : List ℕ) : Type 0 where
  pub look : Look
  pub worst : IsWorstOf trace trace.header.workers look
  pub drawn : DrawsAt form look.line trace text
