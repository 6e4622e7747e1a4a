-- The page of a trace: its heaps as they stand after some of its lines.
use Rattle.std.specs.Prelude.{◌≡◌, ℕ, zero, suc, ◌+◌, ◌-◌, ◌*◌, ◌/◌, ◌==◌, ◌||◌, Bool, false, nat_lt, min, count_by, if◌then◌else◌, List, [], ◌∷◌, ◌++◌, length}
use Rattle.std.specs.List.{AllZip, range_with_len}
use Rattle.tlsf_lines.specs.Events.{labels_of}
use Rattle.tlsf_lines.specs.Trace.{Trace}
use Rattle.tlsf_map.specs.Told.{Moment, Tells, page_told}
use Rattle.tlsf_map.specs.declared.named_lines.NamedLines.{NamedLines}
use Rattle.tlsf_picture.specs.Drawn.{AreMaps}
use Rattle.tlsf_picture.specs.plots.Standings.{IsPeak}
use Rattle.tlsf_picture.specs.plots.Plots.{heap_points}
use Rattle.tlsf_picture.specs.plots.Points.{longest_of}
use Rattle.tlsf_picture.specs.plots.Worst.{IsNamed}
use Rattle.tlsf_picture.specs.declared.plots.look.Look.{Look}
use Rattle.tlsf_picture.specs.declared.plots.peak.Peak.{Peak}
use Rattle.tlsf_trace.specs.Moments.{moment_of}
use Rattle.tlsf_trace.specs.Output.{level_in}

-- ---- the lines that are named of a heap

-- those of heap j: its peak and the line that the plot names above it, with the longest request of its worker
pub record IsNoted (trace : Trace) (j : ℕ) (named : NamedLines) : Type 0 where
  pub longest : named.longest ≡ longest_of j trace.lines
  pub look : Look
  pub look_is : IsNamed trace j look
  pub look_line : named.look ≡ look.line
  pub peak : Peak
  pub peak_is : IsPeak (heap_points trace j) (length trace.lines + 2) peak
  pub peak_line : named.peak ≡ peak.line

-- those of each heap, in rising number
abbrev pub AreNoted : Trace → List NamedLines → Type 0
AreNoted trace named = AllZip (IsNoted trace) (range_with_len 0 trace.header.workers) named

-- ---- the lines that have a moment

-- how many are spread over a trace with this many lines after its header: each line of the text and the end, at most 200
abbrev pub moments_in : ℕ → ℕ
moments_in lines = min 200 (lines + 2)

-- the line of the text after which the moment of a number stands. The moments are spread evenly from the header, line 1, to the
-- end, which counts as one line more
abbrev pub line_of : ℕ → ℕ → ℕ
line_of lines number = number * (lines + 1) / (moments_in lines - 1) + 1

-- whether a line is that of one of the first `count` moments
abbrev pub is_among : (lines line count : ℕ) → Bool
is_among lines line zero = false
is_among lines line (suc number) = is_among lines line number || line_of lines number == line

abbrev pub is_spread : (lines line : ℕ) → Bool
is_spread lines line = is_among lines line (moments_in lines)

-- whether a line is named of a heap
abbrev pub is_named_by : ℕ → NamedLines → Bool
is_named_by line named = named.peak == line || named.look == line

abbrev pub is_named : ℕ → List NamedLines → Bool
is_named line named = nat_lt 0 (count_by (is_named_by line) named)

-- a line has a moment if it is one of those that are spread, or is named of a heap
abbrev pub is_shown : (lines : ℕ) → List NamedLines → (line : ℕ) → Bool
is_shown lines named line = is_spread lines line || is_named line named

-- those of the first `count` lines of the text
abbrev pub shown_until : (lines : ℕ) → List NamedLines → (count : ℕ) → List ℕ
shown_until lines named zero = []
shown_until lines named (suc line) = if is_shown lines named (line + 1) then shown_until lines named line ++ (line + 1) ∷ [] else shown_until lines named line

abbrev pub lines_shown : ℕ → List NamedLines → List ℕ
lines_shown lines named = shown_until lines named (lines + 2)

-- ---- the page

-- a moment of the page has maps of the heaps as they stand after a line
pub record IsMoment (trace : Trace) (line : ℕ) (moment : Moment) : Type 0 where
  pub line_is : moment.line ≡ line
  pub mapped : AreMaps (level_in trace.header) (moment_of line trace).made (labels_of trace) (moment_of line trace).world.heaps moment.heaps

-- the text tells of the moments behind these lines: all blocks of each
pub record DrawsPage (trace : Trace) (text : List ℕ) : Type 0 where
  pub named : List NamedLines
  pub noted : AreNoted trace named
  pub moments : List Moment
  pub shown : AllZip (IsMoment trace) (lines_shown (length trace.lines) named) moments
  pub drawn : Tells (page_told trace.header.words moments named) text
