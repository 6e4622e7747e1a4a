-- The picture of the heaps that a trace leaves.
use Rattle.std.specs.Prelude.{◌≡◌, ℕ, ◌+◌, List, length, Option, Some, None, Result, map}
use Rattle.std.specs.List.{AllZip}
use Rattle.tlsf_heap.specs.Blocks.{HeapState}
use Rattle.tlsf_heap.specs.Placed.{placed_blocks}
use Rattle.tlsf_heap.specs.Reports.{report_of}
use Rattle.tlsf_heap.specs.declared.name.Name.{Name}
use Rattle.tlsf_map.specs.Told.{Tells, svg_told, text_told}
use Rattle.tlsf_map.specs.declared.mapped_heap.MappedHeap.{MappedHeap}
use Rattle.tlsf_picture.specs.Labelled.{label_of, labelled}
use Rattle.tlsf_picture.specs.declared.form.Form.{Form}
use Rattle.tlsf_picture.specs.declared.form.Form.TheVariants.{Svg, Text}
use Rattle.tlsf_lines.specs.Events.{labels_of}
use Rattle.tlsf_trace.specs.Moments.{moment_of}
use Rattle.tlsf_trace.specs.Output.{level_in}
use Rattle.tlsf_trace.specs.Replay.{IsRun}
use Rattle.tlsf_lines.specs.Trace.{Trace}
use Rattle.tlsf_trace.specs.declared.summary.Summary.{Summary}
use Rattle.tlsf_lines.specs.declared.trace_fault.TraceFault.{TraceFault}

-- the map of a heap: its number, its tick, its report, and each of its blocks in the order of their places, with these labels
pub record IsMapBy (sli : ℕ) (known : ℕ → Option ℕ) (heap : HeapState) (mapped : MappedHeap) : Type 0 where
  pub id : mapped.id ≡ heap.id
  pub tick : mapped.tick ≡ heap.tick
  pub report : mapped.report ≡ report_of sli heap
  pub blocks : mapped.blocks.items ≡ map (labelled known) (placed_blocks heap.blocks)

-- the map of a heap of a level, by what each event made and the label of each
abbrev pub IsMap : ℕ → List (Option Name) → List (Option ℕ) → HeapState → MappedHeap → Type 0
IsMap sli made labels heap = IsMapBy sli (label_of heap.id made labels) heap

-- a map for each heap, in their order
abbrev pub AreMaps : ℕ → List (Option Name) → List (Option ℕ) → List HeapState → List MappedHeap → Type 0
AreMaps sli made labels heaps maps = AllZip (IsMap sli made labels) heaps maps

-- the meaning of a picture of heaps with this many words each
abbrev pub picture_told : Form → ℕ → List MappedHeap → List (List ℕ)
picture_told Svg = svg_told
picture_told Text = text_told

-- the text tells of the heaps of a trace as they stand after a line
pub record DrawsAt (form : Form) (line : ℕ) (trace : Trace) (text : List ℕ) : Type 0 where
  pub maps : List MappedHeap
  pub mapped : AreMaps (level_in trace.header) (moment_of line trace).made (labels_of trace) (moment_of line trace).world.heaps maps
  pub drawn : Tells (picture_told form trace.header.words maps) text

-- the line that is drawn: where none is given the end, which counts as one line more than the last
abbrev pub line_in : Option ℕ → Trace → ℕ
line_in None trace = length trace.lines + 2
line_in (Some line) trace = line

-- a picture of the heaps that the trace leaves, as an SVG file, or in the characters of a terminal
abbrev pub Draws : Trace → List ℕ → Type 0
Draws trace text = DrawsAt Svg (line_in None trace) trace text

abbrev pub DrawsText : Trace → List ℕ → Type 0
DrawsText trace text = DrawsAt Text (line_in None trace) trace text

-- a run of a trace that puts out its picture
abbrev pub IsDrawing : Result Summary TraceFault → Option (List ℕ) → Option (List ℕ) → Option (List ℕ) → Option (List ℕ) → Type 0
IsDrawing = IsRun Draws

abbrev pub IsTextDrawing : Result Summary TraceFault → Option (List ℕ) → Option (List ℕ) → Option (List ℕ) → Option (List ℕ) → Type 0
IsTextDrawing = IsRun DrawsText
