-- Memory that this program never touches, cut into units of this many bytes: word p of a heap stands for unit p.
use Rattle.std.specs.Prelude.{◌≡◌, ◌≢◌, ℕ, ◌+◌, ◌*◌, ◌/◌, ◌%◌, ◌<◌, ◌≤◌, ◌⊎◌, max, min, true, List}
use Rattle.tlsf_class.specs.Classes.{IsLevel, most_words}
use Rattle.tlsf_heap.specs.Blocks.{HeapState, StandsAt, size_of}
use Rattle.tlsf_heap.specs.GoodFit.{block_at}
use Rattle.tlsf_heap.specs.Lawful.{IsLawful}
use Rattle.tlsf_heap.specs.Calls.{has_serial}
use Rattle.tlsf_heap.specs.Footprint.{LeavesLive}
use Rattle.tlsf_heap.specs.Memory.{Extents}
use Rattle.tlsf_heap.specs.declared.name.Name.{Name}
use Rattle.tlsf_heap.specs.Reports.{report_of}
use Rattle.tlsf_offsets.specs.declared.span.Span.{Span}
use Rattle.tlsf_offsets.specs.declared.usage.Usage.{Usage}
use Rattle.tlsf_heap.specs.Shown.{Seen}

-- what an arena of offsets shows: the heap that decides, the bytes of a unit, and the heap's memory, touches and touched words
pub record Offsets : Type 0 where
  pub heap : HeapState
  pub unit : ℕ
  pub extents : Extents
  pub touches : ℕ
  pub touched : List ℕ

-- what it shows of that heap
abbrev pub seen_of : Offsets → Seen
seen_of o = record { heap = o.heap; touches = o.touches; touched = o.touched }

-- a lawful heap of a level that there is, no larger than its level's regions, over units of at least a byte
pub record IsOffsets (sli : ℕ) (o : Offsets) : Type 0 where
  pub level : IsLevel sli
  pub lawful : IsLawful o.heap
  pub words : o.heap.words ≤ most_words sli
  pub some : 0 < o.unit

-- the units that hold `len` bytes: no block has fewer than four
abbrev pub span_units : ℕ → ℕ → ℕ
span_units unit len = max 4 (len / unit + min 1 (len % unit))

-- the span has the bytes of the live block of its name, all of them
pub record IsHeld (o : Offsets) (span : Span) : Type 0 where
  pub own : span.name.heap ≡ o.heap.id
  pub index : ℕ
  pub stands : StandsAt o.heap.blocks span.name.at index
  pub live : has_serial span.name.serial (block_at o.heap.blocks index) ≡ true
  pub offset : span.offset ≡ o.unit * span.name.at
  pub size : span.size ≡ o.unit * size_of (block_at o.heap.blocks index)

-- one span ends before the other begins
abbrev pub SpansAreApart : Span → Span → Type 0
SpansAreApart a b = (a.offset + a.size ≤ b.offset) ⊎ (b.offset + b.size ≤ a.offset)

-- spans of other names are held as before
abbrev pub KeepsOthers : Offsets → Offsets → Name → Type 0
KeepsOthers o p name = (other : Span) → other.name ≢ name → IsHeld o other → IsHeld p other

-- what is held and what is free: the heap's report, in bytes
abbrev pub usage_of : ℕ → Offsets → Usage
usage_of sli o = let report = report_of sli o.heap in record {
  spans = report.live_blocks;
  held = o.unit * report.live_words;
  free = o.unit * report.free_words;
  largest = o.unit * report.largest;
}

-- ---- what a call gives and leaves

-- the span is held, has the bytes asked for, and fewer than four units more
pub record IsServed (old new : Offsets) (len : ℕ) (span : Span) : Type 0 where
  pub held : IsHeld new span
  pub enough : len ≤ span.size
  pub close : span.size < old.unit * (span_units old.unit len + 4)

-- the arena is lawful as it was. It has the same unit, and no memory is taken or given back
pub record GoesOn (sli : ℕ) (old new : Offsets) : Type 0 where
  pub unit : new.unit ≡ old.unit
  pub stays : new.extents ≡ old.extents
  pub was_lawful : IsOffsets sli old
  pub lawful : IsOffsets sli new

-- a look, of this many touches at most, leaves all but the counts of them
pub record Looks (most : ℕ) (old new : Offsets) : Type 0 where
  pub heap : new.heap ≡ old.heap
  pub unit : new.unit ≡ old.unit
  pub stays : new.extents ≡ old.extents
  pub touches : new.touches ≤ old.touches + most
  pub touches_rise : old.touches ≤ new.touches
  pub leaves : LeavesLive old.heap.blocks old.touched new.touched
