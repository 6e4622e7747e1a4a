-- The objects behind C's handles of an arena of offsets, and what crosses to C beside them.
use Rattle.std.specs.Prelude.{◌≡◌, ℕ, Bool, true}
use Rattle.tlsf_offsets.specs.Offsets.{Offsets}
use Rattle.tlsf_offsets.specs.declared.span.Span.{Span}
use Rattle.tlsf_offsets.specs.declared.usage.Usage.{Usage}
use Rattle.tlsf_c.specs.Arenas.{is_offsets, offsets_of}
use Rattle.tlsf_c.specs.Names.{name_of}
use Rattle.tlsf_c.specs.OffsetLevels.{OffsetsGoOn}
use Rattle.tlsf_c.specs.Serving.{OnKind, arena_serves}
use Rattle.tlsf_c.specs.declared.spans.OffsetSpan.{OffsetSpan}
use Rattle.tlsf_c.specs.declared.spans.OffsetUsage.{OffsetUsage}
use Rattle.tlsf_c.specs.declared.arena_slot.ArenaSlot.{ArenaSlot}

-- the arena of an open handle
abbrev pub offsets_in : ArenaSlot → Offsets
offsets_in h = (offsets_of h.inner.value).offsets

-- its level
abbrev pub offsets_level : ArenaSlot → ℕ
offsets_level h = (offsets_of h.inner.value).level

-- it is an arena of offsets
abbrev pub holds_offsets : ArenaSlot → Bool
holds_offsets h = is_offsets h.inner.value

-- an open handle serves again with its kind, its arena keeps its level and its unit, and touches never fall
pub record OffsetsStayOpen (old new : ArenaSlot) : Type 0 where
  pub serves : arena_serves new ≡ true
  pub kind : holds_offsets new ≡ holds_offsets old
  pub goes_on : OffsetsGoOn (offsets_of old.inner.value) (offsets_of new.inner.value)

-- a call on a handle that has to hold an arena of offsets: the handle stays open
abbrev pub OnOffsets : ArenaSlot → ArenaSlot → ℕ → Type 0 → Type 0
OnOffsets old new answer done = OnKind (arena_serves old) (holds_offsets old) old new answer (OffsetsStayOpen old new × done)

abbrev pub span_of : OffsetSpan → Span
span_of s = record { name = name_of s.name; offset = s.offset; size = s.size }

abbrev pub usage_told : OffsetUsage → Usage
usage_told u = record { spans = u.spans; held = u.held; free = u.free; largest = u.largest }
