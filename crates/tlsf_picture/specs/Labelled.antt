-- The labels of blocks.
use Rattle.std.specs.Prelude.{ℕ, Bool, false, ◌==◌, ◌&&◌, nat_eq, if◌then◌else◌, List, [], ◌∷◌, drop, slice_index_or, Option, Some, None}
use Rattle.std.specs.Map.{lookup}
use Rattle.tlsf_heap.specs.declared.name.Name.{Name}
use Rattle.tlsf_heap.specs.declared.placed_block.Content.{Content}
use Rattle.tlsf_heap.specs.declared.placed_block.Content.TheVariants.{Free, Live}
use Rattle.tlsf_heap.specs.declared.placed_block.PlacedBlock.{PlacedBlock}
use Rattle.tlsf_map.specs.declared.mapped_heap.LabelledBlock.{LabelledBlock}

-- whether an event made the block of this heap that has this serial
abbrev pub is_maker : ℕ → Option Name → ℕ → Bool
is_maker heap None serial = false
is_maker heap (Some name) serial = name.heap == heap && name.serial == serial

-- what an event made has its label, and all else what it had
abbrev pub with_label : ℕ → (ℕ → Option ℕ) → Option Name → Option ℕ → ℕ → Option ℕ
with_label heap known made label serial = if is_maker heap made serial then label else known serial

-- the label of the event that made the block of this heap with this serial, by what each event made and the label of each
abbrev pub label_of : ℕ → List (Option Name) → List (Option ℕ) → ℕ → Option ℕ
label_of heap [] labels serial = None
label_of heap (made ∷ others) labels serial = with_label heap (label_of heap others (drop 1 labels)) made (slice_index_or labels 0 None) serial

-- the label of what a block holds: nothing has none
abbrev pub label_for : (ℕ → Option ℕ) → Content → Option ℕ
label_for known (Free stamp) = None
label_for known (Live serial length) = known serial

-- a block with its label
abbrev pub labelled : (ℕ → Option ℕ) → PlacedBlock → LabelledBlock
labelled known block = record { block = block; label = label_for known block.content }

-- what was found for a serial, if anything was
abbrev pub label_or_none : Option (Option ℕ) → Option ℕ
label_or_none None = None
label_or_none (Some label) = label

-- the labels by pairs of a serial and a label
abbrev pub known_in : List (ℕ × Option ℕ) → ℕ → Option ℕ
known_in pairs serial = label_or_none (lookup (nat_eq serial) pairs)
