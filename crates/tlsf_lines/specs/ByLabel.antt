-- A table by label, of whatever is kept of each.
use Rattle.std.specs.Prelude.{ℕ, ◌≡◌, ◌==◌, if◌then◌else◌, List, slice_index_or, Option, None}

-- what is kept of a label; beyond the end of the table nothing is
abbrev pub kept_of : {T : Type 0} → List (Option T) → ℕ → Option T
kept_of table label = slice_index_or table label None

-- this is kept of one label, and of each other what was
abbrev pub IsSet : {T : Type 0} → List (Option T) → List (Option T) → ℕ → Option T → Type 0
IsSet old new label thing = (q : ℕ) → kept_of new q ≡ (if label == q then thing else kept_of old q)
