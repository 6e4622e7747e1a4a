-- How many lines of an input are open.
use Rattle.std.specs.Prelude.{ℕ, ◌-◌, ◌==◌, if◌then◌else◌, List, length, slice_index_or}

-- one where the last byte is no line feed
abbrev pub open_count : List ℕ → ℕ
open_count bytes = if slice_index_or bytes (length bytes - 1) 10 == 10 then 0 else 1
