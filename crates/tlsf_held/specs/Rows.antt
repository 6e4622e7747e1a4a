-- Rows of a table of kinds, and what lengths come to in one.
use Rattle.std.specs.Prelude.{◌≡◌, ℕ, length, ◌+◌, ◌/◌, ◌^◌, ◌≤◌, ◌==◌, List, [], ◌∷◌, get_or, max, filter, nat_le, nat_lt, set, if◌then◌else◌}
use Rattle.tlsf_class.specs.Classes.{IsLevel, class_of, last_class, most_words}
use Rattle.tlsf_heap.specs.Blocks.{want}
use Rattle.tlsf_held.specs.declared.row.Row.{Row}

-- the class of the words that a length wants, and the number behind the last one for lengths that no class serves
unfoldable pub class_number : ℕ → ℕ → ℕ
class_number sli len = if nat_le (want len) (most_words sli) then class_of sli (want len) else last_class sli + 1

-- the row of a length, where 2^grain classes make one
abbrev pub row_of : (sli grain : ℕ) → ℕ → ℕ
row_of sli grain len = class_number sli len / 2 ^ grain

-- how many rows there are
abbrev pub row_count : (sli grain : ℕ) → ℕ
row_count sli grain = (last_class sli + 1) / 2 ^ grain + 1

-- at a level that heaps have, 2^power classes make a row, at most 16
pub record IsGrain (sli power : ℕ) : Type 0 where
  pub level : IsLevel sli
  pub grain : power ≤ 4

-- these are all its rows
pub record AreAllRows (sli grain : ℕ) (rows : List Row) : Type 0 where
  pub by : IsGrain sli grain
  pub count : length rows ≡ row_count sli grain

-- of no length
abbrev pub no_row : Row
no_row = record { most = 0; longest = 0 }

-- with one length more
abbrev pub with_one : Row → ℕ → Row
with_one row len = record { most = row.most + 1; longest = max row.longest len }

-- how many of these lengths are of a row, and the longest of them
abbrev pub row_in : (ℕ → ℕ) → ℕ → List ℕ → Row
row_in row at [] = no_row
row_in row at (len ∷ lens) = if row len == at then with_one (row_in row at lens) len else row_in row at lens

-- no more blocks, and none longer
abbrev pub IsWithin : Row → Row → Type 0
IsWithin row bound = (row.most ≤ bound.most) × (row.longest ≤ bound.longest)

-- the least row that both are within
abbrev pub joined : Row → Row → Row
joined a b = record { most = max a.most b.most; longest = max a.longest b.longest }

-- a row raised to one more that was found
abbrev pub raised : List Row → ℕ → Row → List Row
raised rows at found = set rows at (joined (get_or rows at no_row) found)

-- the rows of which a block was held
abbrev pub used : List Row → List Row
used rows = filter (λ row. nat_lt 0 row.most) rows
