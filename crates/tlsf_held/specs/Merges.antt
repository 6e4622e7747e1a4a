-- Neighbouring rows of a table merged, each with the most of its blocks that are held at once.
use Rattle.std.specs.Prelude.{◌≡◌, ℕ, ◌+◌, ◌-◌, ◌<◌, ◌≤◌, ◌^◌, ◌==◌, ◌&&◌, Bool, List, [], ◌∷◌, get_or, length, max, min, nat_le, nat_lt, if◌then◌else◌}
use Rattle.tlsf_class.specs.Classes.{IsLevel, most_words}
use Rattle.tlsf_heap.specs.Blocks.{want}
use Rattle.tlsf_heap.specs.Calls.{Call, Answer}
use Rattle.tlsf_pool.specs.laws.FixedSize.{fixed_words}
use Rattle.tlsf_held.specs.KindTables.{IsLeastRow, IsTable}
use Rattle.tlsf_held.specs.Rows.{no_row}
use Rattle.tlsf_held.specs.declared.row.Row.{Row}

-- ---- the blocks of a band of lengths

-- the lengths from one on, below another
abbrev pub is_between : (from to : ℕ) → ℕ → Bool
is_between from to len = nat_le from len && nat_lt len to

-- 1 for these, 0 for all others
abbrev pub band_of : (from to : ℕ) → ℕ → ℕ
band_of from to len = if is_between from to len then 1 else 0

-- the most blocks of such lengths that these calls, which get these answers, hold at once, and the longest of them
abbrev pub IsBandRow : List Call → List Answer → (from to : ℕ) → Row → Type 0
IsBandRow calls answers from to = IsLeastRow (band_of from to) 1 calls answers

-- ---- rows of a table merged

-- a table of a level that heaps have, of at most 64 rows
pub record IsSmallTable (sli : ℕ) (table : List Row) : Type 0 where
  pub level : IsLevel sli
  pub few : length table ≤ 64

-- the shortest length that counts for a table's rows from this number on: it is longer than the row before
abbrev pub starts_at : List Row → ℕ → ℕ
starts_at table at = if at == 0 then 0 else (get_or table (at - 1) no_row).longest + 1

-- from a number on, this many rows of the table in turn are merged into each of these, and none is left over
abbrev pub AreMerged : List Call → List Answer → List Row → (at : ℕ) → (lens : List ℕ) → List Row → Type 0
AreMerged calls answers table at [] [] = at ≡ length table
AreMerged calls answers table at [] (row ∷ rows) = ⊥
AreMerged calls answers table at (n ∷ lens) [] = ⊥
AreMerged calls answers table at (n ∷ lens) (row ∷ rows) = (0 < n) × (at + n ≤ length table)
    × IsBandRow calls answers (starts_at table at) (starts_at table (at + n)) row × AreMerged calls answers table (at + n) lens rows

-- a way of merging all rows of a table
pub record IsMerge (calls : List Call) (answers : List Answer) (table rows : List Row) : Type 0 where
  pub lens : List ℕ
  pub are : AreMerged calls answers table 0 lens rows

-- ---- the words of their pools

-- what counts for a row that no region serves: more than eight regions ever have
abbrev pub no_region : ℕ
no_region = 2 ^ 32

-- the words of a pool for a row
abbrev pub row_words : ℕ → Row → ℕ
row_words sli row =
    let words = fixed_words sli row.most row.longest in
    if nat_le (want row.longest) (most_words sli) && nat_le words (most_words sli) then words else no_region

-- and for all of these
abbrev pub rows_words : ℕ → List Row → ℕ
rows_words sli [] = 0
rows_words sli (row ∷ rows) = row_words sli row + rows_words sli rows

-- of all ways of merging the rows of a table into at most this many, this one has the fewest words
pub record IsLeastMerge (sli heaps : ℕ) (calls : List Call) (answers : List Answer) (table rows : List Row) : Type 0 where
  pub merge : IsMerge calls answers table rows
  pub few : length rows ≤ heaps
  pub least : (others : List Row) → IsMerge calls answers table others → length others ≤ heaps → rows_words sli rows ≤ rows_words sli others

-- this many heaps are meant: none counts as one, and more than eight as eight
abbrev pub heaps_of : ℕ → ℕ
heaps_of heaps = max (min heaps 8) 1

-- the table that these calls keep to, merged for this many heaps
pub record IsMergedTable (sli heaps : ℕ) (calls : List Call) (answers : List Answer) (rows : List Row) : Type 0 where
  pub table : List Row
  pub is_table : IsTable sli calls answers table
  pub merged : IsLeastMerge sli (heaps_of heaps) calls answers table rows
