-- Tables whose rows go from short to long.
use Rattle.std.specs.Prelude.{ℕ, ◌+◌, ◌-◌, ◌<◌, ◌≤◌, List, length, slice_index_or}
use Rattle.tlsf_pool.specs.declared.kind.Kind.{Kind}
use Rattle.tlsf_pool.specs.sizes.Splits.{HasNoCut}

-- the bytes of a request of a row, at most
abbrev pub len_at : List Kind → ℕ → ℕ
len_at kinds row = (slice_index_or kinds row (record { most = 0; len = 0 })).len

-- the rows rise in their lengths: each is longer than the one before it
abbrev pub Rises : List Kind → Type 0
Rises kinds = (row : ℕ) → row + 1 < length kinds → len_at kinds row < len_at kinds (row + 1)

-- this row is no longer than the one before it, and it is the first that isn't
pub record IsFirstFall (kinds : List Kind) (row : ℕ) : Type 0 where
  pub some : 0 < row
  pub within : row < length kinds
  pub falls : len_at kinds row ≤ len_at kinds (row - 1)
  pub first : (k : ℕ) → k + 1 < row → len_at kinds k < len_at kinds (k + 1)

-- this number of heaps doesn't serve the table: its rows don't rise, or there is no way of cutting them
abbrev pub HasNoHeaps : ℕ → ℕ → List Kind → Type 0
HasNoHeaps sli heaps kinds = Rises kinds → HasNoCut sli heaps kinds
