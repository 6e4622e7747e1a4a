-- The table of kinds that a worker's calls keep to.
use Rattle.std.specs.Prelude.{◌≡◌, ◌↔◌, ℕ, ◌<◌, ◌≤◌, List, [], ◌∷◌, length, map}
use Rattle.std.specs.List.{range_with_len}
use Rattle.tlsf_heap.specs.Calls.{Call, Allocate, Answer}
use Rattle.tlsf_pool.specs.laws.Kinds.{Inventory, inventory_after, lengths}
use Rattle.tlsf_pool.specs.declared.kind.Kind.{Kind}
use Rattle.tlsf_held.specs.Rows.{row_count, row_in, row_of, used, IsWithin}
use Rattle.tlsf_held.specs.declared.row.Row.{Row}

-- the lengths that are held, with that of the block that a call asks for
abbrev pub lengths_with : Inventory → Call → List ℕ
lengths_with inventory (Allocate len) = len ∷ lengths inventory
lengths_with inventory call = lengths inventory

-- of one row these calls, which get these answers, hold no more blocks at once, and none longer. So it is with each block that is
-- asked for, and in the end
abbrev pub KeepWithin : (ℕ → ℕ) → ℕ → Row → Inventory → List Call → List Answer → Type 0
KeepWithin row at bound inventory [] answers = IsWithin (row_in row at (lengths inventory)) bound
KeepWithin row at bound inventory (call ∷ calls) [] = IsWithin (row_in row at (lengths inventory)) bound
KeepWithin row at bound inventory (call ∷ calls) (answer ∷ answers) =
    IsWithin (row_in row at (lengths_with inventory call)) bound × KeepWithin row at bound (inventory_after inventory call answer) calls answers

-- this many blocks and bytes, and no fewer
abbrev pub IsLeastRow : (ℕ → ℕ) → ℕ → List Call → List Answer → Row → Type 0
IsLeastRow row at calls answers least = (bound : Row) → KeepWithin row at bound [] calls answers ↔ IsWithin least bound

-- the longest of a row, where it has one, is of it
abbrev pub IsOfRow : (ℕ → ℕ) → ℕ → Row → Type 0
IsOfRow row at found = 0 < found.most → row found.longest ≡ at

-- the rows of a grain of which a block is held or asked for, in rising length
pub record AreRows (sli grain : ℕ) (calls : List Call) (answers : List Answer) (rows : List Row) : Type 0 where
  pub all : ℕ → Row
  pub least : (at : ℕ) → at < row_count sli grain → IsLeastRow (row_of sli grain) at calls answers (all at)
  pub own : (at : ℕ) → at < row_count sli grain → IsOfRow (row_of sli grain) at (all at)
  pub rows_are : rows ≡ used (map all (range_with_len 0 (row_count sli grain)))

-- the table: the rows of the finest grain at which there are at most 64
pub record IsTable (sli : ℕ) (calls : List Call) (answers : List Answer) (rows : List Row) : Type 0 where
  pub grain : ℕ
  pub are : AreRows sli grain calls answers rows
  pub few : length rows ≤ 64
  pub finest : (finer : ℕ) (others : List Row) → finer < grain → AreRows sli finer calls answers others → 64 < length others

-- a row as a kind
abbrev pub kinds_of : List Row → List Kind
kinds_of rows = map (λ row. record { most = row.most; len = row.longest }) rows
