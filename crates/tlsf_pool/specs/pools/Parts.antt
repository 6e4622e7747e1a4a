-- Several heaps, one for each part of a table.
use denote.RawPtr.{null_ptr}
use Rattle.std.specs.Prelude.{◌≡◌, ℕ, ◌+◌, ◌-◌, ◌<◌, ◌≤◌, Bool, List, [], ◌∷◌, ◌++◌, Option, Some, None, Result, Ok, IfOk, IfSome, OnErr, OnOk, is_some, length, map, nat_le, nat_lt, position, replicate, set, slice_index, slice_index_or, sum, take, ⊤, ◌&&◌, if◌then◌else◌}
use Rattle.std.specs.List.{AllByRecursion}
use Rattle.tlsf_heap.specs.Calls.{opened}
use Rattle.tlsf_heap.specs.Footprint.{LeavesLive}
use Rattle.tlsf_heap.specs.Given.{payload_words_given}
use Rattle.tlsf_heap.specs.InPlace.{payload_of}
use Rattle.tlsf_heap.specs.Memory.{Extent, Extents}
use Rattle.tlsf_heap.specs.Touched.{allocate_touches, release_touches, write_touches, read_touches}
use Rattle.tlsf_heap.specs.declared.checked.Checked.{Checked}
use Rattle.tlsf_heap.specs.declared.name.Name.{Name}
use Rattle.tlsf_heap.specs.declared.placed_block.PlacedBlock.{PlacedBlock}
use Rattle.tlsf_heap.specs.declared.refusal.Refusal.{Refusal}
use Rattle.tlsf_heap.specs.declared.report.Report.{Report}
use Rattle.tlsf_heap.specs.ledger.Ledgers.{SameLedger}
use Rattle.tlsf_pool.specs.laws.FixedSize.{fixed_kinds_words, fixed_size}
use Rattle.tlsf_pool.specs.declared.kind.Kind.{Kind}
use Rattle.tlsf_pool.specs.declared.pools.pool_refusal.PoolRefusal.{PoolRefusal}
use Rattle.tlsf_pool.specs.declared.pools.row_counts.RowCounts.{RowCounts}
use Rattle.tlsf_pool.specs.pools.Tables.{TableExtents, TableState, CountsOneMore, IsTabled, HasPlace, most_at, row_of, table_allocated}
use Rattle.tlsf_heap.specs.Effects as heap
use Rattle.tlsf_heap.specs.Effects.{seen_by}
use Rattle.tlsf_heap.specs.Blocks.{want}

-- what several heaps show: the number of the first, each with its part of the table, and the memory of the vector that has them
pub record PoolsState : Type 0 where
  pub id : ℕ
  pub parts : List TableState
  pub extent : Extent

-- no memory
abbrev pub no_memory : Extent
no_memory = record { address = null_ptr; capacity = 0 }

-- no heap
abbrev pub no_part : TableState
no_part = record { heap = record { id = 0; words = 0; tick = 0; blocks = [] }; stored = record { words = []; starts = [] }; ledger = record { kinds = []; held = []; extents = record { kinds = no_memory; held = no_memory } }; extents = record { words = no_memory; starts = no_memory }; touches = 0; touched = [] }

abbrev pub part_at : PoolsState → ℕ → TableState
part_at p i = slice_index_or p.parts i no_part

-- the part for which a length counts: the first that has a row long enough for it
abbrev pub part_in : List TableState → ℕ → Option ℕ
part_in parts len = position (λ t. is_some (row_of t.ledger.kinds len)) parts

abbrev pub part_of : PoolsState → ℕ → Option ℕ
part_of p len = part_in p.parts len

-- the part whose heap a name names: the heaps have numbers one after the other
abbrev pub named_in : ℕ → List TableState → Name → Option ℕ
named_in id parts name = if nat_le id name.heap && nat_lt (name.heap - id) (length parts) then Some (name.heap - id) else None

abbrev pub part_named : PoolsState → Name → Option ℕ
part_named p name = named_in p.id p.parts name

-- the rows of these parts, one part after the other
abbrev pub rows_in : List TableState → List Kind
rows_in [] = []
rows_in (t ∷ parts) = t.ledger.kinds ++ rows_in parts

-- how many blocks are held of each of these rows
abbrev pub held_in : List TableState → List ℕ
held_in [] = []
held_in (t ∷ parts) = t.ledger.held ++ held_in parts

-- how many rows stand before those of a part
abbrev pub rows_before : List TableState → ℕ → ℕ
rows_before parts i = length (rows_in (take i parts))

-- the whole table, and how many blocks are held of each of its rows
abbrev pub table_of : PoolsState → List Kind
table_of p = rows_in p.parts

abbrev pub held_by : PoolsState → List ℕ
held_by p = held_in p.parts

-- the counts of a row of the whole table, None where it has no such row
abbrev pub counts_at : PoolsState → ℕ → Option RowCounts
counts_at p row = if nat_lt row (length (table_of p)) then Some (record { held = slice_index (held_by p) row; most = most_at (table_of p) row }) else None

-- row `own` of part i of these parts is this row of all
pub record IsRowOf (parts : List TableState) (row i own : ℕ) : Type 0 where
  pub part : i < length parts
  pub within : own < length (slice_index_or parts i no_part).ledger.kinds
  pub row_is : rows_before parts i + own ≡ row

-- this row of the whole table is one of a part
abbrev pub HasRow : PoolsState → ℕ → ℕ → Type 0
HasRow p row i = (rows_before p.parts i ≤ row) × (row < rows_before p.parts i + length (part_at p i).ledger.kinds)

-- each part is a heap for its table, and their numbers follow one another
pub record ArePools (sli : ℕ) (p : PoolsState) : Type 0 where
  pub tables : AllByRecursion (IsTabled sli) p.parts
  pub numbers : (i : ℕ) → i < length p.parts → (part_at p i).heap.id ≡ p.id + i
  pub few : length p.parts ≤ 8

-- a new heap of that number for a table: nothing is held
pub record IsNew (sli id first : ℕ) (table : List Kind) (t : TableState) : Type 0 where
  pub heap : t.heap ≡ opened id (fixed_kinds_words sli table) first
  pub kinds : t.ledger.kinds ≡ table
  pub held : t.ledger.held ≡ replicate (length table) 0

-- one more, a new one of that number, after the others
pub record AddsNew (sli id first : ℕ) (table : List Kind) (old new : List TableState) : Type 0 where
  pub pool : TableState
  pub items : new ≡ old ++ pool ∷ []
  pub is : IsNew sli id first table pool
  pub tabled : IsTabled sli pool

-- new heaps for these tables, in their order, with numbers one after the other
abbrev pub AreNew : ℕ → ℕ → ℕ → List (List Kind) → List TableState → Type 0
AreNew sli id first [] [] = ⊤
AreNew sli id first [] (t ∷ parts) = ⊥
AreNew sli id first (kinds ∷ tables) [] = ⊥
AreNew sli id first (kinds ∷ tables) (t ∷ parts) = IsNew sli id first kinds t × AreNew sli (id + 1) first tables parts

-- the memory of a heap, and that of its table
abbrev pub memory_of : TableState → Extents × TableExtents
memory_of t = (t.extents, t.ledger.extents)

-- no memory is taken or given back. The memory of each heap and each table stays where it is and as large, and so does that of the
-- vector of them
pub record Stay (old new : PoolsState) : Type 0 where
  pub parts : map memory_of new.parts ≡ map memory_of old.parts
  pub extent : new.extent ≡ old.extent

-- the others are as they were
pub record OnlyPart (old new : PoolsState) (i : ℕ) : Type 0 where
  pub id : new.id ≡ old.id
  pub parts : new.parts ≡ set old.parts i (part_at new i)

-- an allocate in a heap for a table. An accepted one is the heap's, with one block more held of its row, and a refused one changes
-- nothing. It has the most touches by the request's length, and a block of no more words than each is to have
pub record Allocates (sli : ℕ) (old new : TableState) (len : ℕ) (answer : Result Name PoolRefusal) : Type 0 where
  pub answer_is : IfOk answer (λ name. (table_allocated sli old.heap old.ledger len).answer ≡ Ok name)
  pub allocates : OnOk answer (heap.Allocates allocate_touches sli (fixed_size sli old.ledger.kinds) len (seen_by old) (seen_by new) (table_allocated sli old.heap old.ledger len).answer)
  pub counts : OnOk answer (CountsOneMore len old.ledger new.ledger)
  pub err : OnErr answer (SameLedger old new)
  pub kinds : new.ledger.kinds ≡ old.ledger.kinds
  pub touches : new.touches ≤ old.touches + allocate_touches + want len
  pub given : payload_words_given answer new.heap ≤ fixed_size sli old.ledger.kinds - 3
  pub rise : old.touches ≤ new.touches
  pub leaves : LeavesLive old.heap.blocks old.touched new.touched

-- a release in one: it looks at the length of the block first
pub record Releases (old new : TableState) (name : Name) (answer : Result (Unit {0}) Refusal) : Type 0 where
  pub releases : heap.Releases (4 + release_touches) (seen_by old) (seen_by new) name answer
  pub counts : OnOk answer (CountsOneMore (length (payload_of old.heap name)) new.ledger old.ledger)
  pub err : OnErr answer (SameLedger old new)
  pub kinds : new.ledger.kinds ≡ old.ledger.kinds

-- a write in one
pub record Writes (old new : TableState) (name : Name) (at : ℕ) (bytes : List ℕ) (answer : Result (Unit {0}) Refusal) : Type 0 where
  pub writes : heap.Writes (write_touches (length bytes)) (seen_by old) (seen_by new) name at bytes answer
  pub ledger : new.ledger ≡ old.ledger

-- a read in one, which fills these bytes with others
pub record Reads (old new : TableState) (name : Name) (at : ℕ) (bytes filled : List ℕ) (answer : Result (Unit {0}) Refusal) : Type 0 where
  pub reads : heap.Reads (read_touches (length bytes)) (seen_by old) (seen_by new) name at bytes filled answer
  pub same : SameLedger old new

-- a question to one whether a live block has this name
pub record AsksLive (old new : TableState) (name : Name) (answer : Bool) : Type 0 where
  pub asks : heap.AsksLive (seen_by old) (seen_by new) name answer
  pub same : SameLedger old new

-- a report on one, which counts the blocks that are held; no request that has a place is longer than its grant
pub record Reports (sli : ℕ) (old new : TableState) (report : Report) : Type 0 where
  pub reports : heap.Reports sli (seen_by old) (seen_by new) report
  pub held : report.live_blocks ≡ sum old.ledger.held
  pub grant : (len : ℕ) → HasPlace old.ledger len → len ≤ report.grant
  pub same : SameLedger old new

-- a look at what begins at a place of one
pub record Looks (old new : TableState) (at : ℕ) (answer : Option PlacedBlock) : Type 0 where
  pub looks : heap.Looks (seen_by old) (seen_by new) at answer
  pub same : SameLedger old new

-- a check of `most` blocks at most from a place of one on
pub record Checks (old new : TableState) (from most : ℕ) (answer : Option Checked) : Type 0 where
  pub checks : heap.ChecksBlocks old.stored from most (seen_by old) (seen_by new) answer
  pub stored : new.stored ≡ old.stored
  pub same : SameLedger old new

-- ---- what a call on one part leaves: the others, the table and all memory

-- a call on this part, if there is one: `does` says what it does there
pub record OnPart (sli : ℕ) (old new : PoolsState) (part : Option ℕ) (does : TableState → TableState → Type 0) : Type 0 where
  pub here : IfSome part (λ i. does (part_at old i) (part_at new i))
  pub others : IfSome part (OnlyPart old new)
  pub kinds : table_of new ≡ table_of old
  pub stays : Stay old new
  pub were_pools : ArePools sli old
  pub pools : ArePools sli new

-- a call on the part of this number
pub record AtPart (sli : ℕ) (old new : PoolsState) (part : ℕ) (does : TableState → TableState → Type 0) : Type 0 where
  pub here : does (part_at old part) (part_at new part)
  pub others : part < length old.parts → OnlyPart old new part
  pub kinds : table_of new ≡ table_of old
  pub stays : Stay old new
  pub were_pools : ArePools sli old
  pub pools : ArePools sli new
