-- A heap for a table of kinds: for which kind a block counts, and how many are held of each. All blocks have the same words.
use Rattle.std.specs.Prelude.{◌≡◌, ◌≢◌, ℕ, ◌+◌, ◌-◌, ◌<◌, ◌≤◌, ◌↔◌, List, [], ◌∷◌, Option, Some, None, Result, Ok, Err, IfOk, IsOk, IsErrOf, IsSomeAnd, length, map, filter, position, slice_index, slice_index_or, set, sum, nat_le, nat_lt, if◌then◌else◌}
use Rattle.std.specs.List.{AllByRecursion}
use Rattle.std.specs.Option.{option_map}
use Rattle.tlsf_class.specs.Classes.{IsLevel}
use Rattle.tlsf_heap.specs.Blocks.{Block, HeapState, bytes_of}
use Rattle.tlsf_heap.specs.Calls.{Outcome, allocated_words, last_tick}
use Rattle.tlsf_heap.specs.Given.{payload_words_given}
use Rattle.tlsf_heap.specs.Lawful.{IsLawful}
use Rattle.tlsf_heap.specs.Memory.{Extent}
use Rattle.tlsf_heap.specs.Reports.{live_among}
use Rattle.tlsf_heap.specs.declared.name.Name.{Name}
use Rattle.tlsf_heap.specs.declared.refusal.Refusal.{Refusal}
use Rattle.tlsf_heap.specs.declared.refusal.Refusal.TheVariants.{NoFit}
use Rattle.tlsf_heap.specs.declared.report.Report.{Report}
use Rattle.tlsf_heap.specs.ledger.Ledgers.{LedgerState, IsLedgered}
use Rattle.tlsf_pool.specs.declared.kind.Kind.{Kind}
use Rattle.tlsf_pool.specs.declared.pools.pool_refusal.PoolRefusal.{PoolRefusal}
use Rattle.tlsf_pool.specs.declared.pools.pool_refusal.PoolRefusal.TheVariants.{TooLong, Full}
use Rattle.tlsf_pool.specs.laws.FixedSize.{HasFixedSize, fixed_kinds_words, fixed_size}
use Rattle.tlsf_pool.specs.laws.Kinds.{AreOfKinds, HasClass}
use Rattle.tlsf_pool.specs.pools.Bounds.{or_worn}
use Rattle.tlsf_pool.specs.sizes.Rising.{len_at}

-- the bytes of each live block
abbrev pub lengths_in : List Block → List ℕ
lengths_in blocks = map (λ block. length (bytes_of block)) (live_among blocks)

-- the row of a table for which a length counts: the first that is long enough for it; None where none is
abbrev pub row_of : List Kind → ℕ → Option ℕ
row_of kinds len = position (λ kind. nat_le len kind.len) kinds

-- the bytes of that row
abbrev pub row_len : List Kind → ℕ → Option ℕ
row_len kinds len = option_map (λ row. len_at kinds row) (row_of kinds len)

-- a request of each row's own length counts for it
abbrev pub AreAllReached : List Kind → Type 0
AreAllReached kinds = (row : ℕ) → row < length kinds → row_of kinds (len_at kinds row) ≡ Some row

-- how many of these lengths count for each row
abbrev pub held_of : List Kind → List ℕ → List ℕ
held_of [] lens = []
held_of (kind ∷ kinds) lens = length (filter (λ n. nat_le n kind.len) lens) ∷ held_of kinds (filter (λ n. nat_lt kind.len n) lens)

-- how many blocks of a row may be held
abbrev pub most_at : List Kind → ℕ → ℕ
most_at kinds row = (slice_index_or kinds row (record { most = 0; len = 0 })).most

-- the memory of both: that of the rows, and that of the counts
pub record TableExtents : Type 0 where
  pub kinds : Extent
  pub held : Extent

-- what the ledger of a table shows: the table, how many blocks are held of each row, and the memory of both
pub record TableRows : Type 0 where
  pub kinds : List Kind
  pub held : List ℕ
  pub extents : TableExtents

-- the same table, and no memory is taken for it or given back: both vectors stay where they are, and as large
pub record SameTable (old new : TableRows) : Type 0 where
  pub kinds : new.kinds ≡ old.kinds
  pub stays : new.extents ≡ old.extents

-- what a heap for a table shows
abbrev pub TableState : Type 0
TableState = LedgerState TableRows

-- the heap has a level, is lawful and has the words of the table. Its live blocks fit the table, and for each row the number that
-- is held counts. All have the words from which every free block serves the longest kind of which one is held
pub record IsTable (sli : ℕ) (h : HeapState) (t : TableRows) : Type 0 where
  pub level : IsLevel sli
  pub lawful : IsLawful h
  pub words : h.words ≡ fixed_kinds_words sli t.kinds
  pub classes : AllByRecursion (HasClass sli) t.kinds
  pub few : length t.kinds ≤ 64
  pub held : t.held ≡ held_of t.kinds (lengths_in h.blocks)
  pub fit : AreOfKinds t.kinds (lengths_in h.blocks)
  pub fixed : HasFixedSize (fixed_size sli t.kinds) h

-- so it is of a heap with its ledger
abbrev pub IsTabled : ℕ → TableState → Type 0
IsTabled sli = IsLedgered (IsTable sli)

-- fewer blocks are held than may be of the row for which a length counts
abbrev pub HasPlace : TableRows → ℕ → Type 0
HasPlace t len = IsSomeAnd (row_of t.kinds len) (λ row. slice_index t.held row < most_at t.kinds row)

-- as many are held as may be
abbrev pub IsFull : TableRows → ℕ → Type 0
IsFull t len = IsSomeAnd (row_of t.kinds len) (λ row. slice_index t.held row ≡ most_at t.kinds row)

-- of the row for which a length counts one more is held after, of all others as many as before
abbrev pub HoldsOneMore : List Kind → ℕ → List ℕ → List ℕ → Type 0
HoldsOneMore kinds len before after = IsSomeAnd (row_of kinds len) (λ row. after ≡ set before row (slice_index before row + 1))

-- how a request that counts for this row is answered, by the heap's answer
abbrev pub answered_in : TableRows → Result Name Refusal → Option ℕ → Result Name PoolRefusal
answered_in t answer None = Err TooLong
answered_in t answer (Some row) = if nat_lt (slice_index t.held row) (most_at t.kinds row) then or_worn answer else Err Full

abbrev pub answered_by_table : TableRows → ℕ → Result Name Refusal → Result Name PoolRefusal
answered_by_table t len answer = answered_in t answer (row_of t.kinds len)

-- a request of this many bytes: it takes the words of each block, whatever its length
abbrev pub table_allocated : ℕ → HeapState → TableRows → ℕ → Outcome Name
table_allocated sli h t len = allocated_words sli h (fixed_size sli t.kinds) len

-- a request is given whenever its row has a place, while the tick isn't at its last value. The blocks held then fit the table with
-- it. The refusals in their order: there is none for want of room. The block has no more words than each is to have
pub record TellsTable (sli : ℕ) (h : HeapState) (t : TableRows) (len : ℕ) (answer : Result Name PoolRefusal) : Type 0 where
  pub ok : IsOk answer ↔ (HasPlace t len × ¬ (h.tick ≡ last_tick))
  pub planned : HasPlace t len ↔ AreOfKinds t.kinds (len ∷ lengths_in h.blocks)
  pub too_long : IsErrOf answer TooLong ↔ (row_of t.kinds len ≡ None)
  pub full : IsErrOf answer Full ↔ IsFull t len
  pub room : HasPlace t len → (table_allocated sli h t len).answer ≢ Err NoFit
  pub given : payload_words_given answer (table_allocated sli h t len).heap ≤ fixed_size sli t.kinds - 3
  pub name : IfOk answer (λ name. (table_allocated sli h t len).answer ≡ Ok name)

-- as many blocks are live as are held of all rows, and no request that has a place is longer than the grant
pub record ReportsTable (t : TableRows) (report : Report) : Type 0 where
  pub held : report.live_blocks ≡ sum t.held
  pub grant : (len : ℕ) → HasPlace t len → len ≤ report.grant

-- the same table, and one block more held after of the row for which a length counts
pub record CountsOneMore (len : ℕ) (before after : TableRows) : Type 0 where
  pub kinds : after.kinds ≡ before.kinds
  pub held : HoldsOneMore before.kinds len before.held after.held
