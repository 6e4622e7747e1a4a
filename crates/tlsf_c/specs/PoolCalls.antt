-- The results of the calls of several heaps for one table of kinds, as tlsf_pool's contracts say them.
use Rattle.std.specs.Prelude.{◌≡◌, ◌≢◌, ℕ, ◌<◌, ◌≤◌, ◌↔◌, List, Option, Some, None, Result, Err, IfOk, IfSome, IsOk, IsSomeAnd, IsErrOf, OnOk, length}
use Rattle.tlsf_heap.specs.Calls.{last_tick}
use Rattle.tlsf_heap.specs.Footprint.{LeavesLive, LeavesPayloads}
use Rattle.tlsf_heap.specs.declared.checked.Checked.{Checked}
use Rattle.tlsf_heap.specs.declared.name.Name.{Name}
use Rattle.tlsf_heap.specs.declared.placed_block.PlacedBlock.{PlacedBlock}
use Rattle.tlsf_heap.specs.declared.refusal.Refusal.{Refusal}
use Rattle.tlsf_heap.specs.declared.refusal.Refusal.TheVariants.{Foreign}
use Rattle.tlsf_heap.specs.declared.report.Report.{Report}
use Rattle.tlsf_pool.specs.declared.kind.Kind.{Kind}
use Rattle.tlsf_pool.specs.declared.sizes.split.Split.{Split}
use Rattle.tlsf_pool.specs.declared.pools.pool_refusal.PoolRefusal.{PoolRefusal}
use Rattle.tlsf_pool.specs.declared.pools.pool_refusal.PoolRefusal.TheVariants.{TooLong, Full}
use Rattle.tlsf_pool.specs.pools.Parts.{PoolsState, Allocates, AreNew, ArePools, Checks, HasRow, Looks, OnlyPart, Reads, Releases, Reports, Writes, held_by, part_at, part_named, part_of, table_of}
use Rattle.tlsf_pool.specs.pools.Tables.{HasPlace, HoldsOneMore, IsFull, row_of}
use Rattle.tlsf_pool.specs.sizes.Splits.{IsLeast, parts_of}

-- no word of the payload of a live block was read or written, in the heap of any part
abbrev pub PartsLeaveLive : PoolsState → PoolsState → Type 0
PartsLeaveLive old new = (i : ℕ) → LeavesLive (part_at old i).heap.blocks (part_at old i).touched (part_at new i).touched

-- nor but of the block at the name's place in the part that it names
pub record PartsLeavePayloads (old new : PoolsState) (name : Name) : Type 0 where
  pub there : (i : ℕ) → LeavesPayloads (part_at old i).heap.blocks name.at (part_at old i).touched (part_at new i).touched
  pub elsewhere : (i : ℕ) → part_named old name ≢ Some i → LeavesLive (part_at old i).heap.blocks (part_at old i).touched (part_at new i).touched

-- new heaps for the parts of a way to cut the table that has the fewest words of all
pub record AreNewPools (sli number : ℕ) (kinds : List Kind) (p : PoolsState) : Type 0 where
  pub new : (split : Split) × IsLeast sli 8 kinds split × AreNew sli number 0 (parts_of split kinds) p.parts
  pub id : p.id ≡ number
  pub table : table_of p ≡ kinds

-- an allocate: when it is a name, and why not. The heap of the first part that has a row long enough serves it, and the others stay
pub record AllocatesInPools (sli : ℕ) (old new : PoolsState) (len : ℕ) (answer : Result Name PoolRefusal) : Type 0 where
  pub ok : IsOk answer ↔ IsSomeAnd (part_of old len) (λ i. HasPlace (part_at old i).ledger len × ¬ ((part_at old i).heap.tick ≡ last_tick))
  pub too_long : IsErrOf answer TooLong ↔ (part_of old len ≡ None)
  pub full : IsErrOf answer Full ↔ IsSomeAnd (part_of old len) (λ i. IsFull (part_at old i).ledger len)
  pub allocates : IfSome (part_of old len) (λ i. Allocates sli (part_at old i) (part_at new i) len answer)
  pub others : IfSome (part_of old len) (OnlyPart old new)
  pub none : part_of old len ≡ None → new ≡ old
  pub row : IfOk answer (λ name. IsSomeAnd (row_of (table_of old) len) (λ row. IsSomeAnd (part_named old name) (HasRow old row)))
  pub held : OnOk answer (HoldsOneMore (table_of old) len (held_by old) (held_by new))
  pub kinds : table_of new ≡ table_of old
  pub pools : ArePools sli new

-- a release, a write and a read: by the heap that the name names, while the others stay
pub record ReleasesInPools (old new : PoolsState) (name : Name) (answer : Result (Unit {0}) Refusal) : Type 0 where
  pub releases : IfSome (part_named old name) (λ i. Releases (part_at old i) (part_at new i) name answer)
  pub others : IfSome (part_named old name) (OnlyPart old new)
  pub foreign : part_named old name ≡ None → (answer ≡ Err Foreign) × (new ≡ old)
  pub kinds : table_of new ≡ table_of old

pub record WritesInPools (old new : PoolsState) (name : Name) (at : ℕ) (bytes : List ℕ) (answer : Result (Unit {0}) Refusal) : Type 0 where
  pub writes : IfSome (part_named old name) (λ i. Writes (part_at old i) (part_at new i) name at bytes answer)
  pub others : IfSome (part_named old name) (OnlyPart old new)
  pub foreign : part_named old name ≡ None → (answer ≡ Err Foreign) × (new ≡ old)
  pub kinds : table_of new ≡ table_of old

pub record ReadsInPools (old new : PoolsState) (name : Name) (at : ℕ) (bytes filled : List ℕ) (answer : Result (Unit {0}) Refusal) : Type 0 where
  pub reads : IfSome (part_named old name) (λ i. Reads (part_at old i) (part_at new i) name at bytes filled answer)
  pub others : IfSome (part_named old name) (OnlyPart old new)
  pub foreign : part_named old name ≡ None → (answer ≡ Err Foreign) × (filled ≡ bytes) × (new ≡ old)
  pub kinds : table_of new ≡ table_of old

-- a report on the heap of a part, where there is one
pub record ReportsInPools (sli : ℕ) (old new : PoolsState) (part : ℕ) (answer : Option Report) : Type 0 where
  pub none : (answer ≡ None) ↔ (length old.parts ≤ part)
  pub reports : IfSome answer (Reports sli (part_at old part) (part_at new part))
  pub others : part < length old.parts → OnlyPart old new part
  pub unchanged : length old.parts ≤ part → new ≡ old
  pub kinds : table_of new ≡ table_of old

-- a look at the block that begins at a place of a part, where there is one
pub record LooksInPools (old new : PoolsState) (part at : ℕ) (answer : Option PlacedBlock) : Type 0 where
  pub none : length old.parts ≤ part → (answer ≡ None) × (new ≡ old)
  pub looks : part < length old.parts → Looks (part_at old part) (part_at new part) at answer
  pub others : part < length old.parts → OnlyPart old new part
  pub kinds : table_of new ≡ table_of old

-- a check of blocks of a part, where there is one
pub record ChecksInPools (old new : PoolsState) (part from most : ℕ) (answer : Option Checked) : Type 0 where
  pub none : length old.parts ≤ part → (answer ≡ None) × (new ≡ old)
  pub checks : part < length old.parts → Checks (part_at old part) (part_at new part) from most answer
  pub others : part < length old.parts → OnlyPart old new part
  pub kinds : table_of new ≡ table_of old
