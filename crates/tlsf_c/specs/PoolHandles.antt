-- The objects behind C's handles of pools, and what crosses to C beside them.
use Rattle.std.specs.Prelude.{◌≡◌, ℕ, Bool, true, List, map, Option, Some, None, Result, Ok, Err}
use Rattle.tlsf_heap.specs.Numbers.{number_of}
use Rattle.tlsf_heap.specs.declared.name.Name.{Name}
use Rattle.tlsf_heap.specs.declared.refusal.Refusal.{Refusal}
use Rattle.tlsf_heap.specs.declared.refusal.Refusal.TheVariants.{Worn, Stale}
use Rattle.tlsf_heap.specs.declared.report.Report.{Report}
use Rattle.tlsf_pool.specs.declared.kind.Kind.{Kind}
use Rattle.tlsf_pool.specs.declared.pools.pool_refusal.PoolRefusal.{PoolRefusal}
use Rattle.tlsf_pool.specs.declared.pools.pool_refusal.PoolRefusal.TheVariants as pool
use Rattle.tlsf_pool.specs.pools.Parts.{PoolsState}
use Rattle.tlsf_c.specs.Arenas.{is_pools, pools_of}
use Rattle.tlsf_c.specs.Lengths.{saturated}
use Rattle.tlsf_c.specs.PoolCalls.{PartsLeaveLive, PartsLeavePayloads}
use Rattle.tlsf_c.specs.Refusals.{bad_size, row_full, status_of}
use Rattle.tlsf_c.specs.Serving.{OnKind, arena_serves}
use Rattle.tlsf_c.specs.declared.arena_slot.ArenaSlot.{ArenaSlot}
use Rattle.tlsf_c.specs.declared.kind_row.KindRow.{KindRow}

-- the pools of an open handle
abbrev pub pools_in : ArenaSlot → PoolsState
pools_in h = (pools_of h.inner.value).pools

-- their level
abbrev pub pools_level : ArenaSlot → ℕ
pools_level h = (pools_of h.inner.value).level

-- it is pools
abbrev pub holds_pools : ArenaSlot → Bool
holds_pools h = is_pools h.inner.value

-- an open handle serves again with its kind, and its pools keep their level
pub record PoolsStayOpen (old new : ArenaSlot) : Type 0 where
  pub serves : arena_serves new ≡ true
  pub kind : holds_pools new ≡ holds_pools old
  pub level : pools_level new ≡ pools_level old

-- a call on a handle that has to hold pools: the handle stays open
abbrev pub OnPools : ArenaSlot → ArenaSlot → ℕ → Type 0 → Type 0
OnPools old new answer done = OnKind (arena_serves old) (holds_pools old) old new answer (PoolsStayOpen old new × done)

-- a call by a name on pools that is answered so. It reads and writes at most the payload that the name tells of, and where it is
-- refused none
pub record ByName (old new : PoolsState) (name : Name) (answer : ℕ) (has : Result (Unit {0}) Refusal → Type 0) : Type 0 where
  pub effect : (said : Result (Unit {0}) Refusal) × has said × (answer ≡ status_of said)
  pub leaves : PartsLeavePayloads old new name
  pub leaves_all : ¬ (answer ≡ 0) → PartsLeaveLive old new

abbrev pub kind_of : KindRow → Kind
kind_of row = record { most = row.most; len = saturated row.len }

abbrev pub kinds_of : List KindRow → List Kind
kinds_of rows = map kind_of rows

-- 0, or why pools refuse an allocate. Then no row is long enough, as many blocks of the row are held as may be, or the ticks are
-- used up
abbrev pub pool_status_of : Result Name PoolRefusal → ℕ
pool_status_of (Ok name) = 0
pool_status_of (Err pool.TooLong) = bad_size
pool_status_of (Err pool.Full) = row_full
pool_status_of (Err pool.Worn) = number_of Worn

-- 0, or that there is no such part
abbrev pub part_status_of : Option Report → ℕ
part_status_of (Some report) = 0
part_status_of None = number_of Stale
