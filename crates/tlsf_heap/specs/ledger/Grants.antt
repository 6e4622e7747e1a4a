-- The numbers of a heap's accepted allocates and releases.
use Rattle.std.specs.Prelude.{◌≡◌, ℕ, ◌+◌, ◌<◌, ◌↔◌, [], Result, Ok, Err, IsOk, IsErrOf, length}
use Rattle.tlsf_heap.specs.Blocks.{HeapState, want}
use Rattle.tlsf_heap.specs.Calls.{last_tick}
use Rattle.tlsf_heap.specs.GoodFit.{fits}
use Rattle.tlsf_heap.specs.Reports.{live_among}
use Rattle.tlsf_heap.specs.declared.name.Name.{Name}
use Rattle.tlsf_heap.specs.declared.refusal.Refusal.{Refusal}
use Rattle.tlsf_heap.specs.declared.refusal.Refusal.TheVariants.{NoFit}
use Rattle.tlsf_heap.specs.ledger.Ledgers.{LedgerState, IsLedgered}

-- what the ledger of a counted heap shows: how many allocates and how many releases were accepted
pub record GrantCount : Type 0 where
  pub grants : ℕ
  pub returns : ℕ

-- how many blocks of a heap are live
abbrev pub live_count : HeapState → ℕ
live_count h = length (live_among h.blocks)

-- the live blocks are the grants less the returns, and the tick is above both together
pub record AreCounts (h : HeapState) (c : GrantCount) : Type 0 where
  pub live : live_count h + c.returns ≡ c.grants
  pub below : c.grants + c.returns < h.tick

-- the heap is lawful, and these are its counts
abbrev pub IsCounted : LedgerState GrantCount → Type 0
IsCounted = IsLedgered AreCounts

-- how many calls an answer accepts: one or none
abbrev pub accepted : {A : Type 0} → Result A Refusal → ℕ
accepted (Ok x) = 1
accepted (Err why) = 0

-- a request is refused as NoFit where no block fits, and given where one does and the tick isn't at its last value
pub record TellsFit (sli : ℕ) (h : HeapState) (len : ℕ) (answer : Result Name Refusal) : Type 0 where
  pub no_fit : IsErrOf answer NoFit ↔ (fits sli (want len) h.blocks ≡ [])
  pub ok : IsOk answer ↔ (¬ (fits sli (want len) h.blocks ≡ []) × ¬ (h.tick ≡ last_tick))
