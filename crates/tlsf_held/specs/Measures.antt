-- The needs of a trace's workers from their heaps.
use Rattle.std.specs.Prelude.{◌≡◌, ◌↔◌, ℕ, ◌<◌, ◌≤◌, IsSomeAnd, IsTrue, List, [], ◌∷◌, Option, Some, Result, ⊤}
use Rattle.std.specs.List.{AllByRecursion}
use Rattle.tlsf_heap.specs.Calls.{Call, Allocate, Answer}
use Rattle.tlsf_heap.specs.Lawful.{IsRegion}
use Rattle.tlsf_heap.specs.declared.name.Name.{Name}
use Rattle.tlsf_calls.specs.declared.entry.Entry.{Entry}
use Rattle.tlsf_pool.specs.laws.MixedSizes.{AreModest, HasRoomFor}
use Rattle.tlsf_crew.specs.histories.History.{answers_on, calls_on}
use Rattle.tlsf_pool.specs.declared.kind.Kind.{Kind}
use Rattle.tlsf_pool.specs.laws.Kinds.{Inventory, inventory_after, kinds_words, lengths, HasClass, StaysFour, are_fours}
use Rattle.tlsf_pool.specs.pools.Parts.{ArePools, PoolsState, held_by, part_at, part_of, table_of}
use Rattle.tlsf_pool.specs.pools.Tables.{HasPlace, held_of}
use Rattle.tlsf_held.specs.HeldLines.{held_region, held_text}
use Rattle.tlsf_held.specs.KindLines.{kinds_text}
use Rattle.tlsf_held.specs.KindTables.{kinds_of, IsTable}
use Rattle.tlsf_held.specs.Loans.{IsMostWanted}
use Rattle.tlsf_held.specs.Merges.{IsMergedTable}
use Rattle.tlsf_held.specs.declared.row.Row.{Row}
use Rattle.tlsf_lines.specs.Trace.{Trace}
use Rattle.tlsf_lines.specs.declared.trace_fault.TraceFault.{TraceFault}
use Rattle.tlsf_trace.specs.Output.{level_in, run_of}
use Rattle.tlsf_trace.specs.Replay.{IsRun}
use Rattle.tlsf_trace.specs.declared.summary.Summary.{Summary}

-- the results of a replay of a trace that are measured: the names that its events made, and its entries
abbrev pub IsRunOf : Trace → List (Option Name) → List Entry → Type 0
IsRunOf trace made entries = let run = run_of trace in (made ≡ run.made) × (entries ≡ run.entries)

-- the least bounds of these calls, which got these answers. No fewer blocks are held at once, the one that is asked for included,
-- and no fewer bytes
abbrev pub AreLeastBounds : List Call → List Answer → (most len : ℕ) → Type 0
AreLeastBounds calls answers most len = (m n : ℕ) → AreModest m n 0 calls answers ↔ ((most ≤ m) × (len ≤ n))

-- the least bounds of the calls on heap j that a replay of the trace makes, a drain's releases among them
abbrev pub AreBoundsOf : Trace → ℕ → (most len : ℕ) → Type 0
AreBoundsOf trace j most len =
    let run = run_of trace in AreLeastBounds (calls_on j run.made run.entries) (answers_on j run.entries) most len

-- the most words that these calls want at once
abbrev pub IsMostWantedOf : Trace → ℕ → ℕ → Type 0
IsMostWantedOf trace j wanted =
    let run = run_of trace in IsMostWanted (calls_on j run.made run.entries) (answers_on j run.entries) wanted

-- the text has a line for each worker, in rising number. It has the least bounds of the calls on its heap, and the most words that
-- they want at once
pub record Measures (trace : Trace) (text : List ℕ) : Type 0 where
  pub most : ℕ → ℕ
  pub len : ℕ → ℕ
  pub wanted : ℕ → ℕ
  pub bounds : (j : ℕ) → j < trace.header.workers → AreBoundsOf trace j (most j) (len j)
  pub words_wanted : (j : ℕ) → j < trace.header.workers → IsMostWantedOf trace j (wanted j)
  pub written : text ≡ held_text (level_in trace.header) trace.header.words most len wanted trace.header.workers

-- a run of a trace that puts out what its workers asked of their heaps
abbrev pub IsMeasurement : Result Summary TraceFault → Option (List ℕ) → Option (List ℕ) → Option (List ℕ) → Option (List ℕ) → Type 0
IsMeasurement = IsRun Measures

-- where the heaps of a trace have the words that a line names for these bounds, no request of the worker's is answered NoFit
abbrev pub HeldWordsSuffice : Type 0
HeldWordsSuffice = (trace : Trace) (j most len words : ℕ) → IsRegion (level_in trace.header) trace.header.words → j < trace.header.workers
    → AreBoundsOf trace j most len → held_region (level_in trace.header) most len ≡ Some words → words ≤ trace.header.words
    → AllByRecursion HasRoomFor (answers_on j (run_of trace).entries)

-- ---- tables of kinds

-- the table that the calls on heap j keep to
abbrev pub IsTableOf : Trace → ℕ → List Row → Type 0
IsTableOf trace j rows = let run = run_of trace in IsTable (level_in trace.header) (calls_on j run.made run.entries) (answers_on j run.entries) rows

-- the text has a line for each worker, in rising number, with the table that the calls on its heap keep to
pub record TellsKinds (trace : Trace) (text : List ℕ) : Type 0 where
  pub tables : ℕ → List Row
  pub each : (j : ℕ) → j < trace.header.workers → IsTableOf trace j (tables j)
  pub written : text ≡ kinds_text (level_in trace.header) tables trace.header.workers

-- a run of a trace that puts out the kinds of blocks that its workers hold
abbrev pub IsKindMeasurement : Result Summary TraceFault → Option (List ℕ) → Option (List ℕ) → Option (List ℕ) → Option (List ℕ) → Type 0
IsKindMeasurement = IsRun TellsKinds

-- ---- tables merged for a few heaps

-- the table that the calls on heap j keep to, merged for this many heaps
abbrev pub IsMergedTableOf : Trace → ℕ → ℕ → List Row → Type 0
IsMergedTableOf trace heaps j rows =
    let run = run_of trace in IsMergedTable (level_in trace.header) heaps (calls_on j run.made run.entries) (answers_on j run.entries) rows

-- the text has a line for each worker, in rising number, with that table
pub record TellsMerged (heaps : ℕ) (trace : Trace) (text : List ℕ) : Type 0 where
  pub tables : ℕ → List Row
  pub each : (j : ℕ) → j < trace.header.workers → IsMergedTableOf trace heaps j (tables j)
  pub written : text ≡ kinds_text (level_in trace.header) tables trace.header.workers

-- a run of a trace that puts out these
abbrev pub IsMergedMeasurement : ℕ → Result Summary TraceFault → Option (List ℕ) → Option (List ℕ) → Option (List ℕ) → Option (List ℕ) → Type 0
IsMergedMeasurement heaps = IsRun (TellsMerged heaps)

-- where the heaps of a trace have the words of this table, no request of the worker's is answered NoFit
abbrev pub HeldKindsSuffice : Type 0
HeldKindsSuffice = (trace : Trace) (j : ℕ) (rows : List Row) → IsRegion (level_in trace.header) trace.header.words → j < trace.header.workers
    → IsTableOf trace j rows → let kinds = kinds_of rows in AllByRecursion (HasClass (level_in trace.header)) kinds
    → kinds_words (level_in trace.header) kinds ≤ trace.header.words
    → (IsTrue (are_fours kinds) → AllByRecursion StaysFour (calls_on j (run_of trace).made (run_of trace).entries))
    → AllByRecursion HasRoomFor (answers_on j (run_of trace).entries)

-- Let pools of these kinds hold blocks of the lengths that are held. They have a place for the block that a call asks for. So it is
-- given unless the tick of its heap is at the last value
abbrev pub IsServed : List Kind → Inventory → Call → Type 0
IsServed kinds inventory (Allocate len) = (sli : ℕ) (p : PoolsState) → ArePools sli p → table_of p ≡ kinds → held_by p ≡ held_of kinds (lengths inventory)
    → IsSomeAnd (part_of p len) (λ i. HasPlace (part_at p i).ledger len)
IsServed kinds inventory call = ⊤

-- so it is with each of these calls, which get these answers
abbrev pub EachServed : List Kind → Inventory → List Call → List Answer → Type 0
EachServed kinds inventory [] answers = ⊤
EachServed kinds inventory (call ∷ calls) [] = ⊤
EachServed kinds inventory (call ∷ calls) (answer ∷ answers) = IsServed kinds inventory call × EachServed kinds (inventory_after inventory call answer) calls answers

-- pools of a worker's merged table serve each request of the run that was measured
abbrev pub HeldPoolsSuffice : Type 0
HeldPoolsSuffice = (trace : Trace) (heaps j : ℕ) (rows : List Row) → IsMergedTableOf trace heaps j rows
    → let run = run_of trace in EachServed (kinds_of rows) [] (calls_on j run.made run.entries) (answers_on j run.entries)
