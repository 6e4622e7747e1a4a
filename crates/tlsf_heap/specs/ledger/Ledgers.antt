-- A heap with a ledger.
use Rattle.std.specs.Prelude.{◌≡◌, ℕ, ◌≤◌, List, Result, OnErr}
use Rattle.tlsf_words.specs.Memory.{Extents}
use Rattle.tlsf_heap.specs.Blocks.{HeapState}
use Rattle.tlsf_heap.specs.Image.{Image}
use Rattle.tlsf_heap.specs.Lawful.{IsLawful}

-- what a heap with a ledger shows: its heap, the words that are stored in its region, and the ledger. Also the heap's memory, touches
-- and touched words
pub record LedgerState (L : Type 0) : Type 0 where
  pub heap : HeapState
  pub stored : Image
  pub ledger : L
  pub extents : Extents
  pub touches : ℕ
  pub touched : List ℕ

-- the heap is lawful, and the ledger is one of it
pub record IsLedgered {L : Type 0} (IsOf : HeapState → L → Type 0) (s : LedgerState L) : Type 0 where
  pub lawful : IsLawful s.heap
  pub holds : IsOf s.heap s.ledger

-- so it is before and after, no memory is taken or given back, and the touches never fall
pub record KeepsLedger {L : Type 0} (IsOf : HeapState → L → Type 0) (old new : LedgerState L) : Type 0 where
  pub was : IsLedgered IsOf old
  pub is : IsLedgered IsOf new
  pub stays : new.extents ≡ old.extents
  pub touches_rise : old.touches ≤ new.touches

-- the same heap and the same ledger. Only the touches may differ
pub record SameLedger {L : Type 0} (old new : LedgerState L) : Type 0 where
  pub heap : new.heap ≡ old.heap
  pub ledger : new.ledger ≡ old.ledger

-- a call that changes neither
pub record ChangesNoLedger {L : Type 0} (IsOf : HeapState → L → Type 0) (old new : LedgerState L) : Type 0 where
  pub same : SameLedger old new
  pub keeps : KeepsLedger IsOf old new

-- a call that may change the heap, and is noted neither as a grant nor as a return. Where it is refused, it changes neither
pub record NotesNothing {L A E : Type 0} (IsOf : HeapState → L → Type 0) (old new : LedgerState L) (answer : Result A E) : Type 0 where
  pub ledger : new.ledger ≡ old.ledger
  pub err : OnErr answer (SameLedger old new)
  pub keeps : KeepsLedger IsOf old new

-- a grant or a return, which is noted: the limits stay. Where it is refused, it changes neither
pub record NotesIt {L A E : Type 0} (IsOf : HeapState → L → Type 0) (HasLimitsOf : L → L → Type 0) (old new : LedgerState L) (answer : Result A E) : Type 0 where
  pub limits : HasLimitsOf old.ledger new.ledger
  pub err : OnErr answer (SameLedger old new)
  pub keeps : KeepsLedger IsOf old new
