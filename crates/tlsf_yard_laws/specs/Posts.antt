-- The duty of the programs of a race, so that each post releases a live block.
use Rattle.std.specs.Prelude.{◌≡◌, ◌≢◌, ◌⊎◌, ℕ, ◌<◌, List, [], length, Option, Some, Err}
use Rattle.tlsf_yard_laws.specs.Common.{Name, Stale, IsLive, Call, Release, Take, Entry, Freed, Posted, Taken, Target, Took, World, heap_in, name_of, AreLawful, StandsBehind, record_of}
use Rattle.tlsf_yard_laws.specs.Carriers.{Carrier, IsRaceOver}

-- the entry tells that this name was given back: its block was released, or the name was posted to the owner
pub record GivesBack (made : List (Option Name)) (e : Entry) (name : Name) : Type 0 where
  pub target : Target
  pub call : e.call ≡ Release target
  pub means : name_of made target ≡ Some name
  pub reply : (e.reply ≡ Freed) ⊎ (e.reply ≡ Posted)

-- in all records together no name is given back twice
abbrev pub GiveBackOnce : (ℕ → List (Option Name)) → List (List Entry) → Type 0
GiveBackOnce made records = (i k : ℕ) (b c : List Entry) (e f : Entry) (name : Name) → StandsBehind (record_of records i) b e → StandsBehind (record_of records k) c f
    → GivesBack (made i) e name → GivesBack (made k) f name → (i ≡ k) × (b ≡ c)

-- each name that is posted was live before the race
abbrev pub PostWhatWasLive : {sli : ℕ} → World sli → (ℕ → List (Option Name)) → List (List Entry) → Type 0
PostWhatWasLive w made records = (i : ℕ) (b : List Entry) (e : Entry) (name : Name) → StandsBehind (record_of records i) b e → GivesBack (made i) e name → e.reply ≡ Posted
    → IsLive (heap_in w name.heap) name

-- where nothing waits before such a race, no post that is taken is stale
abbrev pub NoPostIsStale : ℕ → Carrier → Type 0
NoPostIsStale sli carrier = (w v : World sli) (scripts : List (List Call)) (made : ℕ → List (Option Name)) (records : List (List Entry)) → IsRaceOver carrier w scripts made records v → AreLawful w → ((i j : ℕ) → w.waiting i j ≡ [])
    → PostWhatWasLive w made records → GiveBackOnce made records
    → (j : ℕ) (b : List Entry) (from : ℕ) (t : Took) → j < length w.heaps → StandsBehind (record_of records j) b (record { worker = j; call = Take from; reply = Taken t }) → t.answer ≢ Err Stale
