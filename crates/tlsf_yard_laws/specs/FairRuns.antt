-- Runs in which a name is used only from the event that makes it to its release.
use Rattle.std.specs.Prelude.{◌≡◌, ◌≢◌, ℕ, ◌<◌, ◌⊎◌, ⊤, List, [], ◌∷◌, ◌++◌, length, Option, Some, None, Ok, Err, All, Contains}
use Rattle.tlsf_yard_laws.specs.Common.{IsLive, Name, Stale, Event, Entry, Call, Allocate, Release, Write, Read, Resize, Take, Drain, Target, Took, Made, Freed, Posted, Taken, Drained, Refused, World, Replayed, heap_in, name_of, after, begun}
use Rattle.tlsf_calls.specs.declared.reply.Reply.{Reply}
use Rattle.tlsf_calls.specs.declared.target.Target.TheVariants.{Made as MadeBy}
use Rattle.tlsf_calls.specs.declared.crew_refusal.CrewRefusal.TheVariants.{Heap}

-- heap j has id j
abbrev pub HasIds : {sli : ℕ} → World sli → Type 0
HasIds w = (j : ℕ) → j < length w.heaps → (heap_in w j).id ≡ j

abbrev pub NothingWaits : {sli : ℕ} → World sli → Type 0
NothingWaits w = (i j : ℕ) → w.waiting i j ≡ []

-- the heap of the name is of the world, and the name is live in it
abbrev pub IsLiveIn : {sli : ℕ} → World sli → Name → Type 0
IsLiveIn w name = (name.heap < length w.heaps) × IsLive (heap_in w name.heap) name

-- each post that waits for worker j names a live block of heap j
abbrev pub WaitLive : {sli : ℕ} → World sli → Type 0
WaitLive w = (i j : ℕ) → All (λ post. (post.name.heap ≡ j) × IsLiveIn w post.name) (w.waiting i j)

-- neither the call nor the release of the post that it took was refused as stale
abbrev pub IsNotStale : Reply → Type 0
IsNotStale reply = (reply ≢ Refused (Heap Stale)) × ((took : Took) → reply ≡ Taken took → took.answer ≢ Err Stale)

abbrev pub NoneStale : List Entry → Type 0
NoneStale entries = All (λ entry. IsNotStale entry.reply) entries

-- a name that an earlier event made, and that is not gone
abbrev pub IsUsable : {sli : ℕ} → Replayed sli → (Name → Type 0) → Option Name → Type 0
IsUsable r gone None = ⊥
IsUsable r gone (Some name) = Contains r.made (Some name) × ¬ (gone name)

-- so is the target of a call that has one
abbrev pub IsFairCall : {sli : ℕ} → Replayed sli → (Name → Type 0) → Call → Type 0
IsFairCall r gone (Allocate len) = ⊤
IsFairCall r gone (Release target) = IsUsable r gone (name_of r.made target)
IsFairCall r gone (Write target from bytes) = IsUsable r gone (name_of r.made target)
IsFairCall r gone (Read target from n) = IsUsable r gone (name_of r.made target)
IsFairCall r gone (Resize target len) = IsUsable r gone (name_of r.made target)
IsFairCall r gone (Take from) = ⊤
IsFairCall r gone (Drain most) = ⊤

-- after the events so far, this one has one entry, of this reply
abbrev pub IsAnswered : {sli : ℕ} → Replayed sli → Event → Reply → Type 0
IsAnswered r event reply = (after r event).entries ≡ r.entries ++ record { worker = event.worker; call = event.call; reply = reply } ∷ []

-- the event is a Release of this name, and answered Freed or Posted
abbrev pub GivesBack : {sli : ℕ} → Replayed sli → Event → Name → Type 0
GivesBack r event name =
    (target : Target) × (event.call ≡ Release target) × (name_of r.made target ≡ Some name) × (IsAnswered r event Freed ⊎ IsAnswered r event Posted)

-- each event has only a target that was made before it and is not gone. Gone are some names at first, and each name from its release on
abbrev pub IsFair : {sli : ℕ} → Replayed sli → (Name → Type 0) → List Event → Type 0
IsFair r gone [] = ⊤
IsFair r gone (event ∷ events) = IsFairCall r gone event.call × IsFair (after r event) (λ name. gone name ⊎ GivesBack r event name) events

-- a run from a world where nothing waits, in which each target was made before and not yet released
pub record IsFairRun {sli : ℕ} (w : World sli) (events : List Event) : Type 0 where
  pub empty : NothingWaits w
  pub fair : IsFair (begun w) (λ name. ⊥) events

-- such a run of two workers: one allocates, the other releases its block, and the first drains
abbrev pub fair_events : List Event
fair_events =
    record { worker = 0; call = Allocate 8 } ∷ record { worker = 1; call = Release (MadeBy 0) } ∷ record { worker = 0; call = Drain 8 } ∷ []

-- its block has the name 0.0.1; the drain takes that of worker 1, and the heap accepts the release
abbrev pub fair_entries : List Entry
fair_entries =
    let name : Name = record { heap = 0; at = 0; serial = 1 } in
    record { worker = 0; call = Allocate 8; reply = Made name } ∷ record { worker = 1; call = Release (MadeBy 0); reply = Posted }
    ∷ record { worker = 0; call = Take 1; reply = Taken (record { from = 1; name = name; answer = Ok tt }) } ∷ record { worker = 0; call = Drain 8; reply = Drained 1 } ∷ []
