-- A worker's record over queues: its calls, and the takes of its drains.
use Rattle.std.specs.Prelude.{◌≡◌, ◌≢◌, ℕ, ◌<◌, ◌≤◌, List, [], ◌∷◌, ◌++◌, length, Option, None, ⊤}
use Rattle.tlsf_crew.specs.Common.{Name, Entry, Call, Take, Drain, Took, Stranger, Taken, Drained, Refused}
use Rattle.tlsf_crew.specs.histories.History.{IsOne}

-- takes of a worker that each took a post of another of n workers, in whatever order
abbrev pub AreQueueTakes : ℕ → ℕ → List Entry → Type 0
AreQueueTakes n at [] = ⊤
AreQueueTakes n at (e ∷ es) =
    (t : Took) × (e ≡ record { worker = at; call = Take t.from; reply = Taken t }) × (t.from < n) × (t.from ≢ at) × AreQueueTakes n at es

-- at most this many takes, and then the drain's own entry with their number
pub record IsQueueDrain (n at most : ℕ) (entries : List Entry) : Type 0 where
  pub takes : List Entry
  pub are_takes : AreQueueTakes n at takes
  pub few : length takes ≤ most
  pub whole : entries ≡ takes ++ record { worker = at; call = Drain most; reply = Drained (length takes) } ∷ []

-- the entries of a worker's call, where earlier calls made these names, and the name that it made
abbrev pub TellsQueueCall : ℕ → ℕ → List (Option Name) → Call → Option Name → List Entry → Type 0
TellsQueueCall n at made (Take from) name entries =
    (name ≡ None) × (entries ≡ record { worker = at; call = Take from; reply = Refused Stranger } ∷ [])
TellsQueueCall n at made (Drain most) name entries = (name ≡ None) × IsQueueDrain n at most entries
TellsQueueCall n at made call name entries = IsOne at made call name entries

-- the entries tell the calls of one of n workers, each once and in order. They tell the name that each made, after those that
-- earlier ones made
abbrev pub TellsQueue : ℕ → ℕ → List (Option Name) → List Call → List (Option Name) → List Entry → Type 0
TellsQueue n at made [] [] entries = entries ≡ []
TellsQueue n at made (call ∷ calls) (name ∷ later) entries =
    (own : List Entry) × (rest : List Entry) × (entries ≡ own ++ rest) × TellsQueueCall n at made call name own
    × TellsQueue n at (made ++ name ∷ []) calls later rest
TellsQueue n at made calls later entries = ⊥
