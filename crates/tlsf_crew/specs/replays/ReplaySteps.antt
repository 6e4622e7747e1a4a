-- The answers and effects of the steps of a replay. This serves the contracts and proofs of private functions alone.
use Rattle.std.specs.Prelude.{◌≡◌, ℕ, ◌<◌, ◌≤◌, List, [], ◌∷◌, ◌++◌, length, slice_index, Option, Some, ⊤}
use Rattle.tlsf_crew.specs.Common.{TakeEnd, ready, Name, Entry, Event, Call, Release, Take, Drain, Reply, Worker, Lanes}
use Rattle.tlsf_crew.specs.lanes.Yard.{IsYard, take_at, waits_in, world_of}
use Rattle.tlsf_crew.specs.model.World.{name_of, made_by, after, DrainState, Replayed}

abbrev pub drain_of : {sli : ℕ} → List Entry → List (Worker sli Lanes) → ℕ → DrainState sli
drain_of entries ws taken = record { entries = entries; world = world_of ws; taken = taken }

abbrev pub replay_of : {sli : ℕ} → List (Option Name) → List Entry → List (Worker sli Lanes) → Replayed sli
replay_of made entries ws = record { made = made; entries = entries; world = world_of ws }

-- the call of an event was answered, and only the event's own entry is still to come
pub record IsReplied {sli : ℕ} (r : Replayed sli) (event : Event) (entries : List Entry) (vs : List (Worker sli Lanes)) (reply : Reply) : Type 0 where
  pub yard : IsYard vs
  pub after : after r event ≡ replay_of (r.made ++ made_by reply ∷ []) (entries ++ record { worker = event.worker; call = event.call; reply = reply } ∷ []) vs

-- the lane from i to j is one that an event may post into or take from
abbrev pub ConcernsCall : List (Option Name) → ℕ → Call → ℕ → ℕ → Type 0
ConcernsCall made at (Release target) i j = (i ≡ at) × (name : Name) × (name_of made target ≡ Some name) × (j ≡ name.heap)
ConcernsCall made at (Take from) i j = j ≡ at
ConcernsCall made at (Drain most) i j = j ≡ at
ConcernsCall made at _ i j = ⊥

abbrev pub Concerns : List (Option Name) → Event → ℕ → ℕ → Type 0
Concerns made e i j = ConcernsCall made e.worker e.call i j

-- a call that may take posts
abbrev pub MayTake : Call → Type 0
MayTake (Take from) = ⊤
MayTake (Drain most) = ⊤
MayTake _ = ⊥

-- how many posts an event may take from each worker: no more than wait, and all that are ready, where it takes any
pub record AreLimits {sli : ℕ} (ws : List (Worker sli Lanes)) (e : Event) (limits : List ℕ) : Type 0 where
  pub few : (i : ℕ) → i < 8 → slice_index limits i ≤ length (waits_in ws i e.worker)
  pub all : MayTake e.call → (i : ℕ) (t : TakeEnd) → i < 8 → take_at ws i e.worker ≡ Some t → length (ready t) ≤ slice_index limits i
