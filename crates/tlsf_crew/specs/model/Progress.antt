-- The answers to a worker's calls, one after another.
use Rattle.std.specs.Prelude.{◌≡◌, ◌≢◌, ℕ, ◌<◌, List, [], ◌∷◌, ◌++◌, length, Option, Some}
use Rattle.tlsf_crew.specs.Common.{Name, HeapState, Entry, Post, Call, Release, Take, Full, Reply, Posted, Taken, Empty, Refused, Target, Took}
use Rattle.tlsf_crew.specs.model.World.{World, Replayed, heap_in, called, made_by, name_of}

-- what a worker was told so far: the names that its calls made, its entries, and its heap
pub record Progress : Type 0 where
  pub made : List (Option Name)
  pub entries : List Entry
  pub heap : HeapState

-- a worker that was told nothing
abbrev pub untold : HeapState → Progress
untold h = record { made = []; entries = []; heap = h }

-- what worker `at` was told by the model
abbrev pub told_by : {sli : ℕ} → ℕ → Replayed sli → Progress
told_by at r = record { made = r.made; entries = r.entries; heap = heap_in r.world at }

-- a world of n workers in which worker `at` has this heap
abbrev pub HasHeap : {sli : ℕ} → World sli → ℕ → ℕ → HeapState → Type 0
HasHeap w n at h = (length w.heaps ≡ n) × (heap_in w at ≡ h)

-- the worlds in which a worker's call may be answered so. A lane has room for the post that was made, and none where it was full.
-- The post that was taken waits first, and none where there was none
pub record Suits {sli : ℕ} (w : World sli) (at : ℕ) (made : List (Option Name)) (call : Call) (answer : Reply) : Type 0 where
  pub room : (target : Target) (name : Name) → call ≡ Release target → name_of made target ≡ Some name → name.heap ≢ at → name.heap < length w.heaps → answer ≡ Posted
      → length (w.waiting at name.heap) ≢ w.capacity
  pub full : (target : Target) (name : Name) → call ≡ Release target → name_of made target ≡ Some name → name.heap ≢ at → name.heap < length w.heaps → answer ≡ Refused (Full name)
      → length (w.waiting at name.heap) ≡ w.capacity
  pub first : (from : ℕ) (t : Took) → call ≡ Take from → from ≢ at → from < length w.heaps → answer ≡ Taken t → (rest : List Post) × (w.waiting from at ≡ record { from = t.from; name = t.name } ∷ rest)
  pub empty : (from : ℕ) → call ≡ Take from → from ≢ at → from < length w.heaps → answer ≡ Empty → w.waiting from at ≡ []

-- one call more, with this reply, that leaves this heap
abbrev pub told_more : ℕ → Progress → Call → Reply → HeapState → Progress
told_more at s call reply g = record {
  made = s.made ++ made_by reply ∷ [];
  entries = s.entries ++ record { worker = at; call = call; reply = reply } ∷ [];
  heap = g;
}

-- so the model answers a worker of n in each world that suits
abbrev pub IsModelAnswer : ℕ → ℕ → ℕ → Progress → Call → Reply → HeapState → Type 0
IsModelAnswer sli n at s call reply g =
    at < n → (w : World sli) → HasHeap w n at s.heap → Suits w at s.made call reply
    → told_by at (called (record { made = s.made; entries = s.entries; world = w }) at call) ≡ told_more at s call reply g

-- one call more, answered as in some world in which the worker has its heap: what waits in the lanes is free to choose
abbrev pub MayTell : ℕ → ℕ → ℕ → Progress → Call → Progress → Type 0
MayTell sli n at s call t =
    (w : World sli) × HasHeap w n at s.heap × (told_by at (called (record { made = s.made; entries = s.entries; world = w }) at call) ≡ t)

-- the calls of a script, one after another
abbrev pub AllTold : (Progress → Call → Progress → Type 0) → Progress → List Call → Progress → Type 0
AllTold tells s [] t = t ≡ s
AllTold tells s (call ∷ calls) t = (u : Progress) × tells s call u × AllTold tells u calls t

abbrev pub MayTellAll : ℕ → ℕ → ℕ → Progress → List Call → Progress → Type 0
MayTellAll sli n at s calls t = AllTold (MayTell sli n at) s calls t
