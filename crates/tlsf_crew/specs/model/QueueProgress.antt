-- The answers to the calls of a worker over queues, one after another.
use Rattle.std.specs.Prelude.{◌≡◌, ◌≢◌, ℕ, ◌<◌, ◌≤◌, List, [], ◌∷◌, ◌++◌, length, All}
use Rattle.tlsf_crew.specs.Common.{fold, HeapState, Post, Entry, Call, Take, Drain, Stranger, Reply, Taken, Drained, Refused}
use Rattle.tlsf_crew.specs.model.Heaps.{released}
use Rattle.tlsf_crew.specs.model.Progress.{Progress, AllTold, MayTell, told_more}

-- a post of another of n workers
abbrev pub IsFromOther : ℕ → ℕ → Post → Type 0
IsFromOther n at post = (post.from < n) × (post.from ≢ at)

-- the entry of a post that was taken, as the worker's heap answers its release
abbrev pub take_entry : ℕ → HeapState → Post → Entry
take_entry at h post = record {
  worker = at;
  call = Take post.from;
  reply = Taken (record { from = post.from; name = post.name; answer = (released h post.name).answer });
}

-- one post was taken
abbrev pub with_take : ℕ → Progress → Post → Progress
with_take at s post = record { made = s.made; entries = s.entries ++ take_entry at s.heap post ∷ []; heap = (released s.heap post.name).heap }

-- these posts were taken, one after another, whoever posted each
abbrev pub with_takes : ℕ → Progress → List Post → Progress
with_takes at s posts = fold (with_take at) s posts

-- a call was answered so, and left the heap as it was
abbrev pub with_reply : ℕ → Progress → Call → Reply → Progress
with_reply at s call reply = told_more at s call reply s.heap

-- one call more over queues of n workers. A take is refused, since a queue has no single poster. A drain takes some posts of
-- others, in whatever order they come. All others are answered as over lanes
abbrev pub MayTellQueue : ℕ → ℕ → ℕ → Progress → Call → Progress → Type 0
MayTellQueue sli n at s (Take from) t = t ≡ with_reply at s (Take from) (Refused Stranger)
MayTellQueue sli n at s (Drain most) t =
    (posts : List Post) × All (IsFromOther n at) posts × (length posts ≤ most)
    × (t ≡ with_reply at (with_takes at s posts) (Drain most) (Drained (length posts)))
MayTellQueue sli n at s call t = MayTell sli n at s call t

-- the calls of a script, one after another
abbrev pub MayTellQueueAll : ℕ → ℕ → ℕ → Progress → List Call → Progress → Type 0
MayTellQueueAll sli n at s calls t = AllTold (MayTellQueue sli n at) s calls t
