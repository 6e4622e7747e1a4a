-- The world that a yard shows, and one step of it.
use Rattle.std.specs.Prelude.{zero, suc, ℕ, ◌+◌, ◌-◌, List, [], ◌∷◌, ◌++◌, length, take, drop, get_or, set, Option, Some, None, ◌&&◌, ◌==◌, nat_lt, if◌then◌else◌}
use Rattle.tlsf_crew.specs.Common.{fold, Post, Name, HeapState, bytes_of, Event, Entry, Call, Allocate, Release, Write, Read, Resize, Take, Drain, Target, Reply, Posted, Taken, Empty, Drained, Refused, Full, Stranger, Unmade}
use Rattle.tlsf_crew.specs.model.Heaps.{released}
use Rattle.tlsf_crew.specs.model.OwnReplies.{HeapReply, own_allocating, own_freeing, own_writing, own_reading, own_resizing}
use Rattle.tlsf_calls.specs.declared.target.Target.TheVariants.{Named, Made as MadeBy, Absent}
pub use Rattle.tlsf_calls.specs.Entries.{made_by}
pub use Rattle.tlsf_crew.specs.model.OwnReplies.{reply_made, reply_freed, reply_wrote, reply_got, reply_resized}

-- what stands for the heap of a worker that isn't there
abbrev pub no_heap : HeapState
no_heap = record { id = 0; words = 0; tick = 0; blocks = [] }

pub record World (sli : ℕ) : Type 0 where
  pub heaps : List HeapState
  pub waiting : ℕ → ℕ → List Post
  pub capacity : ℕ

-- the same but for the posts from i to j
abbrev pub edited : (ℕ → ℕ → List Post) → ℕ → ℕ → List Post → ℕ → ℕ → List Post
edited f i j posts x y = if x == i && y == j then posts else f x y

abbrev pub with_waiting : {sli : ℕ} → World sli → ℕ → ℕ → List Post → World sli
with_waiting w i j posts = record { heaps = w.heaps; waiting = edited w.waiting i j posts; capacity = w.capacity }

-- the same but for the heap of worker i
abbrev pub with_heap : {sli : ℕ} → World sli → ℕ → HeapState → World sli
with_heap w i h = record { heaps = set w.heaps i h; waiting = w.waiting; capacity = w.capacity }

abbrev pub heap_in : {sli : ℕ} → World sli → ℕ → HeapState
heap_in w i = get_or w.heaps i no_heap

-- a reply and the world that it leaves
pub record WorldReply (sli : ℕ) : Type 0 where
  pub reply : Reply
  pub world : World sli

-- what the heap of worker `at` replies to a call, and the world with what the call leaves there
abbrev pub by_own : {sli : ℕ} → World sli → ℕ → (HeapState → HeapReply) → WorldReply sli
by_own w at call = let own = call (heap_in w at) in record { reply = own.reply; world = with_heap w at own.heap }

abbrev pub allocating : {sli : ℕ} → World sli → ℕ → ℕ → WorldReply sli
allocating {sli} w at len = by_own w at (λ h. own_allocating sli h len)

abbrev pub freeing : {sli : ℕ} → World sli → ℕ → Name → WorldReply sli
freeing w at name = by_own w at (λ h. own_freeing h name)

abbrev pub writing_named : {sli : ℕ} → World sli → ℕ → Option Name → ℕ → List ℕ → WorldReply sli
writing_named w at name from bytes = by_own w at (λ h. own_writing h name from bytes)

abbrev pub reading_named : {sli : ℕ} → World sli → ℕ → Option Name → ℕ → ℕ → WorldReply sli
reading_named w at name from n = by_own w at (λ h. own_reading h name from n)

abbrev pub resizing_named : {sli : ℕ} → World sli → ℕ → Option Name → ℕ → WorldReply sli
resizing_named w at name len = by_own w at (λ h. own_resizing h name len)

-- a post into the lane from `at` to another worker
unfoldable pub posting : {sli : ℕ} → World sli → ℕ → Name → WorldReply sli
posting w at name =
    if length (w.waiting at name.heap) == w.capacity
    then record { reply = Refused (Full name); world = w }
    else record { reply = Posted; world = with_waiting w at name.heap (w.waiting at name.heap ++ record { from = at; name = name } ∷ []) }

abbrev pub releasing : {sli : ℕ} → World sli → ℕ → Name → WorldReply sli
releasing w at name =
    if name.heap == at then freeing w at name
    else (if nat_lt name.heap (length w.heaps) then posting w at name else record { reply = Refused Stranger; world = w })

-- the first post from another worker is taken and released
abbrev pub took : {sli : ℕ} → World sli → ℕ → ℕ → Post → List Post → WorldReply sli
took w at from p rest = record {
  reply = Taken (record { from = p.from; name = p.name; answer = (released (heap_in w at) p.name).answer });
  world = with_heap (with_waiting w from at rest) at (released (heap_in w at) p.name).heap;
}

abbrev pub took_first : {sli : ℕ} → World sli → ℕ → ℕ → List Post → WorldReply sli
took_first w at from [] = record { reply = Empty; world = w }
took_first w at from (p ∷ rest) = took w at from p rest

unfoldable pub taking_next : {sli : ℕ} → World sli → ℕ → ℕ → WorldReply sli
taking_next w at from = took_first w at from (w.waiting from at)

abbrev pub taking : {sli : ℕ} → World sli → ℕ → ℕ → WorldReply sli
taking w at from =
    if from == at then record { reply = Refused Stranger; world = w }
    else (if nat_lt from (length w.heaps) then taking_next w at from else record { reply = Refused Stranger; world = w })

-- a drain under way
pub record DrainState (sli : ℕ) : Type 0 where
  pub entries : List Entry
  pub world : World sli
  pub taken : ℕ

-- one post more
abbrev pub took_more : {sli : ℕ} → ℕ → ℕ → DrainState sli → Post → DrainState sli
took_more at from d p =
    let r = took d.world at from p (drop 1 (d.world.waiting from at)) in
    record { entries = d.entries ++ record { worker = at; call = Take from; reply = r.reply } ∷ []; world = r.world; taken = d.taken + 1 }

-- all that waits from one worker, while fewer than `most` were taken
unfoldable pub drained_waiting : {sli : ℕ} → ℕ → ℕ → ℕ → DrainState sli → DrainState sli
drained_waiting at most from d = fold (took_more at from) d (take (most - d.taken) (d.world.waiting from at))

abbrev pub drained_from : {sli : ℕ} → ℕ → ℕ → DrainState sli → ℕ → DrainState sli
drained_from at most d from = if from == at then d else drained_waiting at most from d

-- the lanes from the workers below a number, in rising order
abbrev pub drained_below : {sli : ℕ} → ℕ → ℕ → DrainState sli → ℕ → DrainState sli
drained_below at most d zero = d
drained_below at most d (suc from) = drained_from at most (drained_below at most d from) from

unfoldable pub after_drain : {sli : ℕ} → ℕ → ℕ → DrainState sli → DrainState sli
after_drain at most d = drained_below at most d (length d.world.heaps)

-- the name that a target means, by what the events so far made
abbrev pub name_of : List (Option Name) → Target → Option Name
name_of made (Named name) = Some name
name_of made (MadeBy k) = get_or made k None
name_of made Absent = None

abbrev pub releasing_named : {sli : ℕ} → World sli → ℕ → Option Name → WorldReply sli
releasing_named w at None = record { reply = Refused Unmade; world = w }
releasing_named w at (Some name) = releasing w at name

-- the events so far: what each made, what was answered, and the world
pub record Replayed (sli : ℕ) : Type 0 where
  pub made : List (Option Name)
  pub entries : List Entry
  pub world : World sli

-- one answer more
abbrev pub answered : {sli : ℕ} → Replayed sli → ℕ → Call → WorldReply sli → Replayed sli
answered r at call a = record {
  made = r.made ++ made_by a.reply ∷ [];
  entries = r.entries ++ record { worker = at; call = call; reply = a.reply } ∷ [];
  world = a.world;
}

-- the drain's entries, and then its own
unfoldable pub draining : {sli : ℕ} → Replayed sli → ℕ → ℕ → Replayed sli
draining r at most =
    let d = after_drain at most (record { entries = r.entries; world = r.world; taken = 0 }) in
    record {
      made = r.made ++ None ∷ [];
      entries = d.entries ++ record { worker = at; call = Drain most; reply = Drained d.taken } ∷ [];
      world = d.world;
    }

abbrev pub called : {sli : ℕ} → Replayed sli → ℕ → Call → Replayed sli
called r at (Allocate len) = answered r at (Allocate len) (allocating r.world at len)
called r at (Release target) = answered r at (Release target) (releasing_named r.world at (name_of r.made target))
called r at (Write target from bytes) = answered r at (Write target from bytes) (writing_named r.world at (name_of r.made target) from (bytes_of bytes))
called r at (Read target from n) = answered r at (Read target from n) (reading_named r.world at (name_of r.made target) from n)
called r at (Resize target len) = answered r at (Resize target len) (resizing_named r.world at (name_of r.made target) len)
called r at (Take from) = answered r at (Take from) (taking r.world at from)
called r at (Drain most) = draining r at most

-- one event
unfoldable pub after : {sli : ℕ} → Replayed sli → Event → Replayed sli
after r e =
    if nat_lt e.worker (length r.world.heaps) then called r e.worker e.call
    else answered r e.worker e.call (record { reply = Refused Stranger; world = r.world })

abbrev pub begun : {sli : ℕ} → World sli → Replayed sli
begun w = record { made = []; entries = []; world = w }

-- every event in order
unfoldable pub replies : {sli : ℕ} → World sli → List Event → Replayed sli
replies w es = fold after (begun w) es

-- a world in which earlier events made these names; what they were answered is told elsewhere
abbrev pub resumed : {sli : ℕ} → World sli → List (Option Name) → Replayed sli
resumed w made = record { made = made; entries = []; world = w }

-- every event in order, after events that made these names
unfoldable pub replies_behind : {sli : ℕ} → World sli → List (Option Name) → List Event → Replayed sli
replies_behind w made es = fold after (resumed w made) es
