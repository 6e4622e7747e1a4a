-- The view of a worker over queues besides: the end of its own queue, and its end of each other queue.
use Rattle.std.specs.Prelude.{◌≡◌, ◌≢◌, ℕ, ◌<◌, ◌≤◌, List, [], ◌∷◌, ◌++◌, length, Option, Some, None, Result, slice_get, OnOk, IfErr, IfSome, IfNone, ⊤}
use Rattle.tlsf_crew.specs.Common.{Name, Extent, number_of, put_by, plan_of, poster_extent, owner_of, out_of, got_by, owner_extent, IsOnlyPoster, HasFilled, PosterSaw, OwnerSaw, KeepsPoster, KeepsOwner, IsAllTaken, Post, PosterEnd, CrewRefusal, Worker, Queues}
use Rattle.tlsf_crew.specs.worker.Calls.{put_answer}
use Rattle.tlsf_crew.specs.worker.Workers.{IsOther, heap_of, id_of, slot_of, SameButPorts, KeepsHeap, extent_of, end_extents}

-- the end that posts into the queue of worker j
abbrev pub queue_to : Queues → ℕ → Option PosterEnd
queue_to p j = slot_of (slice_get p.posts.items j)

abbrev pub queue_end_to : {sli : ℕ} → Worker sli Queues → ℕ → Option PosterEnd
queue_end_to a = queue_to a.ports

-- the memory of the own queue, of the list of ends, and of each queue that an end posts into
abbrev pub queue_extents : Queues → List Extent
queue_extents p = owner_extent p.own ∷ extent_of p.posts ∷ end_extents poster_extent p.posts.items

abbrev pub ReachesQueue : Queues → ℕ → Type 0
ReachesQueue p j = (end : PosterEnd) × (queue_to p j ≡ Some end)

abbrev pub HasQueueEnd : {sli : ℕ} → Worker sli Queues → ℕ → Type 0
HasQueueEnd a = ReachesQueue a.ports

-- the worker is one of n. It takes from its own queue, and has an end to each other queue and none else, each by its own number
pub record KnowsQueueYard {sli : ℕ} (n : ℕ) (a : Worker sli Queues) : Type 0 where
  pub few : n ≤ 8
  pub self : id_of a < n
  pub own : (owner_of a.ports.own ≡ id_of a) × (out_of a.ports.own ≡ n)
  pub to : (j : ℕ) → IsOther n (id_of a) j → (p : PosterEnd) × (queue_end_to a j ≡ Some p) × (number_of p ≡ id_of a)
  pub none : (j : ℕ) → ¬ (IsOther n (id_of a) j) → queue_end_to a j ≡ None

-- ---- what a call changes

-- a slot that had an end has one of the same mailbox and number, and an empty one is empty
abbrev pub KeepsSlot : Option PosterEnd → Option PosterEnd → Type 0
KeepsSlot None None = ⊤
KeepsSlot None (Some q) = ⊥
KeepsSlot (Some p) None = ⊥
KeepsSlot (Some p) (Some q) = KeepsPoster p q

-- the new worker fits each yard in which the old one was, in its place
pub record KeepsQueueYards {sli : ℕ} (a v : Worker sli Queues) : Type 0 where
  pub number : id_of v ≡ id_of a
  pub heap : KeepsHeap (heap_of a) (heap_of v)
  pub own : KeepsOwner a.ports.own v.ports.own
  pub posts : (j : ℕ) → KeepsSlot (queue_end_to a j) (queue_end_to v j)

-- the queues q are p with the end to j after a put
pub record PutInto (p q : Queues) (j : ℕ) (name : Name) (answer : Result (Unit {0}) Name) : Type 0 where
  pub end : PosterEnd
  pub new_end : PosterEnd
  pub end_is : queue_to p j ≡ Some end
  pub new_end_is : queue_to q j ≡ Some new_end
  pub others : (k : ℕ) → k ≢ j → queue_to q k ≡ queue_to p k
  pub same : q.own ≡ p.own
  pub mailbox : KeepsPoster end new_end
  pub ok : OnOk answer (put_by new_end ≡ put_by end ++ record { from = number_of end; name = name } ∷ [])
  -- no more posts waited with it than the queue holds, and it after the others
  pub waits : OnOk answer ((others : List Post) × PosterSaw new_end (others ++ record { from = number_of end; name = name } ∷ []))
  pub full : IfErr answer (λ back. (back ≡ name) × (put_by new_end ≡ put_by end))
  -- as many posts waited as the queue holds, and where nobody else puts into it they were all this end's
  pub was_full : IfErr answer (λ back. (waiting : List Post) × (length waiting ≡ (plan_of end).capacity) × PosterSaw end waiting)
  pub alone : IfErr answer (λ back. IsOnlyPoster end → HasFilled end)

-- a name was put into the queue of the worker of its heap
abbrev pub PutsIntoQueue : ℕ → Queues → Queues → Name → Result (Unit {0}) CrewRefusal → Type 0
PutsIntoQueue from p q name answer = (put : Result (Unit {0}) Name) × PutInto p q name.heap name put × (answer ≡ put_answer name put)

-- worker v is a with its end to j after a put
abbrev pub PosterEndPut : {sli : ℕ} → Worker sli Queues → Worker sli Queues → ℕ → Name → Result (Unit {0}) Name → Type 0
PosterEndPut a v j name answer = SameButPorts a v × PutInto a.ports v.ports j name answer

-- the queues q are p after a take from the own one
pub record TookOut (p q : Queues) (answer : Option Post) : Type 0 where
  pub same : queue_to q ≡ queue_to p
  pub mailbox : KeepsOwner p.own q.own
  pub some : IfSome answer (λ post. got_by q.own ≡ got_by p.own ++ post ∷ [])
  -- no more posts waited than the queue holds, and it before the others
  pub waited : IfSome answer (λ post. (others : List Post) × OwnerSaw p.own (post ∷ others))
  pub from : IfSome answer (λ post. IsOther (out_of p.own) (owner_of p.own) post.from)
  pub none : IfNone answer ((got_by q.own ≡ got_by p.own) × IsAllTaken q.own)

-- a worker over queues has one source of posts, of number 0: its own queue
abbrev pub AsksQueue : Queues → Queues → ℕ → Option Post → Type 0
AsksQueue p q source answer = TookOut p q answer

-- worker v is a after a take from its own queue
abbrev pub OwnEndTook : {sli : ℕ} → Worker sli Queues → Worker sli Queues → Option Post → Type 0
OwnEndTook a v answer = SameButPorts a v × TookOut a.ports v.ports answer
