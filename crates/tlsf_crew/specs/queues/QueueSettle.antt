-- Facts about the queues of a yard once all ends of each were side by side.
use Rattle.std.specs.Prelude.{◌≡◌, ◌≢◌, ◌⊎◌, ℕ, zero, suc, ◌<◌, ◌≤◌, List, [], ◌++◌, length, Option, Some, None, slice_get, slice_set}
use Rattle.tlsf_crew.specs.Common.{option_to_list, posts_of, put_by, gone_from, got_by, known_to, most_of, Post, PosterEnd, Worker, Queues}
use Rattle.tlsf_crew.specs.queues.QueueWorkers.{queue_end_to}
use Rattle.tlsf_crew.specs.queues.QueueYard.{IsQueueYard, queue_end_in}

-- the end of worker i to the queue of worker j
abbrev pub end_at : {sli : ℕ} → List (Worker sli Queues) → ℕ → ℕ → Option PosterEnd
end_at ws i j = queue_end_in (slice_get ws i) j

-- the ends to queue j of the workers below i, by rising number
abbrev pub ends_below : {sli : ℕ} → List (Worker sli Queues) → ℕ → ℕ → List PosterEnd
ends_below ws j zero = []
ends_below ws j (suc i) = ends_below ws j i ++ option_to_list (end_at ws i j)

-- a whole yard has a worker of this number
pub record HasQueueWorker {sli : ℕ} (ws : List (Worker sli Queues)) (j : ℕ) : Type 0 where
  pub yard : IsQueueYard ws
  pub inside : j < length ws

-- worker a without an end to queue j
pub record GaveUpEnd {sli : ℕ} (a v : Worker sli Queues) (j : ℕ) : Type 0 where
  pub posts : v.ports.posts.items ≡ slice_set a.ports.posts.items j None
  pub same : (v.heap ≡ a.heap) × (v.id ≡ a.id) × (v.ports.own ≡ a.ports.own)

-- the ends to queue j were taken from the workers below i
pub record Gathered {sli : ℕ} (ws : List (Worker sli Queues)) (j i : ℕ) (vs : List (Worker sli Queues)) (ps : List PosterEnd) : Type 0 where
  pub count : length vs ≡ length ws
  pub ends : ps ≡ ends_below ws j i
  pub same : (x : ℕ) → (i ≤ x) ⊎ (x ≡ j) → slice_get vs x ≡ slice_get ws x
  pub gave : (x : ℕ) (a : Worker sli Queues) → x < i → x ≢ j → slice_get ws x ≡ Some a → (v : Worker sli Queues) × (slice_get vs x ≡ Some v) × GaveUpEnd a v j

-- of worker i all stays when queue j is settled, but what the owner of that knows
pub record StaysSettled {sli : ℕ} (j i : ℕ) (a v : Worker sli Queues) : Type 0 where
  pub heap : v.heap ≡ a.heap
  pub id : v.id ≡ a.id
  pub own : (got_by v.ports.own ≡ got_by a.ports.own) × (most_of v.ports.own ≡ most_of a.ports.own)
  pub other : i ≢ j → v.ports.own ≡ a.ports.own
  pub ends : (k : ℕ) → k ≢ j → queue_end_to v k ≡ queue_end_to a k
  pub put : (p q : PosterEnd) → queue_end_to a j ≡ Some p → queue_end_to v j ≡ Some q → put_by q ≡ put_by p

-- the owner of queue j knows all that was put into it
pub record QueueKnown {sli : ℕ} (vs : List (Worker sli Queues)) (j : ℕ) : Type 0 where
  pub known : (i : ℕ) (v b : Worker sli Queues) (q : PosterEnd) → slice_get vs i ≡ Some v → slice_get vs j ≡ Some b → queue_end_to v j ≡ Some q → posts_of i (known_to b.ports.own) ≡ put_by q
  -- no more waits in it than it holds
  pub order : (b : Worker sli Queues) → slice_get vs j ≡ Some b
      → (waiting : List Post) × ((p : ℕ) → posts_of p (known_to b.ports.own) ≡ posts_of p (got_by b.ports.own ++ waiting)) × (length waiting ≤ most_of b.ports.own)
  -- and each poster knows what was taken of it
  pub gone : (i : ℕ) (v b : Worker sli Queues) (q : PosterEnd) → slice_get vs i ≡ Some v → slice_get vs j ≡ Some b → queue_end_to v j ≡ Some q → gone_from q ≡ posts_of i (got_by b.ports.own)

-- so does each owner
abbrev pub AllKnown : {sli : ℕ} → List (Worker sli Queues) → Type 0
AllKnown vs = (j : ℕ) → j < length vs → QueueKnown vs j

-- queue j was settled
pub record QueueSettled {sli : ℕ} (ws : List (Worker sli Queues)) (j : ℕ) (vs : List (Worker sli Queues)) : Type 0 where
  pub yard : IsQueueYard vs
  pub count : length vs ≡ length ws
  pub stays : (i : ℕ) (a v : Worker sli Queues) → slice_get ws i ≡ Some a → slice_get vs i ≡ Some v → StaysSettled j i a v
  pub known : QueueKnown vs j

-- nothing was put or taken, and no heap has changed
pub record StaysPut {sli : ℕ} (a v : Worker sli Queues) : Type 0 where
  pub heap : v.heap ≡ a.heap
  pub id : v.id ≡ a.id
  pub own : (got_by v.ports.own ≡ got_by a.ports.own) × (most_of v.ports.own ≡ most_of a.ports.own)
  pub put : (k : ℕ) (p q : PosterEnd) → queue_end_to a k ≡ Some p → queue_end_to v k ≡ Some q → put_by q ≡ put_by p

-- the queues below k were settled
pub record EachQueueSettled {sli : ℕ} (ws : List (Worker sli Queues)) (k : ℕ) (vs : List (Worker sli Queues)) : Type 0 where
  pub yard : IsQueueYard vs
  pub count : length vs ≡ length ws
  pub stays : (i : ℕ) (a v : Worker sli Queues) → slice_get ws i ≡ Some a → slice_get vs i ≡ Some v → StaysPut a v
  pub known : (j : ℕ) → j < k → QueueKnown vs j
