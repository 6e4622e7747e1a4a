-- How a yard over queues is opened.
use Rattle.std.specs.Prelude.{◌≡◌, ◌≢◌, ◌⊎◌, ℕ, ◌<◌, ◌≤◌, List, [], ◌∷◌, ◌++◌, length, Some, None, All, slice_get, slice_set}
use Rattle.tlsf_crew.specs.Common.{Vec, Global, opened, number_of, put_by, owner_of, out_of, most_of, got_by, known_to, IsMailbox, IsWhole, PosterEnd, Worker, Queues}
use Rattle.tlsf_crew.specs.worker.Workers.{heap_of, id_of}
use Rattle.tlsf_crew.specs.queues.QueueWorkers.{queue_end_to}

-- nothing was put into a queue, and nothing taken out of one
pub record AreFreshQueues {sli : ℕ} (ws : List (Worker sli Queues)) : Type 0 where
  pub taken : (i : ℕ) (a : Worker sli Queues) → slice_get ws i ≡ Some a → (got_by a.ports.own ≡ []) × (known_to a.ports.own ≡ [])
  pub put : (i j : ℕ) (a : Worker sli Queues) (p : PosterEnd) → slice_get ws i ≡ Some a → queue_end_to a j ≡ Some p → put_by p ≡ []

-- ---- for private functions

-- each other worker has a slot for an end to the queue of worker j
abbrev pub HaveSlotsFor : {sli : ℕ} → ℕ → List (Worker sli Queues) → Type 0
HaveSlotsFor {sli} j ws = (i : ℕ) (a : Worker sli Queues) → i ≢ j → slice_get ws i ≡ Some a → j < length a.ports.posts.items

-- a new worker of n, whatever ends it has to other queues
pub record IsNewQueueWorker {sli : ℕ} (n words capacity i : ℕ) (a : Worker sli Queues) : Type 0 where
  pub number : id_of a ≡ i
  pub heap : heap_of a ≡ opened i words 0
  pub own : (owner_of a.ports.own ≡ i) × (out_of a.ports.own ≡ n) × (most_of a.ports.own ≡ capacity) × (got_by a.ports.own ≡ []) × (known_to a.ports.own ≡ [])
  pub slots : length a.ports.posts.items ≡ n

-- the ends of the queues from m on were given to the workers, and none of the others
pub record AreGiven {sli : ℕ} (n words capacity m : ℕ) (ws : List (Worker sli Queues)) : Type 0 where
  pub count : length ws ≡ n
  pub new : (i : ℕ) (a : Worker sli Queues) → slice_get ws i ≡ Some a → IsNewQueueWorker n words capacity i a
  pub given : (i j : ℕ) (a b : Worker sli Queues) → slice_get ws i ≡ Some a → slice_get ws j ≡ Some b → m ≤ j → i ≢ j
      → (p : PosterEnd) × (queue_end_to a j ≡ Some p) × (number_of p ≡ i) × (put_by p ≡ []) × IsMailbox b.ports.own p
  pub none : (i j : ℕ) (a : Worker sli Queues) → slice_get ws i ≡ Some a → (j < m) ⊎ ((n ≤ j) ⊎ (i ≡ j)) → queue_end_to a j ≡ None

-- the ends of the first queues, which are still to be given
abbrev pub AreUngiven : {sli : ℕ} → List (Worker sli Queues) → List (Vec PosterEnd Global) → Type 0
AreUngiven {sli} ws ends =
    (j : ℕ) (b : Worker sli Queues) (ps : Vec PosterEnd Global) → slice_get ws j ≡ Some b → slice_get ends j ≡ Some ps
    → IsWhole b.ports.own ps.items × All (λ p. put_by p ≡ []) ps.items

-- worker i got one of these ends in its slot j
pub record GotEnd {sli : ℕ} (a v : Worker sli Queues) (j i : ℕ) (ps : List PosterEnd) : Type 0 where
  pub end : PosterEnd
  pub before : List PosterEnd
  pub after : List PosterEnd
  pub stands : ps ≡ before ++ end ∷ after
  pub number : number_of end ≡ i
  pub posts : v.ports.posts.items ≡ slice_set a.ports.posts.items j (Some end)
  pub same : (v.heap ≡ a.heap) × (v.id ≡ a.id) × (v.ports.own ≡ a.ports.own)

-- so did each worker below k but the owner
pub record GaveEnds {sli : ℕ} (ws : List (Worker sli Queues)) (j k : ℕ) (ps : List PosterEnd) (vs : List (Worker sli Queues)) : Type 0 where
  pub count : length vs ≡ length ws
  pub same : (i : ℕ) → (k ≤ i) ⊎ (i ≡ j) → slice_get vs i ≡ slice_get ws i
  pub gave : (i : ℕ) (a : Worker sli Queues) → i < k → i ≢ j → slice_get ws i ≡ Some a → (v : Worker sli Queues) × (slice_get vs i ≡ Some v) × GotEnd a v j i ps
