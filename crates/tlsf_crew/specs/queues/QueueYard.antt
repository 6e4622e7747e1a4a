-- A yard over queues, when it is whole, and the world that it shows.
use Rattle.std.specs.Prelude.{◌≡◌, ℕ, ◌≤◌, List, [], length, map, drop, Option, Some, None, slice_get}
use Rattle.tlsf_crew.specs.Common.{IsLevel, posts_of, number_of, put_by, most_of, got_by, IsMailbox, Post, PosterEnd, Worker, Queues}
use Rattle.tlsf_crew.specs.model.World.{World}
use Rattle.tlsf_crew.specs.worker.Workers.{IsHeapOf, heap_of, id_of}
use Rattle.tlsf_crew.specs.queues.QueueWorkers.{queue_end_to, KnowsQueueYard}

-- a worker of n, of number i, with a lawful heap of its number and a queue of this capacity
pub record FitsQueueYard {sli : ℕ} (n capacity i : ℕ) (a : Worker sli Queues) : Type 0 where
  pub number : id_of a ≡ i
  pub knows : KnowsQueueYard n a
  pub heap : IsHeapOf i (heap_of a)
  pub room : most_of a.ports.own ≡ capacity

-- the capacity of every queue, as the first worker knows it
abbrev pub first_capacity : {sli : ℕ} → Option (Worker sli Queues) → ℕ
first_capacity None = 0
first_capacity (Some a) = most_of a.ports.own

abbrev pub queue_capacity_in : {sli : ℕ} → List (Worker sli Queues) → ℕ
queue_capacity_in ws = first_capacity (slice_get ws 0)

-- a whole yard over queues, of a level that there is. It has at most eight workers, numbered from 0 in their order. Each has a
-- lawful heap of its number and a queue of the yard's capacity, at most 1,024 posts. Each other worker has an end into it
pub record IsQueueYard {sli : ℕ} (ws : List (Worker sli Queues)) : Type 0 where
  pub level : IsLevel sli
  pub few : length ws ≤ 8
  pub small : queue_capacity_in ws ≤ 1024
  pub workers : (i : ℕ) (a : Worker sli Queues) → slice_get ws i ≡ Some a → FitsQueueYard (length ws) (queue_capacity_in ws) i a
  pub mailboxes : (i j : ℕ) (a b : Worker sli Queues) (p : PosterEnd) → slice_get ws i ≡ Some a → slice_get ws j ≡ Some b → queue_end_to a j ≡ Some p
      → IsMailbox b.ports.own p

-- what waits of one worker in a queue: what it has put less what was taken of it
abbrev pub waits_of : {sli : ℕ} → Option (Worker sli Queues) → Option PosterEnd → List Post
waits_of None p = []
waits_of (Some b) None = []
waits_of (Some b) (Some p) = drop (length (posts_of (number_of p) (got_by b.ports.own))) (put_by p)

abbrev pub queue_end_in : {sli : ℕ} → Option (Worker sli Queues) → ℕ → Option PosterEnd
queue_end_in None j = None
queue_end_in (Some a) j = queue_end_to a j

-- what waits of worker i in the queue of worker j
abbrev pub queue_waits_in : {sli : ℕ} → List (Worker sli Queues) → ℕ → ℕ → List Post
queue_waits_in ws i j = waits_of (slice_get ws j) (queue_end_in (slice_get ws i) j)

-- what the yard shows
unfoldable pub queue_world_of : {sli : ℕ} → List (Worker sli Queues) → World sli
queue_world_of ws = record { heaps = map heap_of ws; waiting = queue_waits_in ws; capacity = queue_capacity_in ws }
