-- A yard whose lanes are being laid. This serves the contracts and proofs of private functions alone.
use Rattle.std.specs.Prelude.{◌≡◌, ◌≢◌, ℕ, ◌<◌, ◌⊎◌, List, [], length, map, Some, None, slice_get}
use Rattle.tlsf_crew.specs.Common.{range_with_len, Worker, Lanes}
use Rattle.tlsf_crew.specs.worker.Workers.{heap_of}
use Rattle.tlsf_crew.specs.lanes.LaneWorkers.{id_and_capacity}
use Rattle.tlsf_crew.specs.lanes.Yard.{post_at, take_at, lane_waits, HasPair}
use Rattle.tlsf_crew.specs.model.Opening.{opened_heaps}
use Rattle.tlsf_crew.specs.lanes.LaneOpening.{KnowFree, AreFresh}

abbrev pub opened_numbers : ℕ → ℕ → List (ℕ × ℕ)
opened_numbers n capacity = map (λ j. (j, capacity)) (range_with_len 0 n)

-- the lanes are laid row by row: lane (x, y) comes before lane (i, j)
abbrev pub IsBefore : ℕ → ℕ → ℕ → ℕ → Type 0
IsBefore i j x y = (x < i) ⊎ ((x ≡ i) × (y < j))

-- n workers with new heaps, and with all lanes before lane (i, j)
pub record IsLaid {sli : ℕ} (ws : List (Worker sli Lanes)) (n words capacity i j : ℕ) : Type 0 where
  pub len : length ws ≡ n
  pub heaps : map heap_of ws ≡ opened_heaps n words
  pub numbers : map id_and_capacity ws ≡ opened_numbers n capacity
  pub slots : (x : ℕ) (a : Worker sli Lanes) → slice_get ws x ≡ Some a → (length a.ports.posts.items ≡ n) × (length a.ports.takes.items ≡ n)
  pub empty : (x y : ℕ) → lane_waits (post_at ws x y) (take_at ws x y) ≡ []
  pub free : KnowFree ws capacity
  pub fresh : AreFresh ws
  pub alone : (x : ℕ) → (post_at ws x x ≡ None) × (take_at ws x x ≡ None)
  pub laid : (x y : ℕ) → x < n → y < n → x ≢ y → IsBefore i j x y → HasPair ws x y capacity
