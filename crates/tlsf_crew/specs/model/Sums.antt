-- Sums over numbers, and how many posts wait in a world.
use Rattle.std.specs.Prelude.{zero, suc, ℕ, ◌+◌, List, length, slice_index}
use Rattle.tlsf_crew.specs.model.World.{World}

-- a sum over the numbers below n
abbrev pub sum_below : ℕ → (ℕ → ℕ) → ℕ
sum_below zero f = 0
sum_below (suc k) f = sum_below k f + f k

-- a sum over the lanes between n workers, those to worker 0 first
abbrev pub lanes_sum : ℕ → (ℕ → ℕ → ℕ) → ℕ
lanes_sum n f = sum_below n (λ j. sum_below n (λ i. f i j))

-- how many posts wait in a world
unfoldable pub waiting_count : {sli : ℕ} → World sli → ℕ
waiting_count w = lanes_sum (length w.heaps) (λ i j. length (w.waiting i j))

-- a sum over the workers
abbrev pub sum_of : List ℕ → ℕ
sum_of limits = sum_below 8 (slice_index limits)
