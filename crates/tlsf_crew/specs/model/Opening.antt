-- The world of a new yard.
use Rattle.std.specs.Prelude.{ℕ, List, [], map}
use Rattle.tlsf_crew.specs.Common.{range_with_len, HeapState, opened}
use Rattle.tlsf_crew.specs.model.World.{World}

abbrev pub opened_heaps : ℕ → ℕ → List HeapState
opened_heaps n words = map (λ j. opened j words 0) (range_with_len 0 n)

-- heap j has id j, and nothing waits
abbrev pub opened_world : {sli : ℕ} → ℕ → ℕ → ℕ → World sli
opened_world n words capacity = record { heaps = opened_heaps n words; waiting = λ i j. []; capacity = capacity }
