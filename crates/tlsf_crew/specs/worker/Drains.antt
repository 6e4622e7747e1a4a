-- The heap that a drain leaves, and its counts.
use Rattle.std.specs.Prelude.{◌≡◌, ◌≤◌, ℕ, List, length, Bool, is_ok}
use Rattle.tlsf_crew.specs.Common.{fold, count_by, HeapState, released, Took}
use Rattle.tlsf_calls.specs.declared.drained.Drained.{Drained}

abbrev pub is_freed : Took → Bool
is_freed took = is_ok took.answer

-- the heap after the releases of the names that were taken, one after another
abbrev pub heap_after : HeapState → List Took → HeapState
heap_after h tooks = fold (λ g took. (released g took.name).heap) h tooks

abbrev pub IsCountOf : Drained → List Took → Type 0
IsCountOf answer tooks = (answer.taken ≡ length tooks) × (answer.freed ≡ count_by is_freed tooks)

-- no more posts than the limit were taken, and no more blocks were released than posts were taken
pub record AreFew (limit : ℕ) (answer : Drained) : Type 0 where
  pub most : answer.taken ≤ limit
  pub freed : answer.freed ≤ answer.taken
