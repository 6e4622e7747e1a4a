-- The sizes of a yard.
use Rattle.std.specs.Prelude.{ℕ, ◌≤◌, ◌↔◌, Result, IsErrOf}
use Rattle.tlsf_crew.specs.Common.{IsRegion}
use Rattle.tlsf_heap.specs.declared.open_fault.OpenFault.{OpenFault}
use Rattle.tlsf_heap.specs.declared.open_fault.OpenFault.TheVariants.{BadSize, Worn}

-- the numbers of workers, of words of each heap and of posts in a lane that a yard may have
abbrev pub AreSizes : ℕ → ℕ → ℕ → ℕ → Type 0
AreSizes sli n words capacity = ((1 ≤ n) × (n ≤ 8)) × IsRegion sli words × ((1 ≤ capacity) × (capacity ≤ 1024))

-- sizes are refused as BadSize where one is out of its range, and none as Worn
pub record RefusesSizes {A : Type 0} (sli n words capacity : ℕ) (answer : Result A OpenFault) : Type 0 where
  pub bad_size : IsErrOf answer BadSize ↔ ¬ (AreSizes sli n words capacity)
  pub never_worn : ¬ (IsErrOf answer Worn)
