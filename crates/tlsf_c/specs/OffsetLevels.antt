-- An arena of offsets with its level.
use Rattle.std.specs.Prelude.{◌≡◌, ℕ, ◌≤◌, OnErr, Result}
use Rattle.tlsf_heap.specs.declared.refusal.Refusal.{Refusal}
use Rattle.tlsf_offsets.specs.Offsets.{Offsets}

pub record LevelOffsets : Type 0 where
  pub level : ℕ
  pub offsets : Offsets

-- the level and the unit are as before, and the touches never fall
pub record OffsetsGoOn (old new : LevelOffsets) : Type 0 where
  pub level : new.level ≡ old.level
  pub unit : new.offsets.unit ≡ old.offsets.unit
  pub touches_rise : old.offsets.touches ≤ new.offsets.touches

-- so, and where it is refused the heap is as before
pub record OffsetsAnswer {A : Type 0} (old new : LevelOffsets) (answer : Result A Refusal) : Type 0 where
  pub goes_on : OffsetsGoOn old new
  pub err : OnErr answer (new.offsets.heap ≡ old.offsets.heap)
