-- Pools with their level.
use Rattle.std.specs.Prelude.{◌≡◌, ℕ}
use Rattle.tlsf_pool.specs.pools.Parts.{PoolsState}

pub record LevelPools : Type 0 where
  pub level : ℕ
  pub pools : PoolsState

-- a call that keeps the level, and does this
pub record AtLevel (old new : LevelPools) (done : Type 0) : Type 0 where
  pub level : new.level ≡ old.level
  pub does : done
