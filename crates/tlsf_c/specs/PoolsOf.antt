-- The view of pools of one of the two levels.
use Rattle.tlsf_c.specs.PoolLevels.{LevelPools}
use Rattle.tlsf_c.specs.declared.any_pools.PoolsOfLevel.{PoolsOfLevel}
use Rattle.tlsf_c.specs.declared.any_pools.PoolsOfLevel.TheVariants.{Four, Five}

abbrev pub pools_shown : PoolsOfLevel → LevelPools
pools_shown (Four p) = record { level = 4; pools = p }
pools_shown (Five p) = record { level = 5; pools = p }
