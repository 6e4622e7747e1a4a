-- Which kind of arena a handle holds, and whether no call is using it.
use Rattle.std.specs.Prelude.{Bool, true, false, Option, Some, None, []}
use Rattle.tlsf_pool.specs.pools.Parts.{no_memory}
use Rattle.tlsf_c.specs.OffsetLevels.{LevelOffsets}
use Rattle.tlsf_c.specs.PoolLevels.{LevelPools}
use Rattle.tlsf_c.specs.declared.any_arena.AnyArena.{AnyArena}
use Rattle.tlsf_c.specs.declared.any_arena.AnyArena.TheVariants.{Offsets, Pools}

-- no call is using it
abbrev pub is_arena_idle : Option AnyArena → Bool
is_arena_idle None = true
is_arena_idle (Some (Offsets idle o)) = idle
is_arena_idle (Some (Pools idle p)) = idle

-- the same arena, whose note says this of whether no call is using it
abbrev pub arena_with_idle : Bool → Option AnyArena → Option AnyArena
arena_with_idle idle None = None
arena_with_idle idle (Some (Offsets was o)) = Some (Offsets idle o)
arena_with_idle idle (Some (Pools was p)) = Some (Pools idle p)

abbrev pub is_offsets : Option AnyArena → Bool
is_offsets None = false
is_offsets (Some (Offsets idle o)) = true
is_offsets (Some (Pools idle p)) = false

abbrev pub is_pools : Option AnyArena → Bool
is_pools None = false
is_pools (Some (Offsets idle o)) = false
is_pools (Some (Pools idle p)) = true

-- what stands for an arena of offsets where there is none
abbrev pub no_offsets : LevelOffsets
no_offsets = record {
  level = 0;
  offsets = record { heap = record { id = 0; words = 0; tick = 0; blocks = [] }; unit = 0; extents = record { words = no_memory; starts = no_memory }; touches = 0; touched = [] };
}

-- what stands for pools where there are none
abbrev pub no_pools : LevelPools
no_pools = record { level = 0; pools = record { id = 0; parts = []; extent = no_memory } }

abbrev pub offsets_of : Option AnyArena → LevelOffsets
offsets_of None = no_offsets
offsets_of (Some (Offsets idle o)) = o
offsets_of (Some (Pools idle p)) = no_offsets

abbrev pub pools_of : Option AnyArena → LevelPools
pools_of None = no_pools
pools_of (Some (Offsets idle o)) = no_pools
pools_of (Some (Pools idle p)) = p
