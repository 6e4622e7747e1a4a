-- An arena that serves the collections of one thread, as contracts see it.
use Rattle.std.specs.Prelude.{ℕ}
use Rattle.linked_list_allocator.specs.Region.{Region}
use Rattle.tlsf_arena.specs.declared.local.LocalArena.{LocalArena}

-- the memory that it cuts, the same for as long as the arena lives
abbrev pub memory_of : {sli u : ℕ} → LocalArena sli u → Region
memory_of a = a.slot.0
