-- The memory that a handle owns.
use base.Fml.{Fml, ftrue}
use denote.RawPtr.{Ptr}
use Rattle.std.specs.Prelude.{Option, Some, None}
use Rattle.std.specs.Box.Ownership.{box_owns}
use Rattle.std.specs.Global.{Global}
use Rattle.std_heap.specs.contracts.GlobalAllocator.TheImpl.{ghosts}
use Rattle.tlsf_c.specs.declared.any_arena.AnyArena.{AnyArena}
use Rattle.tlsf_c.specs.contracts.any_arena.AnyArena.{the_row}

-- a box of an arena, where there is one
abbrev pub arena_owned : Global → Ptr → Option AnyArena → Fml
arena_owned alloc at (Some value) = box_owns (ghosts.dealloc_token alloc) the_row at value
arena_owned alloc at None = ftrue
