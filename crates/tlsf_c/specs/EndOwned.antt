-- The memory that a handle owns.
use base.Fml.{Fml, ftrue}
use denote.RawPtr.{Ptr}
use Rattle.std.specs.Prelude.{Option, Some, None}
use Rattle.std.specs.Box.Ownership.{box_owns}
use Rattle.std.specs.Global.{Global}
use Rattle.std_heap.specs.contracts.GlobalAllocator.TheImpl.{ghosts}
use Rattle.tlsf_c.specs.declared.any_end.AnyEnd.{AnyEnd}
use Rattle.tlsf_c.specs.contracts.any_end.AnyEnd.{the_row}

-- a box of an end, where there is one
abbrev pub end_owned : Global → Ptr → Option AnyEnd → Fml
end_owned alloc at (Some value) = box_owns (ghosts.dealloc_token alloc) the_row at value
end_owned alloc at None = ftrue
