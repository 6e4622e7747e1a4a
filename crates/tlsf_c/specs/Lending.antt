-- A handle once what it lent is given back.
use Rattle.std.specs.Prelude.{Some}
use Rattle.std.specs.Borrow.{Lends, MutBor, Fml}
use Rattle.tlsf_c.specs.declared.any_arena.AnyArena.{AnyArena}
use Rattle.tlsf_c.specs.declared.any_end.AnyEnd.{AnyEnd}
use Rattle.tlsf_c.specs.declared.boxed_arena.BoxedArena.{BoxedArena}
use Rattle.tlsf_c.specs.declared.boxed_end.BoxedEnd.{BoxedEnd}
use Rattle.tlsf_c.specs.declared.boxed_heap.BoxedHeap.{BoxedHeap}
use Rattle.tlsf_c.specs.declared.held_heap.HeldHeap.{HeldHeap}
use Rattle.tlsf_c.specs.contracts.any_arena.AnyArena as arena
use Rattle.tlsf_c.specs.contracts.any_end.AnyEnd as end
use Rattle.tlsf_c.specs.contracts.boxed_arena.BoxedArena as held_arena
use Rattle.tlsf_c.specs.contracts.boxed_end.BoxedEnd as held_end
use Rattle.tlsf_c.specs.contracts.held_heap.HeldHeap as heap
use Rattle.tlsf_c.specs.contracts.boxed_heap.BoxedHeap as held

-- it holds this heap
abbrev pub holding : BoxedHeap → HeldHeap → BoxedHeap
holding h value = record h { value = value }

-- it holds the last heap that r leads to
abbrev pub LendsHeap : MutBor BoxedHeap → MutBor HeldHeap → Fml
LendsHeap h r = Lends held.the_row heap.the_row h r (holding h.now)

-- it holds this end
abbrev pub holding_end : BoxedEnd → AnyEnd → BoxedEnd
holding_end h value = record h { value = Some value }

-- it holds the last end that r leads to
abbrev pub LendsEnd : MutBor BoxedEnd → MutBor AnyEnd → Fml
LendsEnd h r = Lends held_end.the_row end.the_row h r (holding_end h.now)

-- it holds this arena
abbrev pub holding_arena : BoxedArena → AnyArena → BoxedArena
holding_arena h value = record h { value = Some value }

-- it holds the last arena that r leads to
abbrev pub LendsArena : MutBor BoxedArena → MutBor AnyArena → Fml
LendsArena h r = Lends held_arena.the_row arena.the_row h r (holding_arena h.now)
