-- A full handle and its parts own what a box at the same types owns.
use Rattle.tlsf_c.proofs.Walking.{Bx, ghosts, dict, impl, tnil, dnil, [], Slot, plain, RattleType}
use Rattle.std_heap.specs.contracts.Global as Heap
use Rattle.std_heap.proofs.Global.TheLaws as laws
use Rattle.tlsf_c.specs.contracts.held_heap.HeldHeap as Home
use Rattle.tlsf_c.specs.contracts.any_end.AnyEnd as End
use Rattle.tlsf_c.specs.contracts.any_arena.AnyArena as Arena
use Rattle.tlsf_c.proofs.held_heap.HeldHeap.TheLaws as heap_laws
use Rattle.tlsf_c.proofs.any_end.AnyEnd.TheLaws as end_laws
use Rattle.tlsf_c.proofs.any_arena.AnyArena.TheLaws as arena_laws
use Rattle.tlsf_c.specs.contracts.parts.Parts as Parts

abbrev pub heap : Bx
heap = record { row = Home.the_row; laws = heap_laws.the_row_laws; al = record { row = Heap.the_row; laws = laws.the_row_laws; g = ghosts; d = dict; drops = impl [] tnil dnil } }

abbrev pub end : Bx
end = record { row = End.the_row; laws = end_laws.the_row_laws; al = record { row = Heap.the_row; laws = laws.the_row_laws; g = ghosts; d = dict; drops = impl [] tnil dnil } }

abbrev pub arena : Bx
arena = record { row = Arena.the_row; laws = arena_laws.the_row_laws; al = record { row = Heap.the_row; laws = laws.the_row_laws; g = ghosts; d = dict; drops = impl [] tnil dnil } }

abbrev pub from_parts : RattleType → Slot 0
from_parts T = plain (λ _. Parts.the_row T Heap.the_row ghosts)
