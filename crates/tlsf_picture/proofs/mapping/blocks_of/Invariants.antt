use Rattle.tlsf_picture.proofs.Common.{◌-◌, LeavesHeap, heap_of, known_in, labelled}
use Rattle.tlsf_picture.proofs.Walking.{HasWalked}
use Rattle.tlsf_picture.proofs.mapping.blocks_of.Given as goal

-- the heap stays, and the blocks up to this place are met
abbrev pub invariant-loop-block : goal.invariant-loop-block
invariant-loop-block g l = record {
  left : LeavesHeap l.fn.worker l.worker;
  walked : HasWalked (labelled (known_in l.labels)) (heap_of l.fn.worker).blocks l.at l.blocks.items;
}

abbrev pub decreases-loop-block : goal.decreases-loop-block
decreases-loop-block g l = (heap_of l.fn.worker).words - l.at
