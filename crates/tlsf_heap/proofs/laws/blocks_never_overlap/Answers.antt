use Rattle.tlsf_heap.proofs.lemmas.blocks.Order.{apart, inside}
use Rattle.tlsf_heap.proofs.laws.blocks_never_overlap.Goals as goal

pub returns : goal.returns
returns c = record { apart = apart; within = inside }
