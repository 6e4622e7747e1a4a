use Rattle.tlsf_heap.proofs.lemmas.laws.AlignedFits.{gets_aligned, least_gap}
use Rattle.tlsf_heap.proofs.laws.aligned_blocks_fit.Goals as goal

pub returns : goal.returns
returns c = record { gets = λ sli level h n step skew lawful some least name. gets_aligned sli level h n step skew lawful some least name; gap = least_gap }
