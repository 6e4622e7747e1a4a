use Rattle.tlsf_picture.proofs.Standings.{first_heap}
use Rattle.tlsf_picture.proofs.plots.worst.worst_on.Goals as goal

pub loop-heap-init : goal.loop-heap-init
loop-heap-init g c = λ trace level is. first_heap trace c.in_ok-worst.worst (c.in_ok-worst.ensures trace level is)

pub loop-heap-preserved : goal.loop-heap-preserved
loop-heap-preserved g c = λ trace level is.
    c.worse_named-worst.ensures trace c.loop-heap.heap (c.loop-heap.invariant trace level is) (c.in_ok-named_above.ensures trace level is)
