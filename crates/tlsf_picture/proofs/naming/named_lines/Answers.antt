use Rattle.tlsf_picture.proofs.Common.{◌+◌, List, sym, subst, AllZip, range_with_len, IsNoted}
use Rattle.tlsf_map.specs.declared.named_lines.NamedLines.{NamedLines}
use Rattle.tlsf_picture.proofs.Charts.{one_more}
use Rattle.tlsf_picture.proofs.naming.named_lines.Goals as goal

pub loop-heap-preserved : goal.loop-heap-preserved
loop-heap-preserved g c = λ trace level is.
    let heap = c.loop-heap.heap in
    subst (λ (named : List NamedLines). AllZip (IsNoted trace) (range_with_len 0 (heap + 1)) named) (sym c.in_ok-push.ensures.items)
    (one_more (IsNoted trace) heap c.loop-heap.named.items c.in_ok-named_of.field-0 (c.loop-heap.invariant trace level is) (c.in_ok-named_of.ensures trace level is))
