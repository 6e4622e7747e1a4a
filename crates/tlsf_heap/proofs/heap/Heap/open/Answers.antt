use Rattle.tlsf_heap.proofs.Common.{arith, ◌∙◌}
use Rattle.tlsf_heap.proofs.lemmas.calls.Alone.{opened_again, opened_before}
use Rattle.tlsf_heap.proofs.heap.Heap.open.Goals as goal

pub begin-requires : goal.begin-requires
begin-requires g c =
    let e = c.in_ok-heap.ensures in
    (omega arith, (opened_before _ c.args.id 4 c.args.first e.heap, (e.region, (e.words_room, e.starts_room))))

pub returns-clause-heap : goal.returns-clause-heap
returns-clause-heap g c = c.begin.ensures.heap ∙ opened_again _ c.args.id 4 c.args.words c.args.first c.in_ok-heap.ensures.heap
