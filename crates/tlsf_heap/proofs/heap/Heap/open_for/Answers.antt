use Rattle.tlsf_heap.proofs.Common.{refl, ap, arith}
use Rattle.tlsf_heap.proofs.lemmas.calls.Alone.{stored_alone}
use Rattle.tlsf_heap.specs.declared.usage.Usage.{Usage}
use Rattle.tlsf_heap.proofs.heap.Heap.open_for.Goals as goal

pub invariant_of-result : goal.invariant_of-result
invariant_of-result g c = stored_alone g.row.SLI 4 c.args.first _ c.requires (omega arith) c.in-Ok.ensures.alone refl (ap (λ (u : Usage). u.words) c.none.ensures)

pub returns-clause-heap : goal.returns-clause-heap
returns-clause-heap g c = rw (c.in-Ok.ensures.alone.words, c.in-Ok.ensures.alone.blocks) refl

pub returns-clause-lawful : goal.returns-clause-lawful
returns-clause-lawful g c = (invariant_of-result g c).lawful
