use Rattle.tlsf_heap.proofs.Common.{refl, arith}
use Rattle.tlsf_heap.proofs.lemmas.calls.Kept.{keeps_stored}
use Rattle.tlsf_heap.proofs.heap.Heap.set_most_in_use.Goals as goal

pub invariant_of-self : goal.invariant_of-self
invariant_of-self g c =
    let was = c.self.invariant in
    record { level = was.level; lawful = was.lawful; shows = was.shows; small = was.small; listed = was.listed; linked = was.linked; bits = was.bits; in_use = was.in_use; most_in_use = omega (arith, c.max-self-inside.ensures) }

pub returns-clause-keeps : goal.returns-clause-keeps
returns-clause-keeps g c = keeps_stored g.row.SLI c.self.inside c.self.view_is c.self.invariant _ (invariant_of-self g c) (omega arith) refl
