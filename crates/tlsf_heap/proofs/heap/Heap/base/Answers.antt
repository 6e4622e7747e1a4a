use Rattle.std.proofs.Common.{refl, arith}
use Rattle.tlsf_heap.proofs.lemmas.calls.Kept.{keeps_stored}
use Rattle.tlsf_heap.proofs.heap.Heap.base.Goals as goal

pub returns-clause-keeps : goal.returns-clause-keeps
returns-clause-keeps g c = rw c.base.ensures.same (keeps_stored g.row.SLI c.self.inside c.self.view_is c.self.invariant c.self.inside c.self.invariant (omega arith) refl)
