use Rattle.tlsf_crew.proofs.Common.{ap, sym, by_heap}
use Rattle.tlsf_crew.proofs.worker.worker.as_crew.Goals as goal

pub returns-in-Ok-clause-answer : goal.returns-in-Ok-clause-answer
returns-in-Ok-clause-answer g c = sym (ap by_heap c.in-Ok.is)

pub returns-in-Ok-clause-yard : goal.returns-in-Ok-clause-yard
returns-in-Ok-clause-yard g c = c.heap_keeps.ensures

pub returns-in-Err-clause-answer : goal.returns-in-Err-clause-answer
returns-in-Err-clause-answer g c = sym (ap by_heap c.in-Err.is)

pub returns-in-Err-clause-yard : goal.returns-in-Err-clause-yard
returns-in-Err-clause-yard g c = c.heap_keeps.ensures
