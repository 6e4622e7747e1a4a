use Rattle.tlsf_heap.proofs.lemmas.calls.Outcomes.{runs, roomy}
use Rattle.tlsf_heap.proofs.laws.calls_are_steps.Goals as goal

pub returns : goal.returns
returns c = record { run = runs; roomy = roomy }
