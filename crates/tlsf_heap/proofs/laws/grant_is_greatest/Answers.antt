use Rattle.tlsf_heap.proofs.lemmas.calls.Reports.{greatest_length, formula}
use Rattle.tlsf_heap.proofs.laws.grant_is_greatest.Goals as goal

pub returns-clause-greatest : goal.returns-clause-greatest
returns-clause-greatest c = greatest_length

pub returns-clause-formula : goal.returns-clause-formula
returns-clause-formula c = formula
