use Rattle.tlsf_heap.proofs.Common.{ap, arith, Shown, state_of}
use Rattle.tlsf_heap.proofs.lemmas.laws.WordsInUse.{words_within}
use Rattle.tlsf_heap.proofs.heap.Heap.words_in_use.Goals as goal

pub returns-clause-within : goal.returns-clause-within
returns-clause-within g c = omega (arith, words_within (state_of g.row.SLI c.self.inside) c.self.invariant.lawful, c.self.invariant.in_use, ap (λ (s : Shown). s.heap.words) c.self.view_is)
