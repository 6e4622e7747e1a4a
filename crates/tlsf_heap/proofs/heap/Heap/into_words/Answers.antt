use Rattle.tlsf_heap.proofs.Common.{subst, ShowsLists, Shown}
use Rattle.tlsf_heap.proofs.lemmas.lists.FreeLists.{stored_lists}
use Rattle.tlsf_heap.proofs.heap.Heap.into_words.Goals as goal

pub returns-clause-lists : goal.returns-clause-lists
returns-clause-lists g c = subst (λ (s : Shown). ShowsLists g.row.SLI s.stored s.marked s.heap.blocks) c.self.view_is (stored_lists g.row.SLI c.self.inside c.self.invariant)
