use Rattle.std.proofs.Common.{refl, rules}
use Rattle.tlsf_crew.proofs.lemmas.worker.OwnHeaps.{same_heap_keeps}
use Rattle.tlsf_crew.proofs.worker.worker.Worker.read.Goals as goal

pub returns-clause-rest : goal.returns-clause-rest
returns-clause-rest g c = record { same = (refl, refl); yard = c.as_crew.ensures.yard g.row.SLI _ _ (refl, refl) (same_heap_keeps _ _ c.read.ensures.frame.same.heap); stays = search rules }
