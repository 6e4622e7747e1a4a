use Rattle.std.proofs.Common.{refl, rules}
use Rattle.tlsf_crew.proofs.lemmas.worker.OwnHeaps.{allocate_keeps}
use Rattle.tlsf_crew.proofs.worker.worker.Worker.allocate.Goals as goal

pub returns-clause-rest : goal.returns-clause-rest
returns-clause-rest g c = record { same = (refl, refl); yard = c.as_crew.ensures.yard g.row.SLI _ _ (refl, refl) (allocate_keeps g.row.SLI _ _ c.args.len c.allocate.ensures.allocates.heap c.allocate.ensures.frame.keeps.lawful); stays = search rules }
