use Rattle.std.proofs.Common.{refl, rules}
use Rattle.tlsf_crew.proofs.lemmas.worker.OwnHeaps.{alter_keeps}
use Rattle.tlsf_crew.proofs.worker.worker.Worker.alter.Goals as goal

pub returns-clause-rest : goal.returns-clause-rest
returns-clause-rest g c = record { same = (refl, refl); yard = c.as_crew.ensures.yard g.row.SLI _ _ (refl, refl) (alter_keeps g.F.FnOnce c.args.f _ _ c.args.name c.alter.result c.alter.ensures.alters.altered c.alter.ensures.frame.err); stays = search rules }
