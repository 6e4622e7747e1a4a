use Rattle.std.proofs.Common.{refl, rules}
use Rattle.tlsf_heap.specs.Calls.{Release}
use Rattle.tlsf_crew.proofs.lemmas.worker.OwnHeaps.{call_keeps}
use Rattle.tlsf_crew.proofs.worker.worker.Worker.free.Goals as goal

pub returns-clause-rest : goal.returns-clause-rest
returns-clause-rest g c = record { same = (refl, refl); yard = c.as_crew.ensures.yard g.row.SLI _ _ (refl, refl) (call_keeps _ _ (Release c.args.name) c.release.ensures.releases.heap); stays = search rules }
