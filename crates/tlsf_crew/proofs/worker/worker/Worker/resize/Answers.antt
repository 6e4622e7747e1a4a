use Rattle.std.proofs.Common.{refl, rules}
use Rattle.tlsf_heap.specs.Calls.{Resize}
use Rattle.tlsf_crew.proofs.lemmas.worker.OwnHeaps.{call_keeps}
use Rattle.tlsf_crew.proofs.worker.worker.Worker.resize.Goals as goal

pub returns-clause-rest : goal.returns-clause-rest
returns-clause-rest g c = record { same = (refl, refl); yard = c.as_crew.ensures.yard g.row.SLI _ _ (refl, refl) (call_keeps _ _ (Resize c.args.name c.args.len) c.resize.ensures.resizes.heap); stays = search rules }
