use Rattle.std.proofs.Common.{refl, rules}
use Rattle.tlsf_heap.specs.Calls.{Write}
use Rattle.tlsf_crew.proofs.lemmas.worker.OwnHeaps.{call_keeps}
use Rattle.tlsf_crew.proofs.worker.worker.Worker.write.Goals as goal

pub returns-clause-rest : goal.returns-clause-rest
returns-clause-rest g c = record { same = (refl, refl); yard = c.as_crew.ensures.yard g.row.SLI _ _ (refl, refl) (call_keeps _ _ (Write c.args.name c.args.at c.args.bytes.now) c.write.ensures.writes.heap); stays = search rules }
