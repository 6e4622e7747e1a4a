use Rattle.std.proofs.Common.{refl}
use Rattle.tlsf_crew.proofs.lemmas.worker.OwnHeaps.{same_heap_keeps}
use Rattle.tlsf_crew.proofs.worker.worker.Worker.block_at.Goals as goal

pub returns-clause-rest : goal.returns-clause-rest
returns-clause-rest g c = record { same = (refl, refl); yard = c.heap_keeps.ensures g.row.SLI _ _ (refl, refl) (same_heap_keeps _ _ c.block_at.ensures.frame.same.heap); stays = (c.block_at.ensures.frame.keeps.stays, refl) }
