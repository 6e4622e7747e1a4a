use Rattle.tlsf_c.proofs.Common.{rules}
use Rattle.tlsf_c.proofs.DrainSteps.{released_next}
use Rattle.tlsf_c.proofs.any_heap.release_each.Goals as goal

pub loop-block-preserved : goal.loop-block-preserved
loop-block-preserved g c = record {
  releases = released_next c.args.names.now c.loop-block.block-index _ c.loop-block-test.true c.name.result c.name.ensures _ _ _ c.loop-block.invariant.releases c.release.ensures.releases;
  stays = search rules;
  most = search rules;
}
