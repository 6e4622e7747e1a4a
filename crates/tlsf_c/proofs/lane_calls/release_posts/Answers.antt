use Rattle.tlsf_c.proofs.DrainSteps.{drains_next}
use Rattle.tlsf_c.proofs.lane_calls.release_posts.Goals as goal

pub loop-post-preserved : goal.loop-post-preserved
loop-post-preserved c = drains_next c.args.posts.now c.loop-post.post-index _ c.loop-post-test.true c.args.heap.now c.loop-post.heap _ _ c.loop-post.invariant c.release_named.ensures
