use Rattle.tlsf_c.proofs.Common.{take}
use Rattle.tlsf_c.specs.Drains.{Drains}
use Rattle.tlsf_c.proofs.lane_calls.release_posts.Given as goal

abbrev pub invariant-loop-post : goal.invariant-loop-post
invariant-loop-post l = Drains l.fn.heap l.heap (take l.post-index l.posts)
