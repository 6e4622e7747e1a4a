use Rattle.tlsf_c.proofs.Common.{◌≡◌, ◌+◌, ◌<◌, ◌≤◌, List, ◌++◌, length, Post, PostEnd, IsLane}
use Rattle.tlsf_c.specs.Drains.{Drains}
use Rattle.tlsf_post.specs.Lanes.{taken, ready}
use Rattle.tlsf_c.proofs.lane_calls.drain_names.Given as goal

abbrev pub invariant-loop-left : goal.invariant-loop-left
invariant-loop-left l = record {
  few : l.count + l.left ≤ l.most;
  ended : l.count + l.left < l.most → length (ready l.fn.end) ≤ l.count;
  posts : (posts : List Post) × ((taken l.end ≡ taken l.fn.end ++ posts) × (length posts ≡ l.count)) × Drains l.fn.heap l.heap posts;
  ready : length (ready l.fn.end) ≤ l.count + length (ready l.end);
  lane : (p : PostEnd) → IsLane p l.fn.end → IsLane p l.end;
}

abbrev pub decreases-loop-left : goal.decreases-loop-left
decreases-loop-left l = l.left
