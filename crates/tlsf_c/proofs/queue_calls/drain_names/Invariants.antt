use Rattle.tlsf_c.proofs.Common.{◌≡◌, ◌+◌, ◌≤◌, List, ◌++◌, length, Post}
use Rattle.tlsf_c.specs.Drains.{Drains}
use Rattle.tlsf_post.specs.Mailboxes.{got_by}
use Rattle.tlsf_c.specs.Ends.{StaysOwner}
use Rattle.tlsf_c.proofs.queue_calls.drain_names.Given as goal

abbrev pub invariant-loop-left : goal.invariant-loop-left
invariant-loop-left l = record {
  few : l.count + l.left ≤ l.most;
  kept : StaysOwner l.fn.end l.end;
  posts : (posts : List Post) × ((got_by l.end.owner ≡ got_by l.fn.end.owner ++ posts) × (length posts ≡ l.count)) × Drains l.fn.heap l.heap posts;
}

abbrev pub decreases-loop-left : goal.decreases-loop-left
decreases-loop-left l = l.left
