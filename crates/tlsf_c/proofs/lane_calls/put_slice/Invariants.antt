use Rattle.tlsf_c.proofs.Common.{◌≡◌, length, take, posts_named}
use Rattle.tlsf_c.proofs.lane_calls.put_slice.Given as goal

abbrev pub invariant-loop-k : goal.invariant-loop-k
invariant-loop-k l = record {
  places : length l.posts ≡ 32;
  named : take l.k l.posts ≡ posts_named (take l.k l.names);
}
