use Rattle.tlsf_c.proofs.Common.{◌≡◌, length, take, map, name_of}
use Rattle.tlsf_c.proofs.lane_calls.take_by.Given as goal

abbrev pub invariant-loop-k : goal.invariant-loop-k
invariant-loop-k l = record {
  places : length l.names ≡ length l.fn.names;
  named : map (λ p. p.name) (take l.k l.post-items) ≡ map name_of (take l.k l.names);
}
