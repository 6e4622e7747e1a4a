use Rattle.std.proofs.Common.{◌≡◌, length, take}
use Rattle.tlsf_c.specs.PoolHandles.{kinds_of}
use Rattle.tlsf_c.proofs.kind_row.put_kinds.Given as goal

abbrev pub invariant-loop-k : goal.invariant-loop-k
invariant-loop-k l = record {
  places : length l.kinds ≡ 64;
  table : take l.k l.kinds ≡ kinds_of (take l.k l.rows);
}
