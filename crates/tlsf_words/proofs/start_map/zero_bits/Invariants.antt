use Rattle.tlsf_words.proofs.Common.{◌≡◌, ◌+◌, replicate, drop, ◌++◌}
use Rattle.tlsf_words.proofs.start_map.zero_bits.Given as goal

abbrev pub invariant-loop-i : goal.invariant-loop-i
invariant-loop-i l = record {
  bits : l.bits ≡ replicate l.i 0 ++ drop l.i l.initial.bits;
  touches : l.touches.count ≡ l.initial.touches.count + l.i;
}
