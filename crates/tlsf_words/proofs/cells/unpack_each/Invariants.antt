use Rattle.tlsf_words.proofs.Common.{◌≡◌, ℕ, ◌+◌, ◌*◌, ◌<◌, get_or, length, byte_in, Within}
use Rattle.tlsf_words.proofs.cells.unpack_each.Given as goal

abbrev pub invariant-loop-i : goal.invariant-loop-i
invariant-loop-i l = record {
  bytes : (k : ℕ) → k < 8 * l.i → get_or l.out k 0 ≡ byte_in l.words k;
  tally : Within l.i l.from (l.from + length l.words) l.initial.tally l.tally;
}
