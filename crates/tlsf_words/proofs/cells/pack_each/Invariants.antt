use Rattle.tlsf_words.proofs.Common.{◌≡◌, ℕ, ◌+◌, ◌*◌, ◌<◌, get_or, length, byte_in, Within}
use Rattle.tlsf_words.proofs.cells.pack_each.Given as goal

abbrev pub invariant-loop-i : goal.invariant-loop-i
invariant-loop-i l = record {
  bytes : (k : ℕ) → k < 8 * l.i → byte_in l.words k ≡ get_or l.bytes k 0;
  tally : Within l.i l.from (l.from + length l.words) l.initial.tally l.tally;
}
