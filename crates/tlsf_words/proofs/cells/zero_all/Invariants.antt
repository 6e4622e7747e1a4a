use Rattle.tlsf_words.proofs.Common.{◌≡◌, ◌+◌, ◌<◌, ◌≤◌, ℕ, replicate, drop, ◌++◌, times}
use Rattle.tlsf_words.proofs.cells.zero_all.Given as goal

abbrev pub invariant-loop-i : goal.invariant-loop-i
invariant-loop-i l = record {
  words : l.words ≡ replicate l.i 0 ++ drop l.i l.initial.words;
  touches : l.tally.touches ≡ l.initial.tally.touches + l.i;
  before : (k : ℕ) → k < l.from → times l.tally.touched k ≡ times l.initial.tally.touched k;
  behind : (k : ℕ) → l.from + l.i ≤ k → times l.tally.touched k ≡ times l.initial.tally.touched k;
}
