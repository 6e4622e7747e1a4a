use Rattle.tlsf_words.proofs.Common.{◌≡◌, ℕ, ◌+◌, ◌<◌, ◌≤◌, times}
use Rattle.tlsf_words.proofs.places.Places.add_all.Given as goal

abbrev pub invariant-loop-i : goal.invariant-loop-i
invariant-loop-i l = ((k : ℕ) → k < l.from → times l.self.list k ≡ times l.initial.self.list k) × ((k : ℕ) → l.from + l.i ≤ k → times l.self.list k ≡ times l.initial.self.list k)
