use Rattle.tlsf_crew.proofs.Common.{◌≡◌, ℕ, ◌≤◌, length, vec_len, AreUngiven, AreGiven}
use Rattle.tlsf_crew.proofs.queues.queue_opening.give_all.Given as goal

-- the ends of the queues after those that are left were given
abbrev pub invariant-loop-posters : goal.invariant-loop-posters
invariant-loop-posters g l = record {
  count : length l.workers ≡ length l.fn.workers;
  ends : AreUngiven l.workers l.ends.items;
  few : vec_len l.ends ≤ length l.workers;
  given : (words capacity : ℕ) → AreGiven (length l.fn.workers) words capacity (vec_len l.fn.ends) l.fn.workers
      → AreGiven (length l.fn.workers) words capacity (vec_len l.ends) l.workers;
}

abbrev pub decreases-loop-posters : goal.decreases-loop-posters
decreases-loop-posters g l = vec_len l.ends
