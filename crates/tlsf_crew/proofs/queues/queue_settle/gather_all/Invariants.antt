use Rattle.tlsf_crew.proofs.Common.{◌≡◌, ◌≤◌, vec_len, vec_capacity, Gathered}
use Rattle.tlsf_crew.proofs.queues.queue_settle.gather_all.Given as goal

abbrev pub invariant-loop-i : goal.invariant-loop-i
invariant-loop-i g l = record {
  gathered : Gathered l.fn.workers l.j l.i l.workers l.posters.items;
  few : vec_len l.posters ≤ l.i;
  capacity : vec_capacity l.posters ≡ vec_capacity l.fn.posters;
}
