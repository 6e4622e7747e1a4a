use Rattle.tlsf_crew.proofs.Common.{◌≡◌, ◌≤◌, List, length, map, vec_capacity, number_of, below_but, Worker, Queues, GaveEnds, HaveSlotsFor}
use Rattle.tlsf_crew.proofs.queues.queue_opening.give_ends.Given as goal

-- whatever the ends that are left are given to, with it all ends were given
abbrev pub invariant-loop-i : goal.invariant-loop-i
invariant-loop-i g l = record {
  inside : l.i ≤ length l.workers;
  slots : HaveSlotsFor l.j l.workers;
  numbers : map number_of l.posters.items ≡ below_but l.j l.i;
  rest : (vs : List (Worker g.row.SLI Queues)) → GaveEnds l.workers l.j l.i l.posters.items vs → GaveEnds l.fn.workers l.j l.k l.fn.posters.items vs;
  capacity : vec_capacity l.posters ≡ vec_capacity l.fn.posters;
}

abbrev pub decreases-loop-i : goal.decreases-loop-i
decreases-loop-i g l = l.i
