use Rattle.tlsf_crew.proofs.Common.{◌≡◌, ◌*◌, ◌≤◌, ready_below}
use Rattle.tlsf_crew.proofs.scripts.room.count_ready.Given as goal

abbrev pub invariant-loop-worker : goal.invariant-loop-worker
invariant-loop-worker g l = record { count : l.count ≡ ready_below l.workers l.worker-index; most : l.count ≤ l.worker-index * (8 * 4294967295) }
