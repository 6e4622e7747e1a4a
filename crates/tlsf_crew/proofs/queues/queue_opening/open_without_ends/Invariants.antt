use Rattle.std.proofs.Common.{◌≡◌, ◌≤◌, vec_len, vec_capacity}
use Rattle.tlsf_crew.proofs.lemmas.queues.QueueOpened.{AreBare}
use Rattle.tlsf_crew.proofs.queues.queue_opening.open_without_ends.Given as goal

abbrev pub invariant-loop-id : goal.invariant-loop-id
invariant-loop-id g l = record {
  count : (vec_len l.workers ≡ l.id) × (vec_len l.ends ≡ l.id);
  room : (l.n ≤ vec_capacity l.workers) × (l.n ≤ vec_capacity l.ends);
  bare : AreBare l.n l.words l.capacity l.workers.items l.ends.items;
}
