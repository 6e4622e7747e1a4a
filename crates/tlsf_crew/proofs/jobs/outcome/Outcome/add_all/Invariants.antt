use Rattle.std.proofs.Common.{◌≡◌, ◌+◌, ◌≤◌, ◌++◌, map, vec_len, vec_capacity}
use Rattle.std.specs.Vec.Iter.{into_iter_items, into_iter_len}
use Rattle.tlsf_crew.proofs.jobs.outcome.Outcome.add_all.Given as goal

-- what was added, and then what is still to come, is all that was done
abbrev pub invariant-loop-each : goal.invariant-loop-each
invariant-loop-each g l = record {
  workers : l.self.workers.items ++ map (λ d. d.worker) (into_iter_items l.each-iterator) ≡ map (λ d. d.worker) l.fn.done.items;
  records : l.self.records.items ++ map (λ d. d.entries) (into_iter_items l.each-iterator) ≡ map (λ d. d.entries) l.fn.done.items;
  room : (vec_len l.self.workers + into_iter_len l.each-iterator ≤ vec_capacity l.self.workers) × (vec_len l.self.records + into_iter_len l.each-iterator ≤ vec_capacity l.self.records);
}
