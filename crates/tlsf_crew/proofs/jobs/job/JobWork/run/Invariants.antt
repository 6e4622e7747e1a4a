use Rattle.tlsf_crew.proofs.Common.{◌≡◌, ℕ, take, vec_capacity, ScriptRun, stage_of}
use Rattle.tlsf_crew.proofs.jobs.job.JobWork.run.Given as goal

abbrev pub invariant-loop-call : goal.invariant-loop-call
invariant-loop-call g l = record {
  index : l.index ≡ l.call-index;
  run : (n : ℕ) → (g.P.Scripted.promise g.row.SLI).knows n l.fn.self.worker
      → ScriptRun (g.P.Scripted.promise g.row.SLI) n l.fn.self.worker l.fn.self.limits (take l.call-index l.call-items) l.made.items (stage_of l.worker l.journal);
  names : vec_capacity l.made ≡ vec_capacity l.fn.self.made;
  room : vec_capacity l.journal.entries ≡ vec_capacity l.fn.self.entries;
}
