use Rattle.tlsf_crew.proofs.Common.{◌≡◌, ◌+◌, ◌^◌, ◌<◌, ◌≤◌, ◌++◌, map, reverse, vec_len, vec_capacity, All, KnowsSome, IsPrepared}
use Rattle.tlsf_crew.proofs.jobs.preparation.prepare.Given as goal

-- what is left of the workers and of the scripts, and then the jobs, last first, is all that was there
abbrev pub invariant-loop-worker : goal.invariant-loop-worker
invariant-loop-worker g l = record {
  same : vec_len l.scripts ≡ vec_len l.workers;
  yard : All (KnowsSome (g.P.Scripted.promise g.row.SLI).knows) l.workers.items;
  short : All (λ s. vec_len s < 2 ^ 32) l.scripts.items;
  workers : l.workers.items ++ reverse (map (λ j. j.worker) l.jobs.items) ≡ l.fn.workers.items;
  scripts : l.scripts.items ++ reverse (map (λ j. j.script) l.jobs.items) ≡ l.fn.scripts.items;
  ready : All (IsPrepared (g.P.Scripted.promise g.row.SLI) l.releases) l.jobs.items;
  room : vec_len l.jobs + vec_len l.workers ≤ vec_capacity l.jobs;
}

abbrev pub decreases-loop-worker : goal.decreases-loop-worker
decreases-loop-worker g l = vec_len l.workers
