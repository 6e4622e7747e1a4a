-- All that the thread of one worker is given, and its promise of what it hands back.
use Rattle.std.specs.Prelude.{◌≡◌, ℕ, ◌+◌, ◌^◌, ◌<◌, ◌≤◌, List, [], vec_len, vec_capacity}
use Rattle.tlsf_crew.specs.Common.{Worker}
use Rattle.tlsf_crew.specs.model.Sums.{sum_of}
use Rattle.tlsf_crew.specs.scripts.Scripts.{ScriptRun, ScriptPromise, at_stage}
use Rattle.tlsf_crew.specs.declared.jobs.job.Job.{Job}

-- the worker is one of some count
abbrev pub KnowsSome : {sli : ℕ} {P : Type 0} → (ℕ → Worker sli P → Type 0) → Worker sli P → Type 0
KnowsSome knows a = (n : ℕ) × knows n a

-- a job is ready to run: its worker is one of some yard, nothing is recorded, and there is room for its entries. They are one for
-- each call and one for each post that may be taken
pub record IsReady {sli : ℕ} {P : Type 0} (by : ScriptPromise sli P) (job : Job sli P) : Type 0 where
  pub yard : KnowsSome by.knows job.worker
  pub fresh : (job.made.items ≡ []) × (job.entries.items ≡ [])
  pub short : vec_len job.script < 2 ^ 32
  pub names : vec_len job.script ≤ vec_capacity job.made
  pub room : vec_len job.script + sum_of job.limits ≤ vec_capacity job.entries

-- what a thread that was given this job hands back
pub record IsDone {sli : ℕ} {P : Type 0} (by : ScriptPromise sli P) (job : Job sli P) (d : Job sli P) : Type 0 where
  pub left : List ℕ
  pub ran : (n : ℕ) → by.knows n job.worker → ScriptRun by n job.worker job.limits job.script.items d.made.items (at_stage d.worker left d.entries.items)
  pub room : vec_capacity d.entries ≡ vec_capacity job.entries
