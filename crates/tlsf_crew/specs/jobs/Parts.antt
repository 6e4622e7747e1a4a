-- Facts that the parts of a race give one another. This serves the contracts and proofs of private functions alone.
use Rattle.std.specs.Prelude.{◌≡◌, ℕ, ◌+◌, ◌<◌, ◌^◌, All, List, [], ◌∷◌, length, slice_index, slice_get, Option, Some, vec_len, vec_capacity}
use Rattle.tlsf_crew.specs.Common.{Vec, Global, Name, Entry, Call, Worker}
use Rattle.tlsf_crew.specs.declared.jobs.job.Job.{Job}
use Rattle.tlsf_crew.specs.model.Sums.{sum_of}
use Rattle.tlsf_crew.specs.scripts.EntryRoom.{releases_of}
use Rattle.tlsf_crew.specs.scripts.Scripts.{script_of, ScriptRun, ScriptPromise, at_stage}
use Rattle.tlsf_crew.specs.jobs.Job.{IsReady}

-- a job that is ready to run, with the room for all entries of its record. They are one for each call, and one for each post that
-- may be taken, where each script has this many releases. One more is for the last drain
pub record IsPrepared {sli : ℕ} {P : Type 0} (by : ScriptPromise sli P) (releases : List ℕ) (job : Job sli P) : Type 0 where
  pub ready : IsReady by job
  pub limits : by.limited job.worker.ports releases job.limits
  pub room : vec_capacity job.entries ≡ vec_len job.script + sum_of job.limits + 1

-- a script for each of this number of workers, of fewer than 2^32 calls
pub record AreScriptsFor (workers : ℕ) (scripts : Vec (Vec Call Global) Global) : Type 0 where
  pub count : vec_len scripts ≡ workers
  pub short : All (λ s. vec_len s < 2 ^ 32) scripts.items

-- each job was done, in order
abbrev pub AllDone : {J D : Type 0} → (J → D → Type 0) → List J → List D → Type 0
AllDone P [] [] = Unit {0}
AllDone P [] (d ∷ ds) = ⊥
AllDone P (j ∷ js) [] = ⊥
AllDone P (j ∷ js) (d ∷ ds) = P j d × AllDone P js ds

-- a worker with ports of any kind ran a script, and became v; its record has the room that was made
pub record JobRan {sli : ℕ} {P : Type 0} (by : ScriptPromise sli P) (releases : List ℕ) (a : Worker sli P) (script : List Call) (made : List (Option Name)) (r : Vec Entry Global) (v : Worker sli P) : Type 0 where
  pub limits : List ℕ
  pub left : List ℕ
  pub limits_are : by.limited a.ports releases limits
  pub run : (n : ℕ) → by.knows n a → ScriptRun by n a limits script made (at_stage v left r.items)
  pub room : vec_capacity r ≡ length script + sum_of limits + 1

-- so did each of them
pub record EachJobRan {sli : ℕ} {P : Type 0} (by : ScriptPromise sli P) (ws : List (Worker sli P)) (scripts : List (List Call)) (records : List (Vec Entry Global)) (vs : List (Worker sli P)) : Type 0 where
  pub releases : List ℕ
  pub counts : (i : ℕ) → i < 8 → slice_index releases i ≡ releases_of (script_of scripts i)
  pub made : ℕ → List (Option Name)
  pub worker_count : length vs ≡ length ws
  pub record_count : length records ≡ length ws
  pub ran : (j : ℕ) (a : Worker sli P) → slice_get ws j ≡ Some a
      → (v : Worker sli P) × (r : Vec Entry Global) × (slice_get vs j ≡ Some v) × (slice_get records j ≡ Some r) × JobRan by releases a (script_of scripts j) (made j) r v
