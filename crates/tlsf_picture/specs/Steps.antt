-- The premises and the steps of pictures. This serves the contracts of private functions alone.
use Rattle.std.specs.Prelude.{◌≡◌, ℕ, ◌<◌, ◌≤◌, ◌^◌, List, [], ◌++◌, length, vec_len}
use Rattle.std.specs.List.{AllZip}
use Rattle.tlsf_class.specs.Classes.{IsLevel}
use Rattle.tlsf_crew.specs.declared.worker.lanes.Lanes.{Lanes}
use Rattle.tlsf_crew.specs.declared.worker.worker.Worker.{Worker}
use Rattle.tlsf_crew.specs.lanes.Yard.{IsYard, world_of}
use Rattle.tlsf_crew.specs.worker.Workers.{heap_of, SameButHeap}
use Rattle.tlsf_lines.specs.Ranges.{IsHeaderInRange}
use Rattle.tlsf_lines.specs.Trace.{Trace}
use Rattle.tlsf_lines.specs.declared.script.Script.{Script}
use Rattle.tlsf_map.specs.Told.{Adds, Moment, all_told, head_told, moment_told}
use Rattle.tlsf_picture.specs.Pages.{IsMoment}

-- ---- what is drawn

-- a script may be played at a level
pub record IsPlayable (sli : ℕ) (script : Script) : Type 0 where
  pub level : IsLevel sli
  pub header : IsHeaderInRange script.header
  pub lines : vec_len script.ends ≤ 32768

-- and has a heap of this number
pub record HasHeap (sli : ℕ) (script : Script) (number : ℕ) : Type 0 where
  pub plays : IsPlayable sli script
  pub heap : number < script.header.workers

-- the most points that a line of a plot may have
pub record IsMostPoints (most : ℕ) : Type 0 where
  pub some : 0 < most
  pub few : most ≤ 2 ^ 16

-- a point of this number is one of few
pub record HasPoint {A : Type 0} (points : List A) (number : ℕ) : Type 0 where
  pub within : number < length points
  pub few : length points ≤ 2 ^ 16

-- ---- what is looked at

-- a worker's heap was looked at: all of it stays, and so does all else of the worker
pub record LeavesHeap {sli : ℕ} (a v : Worker sli Lanes) : Type 0 where
  pub heap : heap_of v ≡ heap_of a
  pub same : SameButHeap a v

-- a yard is whole after it, and shows the same
pub record ShowsSame {sli : ℕ} (ws vs : List (Worker sli Lanes)) : Type 0 where
  pub yard : IsYard vs
  pub world : world_of vs ≡ world_of ws

-- ---- the page of a trace, one moment after another

-- a text has one moment more
pub record AddsMoment (line : ℕ) (trace : Trace) (before after : List ℕ) : Type 0 where
  pub moment : Moment
  pub is : IsMoment trace line moment
  pub added : Adds (moment_told trace.header.words moment) before after

-- the page so far, with the moments after these lines
pub record HasShown (lines : List ℕ) (trace : Trace) (text : List ℕ) : Type 0 where
  pub moments : List Moment
  pub shown : AllZip (IsMoment trace) lines moments
  pub so_far : Adds (head_told ++ all_told (moment_told trace.header.words) moments) [] text
