-- Facts that the phases of a race give one another, over lanes or over queues. This serves the contracts and proofs of private
-- functions alone.
use Rattle.std.specs.Prelude.{◌≡◌, ℕ, List, [], ◌++◌, Option}
use Rattle.tlsf_heap.specs.declared.name.Name.{Name}
use Rattle.tlsf_calls.specs.declared.entry.Entry.{Entry}
use Rattle.tlsf_crew.specs.model.World.{World}
use Rattle.tlsf_lines.specs.Phases.{known_below, none_known}
use Rattle.tlsf_trace.specs.Output.{yard_of}
use Rattle.tlsf_trace.specs.RaceOutput.{IsPhase, IsRaceText, RaceRelation}
use Rattle.tlsf_trace.specs.RacedYards.{world_in}
use Rattle.tlsf_lines.specs.Records.{records_text}
use Rattle.tlsf_lines.specs.declared.header.Header.{Header}
use Rattle.tlsf_lines.specs.declared.line.Line.{Line}
use Rattle.tlsf_trace.specs.declared.raced_yard.RacedYard.{RacedYard}

-- a point between two phases: the world, the names that labels stand for, and the text so far
pub record RacePoint (sli : ℕ) : Type 0 where
  pub world : World sli
  pub known : ℕ → Option Name
  pub text : List ℕ

-- the point where the yard stands so
abbrev pub point_at : {sli : ℕ} → RacedYard sli → (ℕ → Option Name) → List ℕ → RacePoint sli
point_at yard known text = record { world = world_in yard; known = known; text = text }

-- the point before the first phase
abbrev pub race_start : {sli : ℕ} → Header → RacePoint sli
race_start header = record { world = yard_of header; known = none_known; text = [] }

-- a phase was raced: the world became another, labels learnt their names, and the lines of the records were told
pub record IsPhaseRaced {sli : ℕ} (Races : RaceRelation sli) (n : ℕ) (phase : List Line) (from to : RacePoint sli) : Type 0 where
  pub records : List (List Entry)
  pub raced : IsPhase Races n from.world from.known phase records to.world
  pub known_are : to.known ≡ known_below from.known phase records n
  pub text_is : to.text ≡ from.text ++ records_text phase records n

-- some phases were raced and others are left: with any text of those, what was told is one of all
pub record IsRaceSoFar {sli : ℕ} (Races : RaceRelation sli) (n : ℕ) (phases left : List (List Line)) (from to : RacePoint sli) : Type 0 where
  pub told : List ℕ
  pub text_is : to.text ≡ from.text ++ told
  pub rest : (tail : List ℕ) → IsRaceText Races n to.world to.known left tail → IsRaceText Races n from.world from.known phases (told ++ tail)
