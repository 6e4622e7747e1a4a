-- A trace whose race gives one text, whatever the schedule.
use Rattle.std.specs.Prelude.{◌≡◌, ℕ, List, ⊤}
use Rattle.std.specs.List.{AllByRecursion}
use Rattle.tlsf_lines.specs.declared.line.Line.{Line}
use Rattle.tlsf_lines.specs.declared.line.Line.TheVariants.{Drain}
use Rattle.tlsf_lines.specs.Trace.{Trace}
use Rattle.tlsf_crew.specs.race_laws.QueueAlone.{IsUncontendedRace}
use Rattle.tlsf_trace.specs.Output.{level_in}
use Rattle.tlsf_trace.specs.RaceOutput.{IsOutputBy, IsRaceOutput}

-- it isn't a `d` line
abbrev pub IsNoDrain : Line → Type 0
IsNoDrain (Drain worker most) = ⊥
IsNoDrain line = ⊤

-- the trace has no `d` line
abbrev pub HasNoDrain : Trace → Type 0
HasNoDrain trace = AllByRecursion IsNoDrain trace.lines

-- all texts that such a trace may put out when it is raced are one
abbrev pub RaceGivesOneText : Type 0
RaceGivesOneText = (trace : Trace) (text other : List ℕ) → HasNoDrain trace → IsRaceOutput trace text → IsRaceOutput trace other → text ≡ other

-- a text that the trace may put out when it is raced over queues. In each phase each queue had one poster, and of more than two
-- workers none met a full queue
abbrev pub IsUncontendedOutput : Trace → List ℕ → Type 0
IsUncontendedOutput trace text = IsOutputBy {sli = level_in trace.header} IsUncontendedRace trace text
