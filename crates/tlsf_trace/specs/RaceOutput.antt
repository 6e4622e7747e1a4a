-- The output of a trace that is raced: no function of it, since a schedule decides which posts a drain takes.
use Rattle.std.specs.Prelude.{◌≡◌, ℕ, List, [], ◌∷◌, ◌++◌, Option}
use Rattle.tlsf_heap.specs.declared.name.Name.{Name}
use Rattle.tlsf_calls.specs.declared.entry.Entry.{Entry}
use Rattle.tlsf_calls.specs.declared.call.Call.{Call}
use Rattle.tlsf_crew.specs.races.QueueRace.{IsQueueRace}
use Rattle.tlsf_crew.specs.races.Race.{IsRace}
use Rattle.tlsf_crew.specs.model.World.{World}
use Rattle.tlsf_lines.specs.declared.line.Line.{Line}
use Rattle.tlsf_trace.specs.Output.{level_in, yard_of}
use Rattle.tlsf_lines.specs.Records.{records_text}
use Rattle.tlsf_lines.specs.Phases.{known_below, none_known, phases_of, scripts_in}
use Rattle.tlsf_trace.specs.ReportLines.{report_text}
use Rattle.tlsf_lines.specs.Trace.{Trace}

-- what a race of scripts may leave of a world, with these records: over lanes, or over queues
abbrev pub RaceRelation : ℕ → Type 1
RaceRelation sli = World sli → List (List Call) → List (List Entry) → World sli → Type 0

-- a race of one phase leads from one world to the other, with these records
abbrev pub IsPhase : {sli : ℕ} → RaceRelation sli → ℕ → World sli → (ℕ → Option Name) → List Line → List (List Entry) → World sli → Type 0
IsPhase Races workers w known phase records v = Races w (scripts_in workers known phase) records v

-- from this world on, the phases are raced one after another. The text is the lines of their records, and then those of the heaps
-- that they leave
abbrev pub IsRaceText : {sli : ℕ} → RaceRelation sli → ℕ → World sli → (ℕ → Option Name) → List (List Line) → List ℕ → Type 0
IsRaceText {sli} Races workers w known [] text = text ≡ report_text sli w.heaps
IsRaceText {sli} Races workers w known (phase ∷ phases) text =
    (records : List (List Entry)) × (v : World sli) × (rest : List ℕ) × IsPhase Races workers w known phase records v
    × (text ≡ records_text phase records workers ++ rest) × IsRaceText Races workers v (known_below known phase records workers) phases rest

-- a text that the trace may put out when it is so raced
abbrev pub IsOutputBy : {sli : ℕ} → RaceRelation sli → Trace → List ℕ → Type 0
IsOutputBy Races trace text = IsRaceText Races trace.header.workers (yard_of trace.header) none_known (phases_of trace.lines) text

-- when it is raced over lanes, at the level that its header names
abbrev pub IsRaceOutput : Trace → List ℕ → Type 0
IsRaceOutput trace text = IsOutputBy {sli = level_in trace.header} IsRace trace text

-- when it is raced over queues
abbrev pub IsQueueRaceOutput : Trace → List ℕ → Type 0
IsQueueRaceOutput trace text = IsOutputBy {sli = level_in trace.header} IsQueueRace trace text
