-- The text of a raced trace, above its definition: the answer to each line, and one history of each heap.
use Rattle.std.specs.Prelude.{◌≡◌, ◌≢◌, ℕ, ◌<◌, List, [], ◌∷◌, ◌++◌, length, map, Option, ⊤}
use Rattle.std.specs.List.{flat_map}
use Rattle.tlsf_heap.specs.Blocks.{HeapState}
use Rattle.tlsf_heap.specs.Calls as heap
use Rattle.tlsf_heap.specs.Calls.{opened}
use Rattle.tlsf_heap.specs.Lawful.{IsLawful}
use Rattle.tlsf_heap.specs.declared.name.Name.{Name}
use Rattle.tlsf_calls.specs.Entries.{record_of}
use Rattle.tlsf_calls.specs.declared.call.Call.{Call}
use Rattle.tlsf_calls.specs.declared.entry.Entry.{Entry}
use Rattle.tlsf_crew.specs.histories.QueueHistory.{TellsQueue}
use Rattle.tlsf_crew.specs.races.Race.{events_by}
use Rattle.tlsf_crew.specs.scripts.Scripts.{last_call}
use Rattle.tlsf_crew.specs.histories.History.{RunsTo, Tells, answers_on, calls_on, posts_made, posts_taken}
use Rattle.tlsf_crew.specs.model.World.{World, heap_in}
use Rattle.tlsf_lines.specs.Phases.{known_below, none_known, phases_of, script_in}
use Rattle.tlsf_lines.specs.Ranges.{IsHeaderInRange}
use Rattle.tlsf_lines.specs.Records.{records_text}
use Rattle.tlsf_lines.specs.Trace.{Trace}
use Rattle.tlsf_lines.specs.declared.line.Line.{Line}
use Rattle.tlsf_trace.specs.Output.{level_in}
use Rattle.tlsf_trace.specs.ReportLines.{report_text}

-- ---- one phase

-- a record gives an account of the calls of one of this many workers: each once and in order, with the name that it made
abbrev pub RecordRelation : Type 1
RecordRelation = ℕ → ℕ → List Call → List (Option Name) → List Entry → Type 0

abbrev pub TellsOverLanes : RecordRelation
TellsOverLanes n at calls made entries = Tells n [] (events_by at calls) made entries

abbrev pub TellsOverQueues : RecordRelation
TellsOverQueues n at calls made entries = TellsQueue n at [] calls made entries

-- a phase as it was told: the names that each worker's calls made, and the records
pub record PhaseTold : Type 0 where
  pub made : ℕ → List (Option Name)
  pub records : List (List Entry)

-- a phase of these lines was told, in which labels stood for these names at first
pub record IsPhaseTold (TellsCalls : RecordRelation) (n : ℕ) (known : ℕ → Option Name) (lines : List Line) (p : PhaseTold) : Type 0 where
  -- record j tells the lines of worker j, each once and in their order, and then the last drain
  pub told : (j : ℕ) → j < n → TellsCalls n j (script_in known lines j ++ last_call ∷ []) (p.made j) (record_of p.records j)
  -- j took from i the posts that i was answered to have posted to j, in order and each once. Nothing waits for the next phase
  pub posts : (i j : ℕ) → i < n → j < n → i ≢ j → posts_made i j (p.made i) (record_of p.records i) ≡ posts_taken i j (record_of p.records j)

-- ---- one phase after another

-- each phase was told, where labels stood for these names before the first; each phase gives names to those after it
abbrev pub ArePhasesTold : RecordRelation → ℕ → (ℕ → Option Name) → List (List Line) → List PhaseTold → Type 0
ArePhasesTold TellsCalls n known [] [] = ⊤
ArePhasesTold TellsCalls n known (lines ∷ phases) (p ∷ told) =
    IsPhaseTold TellsCalls n known lines p × ArePhasesTold TellsCalls n (known_below known lines p.records n) phases told
ArePhasesTold TellsCalls n known phases told = ⊥

-- the lines of the records, phase after phase
abbrev pub phases_text : ℕ → List (List Line) → List PhaseTold → List ℕ
phases_text n phases [] = []
phases_text n [] (p ∷ told) = []
phases_text n (lines ∷ phases) (p ∷ told) = records_text lines p.records n ++ phases_text n phases told

-- ---- the history of a heap

-- an entry, and the names that its worker's calls made in its phase
pub record ToldEntry : Type 0 where
  pub made : List (Option Name)
  pub entry : Entry

-- the records of worker j, phase after phase
abbrev pub history_of : ℕ → List PhaseTold → List ToldEntry
history_of j told = flat_map (λ p. map (λ e. record { made = p.made j; entry = e }) (record_of p.records j)) told

-- the calls on heap j that some of its history tells, and the answers to them
abbrev pub calls_in_history : ℕ → List ToldEntry → List heap.Call
calls_in_history j history = flat_map (λ x. calls_on j x.made (x.entry ∷ [])) history

abbrev pub answers_in_history : ℕ → List ToldEntry → List heap.Answer
answers_in_history j history = flat_map (λ x. answers_on j (x.entry ∷ [])) history

-- the calls that some of its history tells, run in turn on heap j, give the answers that it tells and leave the other heap
abbrev pub LeadsTo : ℕ → ℕ → HeapState → List ToldEntry → HeapState → Type 0
LeadsTo sli j h history g = RunsTo sli h (calls_in_history j history) (answers_in_history j history) g

-- some of it leads to a lawful heap, and the rest from there to the last one
pub record LeadsThrough (sli j : ℕ) (h : HeapState) (before later : List ToldEntry) (last : HeapState) : Type 0 where
  pub between : HeapState
  pub first : LeadsTo sli j h before between
  pub lawful : IsLawful between
  pub rest : LeadsTo sli j between later last

-- ---- a trace

-- the text is that of the records of the trace's phases and of the report of its heaps after the last. Each heap has one history
-- from the first line to that report
pub record HasHistory (TellsCalls : RecordRelation) (trace : Trace) (text : List ℕ) : Type 0 where
  pub told : List PhaseTold
  pub world : World (level_in trace.header)
  pub count : length world.heaps ≡ trace.header.workers
  pub text_is : text ≡ phases_text trace.header.workers (phases_of trace.lines) told ++ report_text (level_in trace.header) world.heaps
  pub phases : ArePhasesTold TellsCalls trace.header.workers none_known (phases_of trace.lines) told
  pub heaps : (j : ℕ) → j < trace.header.workers → LeadsTo (level_in trace.header) j (opened j trace.header.words 0) (history_of j told) (heap_in world j)
  -- a header that was read is in its ranges: then the heap is lawful at first, and after each entry
  pub lawful : IsHeaderInRange trace.header → (j : ℕ) → j < trace.header.workers → (before later : List ToldEntry) → history_of j told ≡ before ++ later
      → LeadsThrough (level_in trace.header) j (opened j trace.header.words 0) before later (heap_in world j)
