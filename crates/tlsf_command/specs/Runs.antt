-- The work of a run of the program.
use Rattle.std.specs.Prelude.{◌≡◌, ◌⊎◌, ◌++◌, ◌-◌, ⊤, ℕ, Bool, List, [], ◌∷◌, Option, Result, Ok, Err, IfSome, string_bytes, if◌then◌else◌}
use Rattle.std.specs.Io.KnownBytes.{Appends, Keeps}
use Rattle.clap.specs.Words.{IsAmong, Text}
use Rattle.clap.specs.declared.error.kind.ErrorKind.{ErrorKind}
use Rattle.clap.specs.declared.error.kind.ErrorKind.TheVariants.{DisplayHelp, DisplayVersion, OutOfMemory}
use Rattle.tlsf_command.specs.ClassLines.{class_line, no_class_line}
use Rattle.tlsf_command.specs.CommandLine.{Asks, faults_of, tip_line}
use Rattle.tlsf_command.specs.FaultLines.{check_tip, fault_line, status_of_fault}
use Rattle.tlsf_command.specs.Rivals.{rivals_line}
use Rattle.tlsf_command.specs.SizeLines.{falling_line, no_split_line, size_line, split_lines, unpaired_line, unreached_line, unreached_table_line, AreReached, HasNoSplit, IsCheapest, IsFiner, IsFirstUnreached, IsGreatest, IsReached, IsSplitOf}
use Rattle.tlsf_command.specs.declared.class_question.ClassQuestion.{ClassQuestion}
use Rattle.tlsf_command.specs.declared.class_question.ClassQuestion.TheVariants.{Coarse, Fine, NoClass}
use Rattle.tlsf_command.specs.declared.size_question.SizeQuestion.{SizeQuestion}
use Rattle.tlsf_command.specs.declared.size_question.SizeQuestion.TheVariants.{Table, FineTable, Split as Splits, FineSplit as FineSplits, Unpaired}
use Rattle.tlsf_pool.specs.declared.kind.Kind.{Kind}
use Rattle.tlsf_pool.specs.sizes.Rising.{len_at, IsFirstFall, Rises}
use Rattle.tlsf_pool.specs.sizes.Splits.{parts_of}
use Rattle.tlsf_pool.specs.declared.sizes.split.Split.{Split}
use Rattle.tlsf_command.specs.declared.command_line.Choice.{Choice}
use Rattle.tlsf_command.specs.declared.command_line.Choice.TheVariants.{Trace, File, Classes, Size, At, Heaps, Excluded}
use Rattle.tlsf_command.specs.declared.trace_run.TraceRun.{TraceRun}
use Rattle.tlsf_command.specs.declared.trace_run.TraceRun.TheVariants.{Replay, Held, HeldKinds, Least, Race, RaceQueues, Map, MapHtml, MapWorst, Plot, Check}
use Rattle.tlsf_diagnosis.specs.Notes.{Describes, Notes}
use Rattle.tlsf_held.specs.Least.{TellsLeast}
use Rattle.tlsf_held.specs.Measures.{Measures, TellsKinds, TellsMerged}
use Rattle.tlsf_picture.specs.Drawn.{Draws, DrawsAt, DrawsText}
use Rattle.tlsf_picture.specs.Pages.{DrawsPage}
use Rattle.tlsf_picture.specs.declared.form.Form.TheVariants.{Svg, Text as Characters}
use Rattle.tlsf_picture.specs.plots.Plots.{Plots}
use Rattle.tlsf_picture.specs.plots.Worst.{DrawsWorst}
use Rattle.tlsf_lines.specs.Prefixes.{AppendsFront}
use Rattle.tlsf_trace.specs.Replay.{IsRun, Outputs, Races, RacesQueues, Replays}
use Rattle.tlsf_lines.specs.TraceFaults.{no_memory_fault, write_fault}
use Rattle.tlsf_trace.specs.declared.summary.Summary.{Summary}
use Rattle.tlsf_lines.specs.declared.trace_fault.TraceFault.{TraceFault}

-- what the reader has left, and what the writer and the writer of errors hold
pub record Streams : Type 0 where
  pub left : Option (List ℕ)
  pub written : Option (List ℕ)
  pub errors : Option (List ℕ)

abbrev pub streams : Option (List ℕ) → Option (List ℕ) → Option (List ℕ) → Streams
streams left written errors = record { left = left; written = written; errors = errors }

-- the exit status that the answer of a run of a trace comes to
abbrev pub status_of : Result Summary TraceFault → ℕ
status_of (Ok summary) = 0
status_of (Err fault) = status_of_fault fault

-- only a fault is reported, by its line and what is noted of it, or a prefix of these
abbrev pub Reports : Result Summary TraceFault → (note : List ℕ) → Option (List ℕ) → Option (List ℕ) → Type 0
Reports (Ok summary) note old new = Keeps old new
Reports (Err fault) note old new = AppendsFront old new (fault_line fault ++ note)

-- what a check notes of a fault in a text: where it is and what was expected there. Other runs note nothing of their own
abbrev pub ChecksNote : TraceRun → (text : Option (List ℕ)) → Result Summary TraceFault → (note : List ℕ) → Type 0
ChecksNote Check text (Ok summary) note = note ≡ []
ChecksNote Check text (Err fault) note = IfSome text (λ bytes. Notes bytes fault [] note)
ChecksNote run text answer note = ⊤

-- where a fault in the trace ends a run and tips are wanted, the tip to check it
abbrev pub tip_on : (tips : Bool) → Result Summary TraceFault → List ℕ
tip_on tips (Ok summary) = []
tip_on tips (Err fault) = if tips then check_tip fault else []

-- what is noted of an answer: by a check its note, by another run the tip
abbrev pub IsNote : (tips : Bool) → TraceRun → (text : Option (List ℕ)) → Result Summary TraceFault → (note : List ℕ) → Type 0
IsNote tips Check text answer note = ChecksNote Check text answer note
IsNote tips run text answer note = note ≡ tip_on tips answer

-- all that a run may put out. A replay puts out its answers, or how much its workers asked of their heaps. Or it puts out the kinds
-- of blocks that these held, or the least words of their heaps. A race puts out its answers, each phase in threads, over lanes or
-- over queues. A picture has the heaps that the trace leaves, those after the line to look at, or these over its lines. It is an
-- SVG file, in the characters of a terminal, or on a page. A check puts out its verdict
abbrev pub puts_of : TraceRun → Outputs
puts_of Replay = Replays
puts_of Held = Measures
puts_of HeldKinds = TellsKinds
puts_of Least = TellsLeast
puts_of Race = Races
puts_of RaceQueues = RacesQueues
puts_of (Map Svg) = Draws
puts_of (Map Characters) = DrawsText
puts_of MapHtml = DrawsPage
puts_of (MapWorst form) = DrawsWorst form
puts_of (Plot form) = Plots form
puts_of Check = Describes

-- the trace is run in this way, and the answer gives the status and the report
pub record RunsAs (tips : Bool) (run : TraceRun) (status : ℕ) (old new : Streams) : Type 0 where
  pub answer : Result Summary TraceFault
  pub note : List ℕ
  pub ran : IsRun (puts_of run) answer old.left new.left old.written new.written
  pub noted : IsNote tips run old.left answer note
  pub status_is : status ≡ status_of answer
  pub reported : Reports answer note old.errors new.errors

-- the trace is run to put out this, and the answer gives the status and the report
pub record RunsBy (tips : Bool) (Puts : Outputs) (status : ℕ) (old new : Streams) : Type 0 where
  pub answer : Result Summary TraceFault
  pub ran : IsRun Puts answer old.left new.left old.written new.written
  pub status_is : status ≡ status_of answer
  pub reported : Reports answer (tip_on tips answer) old.errors new.errors

-- memory ran out before anything was read or written
pub record LacksMemory (status : ℕ) (old new : Streams) : Type 0 where
  pub status_is : status ≡ 3
  pub left : new.left ≡ old.left
  pub written : new.written ≡ old.written
  pub reported : AppendsFront old.errors new.errors (fault_line no_memory_fault)

-- the words were refused by this line: nothing was read or written
pub record Refuses (line : List ℕ) (status : ℕ) (old new : Streams) : Type 0 where
  pub left : new.left ≡ old.left
  pub written : new.written ≡ old.written
  pub status_is : status ≡ 2
  pub reported : AppendsFront old.errors new.errors line

-- the line on a size of n words was written, or a prefix of it, where a write failed and was reported; nothing was read
pub record ShowsClasses (sli n status : ℕ) (old new : Streams) : Type 0 where
  pub left : new.left ≡ old.left
  pub front : AppendsFront old.written new.written (class_line sli n)
  pub ended : ((status ≡ 0) × Appends old.written new.written (class_line sli n) × (new.errors ≡ old.errors))
      ⊎ ((status ≡ 1) × AppendsFront old.errors new.errors (fault_line write_fault))

-- the question about the classes of a size was answered
abbrev pub AnswersClasses : ClassQuestion → ℕ → Streams → Streams → Type 0
AnswersClasses (Coarse n) = ShowsClasses 4 n
AnswersClasses (Fine n) = ShowsClasses 5 n
AnswersClasses NoClass = Refuses no_class_line

-- this text was written, or a prefix of it, where a write failed and was reported
pub record ShowsLines (text : List ℕ) (status : ℕ) (old new : Streams) : Type 0 where
  pub front : AppendsFront old.written new.written text
  pub ended : ((status ≡ 0) × Appends old.written new.written text × (new.errors ≡ old.errors))
      ⊎ ((status ≡ 1) × AppendsFront old.errors new.errors (fault_line write_fault))

-- the line on the kinds of a table was written so
pub record ShowsWords (sli : ℕ) (kinds : List Kind) (status : ℕ) (old new : Streams) : Type 0 where
  pub reached : AreReached sli kinds
  pub lines : ShowsLines (size_line sli kinds) status old new

-- the line that says how far a region does reach was reported. Of one kind it has the most blocks and the most bytes. Of several it
-- has how many of the table a region has room for, and the next one. Of both it has the hint at pools exactly where these are large
-- enough. It has the hint at level 5 exactly where a region of it has the words
abbrev pub ReportsUnreached : ℕ → List Kind → Option (List ℕ) → Option (List ℕ) → Type 0
ReportsUnreached sli (kind ∷ []) old new = (blocks : ℕ) × IsGreatest (λ most. IsReached sli most kind.len) blocks
    × ((bytes : ℕ) × IsGreatest (λ len. IsReached sli kind.most len) bytes
    × ((split : Option Split) × IsSplitOf sli (kind ∷ []) split
    × ((finer : Option ℕ) × IsFiner (kind ∷ []) finer
    × AppendsFront old new (unreached_line kind.most kind.len blocks bytes split finer))))
ReportsUnreached sli kinds old new = (n : ℕ) × (next : Kind) × (split : Option Split) × (finer : Option ℕ) × IsFirstUnreached sli kinds n next
    × IsSplitOf sli kinds split × IsFiner kinds finer × AppendsFront old new (unreached_table_line n next split finer)

-- no region reaches so far: nothing was written, and the status is 2
pub record ShowsUnreached (sli : ℕ) (kinds : List Kind) (status : ℕ) (old new : Streams) : Type 0 where
  pub unreached : ¬ (AreReached sli kinds)
  pub written : new.written ≡ old.written
  pub status_is : status ≡ 2
  pub reported : ReportsUnreached sli kinds old.errors new.errors

-- the words of a region of the level for a table of kinds were shown, or it was refused; nothing was read
pub record ShowsKinds (sli : ℕ) (kinds : List Kind) (status : ℕ) (old new : Streams) : Type 0 where
  pub left : new.left ≡ old.left
  pub shown : ShowsWords sli kinds status old new ⊎ ShowsUnreached sli kinds status old new

-- the lines on the cheapest split of a table were written so
pub record ShowsSplit (sli : ℕ) (kinds : List Kind) (status : ℕ) (old new : Streams) : Type 0 where
  pub split : Split
  pub cheapest : IsCheapest sli kinds split
  pub lines : ShowsLines (split_lines sli (parts_of split kinds) kinds) status old new

-- there is no split of a table whose kinds rise
pub record ShowsNoSplit (sli : ℕ) (kinds : List Kind) (status : ℕ) (old new : Streams) : Type 0 where
  pub rises : Rises kinds
  pub none : HasNoSplit sli kinds
  pub refused : Refuses no_split_line status old new

-- a kind is no longer than the one before it: the first that isn't was named, with both lengths
pub record ShowsFall (kinds : List Kind) (status : ℕ) (old new : Streams) : Type 0 where
  pub row : ℕ
  pub falls : IsFirstFall kinds row
  pub refused : Refuses (falling_line row (len_at kinds (row - 1)) (len_at kinds row)) status old new

-- a table was split into the regions of several heaps, or refused; nothing was read
pub record ShowsHeaps (sli : ℕ) (kinds : List Kind) (status : ℕ) (old new : Streams) : Type 0 where
  pub left : new.left ≡ old.left
  pub shown : ShowsSplit sli kinds status old new ⊎ (ShowsNoSplit sli kinds status old new ⊎ ShowsFall kinds status old new)

-- the question was answered
abbrev pub ShowsSize : SizeQuestion → ℕ → Streams → Streams → Type 0
ShowsSize (Table kinds) = ShowsKinds 4 kinds.items
ShowsSize (FineTable kinds) = ShowsKinds 5 kinds.items
ShowsSize (Splits kinds) = ShowsHeaps 4 kinds.items
ShowsSize (FineSplits kinds) = ShowsHeaps 5 kinds.items
ShowsSize (Unpaired blocks bytes) = Refuses (unpaired_line blocks bytes)

-- a text was shown, or a write failed and was reported
pub record ShowsText (status : ℕ) (old new : Streams) : Type 0 where
  pub left : new.left ≡ old.left
  pub ended : ((status ≡ 0) × (new.errors ≡ old.errors))
      ⊎ ((status ≡ 1) × AppendsFront old.errors new.errors (fault_line write_fault))

-- the words were refused: nothing was read, and the answer went to the writer of errors alone
pub record ShowsUsage (status : ℕ) (old new : Streams) : Type 0 where
  pub left : new.left ≡ old.left
  pub written : new.written ≡ old.written
  pub status_is : status ≡ 2

-- what a run does that ends by an error of `clap` of this kind
abbrev pub ShowsAnswer : ErrorKind → ℕ → Streams → Streams → Type 0
ShowsAnswer DisplayHelp status old new = ShowsText status old new
ShowsAnswer DisplayVersion status old new = ShowsText status old new
ShowsAnswer OutOfMemory status old new = LacksMemory status old new
ShowsAnswer _ status old new = ShowsUsage status old new

-- the choice is done: a run of a trace, or its tip where a file is named, or the classes of a size. It may be the words of a
-- region, a picture after a line, or kinds merged for a number of heaps. Options that exclude each other are refused
abbrev pub Does : (tips : Bool) → Choice → ℕ → Streams → Streams → Type 0
Does tips (Trace run) = RunsAs tips run
Does tips (File run tip) = Refuses (string_bytes tip)
Does tips (Classes question) = AnswersClasses question
Does tips (Size question) = ShowsSize question
Does tips (At form line) = RunsBy tips (DrawsAt form line)
Does tips (Heaps heaps) = RunsBy tips (TellsMerged heaps)
Does tips (Excluded rivals) = Refuses (rivals_line rivals)

-- how a run ends, by its words: it does what they ask for, it answers by one of their faults, or it lacks memory
abbrev pub Ends : (tips : Bool) → List Text → ℕ → Streams → Streams → Type 0
Ends tips words status old new = LacksMemory status old new
    ⊎ (((choice : Choice) × Asks words choice × Does tips choice status old new)
    ⊎ ((kind : ErrorKind) × IsAmong kind (faults_of words) × ShowsAnswer kind status old new))

-- the trace is run in this way, unless memory ran out before
abbrev pub RunsOrLacksMemory : (tips : Bool) → TraceRun → ℕ → Streams → Streams → Type 0
RunsOrLacksMemory tips run status old new = RunsAs tips run status old new ⊎ LacksMemory status old new

-- the tip about this file was reported, unless memory ran out before
abbrev pub TipsOrLacksMemory : TraceRun → Text → ℕ → Streams → Streams → Type 0
TipsOrLacksMemory run file status old new = Refuses (tip_line run 0 file) status old new ⊎ LacksMemory status old new
