-- A trace that is raced: its phases, and the script of each worker in a phase. Also the blocks that labels stand for from one phase
-- to the next.
use Rattle.std.specs.Prelude.{zero, suc, ℕ, ◌==◌, Bool, false, if◌then◌else◌, List, [], ◌∷◌, length, get_or, map, reverse, Option, Some, None}
use Rattle.std.specs.List.{filter, filter_map, range_with_len}
use Rattle.tlsf_heap.specs.declared.name.Name.{Name}
use Rattle.tlsf_calls.specs.declared.call.Call.{Call}
use Rattle.tlsf_calls.specs.declared.call.Call.TheVariants as call
use Rattle.tlsf_calls.specs.declared.entry.Entry.{Entry}
use Rattle.tlsf_calls.specs.declared.target.Target.{Target}
use Rattle.tlsf_calls.specs.declared.target.Target.TheVariants.{Made, Named, Absent}
use Rattle.tlsf_calls.specs.Entries.{record_of}
use Rattle.tlsf_calls.specs.Entries.{made_by}
use Rattle.tlsf_lines.specs.ByLabel.{kept_of}
use Rattle.tlsf_lines.specs.Labels.{counted_at}
use Rattle.tlsf_lines.specs.declared.line.Line.{Line}
use Rattle.tlsf_lines.specs.declared.line.Line.TheVariants.{Allocate, Release, Write, Read, Resize, Drain, Phase}
use Rattle.tlsf_lines.specs.declared.names.Names.{Names}
use Rattle.tlsf_lines.specs.ReplyLines.{is_taken}

-- ---- phases

-- a line in front of the first of some phases
abbrev pub in_first : Line → List (List Line) → List (List Line)
in_first line [] = (line ∷ []) ∷ []
in_first line (phase ∷ phases) = (line ∷ phase) ∷ phases

-- the lines of each phase: each `phase` line ends one, and the last, which may be empty, ends with the trace
abbrev pub phases_of : List Line → List (List Line)
phases_of [] = [] ∷ []
phases_of (Phase ∷ lines) = [] ∷ phases_of lines
phases_of (line ∷ lines) = in_first line (phases_of lines)

-- ---- the script of a worker

-- whether the line is a call of the worker
abbrev pub is_line_of : ℕ → Line → Bool
is_line_of w (Allocate worker label len) = worker == w
is_line_of w (Release worker label) = worker == w
is_line_of w (Write worker label at bytes) = worker == w
is_line_of w (Read worker label at n) = worker == w
is_line_of w (Resize worker label len) = worker == w
is_line_of w (Drain worker most) = worker == w
is_line_of w Phase = false

-- the calls of the worker in a phase
abbrev pub own_lines : ℕ → List Line → List Line
own_lines w lines = filter (is_line_of w) lines

-- the number of the call that makes the label, among a worker's lines before, the newest first
abbrev pub call_that_makes : ℕ → List Line → Option ℕ
call_that_makes label before = counted_at length label before

-- the name that a label has from an earlier phase, where its line was not refused
abbrev pub named : Option Name → Target
named None = Absent
named (Some name) = Named name

-- what the call of this number makes, where there is one, or else what an earlier phase gave
abbrev pub target_by : Option ℕ → Option Name → Target
target_by None earlier = named earlier
target_by (Some k) earlier = Made k

-- what a label stands for, where earlier phases gave labels these names
abbrev pub target_in : (ℕ → Option Name) → List Line → ℕ → Target
target_in known before label = target_by (call_that_makes label before) (known label)

-- no label has a name before the first phase
abbrev pub none_known : ℕ → Option Name
none_known label = None

-- the call that a worker's line stands for, after the worker's lines before
abbrev pub call_in : (ℕ → Option Name) → List Line → Line → Call
call_in known before (Allocate worker label len) = call.Allocate len
call_in known before (Release worker label) = call.Release (target_in known before label)
call_in known before (Write worker label at bytes) = call.Write (target_in known before label) at bytes
call_in known before (Read worker label at n) = call.Read (target_in known before label) at n
call_in known before (Resize worker label len) = call.Resize (target_in known before label) len
call_in known before (Drain worker most) = call.Drain most
call_in known before Phase = call.Drain 0

abbrev pub calls_from : (ℕ → Option Name) → List Line → List Line → List Call
calls_from known before [] = []
calls_from known before (line ∷ lines) = call_in known before line ∷ calls_from known (line ∷ before) lines

-- the script of worker w in a phase, and those of all
abbrev pub script_in : (ℕ → Option Name) → List Line → ℕ → List Call
script_in known phase w = calls_from known [] (own_lines w phase)

abbrev pub scripts_in : ℕ → (ℕ → Option Name) → List Line → List (List Call)
scripts_in workers known phase = map (script_in known phase) (range_with_len 0 workers)

-- ---- what labels stand for behind the phase

-- the names that the calls of a record made: its takes are a drain's, and no calls of the script
abbrev pub name_made : Entry → Option (Option Name)
name_made entry = if is_taken entry.call then None else Some (made_by entry.reply)

abbrev pub names_in : List Entry → List (Option Name)
names_in entries = filter_map name_made entries

-- a label has this name from now on
abbrev pub with_name : (ℕ → Option Name) → ℕ → Option Name → ℕ → Option Name
with_name known made name label = if made == label then name else known label

-- what labels stand for, by what is kept of them
abbrev pub known_in : Names → ℕ → Option Name
known_in names label = kept_of names.names label

-- the name that this call made, where there is one, or else what the label had
abbrev pub name_by : Option ℕ → List (Option Name) → Option Name → Option Name
name_by None names earlier = earlier
name_by (Some k) names earlier = get_or names k None

-- the blocks that labels stand for after the lines of a worker, whose calls made these names
abbrev pub known_behind : (ℕ → Option Name) → List Line → List (Option Name) → ℕ → Option Name
known_behind known lines names label = name_by (call_that_makes label (reverse lines)) names (known label)

-- the same after the lines of the workers below a number
abbrev pub known_below : (ℕ → Option Name) → List Line → List (List Entry) → ℕ → ℕ → Option Name
known_below known phase records zero = known
known_below known phase records (suc w) = known_behind (known_below known phase records w) (own_lines w phase) (names_in (record_of records w))
