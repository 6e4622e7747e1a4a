-- The command line, by the definitions of `clap`.
use Rattle.std.specs.Prelude.{◌≡◌, ◌≢◌, ◌⊎◌, ◌==◌, ◌||◌, ◌^◌, ⊤, ℕ, Bool, false, true, pos, List, [], ◌∷◌, ◌++◌, Option, Some, None, codes, nat_lt, string_bytes, if◌then◌else◌}
use Rattle.clap.specs.Words.{App, Kinds, Row, Rule, Text, app_of, fault_of, new_app, new_rule, rule_of, subcommand_of, with_rule, with_subcommand}
use Rattle.clap.specs.declared.builder.action.ArgAction.TheVariants.{Append, Set, SetTrue}
use Rattle.clap.specs.declared.builder.value_parser.ValueParser.TheVariants.{Signed}
use Rattle.clap.specs.declared.builder.arg.Arg.{Arg}
use Rattle.clap.specs.declared.builder.command.Command.{Command}
use Rattle.clap.specs.declared.builder.command.Command.TheViews.{out-Command}
use Rattle.std.specs.Fmt.{decimal}
use Rattle.std.specs.Str.{bytes_eq}
use Rattle.tlsf_command.specs.Arguments.{Arguments, first_number, is_set, texts_in}
use Rattle.tlsf_command.specs.Quotes.{quoted}
use Rattle.tlsf_command.specs.ClassQuestions.{HasClasses, IsClassQuestion}
use Rattle.tlsf_command.specs.Rivals.{rivals_given}
use Rattle.tlsf_command.specs.SizeQuestions.{HasTable, IsQuestion}
use Rattle.tlsf_command.specs.declared.command_line.Choice.{Choice}
use Rattle.tlsf_command.specs.declared.command_line.Choice.TheVariants.{Trace, File, Classes, Size, At, Heaps, Excluded}
use Rattle.tlsf_picture.specs.declared.form.Form.{Form}
use Rattle.tlsf_picture.specs.declared.form.Form.TheVariants.{Svg, Text as Characters}
use Rattle.tlsf_command.specs.declared.trace_run.TraceRun.{TraceRun}
use Rattle.tlsf_command.specs.declared.trace_run.TraceRun.TheVariants.{Replay, Held, HeldKinds, Least, Race, RaceQueues, Map, MapHtml, MapWorst, Plot, Check}

-- an argument has this rule, and a command is of this app; neither is for all commands
abbrev pub IsArg : Rule → Arg → Type 0
IsArg rule arg = (rule_of arg ≡ rule) × (arg.global ≡ false)

abbrev pub IsOf : App → Command → Type 0
IsOf app command = (app_of command ≡ app) × ((out-Command command).has_globals ≡ false)

-- the size that `classes` asks for, a number from 4 to 2^24
abbrev pub size_rule : Rule
size_rule = record (new_rule (codes "N")) {
  required = true;
  action = Some Set;
  parser = Some (Signed (pos 4) (pos (2 ^ 24)));
}

-- the level, 4 or 5, which needn't be given; `--sli` is another name of it
abbrev pub level_rule : Rule
level_rule = record (new_rule (codes "level")) {
  long = Some (codes "level");
  aliases = codes "sli" ∷ [];
  action = Some Set;
  parser = Some (Signed (pos 4) (pos 5));
}

-- the command `classes`
abbrev pub classes_app : App
classes_app = with_rule (with_rule (new_app (codes "classes")) size_rule) level_rule

-- an option of `size` that is given once or more, each time with a number from 1 to 2^32 - 1
abbrev pub count_rule : Text → Text → Rule
count_rule id name = record (new_rule id) {
  long = Some name;
  required = true;
  action = Some Append;
  parser = Some (Signed (pos 1) (pos 4294967295));
}

-- a flag, which is given or not
abbrev pub flag_rule : Text → Rule
flag_rule name = record (new_rule name) { long = Some name; action = Some SetTrue }

-- the command `size`, with the flag by which it gives the kinds to several heaps
abbrev pub size_app : App
size_app = with_rule (with_rule (with_rule (with_rule (new_app (codes "size")) (count_rule (codes "B") (codes "blocks")))
    (count_rule (codes "N") (codes "bytes"))) level_rule) (flag_rule (codes "split"))

-- words behind a command that reads a trace from standard input, as the names of files
abbrev pub file_rule : Rule
file_rule = record (new_rule (codes "FILE")) { action = Some Append }

-- a command of this name that reads a trace, with a flag
abbrev pub trace_app : Text → Text → App
trace_app name flag = with_rule (with_rule (new_app name) (flag_rule flag)) file_rule

-- the heaps for which kinds are merged, 1 to 8, which needn't be given
abbrev pub heaps_rule : Rule
heaps_rule = record (new_rule (codes "H")) {
  long = Some (codes "heaps");
  action = Some Set;
  parser = Some (Signed (pos 1) (pos 8));
}

-- the command `replay`, with the flags by which it writes how much the workers ask of their heaps. Others ask of which kinds, and
-- how small these may be. One more option merges these kinds
abbrev pub replay_app : App
replay_app = with_rule (with_rule (with_rule (trace_app (codes "replay") (codes "held")) (flag_rule (codes "kinds"))) (flag_rule (codes "least"))) heaps_rule

-- the command `race`, with the flag by which it goes over queues
abbrev pub race_app : App
race_app = trace_app (codes "race") (codes "queues")

-- the line after which the heaps are drawn, which needn't be given
abbrev pub line_rule : Rule
line_rule = record (new_rule (codes "K")) {
  long = Some (codes "at");
  action = Some Set;
  parser = Some (Signed (pos 1) (pos 4294967295));
}

-- the command `map`, with the flags by which the heaps are drawn in characters, after the line to look at, and on a page
abbrev pub map_app : App
map_app = with_rule (with_rule (with_rule (trace_app (codes "map") (codes "text")) line_rule) (flag_rule (codes "worst"))) (flag_rule (codes "html"))

-- the command `plot`, with the flag by which the heaps are plotted in characters
abbrev pub plot_app : App
plot_app = trace_app (codes "plot") (codes "text")

-- the command `check`
abbrev pub check_app : App
check_app = with_rule (new_app (codes "check")) file_rule

-- the program with its version and no command yet. A command must be named
abbrev pub bare_app : App
bare_app =
    let bare = new_app (codes "tlsf") in
    record bare { top = record bare.top { has_version = true; subcommand_required = true } }

-- the program with its commands
abbrev pub tlsf_app : App
tlsf_app =
    let replaying = with_subcommand bare_app replay_app.top in
    let racing = with_subcommand replaying race_app.top in
    let sizing = with_subcommand (with_subcommand racing classes_app.top) size_app.top in
    let mapping = with_subcommand sizing map_app.top in
    with_subcommand (with_subcommand mapping plot_app.top) check_app.top

-- the kinds of error that the words may come to, none where they name a command
abbrev pub faults_of : List Text → Kinds
faults_of words = fault_of tlsf_app words

-- the words name a command, and this holds of its name and of what is given to it
abbrev pub Names : (Text → Arguments → Type 0) → Option (Text × List Row) → Type 0
Names Is None = ⊥
Names Is (Some named) = Is named.0 (texts_in named.1)

-- the form of a picture or a plot, by whether the flag `--text` is given
abbrev pub form_by : Bool → Form
form_by true = Characters
form_by false = Svg

-- the run that a command asks for by whether its flags are given: of those that exclude each other one is
abbrev pub replay_by : (kinds least held : Bool) → TraceRun
replay_by true least held = HeldKinds
replay_by false true held = Least
replay_by false false true = Held
replay_by false false false = Replay

abbrev pub race_by : (queues : Bool) → TraceRun
race_by true = RaceQueues
race_by false = Race

abbrev pub map_by : (html worst : Bool) → Form → TraceRun
map_by true worst form = MapHtml
map_by false true form = MapWorst form
map_by false false form = Map form

-- the run that the command of this name asks for, by which flags are given, and whether kinds are merged. `replay` is the one that
-- is none of the others
abbrev pub run_by : (name : Text) → (is_given : Text → Bool) → (merges : Bool) → TraceRun
run_by name is_given merges =
    if bytes_eq name (codes "race") then race_by (is_given (codes "queues"))
    else (if bytes_eq name (codes "map") then map_by (is_given (codes "html")) (is_given (codes "worst")) (form_by (is_given (codes "text")))
    else (if bytes_eq name (codes "plot") then Plot (form_by (is_given (codes "text")))
    else (if bytes_eq name (codes "check") then Check
    else replay_by (is_given (codes "kinds") || merges) (is_given (codes "least")) (is_given (codes "held")))))

-- the words that ask for a run, behind the program's name
abbrev pub arguments_of : TraceRun → List Text
arguments_of Replay = codes "replay" ∷ []
arguments_of Held = codes "replay" ∷ codes "--held" ∷ []
arguments_of HeldKinds = codes "replay" ∷ codes "--kinds" ∷ []
arguments_of Least = codes "replay" ∷ codes "--least" ∷ []
arguments_of Race = codes "race" ∷ []
arguments_of RaceQueues = codes "race" ∷ codes "--queues" ∷ []
arguments_of (Map Svg) = codes "map" ∷ []
arguments_of (Map Characters) = codes "map" ∷ codes "--text" ∷ []
arguments_of MapHtml = codes "map" ∷ codes "--html" ∷ []
arguments_of (MapWorst Svg) = codes "map" ∷ codes "--worst" ∷ []
arguments_of (MapWorst Characters) = codes "map" ∷ codes "--worst" ∷ codes "--text" ∷ []
arguments_of (Plot Svg) = codes "plot" ∷ []
arguments_of (Plot Characters) = codes "plot" ∷ codes "--text" ∷ []
arguments_of Check = codes "check" ∷ []

-- words in one text
abbrev pub joined : List Text → Text
joined [] = []
joined (word ∷ []) = word
joined (word ∷ words) = word ++ (codes " " ++ joined words)

-- the words of a run in one text
abbrev pub spelled : TraceRun → Text
spelled run = joined (arguments_of run)

-- the option that gives a run its number: the line of a picture, or the heaps for which kinds are merged
abbrev pub option_text : TraceRun → Text
option_text HeldKinds = codes " --heaps "
option_text run = codes " --at "

-- it stands behind these words; 0 is none
abbrev pub number_text : TraceRun → ℕ → Text
number_text run number = if number == 0 then [] else option_text run ++ decimal number

-- how a trace is read from this file, as `tlsf: a trace is read from standard input: tlsf map --at 2 < 'my file.trace'`; the word `-` is no file
abbrev pub tip_line : TraceRun → (number : ℕ) → Text → Text
tip_line run number file =
    if bytes_eq file (codes "-") then codes "tlsf: standard input is read without '-': tlsf " ++ (spelled run ++ (number_text run number ++ codes "\n"))
    else codes "tlsf: a trace is read from standard input: tlsf " ++ (spelled run ++ (number_text run number ++ (codes " < " ++ (quoted file ++ codes "\n"))))

-- a text is that line, about the first of these words
abbrev pub IsTip : TraceRun → (number : ℕ) → (files : List Text) → Text → Type 0
IsTip run number [] text = ⊥
IsTip run number (file ∷ files) text = text ≡ tip_line run number file

-- a picture is drawn after a line, if one is given. Kinds are merged for as many heaps as are given
abbrev pub takes_number : TraceRun → Bool
takes_number (Map form) = true
takes_number HeldKinds = true
takes_number run = false

-- the number that is given to a run, 0 where none is
abbrev pub number_for : TraceRun → Arguments → ℕ
number_for (Map form) given = first_number 0 (given (codes "K"))
number_for HeldKinds given = first_number 0 (given (codes "H"))
number_for run given = 0

-- the choice of a run with this number, 0 for none, where these words follow its command. It is asked for where no file is named,
-- and otherwise its tip is due
abbrev pub IsRunOn : TraceRun → (number : ℕ) → (files : List Text) → Choice → Type 0
IsRunOn run number files (Trace other) = (other ≡ run) × (files ≡ []) × (number ≡ 0)
IsRunOn run number files (File other tip) = (other ≡ run) × IsTip run number files (string_bytes tip)
IsRunOn run number files (At form k) = (run ≡ Map form) × (files ≡ []) × (k ≢ 0) × (k ≡ number)
IsRunOn run number files (Heaps k) = (run ≡ HeldKinds) × (files ≡ []) × (k ≢ 0) × (k ≡ number)
IsRunOn run number files choice = ⊥

-- the command of this name reads a trace
abbrev pub ReadsTrace : Text → Type 0
ReadsTrace name = (name ≡ codes "replay") ⊎ ((name ≡ codes "race") ⊎ ((name ≡ codes "map") ⊎ ((name ≡ codes "plot") ⊎ (name ≡ codes "check"))))

-- this is the name of a command of the program
abbrev pub IsCommand : Text → Type 0
IsCommand name = ReadsTrace name ⊎ ((name ≡ codes "classes") ⊎ (name ≡ codes "size"))

-- the run that is asked for by a command that reads a trace
abbrev pub run_asked : Text → Arguments → TraceRun
run_asked name given = run_by name (λ flag. is_set (given flag)) (nat_lt 0 (first_number 0 (given (codes "H"))))

-- the choice is the one that the command of this name asks for by its words. Two options are refused, where it takes one of them
abbrev pub IsAskedBy : Choice → Text → Arguments → Type 0
IsAskedBy (Classes question) name given = (name ≡ codes "classes") × IsClassQuestion given question
IsAskedBy (Size question) name given = (name ≡ codes "size") × IsQuestion given question
IsAskedBy (Excluded rivals) name given = rivals_given name given ≡ Some rivals
IsAskedBy choice name given =
    let run = run_asked name given in
    ReadsTrace name × (rivals_given name given ≡ None) × IsRunOn run (number_for run given) (given (codes "FILE")) choice

-- the size of the choice, where it has one, has a class, and a table has 1 to 64 kinds
abbrev pub IsAnswerable : Choice → Type 0
IsAnswerable (Classes question) = HasClasses question
IsAnswerable (Size question) = HasTable question
IsAnswerable choice = ⊤

-- the words ask for this and nothing else
pub record Asks (words : List Text) (choice : Choice) : Type 0 where
  pub faultless : faults_of words ≡ []
  pub asked : Names (IsAskedBy choice) (subcommand_of tlsf_app words)

-- a word that begins with no hyphen
abbrev pub IsPlainWord : Text → Type 0
IsPlainWord [] = ⊤
IsPlainWord (code ∷ codes) = code ≢ 45
