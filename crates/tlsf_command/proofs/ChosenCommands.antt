-- The request of the words, by the command that they name.
use Rattle.tlsf_command.proofs.Common.{◌≡◌, ◌∙◌, ℕ, Bool, false, true, true≢false, List, [], ◌∷◌, Option, Some, None, Result, Ok, Err, codes, inl, inr, length, option_map, refl, sym, ap, ap₂, subst, arith, unwrap_or, string_bytes, IfOk, bytes_eq, Arguments, first_number, texts_in, texts_of, Asks, IsAnswerable, IsAskedBy, IsCommand, IsRunOn, IsTip, Names, ReadsTrace, faults_of, number_for, run_asked, takes_number, tip_line, tlsf_app, rivals_given, Does, Refuses, Streams, TraceRun, Replay, Held, HeldKinds, Least, Race, RaceQueues, Map, MapHtml, MapWorst, Plot, Check}
use Rattle.std.specs.Box.{box_value}
use Rattle.std.proofs.Math.Path.{fun_ext}
use Rattle.clap.specs.Matches.{found_of, subcommand_name_of}
use Rattle.clap.specs.Walk.{Row, Text, rows_of}
use Rattle.clap.specs.Words.{App, FailsBy, HasMatchesOf, fault_of, is_simple, is_simple_and_free, subcommand_of, subcommand_rows, subcommand_rows_of}
use Rattle.clap.specs.declared.error.Error.{Error}
use Rattle.clap.specs.declared.parser.matches.ArgMatches.{ArgMatches}
use Rattle.clap.specs.declared.parser.matches.ArgMatches.TheViews.{out-ArgMatches, out-SubCommand}
use Rattle.clap.proofs.WalkLemmas.{raw_values-rows}
use Rattle.tlsf_command.specs.ClassQuestions.{HasClasses, IsClassQuestion}
use Rattle.tlsf_command.specs.declared.class_question.ClassQuestion.{ClassQuestion}
use Rattle.tlsf_command.specs.declared.class_question.ClassQuestion.TheVariants.{Coarse, Fine, NoClass}
use Rattle.tlsf_command.specs.declared.command_line.Choice.{Choice}
use Rattle.tlsf_command.specs.declared.command_line.Choice.TheVariants.{Trace, File, Classes, Size, At, Heaps, Excluded}
use Rattle.tlsf_command.specs.declared.rivals.Rivals.{Rivals}
use Rattle.tlsf_picture.specs.declared.form.Form.{Form}
use Rattle.tlsf_command.proofs.Faultless.{some_named}
use Rattle.tlsf_command.proofs.NamedRuns.{NamesRun}
use Rattle.tlsf_command.proofs.SizeTables.{has_table}

-- ---- by what `clap` answers

-- a parse of the program's words that succeeds has met the command that they name
pub parsed_named : (r : Result ArgMatches Error) (a : App) (words : List Text) → a ≡ tlsf_app → IfOk r (HasMatchesOf a words)
    → IfOk r (λ m. subcommand_rows_of m ≡ subcommand_of tlsf_app words)
parsed_named (Err e) a words is matches = tt
parsed_named (Ok m) a words is matches = (matches (ap is_simple is)).1 ∙ ap (λ (x : App). subcommand_of x words) is

-- and fails only by a fault of the words
pub parsed_fails : (r : Result ArgMatches Error) (a : App) (words : List Text) → a ≡ tlsf_app
    → (is_simple_and_free a ≡ true → FailsBy (fault_of a words) r) → FailsBy (faults_of words) r
parsed_fails r a words is kinds = subst (λ (x : App). FailsBy (fault_of x words) r) is (kinds (ap is_simple_and_free is))

-- the name that matches give is that of the subcommand's rows
name_is : (m : ArgMatches) → subcommand_name_of m ≡ option_map (λ (named : Text × List Row). named.0) (subcommand_rows_of m)
name_is m = elim ((out-ArgMatches m).subcommand) as (λ v. option_map (λ b. (out-SubCommand (box_value b)).name.now) v ≡ option_map (λ (named : Text × List Row). named.0) (subcommand_rows v)) [
  | None ↦ refl
  | Some b ↦ refl
]

-- a command is named
unnamed : (o : Option (Text × List Row)) → option_map (λ (named : Text × List Row). named.0) o ≡ None → o ≡ None
unnamed None is = refl
unnamed (Some named) is = cc

pub is_named : (words : List Text) (matches : ArgMatches) → faults_of words ≡ [] → subcommand_rows_of matches ≡ subcommand_of tlsf_app words
    → subcommand_name_of matches ≡ None → ⊥
is_named words matches none named is = some_named words none (sym named ∙ unnamed (subcommand_rows_of matches) (sym (name_is matches) ∙ is))

-- it has its name and its rows
both : (o : Option (Text × List Row)) (name : Text) (rows : List Row) → Some name ≡ option_map (λ (named : Text × List Row). named.0) o
    → Some rows ≡ option_map (λ (named : Text × List Row). named.1) o → o ≡ Some (name, rows)
both None name rows is also = cc
both (Some named) name rows is also =
    let same_name : named.0 ≡ name = cc in
    let same_rows : named.1 ≡ rows = cc in
    ap₂ (λ (n : Text) (rs : List Row). Some (n, rs)) same_name same_rows

pub entered_by : (matches : ArgMatches) (name : Text) (rows : List Row) → Some name ≡ subcommand_name_of matches
    → Some rows ≡ option_map (λ (named : Text × List Row). named.1) (subcommand_rows_of matches) → subcommand_rows_of matches ≡ Some (name, rows)
entered_by matches name rows is also = both (subcommand_rows_of matches) name rows (is ∙ name_is matches) also

-- the command of this name is asked for what its matches give
pub asks : (words : List Text) (matches given : ArgMatches) (name : Text) (choice : Choice) → faults_of words ≡ [] → subcommand_rows_of matches ≡ subcommand_of tlsf_app words
    → subcommand_rows_of matches ≡ Some (name, rows_of (found_of given)) → IsAskedBy choice name (texts_of given) → Asks words choice
asks words matches given name choice none named is by = record {
  faultless = none;
  asked =
      let same : texts_of given ≡ texts_in (rows_of (found_of given)) = fun_ext (λ id. ap (λ (o : Option (List Text)). unwrap_or o []) (raw_values-rows (found_of given) id)) in
      subst (Names (IsAskedBy choice)) (sym is ∙ named) (subst (λ (g : Arguments). IsAskedBy choice name g) same by);
}

other_name : (name wanted : Text) → name ≡ wanted → bytes_eq name wanted ≡ false → bytes_eq wanted wanted ≡ true → ⊥
other_name name wanted is differs same = true≢false (sym same ∙ (ap (λ (text : Text). bytes_eq text wanted) (sym is) ∙ differs))

-- a command that is neither of two reads a trace
pub reads_trace : (name : Text) → IsCommand name → bytes_eq name (codes "classes") ≡ false → bytes_eq name (codes "size") ≡ false → ReadsTrace name
reads_trace name (inl reads) classes size = reads
reads_trace name (inr (inl is)) classes size = absurd (other_name name (codes "classes") is classes refl)
reads_trace name (inr (inr is)) classes size = absurd (other_name name (codes "size") is size refl)

-- the choice of its run is what it asks for, where no two options exclude each other
pub asked_by_run : (choice : Choice) (name : Text) (given : Arguments) → ReadsTrace name → rivals_given name given ≡ None
    → IsRunOn (run_asked name given) (number_for (run_asked name given) given) (given (codes "FILE")) choice → IsAskedBy choice name given
asked_by_run (Trace run) name given reads none is = (reads, none, is)
asked_by_run (File run tip) name given reads none is = (reads, none, is)
asked_by_run (Classes question) name given reads none is = absurd is
asked_by_run (Size question) name given reads none is = absurd is
asked_by_run (At form line) name given reads none is = (reads, none, is)
asked_by_run (Heaps heaps) name given reads none is = (reads, none, is)
asked_by_run (Excluded rivals) name given reads none is = absurd is

-- a run that takes a number and is no picture merges kinds
pub merges_kinds : (run : TraceRun) → (takes_number run ≡ false → ⊥) → ((form : Form) → run ≡ Map form → ⊥) → run ≡ HeldKinds
merges_kinds (Map form) takes no_picture = absurd (no_picture form refl)
merges_kinds (MapWorst form) takes no_picture = absurd (takes refl)
merges_kinds Replay takes no_picture = absurd (takes refl)
merges_kinds Held takes no_picture = absurd (takes refl)
merges_kinds HeldKinds takes no_picture = refl
merges_kinds Least takes no_picture = absurd (takes refl)
merges_kinds Race takes no_picture = absurd (takes refl)
merges_kinds RaceQueues takes no_picture = absurd (takes refl)
merges_kinds MapHtml takes no_picture = absurd (takes refl)
merges_kinds (Plot form) takes no_picture = absurd (takes refl)
merges_kinds Check takes no_picture = absurd (takes refl)

-- ---- what is asked for can be answered

-- a size that is asked about has a class
has_classes : (given : Arguments) (question : ClassQuestion) → IsClassQuestion given question → HasClasses question
has_classes given (Coarse n) is = is.2
has_classes given (Fine n) is = is.2
has_classes given NoClass is = tt

answerable_by : (choice : Choice) (named : Option (Text × List Row)) → Names (IsAskedBy choice) named → IsAnswerable choice
answerable_by choice None is = absurd is
answerable_by (Trace run) (Some named) is = tt
answerable_by (File run tip) (Some named) is = tt
answerable_by (At form line) (Some named) is = tt
answerable_by (Heaps heaps) (Some named) is = tt
answerable_by (Excluded rivals) (Some named) is = tt
answerable_by (Classes question) (Some named) is = has_classes (texts_in named.1) question is.1
answerable_by (Size question) (Some named) is = has_table (texts_in named.1) question is.1

pub answerable : (words : List Text) (choice : Choice) → Asks words choice → IsAnswerable choice
answerable words choice asks = answerable_by choice (subcommand_of tlsf_app words) asks.asked

-- ---- what words ask for that name a run

some_file : (file : Text) → file ∷ [] ≡ [] → ⊥
some_file file is = let count : 1 ≡ 0 = ap (λ (files : List Text). length files) is in absurd (omega (arith, count))

-- where no number is given, no run has one
no_number : (run : TraceRun) (given : Arguments) → given (codes "K") ≡ [] → given (codes "H") ≡ [] → number_for run given ≡ 0
no_number (Map form) given none free = ap (first_number 0) none
no_number (MapWorst form) given none free = refl
no_number HeldKinds given none free = ap (first_number 0) free
no_number Replay given none free = refl
no_number Held given none free = refl
no_number Least given none free = refl
no_number Race given none free = refl
no_number RaceQueues given none free = refl
no_number MapHtml given none free = refl
no_number (Plot form) given none free = refl
no_number Check given none free = refl

-- none are not some
no_rivals : (rivals : Rivals) → None ≡ Some rivals → ⊥
no_rivals rivals is = cc

-- no file is named: it is run
pub only_run : (run : TraceRun) (choice : Choice) (named : Option (Text × List Row)) → Names (NamesRun run []) named → Names (IsAskedBy choice) named → choice ≡ Trace run
only_run run choice None names asks = absurd names
only_run run (Trace other) (Some named) names asks = ap (λ (r : TraceRun). Trace r) (asks.2.0 ∙ names.1)
only_run run (File other tip) (Some named) names asks =
    absurd (subst (λ (files : List Text). IsTip (run_asked named.0 (texts_in named.1)) (number_for (run_asked named.0 (texts_in named.1)) (texts_in named.1)) files (string_bytes tip)) names.2 asks.2.1)
only_run run (Classes question) (Some named) names asks = absurd (other_name named.0 (codes "classes") asks.0 names.0.0 refl)
only_run run (Size question) (Some named) names asks = absurd (other_name named.0 (codes "size") asks.0 names.0.1 refl)
only_run run (At form line) (Some named) names asks = absurd (asks.2.2 (asks.2.3 ∙ no_number _ (texts_in named.1) names.3 names.4))
only_run run (Heaps heaps) (Some named) names asks = absurd (asks.2.2 (asks.2.3 ∙ no_number _ (texts_in named.1) names.3 names.4))
only_run run (Excluded rivals) (Some named) names asks = absurd (no_rivals rivals (sym names.5 ∙ asks))

-- a file is named: its tip is due
pub only_tip : (tips : Bool) (run : TraceRun) (file : Text) (choice : Choice) (status : ℕ) (old new : Streams) (named : Option (Text × List Row)) → Names (NamesRun run (file ∷ [])) named
    → Names (IsAskedBy choice) named → Does tips choice status old new → Refuses (tip_line run 0 file) status old new
only_tip tips run file choice status old new None names asks done = absurd names
only_tip tips run file (Trace other) status old new (Some named) names asks done = absurd (some_file file (sym names.2 ∙ asks.2.1))
only_tip tips run file (File other tip) status old new (Some named) names asks done =
    let asked = run_asked named.0 (texts_in named.1) in
    let line = number_for asked (texts_in named.1) in
    let tips : string_bytes tip ≡ tip_line asked line file = subst (λ (files : List Text). IsTip asked line files (string_bytes tip)) names.2 asks.2.1 in
    let none : tip_line asked line file ≡ tip_line asked 0 file = ap (λ (n : ℕ). tip_line asked n file) (no_number asked (texts_in named.1) names.3 names.4) in
    subst (λ (text : Text). Refuses text status old new) (tips ∙ (none ∙ ap (λ (r : TraceRun). tip_line r 0 file) names.1)) done
only_tip tips run file (Classes question) status old new (Some named) names asks done = absurd (other_name named.0 (codes "classes") asks.0 names.0.0 refl)
only_tip tips run file (Size question) status old new (Some named) names asks done = absurd (other_name named.0 (codes "size") asks.0 names.0.1 refl)
only_tip tips run file (At form line) status old new (Some named) names asks done = absurd (some_file file (sym names.2 ∙ asks.2.1))
only_tip tips run file (Heaps heaps) status old new (Some named) names asks done = absurd (some_file file (sym names.2 ∙ asks.2.1))
only_tip tips run file (Excluded rivals) status old new (Some named) names asks done = absurd (no_rivals rivals (sym names.5 ∙ asks))
