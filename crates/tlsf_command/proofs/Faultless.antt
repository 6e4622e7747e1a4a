-- A command line that comes to no fault names a command of the program.
use Rattle.tlsf_command.proofs.Common.{◌≡◌, ◌||◌, ℕ, suc, Bool, true, false, cond, List, [], ◌∷◌, Option, Some, None, codes, find, fold, inl, inr, length, option_map, refl, sym, ap, subst, arith, is_some, AllByRecursion, option_map_or, bytes_eq, faults_of, tlsf_app, IsCommand}
use Rattle.std.proofs.lemmas.Slice.Eq.{bytes_eq-Decides}
use Rattle.clap.specs.Faults.{check_fault, defaults_fault, entered_fault, other_fault, settle_fault, turn_fault, walk_fault, word_fault}
use Rattle.clap.specs.Kinds.{Kinds, or_else}
use Rattle.clap.specs.Lexer.{long_of, short_of}
use Rattle.clap.specs.Simple.{App, Shape, argument_words, built, entered, label_of, names_of, rows_at}
use Rattle.clap.specs.Walk.{Held, Outcome, Row, Rule, Step, Text, Waiting, Walk, done, waits, plain, refused, idle, option, positional, next, trailing, subcommand, value}
use Rattle.clap.specs.Walk.{after_flag, after_step, answers_to, arg_by_index, finished, long_or_other, nothing_held, plain_word, settled, short_or_plain, subcommand_met, subcommand_or_other, to_positional, walk, walk_from, walked, walked_from, word_met}
use Rattle.clap.specs.Words.{subcommand_of}
use Rattle.clap.specs.declared.error.kind.ErrorKind.{ErrorKind}

-- of steps in a row that come to no fault none does
not_none : (kind : ErrorKind) (kinds : Kinds) → kind ∷ kinds ≡ [] → ⊥
not_none kind kinds none = let counted : suc (length kinds) ≡ 0 = ap length none in omega (arith, counted)

first_passes : (a b : Kinds) → or_else a b ≡ [] → a ≡ []
first_passes [] b none = refl
first_passes (k ∷ ks) b none = none

last_passes : (a b : Kinds) → or_else a b ≡ [] → b ≡ []
last_passes [] b none = none
last_passes (k ∷ ks) b none = absurd (not_none k ks none)

abbrev program : App
program = built tlsf_app

-- ---- a command is entered

-- where none is, the last of them fails
none_entered : (rows : List Row) (named : Option (Text × List Row)) → check_fault program.top rows (is_some named) ≡ [] → named ≡ None → ⊥
none_entered rows named none is =
    let fault : check_fault program.top rows false ≡ [] = subst (λ (o : Option (Text × List Row)). check_fault program.top rows (is_some o) ≡ []) is none in
    let counted : 1 ≡ 0 = ap length fault in absurd (omega (arith, counted))

pub some_named : (words : List Text) → faults_of words ≡ [] → subcommand_of tlsf_app words ≡ None → ⊥
some_named words none =
    let given = argument_words tlsf_app words in
    let end = walk program.top.rules (names_of program) nothing_held given in
    let rows = finished program.top.rules end.held in
    none_entered rows (entered program end.stopped)
    (last_passes (defaults_fault (settled program.top.rules end.held).rows program.top.rules) (check_fault program.top rows (is_some (entered program end.stopped)))
    (last_passes (settle_fault program.top.rules program.top.args_override_self end.held) _
    (last_passes (entered_fault program end.stopped) _
    (last_passes (walk_fault program.top (names_of program) (walk_from nothing_held) given) _ none))))

-- ---- which isn't `help`, since `clap` answers that itself

abbrev IsHelp : Text → Type 0
IsHelp name = name ≡ codes "help"

-- a step that enters no help
abbrev IsAllowed : Step → Type 0
IsAllowed (next waiting) = Unit {0}
IsAllowed (trailing position) = Unit {0}
IsAllowed (subcommand name) = ¬ (IsHelp name)
IsAllowed value = Unit {0}

-- a walk that stopped, if at all, at another command
abbrev StopsAllowed : Option (Text × List Text) → Type 0
StopsAllowed None = Unit {0}
StopsAllowed (Some stop) = ¬ (IsHelp stop.0)

plain_allowed : (rules : List Rule) (waiting : Waiting) (word : Text) (h : Held) → IsAllowed (plain_word rules waiting word h).1
plain_allowed rules idle word h = tt
plain_allowed rules (option id) word h = tt
plain_allowed rules positional word h = tt

flag_allowed : (rules : List Rule) (waiting : Waiting) (word : Text) (h : Held) (outcome : Outcome) → IsAllowed (after_flag rules waiting word h outcome).1
flag_allowed rules waiting word h done = tt
flag_allowed rules waiting word h (waits id) = tt
flag_allowed rules waiting word h plain = plain_allowed rules waiting word h
flag_allowed rules waiting word h refused = plain_allowed rules waiting word h

short_allowed : (rules : List Rule) (waiting : Waiting) (word : Text) (flags : Option Text) (h : Held) → IsAllowed (short_or_plain rules waiting word flags h).1
short_allowed rules waiting word (Some flags) h = flag_allowed rules waiting word _ _
short_allowed rules waiting word None h = plain_allowed rules waiting word h

long_allowed : (rules : List Rule) (waiting : Waiting) (word : Text) (long : Option (Text × Option Text)) (h : Held) → IsAllowed (long_or_other rules waiting word long h).1
long_allowed rules waiting word (Some long) h = flag_allowed rules waiting word _ _
long_allowed rules waiting word None h = short_allowed rules waiting word (short_of word) h

other_allowed : (b : Bool) (rules : List Rule) (waiting : Waiting) (position : ℕ) (word : Text) (h : Held)
    → IsAllowed (cond b (h, trailing position) (long_or_other rules waiting word (long_of word) h)).1
other_allowed true rules waiting position word h = tt
other_allowed false rules waiting position word h = long_allowed rules waiting word (long_of word) h

-- a word that is a command's name, where that comes to no fault
met_allowed : (found : Option Text) (waiting : Waiting) (position : ℕ) (word : Text) (h : Held) → other_fault program.top found word h ≡ []
    → IsAllowed (subcommand_or_other program.top.rules found waiting position word h).1
met_allowed None waiting position word h none = other_allowed (bytes_eq word (45 ∷ 45 ∷ [])) program.top.rules waiting position word h
met_allowed (Some name) waiting position word h none = λ is.
    let fault : other_fault program.top (Some (codes "help")) word h ≡ [] = subst (λ (n : Text). other_fault program.top (Some n) word h ≡ []) is none in
    let counted : 2 ≡ 0 = ap length fault in absurd (omega (arith, counted))

word_allowed : (is_trailing : Bool) (waiting : Waiting) (position : ℕ) (word : Text) (h : Held)
    → word_fault program.top (names_of program) is_trailing waiting word h ≡ []
    → IsAllowed (word_met program.top.rules (names_of program) is_trailing waiting position word h).1
word_allowed true waiting position word h none = tt
word_allowed false waiting position word h none = met_allowed (subcommand_met (names_of program) waiting word) waiting position word h none

stays_allowed : (w : Walk) → w.stopped ≡ None → StopsAllowed w.stopped
stays_allowed w is = subst StopsAllowed (sym is) tt

positional_allowed : (found : Option Rule) (word : Text) (w : Walk) (h : Held) → w.stopped ≡ None
    → StopsAllowed (to_positional program.top.rules found word w h).stopped
positional_allowed None word w h is = stays_allowed w is
positional_allowed (Some rule) word w h is = tt

step_allowed : (word : Text) (w : Walk) (h : Held) (step : Step) → w.stopped ≡ None → IsAllowed step
    → StopsAllowed (after_step program.top.rules word w h step).stopped
step_allowed word w h (next waiting) is allowed = stays_allowed w is
step_allowed word w h (trailing position) is allowed = stays_allowed w is
step_allowed word w h (subcommand name) is allowed = allowed
step_allowed word w h value is allowed = positional_allowed (arg_by_index program.top.rules w.position) word w h is

turn_allowed : (stop : Option (Text × List Text)) (w : Walk) (word : Text) (more : Kinds) → w.stopped ≡ stop → StopsAllowed stop
    → cond (is_some stop) [] (or_else (word_fault program.top (names_of program) w.is_trailing w.waiting word w.held) more) ≡ []
    → StopsAllowed (walked_from program.top.rules (names_of program) stop w word).stopped
turn_allowed (Some stop) w word more is allowed none = allowed
turn_allowed None w word more is allowed none =
    step_allowed word w _ _ is (word_allowed w.is_trailing w.waiting w.position word w.held (first_passes _ _ none))

walk_allowed : (w : Walk) (words : List Text) → StopsAllowed w.stopped → walk_fault program.top (names_of program) w words ≡ []
    → StopsAllowed (fold (walked program.top.rules (names_of program)) w words).stopped
unfolding walk_fault walked
walk_allowed w [] allowed none = allowed
walk_allowed w (word ∷ words) allowed none =
    let turn : turn_fault program.top (names_of program) w word ≡ [] = first_passes _ _ none in
    walk_allowed (walked program.top.rules (names_of program) w word) words (turn_allowed w.stopped w word _ refl allowed turn) (last_passes _ _ none)

-- ---- and so is one of the program's own

-- this holds of what is found, if it holds of each that passes
found_or : {X : Type 0} (Has : X → Type 0) (passes : Bool) (x y : X) (later : Option X) → (passes ≡ true → Has x) → (later ≡ Some y → Has y)
    → cond passes (Some x) later ≡ Some y → Has y
found_or Has true x y later now after is = let same : x ≡ y = cc in subst Has same (now refl)
found_or Has false x y later now after is = after is

found_has : {X : Type 0} (Has : X → Type 0) (passes : X → Bool) (xs : List X) (y : X) → AllByRecursion (λ x. passes x ≡ true → Has x) xs → find passes xs ≡ Some y → Has y
found_has Has passes [] y all is = cc
found_has Has passes (x ∷ xs) y all is = found_or Has (passes x) x y (find passes xs) all.0 (found_has Has passes xs y all.1) is

by_name : (b : Bool) → b || false ≡ true → b ≡ true
by_name true is = refl
by_name false is = is

commands : (word : Text) → ¬ (IsHelp word) → AllByRecursion (λ (s : Shape). answers_to word (label_of s) ≡ true → IsCommand s.name) program.subs
commands word no_help = (
  (λ is. inl (inl refl)),
  (
    (λ is. inl (inr (inl refl))),
    (
      (λ is. inr (inl refl)),
      (
        (λ is. inr (inr refl)),
        (
          (λ is. inl (inr (inr (inl refl)))),
          (
            (λ is. inl (inr (inr (inr (inl refl))))),
            (
              (λ is. inl (inr (inr (inr (inr refl))))),
              ((λ is. absurd (no_help (sym ((bytes_eq-Decides (codes "help") word).0 (by_name (bytes_eq (codes "help") word) is))))), tt),
            ),
          ),
        ),
      ),
    ),
  ),
)

has_name : (o : Option Shape) (words : List Text) (name : Text) (rows : List Row) → ((s : Shape) → o ≡ Some s → IsCommand s.name)
    → option_map (λ (s : Shape). rows_at s words) o ≡ Some (name, rows) → IsCommand name
has_name None words name rows has is = cc
has_name (Some s) words name rows has is =
    let same : s.name ≡ name = ap (λ (o : Option (Text × List Row)). option_map_or (λ (named : Text × List Row). named.0) o []) is in
    subst IsCommand same (has s refl)

command_entered : (stop : Option (Text × List Text)) (name : Text) (rows : List Row) → StopsAllowed stop → entered program stop ≡ Some (name, rows) → IsCommand name
command_entered None name rows allowed is = cc
command_entered (Some stop) name rows allowed is =
    has_name (find (λ s. answers_to stop.0 (label_of s)) program.subs) stop.1 name rows
    (λ s found. found_has (λ (s : Shape). IsCommand s.name) (λ s. answers_to stop.0 (label_of s)) program.subs s (commands stop.0 allowed) found) is

pub is_command : (words : List Text) (name : Text) (rows : List Row) → faults_of words ≡ [] → subcommand_of tlsf_app words ≡ Some (name, rows) → IsCommand name
is_command words name rows none is =
    let given = argument_words tlsf_app words in
    command_entered (walk program.top.rules (names_of program) nothing_held given).stopped name rows
    (walk_allowed (walk_from nothing_held) given tt (first_passes _ _ none)) is
