-- A trace that is run from one of its moments to the next.
use Rattle.tlsf_trace.proofs.Common.{◌≡◌, ℕ, zero, suc, ◌+◌, ◌-◌, ◌<◌, ◌≤◌, false, true, List, [], ◌∷◌, ◌++◌, Option, length, take, take_all, drop, max, min, refl, subst, sym, ap, ◌∙◌, inl, inr, arith, nat_lt, drop-take, length-take, take-append-drop, take-take, take_min, Entry, World, Replayed, begun, replies, replies_behind, Name, events_by, events_of, width_in, Trace, Line, moment_at, run_at, yard_of, PlaysOn}
use Rattle.std.proofs.lemmas.Bool.{cases_lt}
use Rattle.std.proofs.lemmas.Bool.Decides.{nat_tests}
use Rattle.tlsf_calls.specs.declared.event.Event.{Event}
use Rattle.tlsf_crew.proofs.lemmas.model.InParts.{behind, replies_alone, replies_in_parts}
use Rattle.tlsf_trace.specs.declared.player.Player.{Player}

-- more lines stand for no fewer events
width_take : (workers : ℕ) (lines : List Line) (i j : ℕ) → i ≤ j → width_in workers (take i lines) ≤ width_in workers (take j lines)
width_take workers lines zero j le = omega arith
width_take workers lines (suc i) zero le = absurd (omega (arith, le))
width_take workers [] (suc i) (suc j) le = omega arith
width_take workers (x ∷ xs) (suc i) (suc j) le = let rest = width_take workers xs i j (omega (arith, le)) in omega (arith, rest)

-- a later moment has no fewer events
events_onward : (trace : Trace) (a b : ℕ) → a ≤ b → min (events_by a trace) (length (events_of trace)) ≤ events_by b trace
events_onward trace a b le = elim (cases_lt (length trace.lines + 1) b) [
  | inl past ↦ let yes : nat_lt (length trace.lines + 1) b ≡ true = grind (arith, nat_tests) in rw yes (omega arith)
  | inr within ↦
      let no : nat_lt (length trace.lines + 1) b ≡ false = grind (arith, nat_tests) in
      let before : nat_lt (length trace.lines + 1) a ≡ false = grind (arith, nat_tests) in
      let less = width_take trace.header.workers trace.lines (a - 1) (b - 1) (omega (arith, le)) in
      rw (no, before) (omega (arith, less))
]

-- the first of a list, and what follows up to a later place
take_on : (i j : ℕ) (xs : List Event) → min i (length xs) ≤ j → take j xs ≡ take i xs ++ drop (length (take i xs)) (take j xs)
take_on i j xs le =
    let many : length (take i xs) ≡ min i (length xs) = length-take i xs in
    let front : take (length (take i xs)) (take j xs) ≡ take i xs =
    take-take (length (take i xs)) j xs (omega (arith, many, le)) ∙ (ap (λ (n : ℕ). take n xs) many ∙ take_min i xs) in
    sym (take-append-drop (length (take i xs)) (take j xs)) ∙ ap (λ (l : List Event). l ++ drop (length (take i xs)) (take j xs)) front

-- what is cut out of the list of all events is what follows the first ones
part_is : (ran end first j : ℕ) (xs : List Event) → end ≡ min j (length xs) → first ≡ min ran end → ran ≤ end → take (end - first) (drop first xs) ≡ drop ran (take j xs)
part_is ran end first j xs end_is first_is le =
    let here : first ≡ ran = omega (arith, first_is, le) in
    let whole : ran + (end - ran) ≡ end = omega (arith, le) in
    rw here (sym (drop-take ran (end - ran) xs) ∙ ap (λ (l : List Event). drop ran l) (ap (λ (n : ℕ). take n xs) (whole ∙ end_is) ∙ take_min j xs))

-- where nothing is cut out, nothing is, wherever that is
nothing_cut : (m n i j : ℕ) (xs : List Event) → m ≡ n → n ≡ 0 → take m (drop i xs) ≡ take n (drop j xs)
nothing_cut m n i j xs same none = rw (same, none) refl

-- this many have run at a line
pub ran_by : (b end : ℕ) (trace : Trace) → end ≡ min (events_by b trace) (length (events_of trace)) → end ≡ length (take (events_by b trace) (events_of trace))
ran_by b end trace end_is = end_is ∙ sym (length-take (events_by b trace) (events_of trace))

module _ {sli : ℕ} (a b : ℕ) (trace : Trace) (le : a ≤ b) where
  -- the events up to a later line are answered as those after the ones before
  pub run_on : (w : World sli) (made : List (Option Name)) (ran end first : ℕ) (part : List Event) → w ≡ (moment_at sli a trace).world → made ≡ (moment_at sli a trace).made
      → ran ≡ length (take (events_by a trace) (events_of trace)) → end ≡ min (events_by b trace) (length (events_of trace)) → first ≡ min ran end
      → part ≡ take (end - first) (drop first (events_of trace))
      → moment_at sli b trace ≡ behind (moment_at sli a trace).entries (replies_behind w made part)
  run_on w made ran end first part world_is made_is ran_is end_is first_is cut_is =
      let y : World sli = yard_of trace.header in
      let all = events_of trace in
      let xs = take (events_by a trace) all in
      let many : length xs ≡ min (events_by a trace) (length all) = length-take (events_by a trace) all in
      let onward = events_onward trace a b le in
      let within : ran ≤ end = omega (arith, ran_is, many, end_is, onward) in
      let rest : part ≡ drop (length xs) (take (events_by b trace) all) =
      cut_is ∙ (part_is ran end first (events_by b trace) all end_is first_is within ∙ ap (λ (n : ℕ). drop n (take (events_by b trace) all)) ran_is) in
      let cut : take (events_by b trace) all ≡ xs ++ part =
      take_on (events_by a trace) (events_by b trace) all onward ∙ ap (λ (l : List Event). xs ++ l) (sym rest) in
      ap (replies y) cut ∙ (sym (replies_alone y (xs ++ part)) ∙ (replies_in_parts y [] xs part ∙ rw (world_is, made_is, replies_alone y xs) refl))

-- an earlier moment has no more events
events_back : (trace : Trace) (a b ran end : ℕ) → b ≤ a → ran ≡ length (take (events_by a trace) (events_of trace)) → end ≡ min (events_by b trace) (length (events_of trace)) → end ≤ ran
events_back trace a b ran end le ran_is end_is =
    let many = length-take (events_by a trace) (events_of trace) in
    let onward = events_onward trace b a le in
    omega (arith, ran_is, many, end_is, onward)

-- up to the later of two lines equally many have run
pub ran_to : (a b : ℕ) (trace : Trace) (ran end : ℕ) → ran ≡ length (take (events_by a trace) (events_of trace)) → end ≡ min (events_by b trace) (length (events_of trace))
    → max ran end ≡ length (take (events_by (max a b) trace) (events_of trace))
ran_to a b trace ran end ran_is end_is = elim (cases_lt b a) [
  | inl back ↦
      let here : max a b ≡ a = omega (arith, back) in
      let fewer = events_back trace a b ran end (omega (arith, back)) ran_is end_is in
      let all : max ran end ≡ ran = omega (arith, fewer) in
      rw here (all ∙ ran_is)
  | inr on ↦
      let there : max a b ≡ b = omega (arith, on) in
      let many = length-take (events_by a trace) (events_of trace) in
      let onward = events_onward trace a b on in
      let all : max ran end ≡ end = omega (arith, ran_is, many, end_is, onward) in
      rw there (all ∙ ran_by b end trace end_is)
]

module _ {sli : ℕ} (a b : ℕ) (trace : Trace) where
  -- so the events up to the later of two lines are those up to the first one, and those that are cut out after them. Nothing is cut
  -- out for an earlier line
  pub run_to : (w : World sli) (made : List (Option Name)) (ran end first : ℕ) (part : List Event) → w ≡ (moment_at sli a trace).world → made ≡ (moment_at sli a trace).made
      → ran ≡ length (take (events_by a trace) (events_of trace)) → end ≡ min (events_by b trace) (length (events_of trace)) → first ≡ min ran end
      → part ≡ take (end - first) (drop first (events_of trace))
      → moment_at sli (max a b) trace ≡ behind (moment_at sli a trace).entries (replies_behind w made part)
  run_to w made ran end first part world_is made_is ran_is end_is first_is cut_is = elim (cases_lt b a) [
    | inl back ↦
        let here : max a b ≡ a = omega (arith, back) in
        let le : a ≤ a = omega arith in
        let fewer = events_back trace a b ran end (omega (arith, back)) ran_is end_is in
        let none : end - first ≡ ran - ran = omega (arith, first_is, fewer) in
        let same : ran ≡ min ran ran = omega arith in
        let rest : part ≡ take (ran - ran) (drop ran (events_of trace)) = cut_is ∙ nothing_cut (end - first) (ran - ran) first ran (events_of trace) none (omega arith) in
        rw here (run_on a a trace le w made ran ran ran part world_is made_is ran_is (ran_is ∙ length-take (events_by a trace) (events_of trace)) same rest)
    | inr on ↦
        let there : max a b ≡ b = omega (arith, on) in
        rw there (run_on a b trace on w made ran end first part world_is made_is ran_is end_is first_is cut_is)
  ]

-- a player that has run to the later of two lines has run on to the second, where that is it
pub plays_on : {sli : ℕ} {from line : ℕ} {trace : Trace} {player : Player sli} {entries : List Entry} → from ≤ line → PlaysOn from (max from line) trace player entries
    → PlaysOn from line trace player entries
plays_on {from = from} {line = line} {trace = trace} {player = player} {entries = entries} le plays =
    let there : max from line ≡ line = omega (arith, le) in
    subst (λ (n : ℕ). PlaysOn from n trace player entries) there plays

-- before the first line a new yard stands
pub begins : {sli : ℕ} (trace : Trace) → moment_at sli 0 trace ≡ begun (yard_of trace.header)
unfolding replies
begins trace = let no : nat_lt (length trace.lines + 1) 0 ≡ false = grind (arith, nat_tests) in rw no refl

pub none_ran : (trace : Trace) → 0 ≡ length (take (events_by 0 trace) (events_of trace))
none_ran trace = let no : nat_lt (length trace.lines + 1) 0 ≡ false = grind (arith, nat_tests) in rw no refl

-- and nothing was answered
pub nothing_told : (sli : ℕ) (trace : Trace) → (moment_at sli 0 trace).entries ≡ []
nothing_told sli trace = ap (λ (r : Replayed sli). r.entries) (begins {sli = sli} trace)

-- after the last line stands what the whole run leaves
pub ends : (sli line : ℕ) (trace : Trace) → length trace.lines + 1 < line → moment_at sli line trace ≡ run_at sli trace
ends sli line trace past =
    let yes : nat_lt (length trace.lines + 1) line ≡ true = grind (arith, nat_tests) in
    let y : World sli = yard_of trace.header in
    rw yes (ap (λ (l : List Event). replies y l) (take_all (length (events_of trace)) (events_of trace) (omega arith)))
