-- A trace without `d` lines gives one text.
use Rattle.tlsf_trace.proofs.Common.{Bool, true, false, ◌==◌, ◌≡◌, ◌≤◌, ◌∷◌, ◌++◌, [], ℕ, zero, suc, List, Option, length, map, get_or, arith, refl, sym, ap, ◌∙◌, subst, AllByRecursion, Name, Call, Entry, World, call_in, calls_from, in_first, is_line_of, known_below, none_known, own_lines, phases_of, script_in, scripts_in, records_text, Trace, Line, level_in, yard_of, IsOutputBy, IsQueueRaceOutput, IsRaceText, RaceRelation}
use Rattle.tlsf_crew.specs.race_laws.Alone.{OnlyLastDrains, TakesNoPost}
use Rattle.tlsf_crew.specs.races.Race.{IsRace}
use Rattle.tlsf_crew.specs.race_laws.QueueAlone.{IsUncontendedRace}
use Rattle.tlsf_crew.specs.races.QueueRace.{IsQueueRace}
use Rattle.tlsf_crew.proofs.lemmas.race_laws.QueueAlone.{queue_race_is_one, two_uncontended}
use Rattle.tlsf_crew.proofs.lemmas.race_laws.OneRace.{race_is_one}
use Rattle.tlsf_lines.specs.declared.line.Line.TheVariants.{Drain, Phase}
use Rattle.tlsf_trace.specs.OneText.{HasNoDrain, IsNoDrain, IsUncontendedOutput, RaceGivesOneText}
use Rattle.tlsf_trace.proofs.RacedPhases.{opened_count}

-- ---- a phase without `d` lines

abbrev HasNone : List Line → Type 0
HasNone lines = AllByRecursion IsNoDrain lines

-- one line more in front of the first phase
first_none : (line : Line) (phases : List (List Line)) → IsNoDrain line → AllByRecursion HasNone phases → AllByRecursion HasNone (in_first line phases)
first_none line [] one all = ((one, tt), tt)
first_none line (phase ∷ phases) one all = ((one, all.0), all.1)

phases_none : (lines : List Line) → HasNone lines → AllByRecursion HasNone (phases_of lines)
phases_none [] all = (tt, tt)
phases_none (Phase ∷ lines) all = (tt, phases_none lines all.1)
phases_none (line ∷ lines) all = first_none line (phases_of lines) all.0 (phases_none lines all.1)

-- ---- its scripts

-- the calls of a worker's lines take no post
abbrev AreFree : (ℕ → Option Name) → ℕ → List Line → Type 0
AreFree known w lines = (before : List Line) → AllByRecursion TakesNoPost (calls_from known before (own_lines w lines))

free_line : (known : ℕ → Option Name) (w : ℕ) (line : Line) (lines before : List Line) (b : Bool) → is_line_of w line ≡ b → TakesNoPost (call_in known before line) → AreFree known w lines
    → AllByRecursion TakesNoPost (calls_from known before (own_lines w (line ∷ lines)))
free_line known w line lines before true e one rest = rw e (one, rest (line ∷ before))
free_line known w line lines before false e one rest = rw e (rest before)

free_lines : (known : ℕ → Option Name) (w : ℕ) (lines : List Line) → HasNone lines → AreFree known w lines
free_lines known w [] all before = tt
free_lines known w (Drain worker most ∷ lines) all before = absurd all.0
free_lines known w (Phase ∷ lines) all before = free_lines known w lines all.1 before
free_lines known w (line ∷ lines) all before = free_line known w line lines before (is_line_of w line) refl tt (free_lines known w lines all.1)

free_scripts : (known : ℕ → Option Name) (phase : List Line) → HasNone phase → (workers : List ℕ) (j : ℕ) → AllByRecursion TakesNoPost (get_or (map (script_in known phase) workers) j [])
free_scripts known phase all [] j = tt
free_scripts known phase all (w ∷ workers) zero = free_lines known w phase all []
free_scripts known phase all (w ∷ workers) (suc j) = free_scripts known phase all workers j

-- ---- phase after phase

-- two races of the same scripts, which take no post, from the same world tell the same records and leave the same world
abbrev AreOne : {sli : ℕ} → RaceRelation sli → Type 0
AreOne {sli} Races = (w v u : World sli) (scripts : List (List Call)) (records others : List (List Entry)) → OnlyLastDrains scripts
    → Races w scripts records v → Races w scripts others u → (records ≡ others) × (v ≡ u)

same_text : {sli : ℕ} → (Races : RaceRelation sli) → AreOne Races → (n : ℕ) (phases : List (List Line)) (w : World sli) (known : ℕ → Option Name) (text other : List ℕ) → AllByRecursion HasNone phases
    → IsRaceText Races n w known phases text → IsRaceText Races n w known phases other → text ≡ other
same_text {sli} Races are_one n [] w known text other all is was = is ∙ sym was
same_text {sli} Races are_one n (phase ∷ phases) w known text other all (records, v, tail, race, text_is, more) (others, u, end, again, other_is, later) =
    let free : OnlyLastDrains (scripts_in n known phase) = λ j. free_scripts known phase all.0 _ j in
    let one = are_one w v u (scripts_in n known phase) records others free race again in
    let told : IsRaceText Races n v (known_below known phase others n) phases tail = subst (λ (rs : List (List Entry)). IsRaceText Races n v (known_below known phase rs n) phases tail) one.0 more in
    let moved : IsRaceText Races n u (known_below known phase others n) phases tail = subst (λ (x : World sli). IsRaceText Races n x (known_below known phase others n) phases tail) one.1 told in
    let rest = same_text Races are_one n phases u (known_below known phase others n) tail end all.1 moved later in
    text_is ∙ (ap (λ rs. records_text phase rs n ++ tail) one.0 ∙ (ap (λ t. records_text phase others n ++ t) rest ∙ sym other_is))

-- a whole trace
output_is_one : {sli : ℕ} → (Races : RaceRelation sli) → AreOne Races → (trace : Trace) (text other : List ℕ) → HasNoDrain trace → IsOutputBy Races trace text → IsOutputBy Races trace other → text ≡ other
output_is_one Races are_one trace text other none is was = same_text Races are_one trace.header.workers (phases_of trace.lines) (yard_of trace.header) none_known text other (phases_none trace.lines none) is was

pub one_text : RaceGivesOneText
one_text trace = output_is_one {sli = level_in trace.header} IsRace (race_is_one (level_in trace.header)) trace

pub one_text_over_queues : (trace : Trace) (text other : List ℕ) → HasNoDrain trace → IsUncontendedOutput trace text → IsUncontendedOutput trace other → text ≡ other
one_text_over_queues trace = output_is_one {sli = level_in trace.header} IsUncontendedRace (queue_race_is_one (level_in trace.header)) trace

-- ---- among all races over queues

over_queues : {sli : ℕ} → (n : ℕ) (phases : List (List Line)) (w : World sli) (known : ℕ → Option Name) (text : List ℕ) → IsRaceText IsUncontendedRace n w known phases text → IsRaceText IsQueueRace n w known phases text
over_queues n [] w known text is = is
over_queues n (phase ∷ phases) w known text (records, v, tail, uncontended, text_is, more) =
    (records, v, tail, uncontended.race, text_is, over_queues n phases v (known_below known phase records n) tail more)

pub one_of_queue_outputs : (trace : Trace) (text : List ℕ) → IsUncontendedOutput trace text → IsQueueRaceOutput trace text
one_of_queue_outputs trace text is = over_queues {sli = level_in trace.header} trace.header.workers (phases_of trace.lines) (yard_of trace.header) none_known text is

-- ---- of two workers

of_two : {sli : ℕ} → (n : ℕ) (phases : List (List Line)) (w : World sli) (known : ℕ → Option Name) (text : List ℕ) → length w.heaps ≤ 2 → IsRaceText IsQueueRace n w known phases text → IsRaceText IsUncontendedRace n w known phases text
of_two n [] w known text few is = is
of_two n (phase ∷ phases) w known text few (records, v, tail, race, text_is, more) =
    (records, v, tail, two_uncontended w v (scripts_in n known phase) records few race, text_is, of_two n phases v (known_below known phase records n) tail (omega (arith, race.heaps, few)) more)

pub two_of_queue_outputs : (trace : Trace) (text : List ℕ) → trace.header.workers ≤ 2 → IsQueueRaceOutput trace text → IsUncontendedOutput trace text
two_of_queue_outputs trace text few is =
    let w : World (level_in trace.header) = yard_of trace.header in
    let count = opened_count w (length w.heaps) trace.header refl refl in
    of_two {sli = level_in trace.header} trace.header.workers (phases_of trace.lines) w none_known text (omega (arith, count, few)) is
