-- Phases that are raced one after another, over lanes or over queues.
use Rattle.tlsf_trace.proofs.Common.{◌≡◌, ◌++◌, ◌∷◌, [], ℕ, suc, ◌<◌, ◌≤◌, arith, IfSome, List, Option, Some, None, Bor, length, map, refl, sym, ap, ◌∙◌, subst, append_assoc, append-nil, MatchOption, length-map, length-map-range_with_len, HeapState, opened, Name, Call, Entry, heap_of, World, world_of, known_below, none_known, phases_of, IsOutputBy, IsRaceText, RaceRelation, records_text, yard_of, IsPhaseRaced, IsRaceSoFar, RacePoint, race_start, HasRaced, IsWhole, count_in, kind_in, races_over, world_in, OverLanes, OverQueues, report_text, Line}
use Rattle.tlsf_crew.specs.queues.QueueYard.{queue_world_of}
use Rattle.tlsf_trace.specs.declared.raced_yard.PortKind.{PortKind}
use Rattle.tlsf_trace.specs.declared.raced_yard.PortKind.TheVariants.{Lanes, Queues}
use Rattle.tlsf_trace.specs.declared.raced_yard.RacedYard.{RacedYard}
use Rattle.tlsf_lines.specs.declared.header.Header.{Header}

-- the phases of the lines that are left
abbrev pub phases_left : Option (Bor (List Line)) → List (List Line)
phases_left None = []
phases_left (Some lines) = phases_of lines.now

-- one more than there are lines, where the end is still to come
abbrev pub lines_left : Option (Bor (List Line)) → ℕ
lines_left None = 0
lines_left (Some lines) = suc (length lines.now)

-- the heaps that a yard shows are those of its workers
abbrev pub heaps_of : {sli : ℕ} → RacedYard sli → List HeapState
heaps_of (OverLanes ws) = map heap_of ws.items
heaps_of (OverQueues ws) = map heap_of ws.items

pub heaps_are : {sli : ℕ} → (yard : RacedYard sli) → heaps_of yard ≡ (world_in yard).heaps
unfolding world_of queue_world_of
heaps_are (OverLanes ws) = refl
heaps_are (OverQueues ws) = refl

-- as many as workers
pub heap_count : {sli : ℕ} → (yard : RacedYard sli) → length (world_in yard).heaps ≡ count_in yard
heap_count (OverLanes ws) = ap length (sym (heaps_are (OverLanes ws))) ∙ (length-map ws.items heap_of ∙ sym ws.ok.0)
heap_count (OverQueues ws) = ap length (sym (heaps_are (OverQueues ws))) ∙ (length-map ws.items heap_of ∙ sym ws.ok.0)

-- a race leaves this many heaps, and tells equally many records
module _ {sli : ℕ} (w v : World sli) (scripts : List (List Call)) (records : List (List Entry)) where
  pub heaps_stay : (kind : PortKind) → races_over kind w scripts records v → length v.heaps ≡ length w.heaps
  heaps_stay Lanes race = race.heaps
  heaps_stay Queues race = race.heaps

  pub record_count : (kind : PortKind) → races_over kind w scripts records v → length records ≡ length w.heaps
  record_count Lanes race = race.records
  record_count Queues race = race.records

pub has_raced : {sli : ℕ} → (yard was left : RacedYard sli) (scripts : List (List Call)) (records : List (List Entry)) → yard ≡ was → kind_in left ≡ kind_in was → IsWhole left
    → races_over (kind_in was) (world_in was) scripts records (world_in left) → HasRaced yard scripts records left
has_raced yard was left scripts records is kind whole race =
    subst (λ (y : RacedYard _). HasRaced y scripts records left) (sym is) (record {
      kind = kind;
      whole = whole;
      count = omega (arith, heap_count was, heap_count left, heaps_stay (world_in was) (world_in left) scripts records (kind_in was) race);
      race = race;
    })

-- before the first phase
pub none_raced : {sli : ℕ} → (Races : RaceRelation sli) (n : ℕ) (phases : List (List Line)) (from : RacePoint sli) (learnt : ℕ → Option Name) → learnt ≡ from.known
    → IsRaceSoFar Races n phases phases from (record { world = from.world; known = learnt; text = from.text })
none_raced Races n phases from learnt is = record {
  told = [];
  text_is = sym (append-nil from.text);
  rest = λ tail t. subst (λ (k : ℕ → Option Name). IsRaceText Races n from.world k phases tail) is t;
}

-- one phase more
one_raced : {sli n : ℕ} {Races : RaceRelation sli} {phases left : List (List Line)} {phase : List Line} {from between to : RacePoint sli}
    → IsRaceSoFar Races n phases (phase ∷ left) from between → IsPhaseRaced Races n phase between to → IsRaceSoFar Races n phases left from to
one_raced {n = n} {Races = Races} {phases = phases} {left = left} {phase = phase} {from = from} {between = between} {to = to} before one =
    let lines = records_text phase one.records n in
    record {
      told = before.told ++ lines;
      text_is = one.text_is ∙ (ap (λ t. t ++ lines) before.text_is ∙ append_assoc from.text before.told lines);
      rest = λ tail t.
          let after : IsRaceText Races n to.world (known_below between.known phase one.records n) left tail = subst (λ (k : ℕ → Option Name). IsRaceText Races n to.world k left tail) one.known_are t in
          subst (IsRaceText Races n from.world from.known phases) (sym (append_assoc before.told lines tail))
          (before.rest (lines ++ tail) (one.records, to.world, tail, one.raced, refl, after));
    }

-- the phases that are left after the first, and their lines
pub left_behind : (behind : Option (Bor (List Line))) (phases : List (List Line)) (phase : List Line)
    → MatchOption behind (phases ≡ phase ∷ []) (λ rest. phases ≡ phase ∷ phases_of rest.now) → phases ≡ phase ∷ phases_left behind
left_behind None phases phase is = is
left_behind (Some rest) phases phase is = is

pub few_behind : (behind : Option (Bor (List Line))) (n : ℕ) → IfSome behind (λ rest. length rest.now < n) → n ≤ 32768 → IfSome behind (λ rest. length rest.now ≤ 32768)
few_behind None n shorter few = tt
few_behind (Some rest) n shorter few = omega (arith, shorter, few)

pub more_raced : {sli n : ℕ} {Races : RaceRelation sli} {phases : List (List Line)} {phase : List Line} {from between to : RacePoint sli} (rest behind : Option (Bor (List Line))) (lines : Bor (List Line))
    → rest ≡ Some lines → phases_of lines.now ≡ phase ∷ phases_left behind
    → IsRaceSoFar Races n phases (phases_left rest) from between → IsPhaseRaced Races n phase between to → IsRaceSoFar Races n phases (phases_left behind) from to
more_raced {n = n} {Races = Races} {phases = phases} {from = from} {between = between} rest behind lines is first before one =
    one_raced (subst (λ left. IsRaceSoFar Races n phases left from between) (ap phases_left is ∙ first) before) one

-- the lines of the heaps after those of all phases
pub all_raced : {sli n : ℕ} {Races : RaceRelation sli} {from to : RacePoint sli} (header : Header) (lines : List Line) (out : List ℕ) → n ≡ header.workers → from ≡ race_start header
    → IsRaceSoFar Races n (phases_of lines) [] from to → out ≡ to.text ++ report_text sli to.world.heaps → IsOutputBy Races (record { header = header; lines = lines }) out
all_raced {sli} {n = n} {Races = Races} {from = from} {to = to} header lines out count start raced out_is =
    let reports = report_text sli to.world.heaps in
    let text : IsRaceText Races n from.world from.known (phases_of lines) (raced.told ++ reports) = raced.rest reports refl in
    let said : out ≡ raced.told ++ reports = out_is ∙ ap (λ t. t ++ reports) (raced.text_is ∙ ap (λ (p : RacePoint sli). p.text ++ raced.told) start) in
    subst (λ (k : ℕ). IsRaceText Races k (yard_of header) none_known (phases_of lines) out) count
    (subst (λ (p : RacePoint sli). IsRaceText Races n p.world p.known (phases_of lines) out) start
    (subst (IsRaceText Races n from.world from.known (phases_of lines)) (sym said) text))

-- a new yard has as many workers as its header says
pub opened_count : {sli : ℕ} → (w : World sli) (n : ℕ) (header : Header) → length w.heaps ≡ n → w ≡ yard_of header → n ≡ header.workers
opened_count {sli} w n header many yard =
    sym many ∙ (ap (λ (x : World sli). length x.heaps) yard ∙ length-map-range_with_len (λ j. opened j header.words 0) 0 header.workers)
