-- Takes one after another from a lane, and from lane after lane, make up a drain.
use Rattle.tlsf_crew.proofs.Common.{◌++◌, ◌≡◌, ◌-◌, ℕ, zero, suc, List, Option, Some, None, length, refl, sym, ◌∙◌, ap, subst, inl, inr, fold-append, HeapState, Post, PostEnd, Took, Worker, Lanes, end_from, lane_to, TookThrough, lane_places, heap_of, id_of, AfterTake, TakesInTurn, TakenFromLane, KeepsYards, PutsIntoLane, heap_after, SourceNoted, TurnNoted, EachNoted, AllNoted, lane_rules}
use Rattle.tlsf_heap.specs.Calls.{released}
use Rattle.tlsf_calls.specs.declared.drained.Drained.{Drained}
use Rattle.tlsf_crew.specs.lanes.LaneTurns.{LaneDrained, TurnDrained, EachLaneDrained, DrainedAll}
use Rattle.tlsf_crew.proofs.lemmas.worker.PortsKept.{Keeping}
use Rattle.tlsf_crew.proofs.lemmas.worker.Slots.{end_or}
use Rattle.tlsf_crew.proofs.lemmas.worker.SourceTurns.{none_heap, takes_heap, takes_of, turns_keep}
use Rattle.tlsf_crew.proofs.lemmas.lanes.YardKept.{same_keeps, put_keeps, take_keeps, heap_keeps, keeps_then}
use Rattle.tlsf_crew.proofs.lemmas.worker.OwnHeaps.{call_keeps}
use Rattle.tlsf_heap.specs.Calls as heap

pub lane_heap : {sli : ℕ} (a v : Worker sli Lanes) (from most : ℕ) (tooks : List Took) → LaneDrained a v from most tooks → heap_of v ≡ heap_after (heap_of a) tooks
lane_heap a v from most tooks d =
    let h = takes_heap TookThrough a d.last from tooks d.takes in
    elim d.end [
      | inl done ↦ ap heap_of done.1 ∙ h
      | inr done ↦ none_heap TookThrough d.last v from done.1 ∙ h
    ]

heap_more : {sli : ℕ} (h : HeapState) (a v : Worker sli Lanes) (xs ys : List Took) → heap_of a ≡ heap_after h xs → heap_of v ≡ heap_after (heap_of a) ys → heap_of v ≡ heap_after h (xs ++ ys)
heap_more h a v xs ys x y =
    y ∙ (ap (λ (g : HeapState). heap_after g ys) x ∙ sym (fold-append (λ (g : HeapState) (took : Took). (released g took.name).heap) h xs ys))

-- ---- a drain whose notes admit every post

lane_of : {sli : ℕ} {N : Type 0} (admitted : N → ℕ → Type 0) (noted : N → ℕ → ℕ → Option ℕ → Took → N → Type 0) (a v : Worker sli Lanes) (x y : N) (from most : ℕ) (tooks : List Took) → ((z : N) (k : ℕ) → admitted z k)
    → SourceNoted (lane_rules admitted noted) a v x y from most tooks → LaneDrained a v from most tooks
lane_of admitted noted a v x y from most tooks all l = record {
  last = l.last;
  takes = takes_of (lane_rules admitted noted) a l.last x y from tooks l.turns;
  end = elim l.end [
    | inl done ↦ inl done
    | inr early ↦ elim early.1 [ inl stopped ↦ absurd (stopped.0 (all y from)) | inr empty ↦ inr (early.0, empty) ]
  ];
}

turn_of : {sli : ℕ} {N : Type 0} (admitted : N → ℕ → Type 0) (noted : N → ℕ → ℕ → Option ℕ → Took → N → Type 0) (a v : Worker sli Lanes) (x y : N) (from most : ℕ) (tooks : List Took) → ((z : N) (k : ℕ) → admitted z k)
    → TurnNoted (lane_rules admitted noted) a v x y from most tooks → TurnDrained a v from most tooks
turn_of admitted noted a v x y from most tooks all t = record {
  lane = λ has. lane_of admitted noted a v x y from most tooks all (t.here has);
  nowhere = λ none. let n = t.nowhere none in (n.0, n.1);
}

turns_below : {sli : ℕ} {N : Type 0} (admitted : N → ℕ → Type 0) (noted : N → ℕ → ℕ → Option ℕ → Took → N → Type 0) (a v : Worker sli Lanes) (x y : N) (most k : ℕ) (tooks : List Took) → ((z : N) (i : ℕ) → admitted z i)
    → EachNoted (lane_rules admitted noted) a v x y most k tooks → EachLaneDrained a v most k tooks
turns_below admitted noted a v x y most zero tooks all l = (l.0, l.1)
turns_below admitted noted a v x y most (suc k) tooks all l =
    (l.0, l.2, l.3, l.4, turns_below admitted noted a l.0 x l.1 most k l.2 all l.5, turn_of admitted noted l.0 v l.1 y k (most - length l.2) l.3 all l.6)

turn_heap : {sli : ℕ} (a v : Worker sli Lanes) (from most : ℕ) (tooks : List Took) → TurnDrained a v from most tooks → heap_of v ≡ heap_after (heap_of a) tooks
turn_heap a v from most tooks t = elim (end_or (end_from a from)) [
  | inl has ↦ lane_heap a v from most tooks (t.lane has)
  | inr none ↦ let n = t.nowhere none in rw (n.0) (ap heap_of n.1)
]

heap_below : {sli : ℕ} (a v : Worker sli Lanes) (most k : ℕ) (tooks : List Took) → EachLaneDrained a v most k tooks → heap_of v ≡ heap_after (heap_of a) tooks
heap_below a v most zero tooks l = rw (l.0) (ap heap_of l.1)
heap_below a v most (suc k) tooks l =
    rw (l.3) (heap_more (heap_of a) l.0 v l.1 l.2 (heap_below a l.0 most k l.1 l.4) (turn_heap l.0 v k (most - length l.1) l.2 l.5))

-- the yard stays whole
after_keeps : {sli : ℕ} (b v : Worker sli Lanes) (post : Option Post) (answer : Option Took) → AfterTake b v post answer → KeepsYards b v
after_keeps b v None answer then = subst (KeepsYards b) (sym then.1) (same_keeps b)
after_keeps b v (Some p) answer then = heap_keeps b v then.2 (call_keeps (heap_of b) (heap_of v) (heap.Release p.name) then.1.heap)

pub one_turn_keeps : {sli : ℕ} (a v : Worker sli Lanes) (from : ℕ) (answer : Option Took) → TakenFromLane a v from answer → KeepsYards a v
one_turn_keeps a v from answer t = keeps_then a t.between v (take_keeps a t.between from t.post t.took) (after_keeps t.between v t.post answer t.then)

all_turns_keep : {sli : ℕ} (a v : Worker sli Lanes) (from : ℕ) (tooks : List Took) → TakesInTurn TookThrough a v from tooks → KeepsYards a v
all_turns_keep a v from tooks = turns_keep TookThrough KeepsYards same_keeps keeps_then one_turn_keeps a v from tooks

drained_turn_keeps : {sli : ℕ} (a v : Worker sli Lanes) (from most : ℕ) (tooks : List Took) → TurnDrained a v from most tooks → KeepsYards a v
drained_turn_keeps a v from most tooks t = elim (end_or (end_from a from)) [
  | inl has ↦
      let l = t.lane has in
      let k = all_turns_keep a l.last from tooks l.takes in
      elim l.end [
        | inl done ↦ subst (KeepsYards a) (sym done.1) k
        | inr empty ↦ keeps_then a l.last v k (one_turn_keeps l.last v from None empty.1)
      ]
  | inr none ↦ let n = t.nowhere none in subst (KeepsYards a) (sym n.1) (same_keeps a)
]

lanes_keep : {sli : ℕ} (a v : Worker sli Lanes) (most k : ℕ) (tooks : List Took) → EachLaneDrained a v most k tooks → KeepsYards a v
lanes_keep a v most zero tooks l = subst (KeepsYards a) (sym l.1) (same_keeps a)
lanes_keep a v most (suc k) tooks l = keeps_then a l.0 v (lanes_keep a l.0 most k l.1 l.4) (drained_turn_keeps l.0 v k (most - length l.1) l.2 l.5)

pub all_drained : {sli : ℕ} {N : Type 0} (admitted : N → ℕ → Type 0) (noted : N → ℕ → ℕ → Option ℕ → Took → N → Type 0) (a v : Worker sli Lanes) (x y : N) (most : ℕ) (answer : Drained) → ((z : N) (i : ℕ) → admitted z i)
    → AllNoted (lane_rules admitted noted) a v x y (lane_places a) most answer → DrainedAll a v most answer × KeepsYards a v
all_drained admitted noted a v x y most answer all d =
    let lanes = turns_below admitted noted a v x y most (lane_places a) d.tooks all d.each in (
      record { tooks = d.tooks; lanes = lanes; heap = heap_below a v most (lane_places a) d.tooks lanes; count = d.count },
      lanes_keep a v most (lane_places a) d.tooks lanes,
    )

-- ---- lanes as ports

pub lanes_keep_yards : {sli : ℕ} → Keeping {sli = sli} {P = Lanes} (λ p j. (end : PostEnd) × (lane_to p j ≡ Some end)) PutsIntoLane KeepsYards
lanes_keep_yards = record {
  either = λ p j. end_or (lane_to p j);
  heap = heap_keeps;
  put = λ a v name answer same puts. put_keeps a v name.heap (record { from = id_of a; name = name }) puts.0 refl (same, puts.1);
}
