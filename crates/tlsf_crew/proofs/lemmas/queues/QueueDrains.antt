-- Takes one after another from a queue make up a drain.
use Rattle.tlsf_crew.proofs.Common.{◌≡◌, ◌<◌, ◌⊎◌, ℕ, List, Option, Some, None, length, refl, sym, ◌∙◌, ap, subst, inl, inr, Post, PosterEnd, Took, IsCountOf, Worker, Queues, heap_of, SameButPorts, AfterTake, TakenFrom, SourceEnds, SourceNoted, queue_to, KeepsQueueYards, PutsIntoQueue, AsksQueue, TakenFromQueue, DrainedQueue, queue_rules, StopsAtQueue}
use Rattle.tlsf_heap.specs.Calls as heap
use Rattle.tlsf_calls.specs.declared.drained.Drained.{Drained}
use Rattle.tlsf_crew.proofs.lemmas.worker.OwnHeaps.{call_keeps}
use Rattle.tlsf_crew.proofs.lemmas.worker.PortsKept.{Keeping}
use Rattle.tlsf_crew.proofs.lemmas.worker.Slots.{end_or}
use Rattle.tlsf_crew.proofs.lemmas.worker.SourceTurns.{none_heap, takes_heap, takes_of, turns_keep}
use Rattle.tlsf_crew.proofs.lemmas.queues.QueueKept.{keeps_all, queues_keep_heap, queues_keep_put, queues_keep_take, keeps_then}

-- ---- what a take leaves

after_keeps : {sli : ℕ} (c b : Worker sli Queues) (post : Option Post) (answer : Option Took) → AfterTake c b post answer → KeepsQueueYards c b
after_keeps c b None answer after = subst (KeepsQueueYards c) (sym after.1) (keeps_all c)
after_keeps c b (Some p) answer after = queues_keep_heap c b after.2 (call_keeps (heap_of c) (heap_of b) (heap.Release p.name) after.1.heap)

pub taken_keeps : {sli : ℕ} (a b : Worker sli Queues) (source : ℕ) (answer : Option Took) → TakenFrom AsksQueue a b source answer → KeepsQueueYards a b
taken_keeps a b source answer t = keeps_then a t.between b (queues_keep_take a t.between t.post t.took) (after_keeps t.between b t.post answer t.then)

-- a queue that was seen empty shows no post
pub seen_empty : {sli : ℕ} (a v : Worker sli Queues) → SameButPorts a v → StopsAtQueue a.ports v.ports 0 → TakenFromQueue a v None
seen_empty a v same stops = record { between = v; post = None; took = (same, stops); then = (refl, refl) }

-- a drain ends where `most` posts were taken, or with a take that shows no post
pub queue_ends : {sli : ℕ} {N : Type 0} (admitted : N → ℕ → Type 0) (noted : N → ℕ → ℕ → Option ℕ → Took → N → Type 0) (last v : Worker sli Queues) (y : N) (most count : ℕ)
    → SourceEnds (queue_rules admitted noted) last v y 0 most count → ((count ≡ most) × (v ≡ last)) ⊎ ((count < most) × TakenFromQueue last v None)
queue_ends admitted noted last v y most count (inl e) = inl e
queue_ends admitted noted last v y most count (inr e) = inr (e.0, elim e.1 [ inl stopped ↦ seen_empty last v stopped.1 stopped.2 | inr none ↦ none ])

-- ---- a drain

pub all_queue_drained : {sli : ℕ} {N : Type 0} (admitted : N → ℕ → Type 0) (noted : N → ℕ → ℕ → Option ℕ → Took → N → Type 0) (a v : Worker sli Queues) (x y : N) (most : ℕ) (tooks : List Took) (d : Drained)
    → SourceNoted (queue_rules admitted noted) a v x y 0 most tooks → IsCountOf d tooks → DrainedQueue a v most d × KeepsQueueYards a v
all_queue_drained {sli} admitted noted a v x y most tooks d n count =
    let takes = takes_of (queue_rules admitted noted) a n.last x y 0 tooks n.turns in
    let heap = takes_heap AsksQueue a n.last 0 tooks takes in
    let keeps = turns_keep AsksQueue KeepsQueueYards keeps_all keeps_then taken_keeps a n.last 0 tooks takes in
    let end = queue_ends admitted noted n.last v y most (length tooks) n.end in (
      record {
        tooks = tooks;
        last = n.last;
        takes = takes;
        end = end;
        heap = elim end [ inl e ↦ ap heap_of e.1 ∙ heap | inr e ↦ none_heap AsksQueue n.last v 0 e.1 ∙ heap ];
        count = count;
      },
      elim end [ inl e ↦ subst (KeepsQueueYards a) (sym e.1) keeps | inr e ↦ keeps_then a n.last v keeps (taken_keeps n.last v 0 None e.1) ],
    )

-- ---- queues as ports

pub queues_keep_yards : {sli : ℕ} → Keeping {sli = sli} {P = Queues} (λ p j. (end : PosterEnd) × (queue_to p j ≡ Some end)) PutsIntoQueue KeepsQueueYards
queues_keep_yards = record {
  either = λ p j. end_or (queue_to p j);
  heap = queues_keep_heap;
  put = λ a v name answer same puts. queues_keep_put a v name.heap name puts.0 (same, puts.1);
}
