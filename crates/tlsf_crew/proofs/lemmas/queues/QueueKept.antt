-- A worker's own calls keep its place in a yard over queues.
use Rattle.tlsf_crew.proofs.Common.{◌≡◌, ℕ, Option, Some, None, Result, sym, ◌∙◌, ap, arith, refl, inl, inr, subst, cases_eq, Name, KeepsPoster, KeepsOwner, OwnerEnd, PosterEnd, Post, Worker, Queues, heap_of, SameButHeap, KeepsHeap, queue_to, queue_end_to, KnowsQueueYard, KeepsSlot, KeepsQueueYards, PosterEndPut, OwnEndTook}
use Rattle.tlsf_crew.proofs.lemmas.worker.OwnHeaps.{same_heap_keeps}
use Rattle.tlsf_crew.proofs.lemmas.worker.SameParts.{ports_heap}
use Rattle.tlsf_crew.proofs.lemmas.worker.Slots.{some_same}

-- ---- ends

pub same_owner : (o n : OwnerEnd) → n ≡ o → KeepsOwner o n
same_owner o n e = subst (KeepsOwner o) (sym e) (refl, refl, refl, refl, refl)

pub owner_then : (o m n : OwnerEnd) → KeepsOwner o m → KeepsOwner m n → KeepsOwner o n
owner_then o m n x y = (y.0 ∙ x.0, y.1 ∙ x.1, y.2 ∙ x.2, y.3 ∙ x.3, y.4 ∙ x.4)

pub slot_same : (o : Option PosterEnd) → KeepsSlot o o
slot_same None = tt
slot_same (Some p) = (refl, refl, refl, refl)

slot_is : (o s : Option PosterEnd) → s ≡ o → KeepsSlot o s
slot_is o s e = subst (KeepsSlot o) (sym e) (slot_same o)

slot_then : (o s t : Option PosterEnd) → KeepsSlot o s → KeepsSlot s t → KeepsSlot o t
slot_then None None None x y = tt
slot_then None None (Some r) x y = y
slot_then None (Some q) t x y = absurd x
slot_then (Some p) None t x y = absurd x
slot_then (Some p) (Some q) None x y = y
slot_then (Some p) (Some q) (Some r) x y = (y.0 ∙ x.0, y.1 ∙ x.1, y.2 ∙ x.2, y.3 ∙ x.3)

-- an end that stays
pub slot_kept : (o s : Option PosterEnd) (p : PosterEnd) → KeepsSlot o s → o ≡ Some p → (q : PosterEnd) × (s ≡ Some q) × KeepsPoster p q
slot_kept None s p k e = absurd cc
slot_kept (Some r) None p k e = absurd k
slot_kept (Some r) (Some q) p k e = (q, refl, subst (λ (r : PosterEnd). KeepsPoster r q) (some_same r p e) k)

pub slot_none : (o s : Option PosterEnd) → KeepsSlot o s → o ≡ None → s ≡ None
slot_none None None k e = refl
slot_none None (Some q) k e = absurd k
slot_none (Some p) s k e = absurd cc

-- ---- places in a yard

pub queues_keep_heap : {sli : ℕ} (a v : Worker sli Queues) → SameButHeap a v → KeepsHeap (heap_of a) (heap_of v) → KeepsQueueYards a v
queues_keep_heap a v same kept = record {
  number = same.0;
  heap = kept;
  own = same_owner a.ports.own v.ports.own (λ t. (same.1 t).own);
  posts = λ j. slot_is (queue_end_to a j) (queue_end_to v j) (λ t. queue_to (same.1 t) j);
}

pub keeps_all : {sli : ℕ} (a : Worker sli Queues) → KeepsQueueYards a a
keeps_all a = queues_keep_heap a a (refl, refl) (same_heap_keeps (heap_of a) (heap_of a) refl)

pub queues_keep_put : {sli : ℕ} (a v : Worker sli Queues) (j : ℕ) (name : Name) (answer : Result (Unit {0}) Name) → PosterEndPut a v j name answer → KeepsQueueYards a v
queues_keep_put a v j name answer put = record {
  number = put.0.0;
  heap = same_heap_keeps (heap_of a) (heap_of v) (ports_heap a v put.0);
  own = same_owner a.ports.own v.ports.own put.1.same;
  posts = λ k. elim (cases_eq k j) [
    | inl e ↦ rw (e, put.1.end_is, put.1.new_end_is) put.1.mailbox
    | inr e ↦ slot_is (queue_end_to a k) (queue_end_to v k) (put.1.others k e)
  ];
}

pub queues_keep_take : {sli : ℕ} (a v : Worker sli Queues) (answer : Option Post) → OwnEndTook a v answer → KeepsQueueYards a v
queues_keep_take a v answer took = record {
  number = took.0.0;
  heap = same_heap_keeps (heap_of a) (heap_of v) (ports_heap a v took.0);
  own = took.1.mailbox;
  posts = λ k. slot_is (queue_end_to a k) (queue_end_to v k) (ap (λ f. f k) took.1.same);
}

pub keeps_then : {sli : ℕ} (a b v : Worker sli Queues) → KeepsQueueYards a b → KeepsQueueYards b v → KeepsQueueYards a v
keeps_then a b v x y = record {
  number = y.number ∙ x.number;
  heap = (y.heap.0 ∙ x.heap.0, λ lawful. y.heap.1 (x.heap.1 lawful));
  own = owner_then a.ports.own b.ports.own v.ports.own x.own y.own;
  posts = λ j. slot_then (queue_end_to a j) (queue_end_to b j) (queue_end_to v j) (x.posts j) (y.posts j);
}

-- a worker that knows its yard goes on knowing it
pub knows_kept : {sli : ℕ} (n : ℕ) (a v : Worker sli Queues) → KeepsQueueYards a v → KnowsQueueYard n a → KnowsQueueYard n v
knows_kept n a v keeps k = record {
  few = k.few;
  self = omega (arith, keeps.number, k.self);
  own = (keeps.own.1 ∙ (k.own.0 ∙ sym keeps.number), keeps.own.2 ∙ k.own.1);
  to = λ j other.
      let old = k.to j (other.0, λ e. other.1 (e ∙ sym keeps.number)) in
      let kept = slot_kept (queue_end_to a j) (queue_end_to v j) old.0 (keeps.posts j) old.1 in
      (kept.0, kept.1, kept.2.1 ∙ (old.2 ∙ sym keeps.number));
  none = λ j far. slot_none (queue_end_to a j) (queue_end_to v j) (keeps.posts j) (k.none j (λ other. far (other.0, λ e. other.1 (e ∙ keeps.number))));
}
