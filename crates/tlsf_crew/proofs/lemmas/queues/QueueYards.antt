-- Each worker of a whole yard over queues has an end to each other queue. The yard stays whole where one takes the place of the one
-- that it was.
use Rattle.tlsf_crew.proofs.Common.{◌≡◌, ℕ, List, Option, Some, None, length, set, sym, ◌∙◌, ap, arith, refl, inl, inr, subst, slice_get, slice_get_past, slice_get_within, ◌↔◌, cases_eq, cases_lt, length-set, KeepsPoster, plan_for, PosterEnd, Worker, Queues, IsOther, IsHeapOf, heap_of, id_of, queue_end_to, HasQueueEnd, KnowsQueueYard, KeepsQueueYards, KeepsSlot, IsQueueYard, first_capacity, queue_capacity_in}
use Rattle.tlsf_crew.proofs.lemmas.worker.Slots.{get_set_same, get_set_other, none_or_some, some_same, some_at}
use Rattle.tlsf_crew.proofs.lemmas.queues.QueueKept.{keeps_all, knows_kept}

-- ---- one worker

pub queue_number : {sli : ℕ} (ws : List (Worker sli Queues)) (i : ℕ) (a : Worker sli Queues) → IsQueueYard ws → slice_get ws i ≡ Some a → id_of a ≡ i
queue_number ws i a yard is = let w = yard.workers i a is in w.number

pub own_queue_heap : {sli : ℕ} (ws : List (Worker sli Queues)) (i : ℕ) (a : Worker sli Queues) → IsQueueYard ws → slice_get ws i ≡ Some a → IsHeapOf i (heap_of a)
own_queue_heap ws i a yard is = let w = yard.workers i a is in w.heap

pub queues_joined : {sli : ℕ} (ws : List (Worker sli Queues)) (i j : ℕ) (a : Worker sli Queues) → IsQueueYard ws → slice_get ws i ≡ Some a → HasQueueEnd a j ↔ IsOther (length ws) i j
queues_joined ws i j a yard is =
    let w = yard.workers i a is in
    let k = w.knows in (
      (λ has. elim (cases_lt j (length ws)) [
        | inl lt ↦ elim (cases_eq j i) [
          | inl e ↦ absurd (none_or_some (queue_end_to a j) has.0 (k.none j (λ other. other.1 (e ∙ sym w.number))) has.1)
          | inr ne ↦ (lt, ne)
        ]
        | inr ge ↦ absurd (none_or_some (queue_end_to a j) has.0 (k.none j (λ other. let lt = other.0 in omega arith)) has.1)
      ]),
      (λ other. let end = k.to j (other.0, λ e. other.1 (e ∙ w.number)) in (end.0, end.1)),
    )

-- ---- one worker in the place of another

-- where an end is now there was one
slot_was : (o s : Option PosterEnd) (q : PosterEnd) → KeepsSlot o s → s ≡ Some q → (p : PosterEnd) × (o ≡ Some p) × KeepsPoster p q
slot_was None None q k e = absurd cc
slot_was None (Some r) q k e = absurd k
slot_was (Some p) None q k e = absurd k
slot_was (Some p) (Some r) q k e = (p, refl, subst (λ (z : PosterEnd). KeepsPoster p z) (some_same r q e) k)

-- the worker that was in a place, and what has stayed of it
pub record Was {sli : ℕ} (ws : List (Worker sli Queues)) (x : ℕ) (b : Worker sli Queues) : Type 0 where
  pub old : Worker sli Queues
  pub is : slice_get ws x ≡ Some old
  pub keeps : KeepsQueueYards old b

same_capacity : {sli : ℕ} (ws vs : List (Worker sli Queues)) → length vs ≡ length ws → ((x : ℕ) (b : Worker sli Queues) → slice_get vs x ≡ Some b → Was ws x b) → queue_capacity_in vs ≡ queue_capacity_in ws
same_capacity ws vs len was = elim (cases_lt 0 (length vs)) [
  | inl lt ↦
      let b = some_at vs 0 lt in
      let w = was 0 b.0 b.1 in
      ap first_capacity b.1 ∙ (w.keeps.own.3 ∙ sym (ap first_capacity w.is))
  | inr ge ↦ ap first_capacity (slice_get_past vs 0 ge) ∙ sym (ap first_capacity (slice_get_past ws 0 (omega (arith, len))))
]

-- each worker has stayed in its place
pub all_kept : {sli : ℕ} (ws vs : List (Worker sli Queues)) → IsQueueYard ws → length vs ≡ length ws → ((x : ℕ) (b : Worker sli Queues) → slice_get vs x ≡ Some b → Was ws x b) → IsQueueYard vs
all_kept ws vs yard len was =
    let room = same_capacity ws vs len was in
    record {
      level = yard.level;
      few = omega (arith, len, yard.few);
      small = omega (arith, room, yard.small);
      workers = λ x b at.
          let w = was x b at in
          let old = yard.workers x w.old w.is in
          record {
            number = w.keeps.number ∙ old.number;
            knows = subst (λ (n : ℕ). KnowsQueueYard n b) (sym len) (knows_kept (length ws) w.old b w.keeps old.knows);
            heap = (w.keeps.heap.0 ∙ old.heap.0, w.keeps.heap.1 old.heap.1);
            room = w.keeps.own.3 ∙ (old.room ∙ sym room);
          };
      mailboxes = λ x y b c q at_x at_y q_is.
          let w = was x b at_x in
          let u = was y c at_y in
          let p = slot_was (queue_end_to w.old y) (queue_end_to b y) q (w.keeps.posts y) q_is in
          let own = u.keeps.own in
          let m = yard.mailboxes x y w.old u.old p.0 w.is u.is p.1 in
          (p.2.0 ∙ (m.0 ∙ sym own.0), p.2.2 ∙ (m.1 ∙ (λ i. plan_for (sym own.1 i) (sym own.2 i) (sym own.3 i))));
    }

-- one worker has, and the others are the same
one_was : {sli : ℕ} (ws : List (Worker sli Queues)) (i : ℕ) (a v : Worker sli Queues) → slice_get ws i ≡ Some a → KeepsQueueYards a v → (x : ℕ) (b : Worker sli Queues) → slice_get (set ws i v) x ≡ Some b → Was ws x b
one_was ws i a v is keeps x b at = elim (cases_eq x i) [
  | inl e ↦
      let b_is : v ≡ b = some_same v b (sym (get_set_same ws i v (slice_get_within ws i a is)) ∙ (sym (ap (slice_get (set ws i v)) e) ∙ at)) in
      record { old = a; is = ap (slice_get ws) e ∙ is; keeps = subst (KeepsQueueYards a) b_is keeps }
  | inr ne ↦ record { old = b; is = sym (get_set_other ws i x v ne) ∙ at; keeps = keeps_all b }
]

pub queue_yard_kept : {sli : ℕ} (ws : List (Worker sli Queues)) (i : ℕ) (a v : Worker sli Queues) → IsQueueYard ws → slice_get ws i ≡ Some a → KeepsQueueYards a v → IsQueueYard (set ws i v)
queue_yard_kept ws i a v yard is keeps = all_kept ws (set ws i v) yard (length-set ws i v) (one_was ws i a v is keeps)
