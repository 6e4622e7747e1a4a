-- Settling the queues of a yard leaves the world that it shows.
use Rattle.tlsf_crew.proofs.Common.{◌≡◌, ◌≢◌, ◌<◌, ◌∙◌, ℕ, List, Some, None, drop, length, map, arith, inl, inr, refl, sym, ap, slice_get, cases_eq, cases_lt, length-map, same_lists, slice_get_past, posts_of, number_of, put_by, Worker, Queues, heap_of, queue_end_to, IsQueueYard, first_capacity, queue_capacity_in, queue_waits_in, queue_world_of, waits_of, EachQueueSettled, StaysPut}
use Rattle.tlsf_crew.proofs.lemmas.queues.QueueOpened.{map_at}
use Rattle.tlsf_crew.proofs.lemmas.worker.Slots.{some_at}
use Rattle.tlsf_crew.proofs.lemmas.queues.QueueSettled.{owner_none}

-- a worker before and after
record Kept {sli : ℕ} (ws vs : List (Worker sli Queues)) (i : ℕ) : Type 0 where
  old : Worker sli Queues
  new : Worker sli Queues
  old_is : slice_get ws i ≡ Some old
  new_is : slice_get vs i ≡ Some new
  stays : StaysPut old new

kept : {sli : ℕ} (ws vs : List (Worker sli Queues)) (n i : ℕ) → EachQueueSettled ws n vs → i < length ws → Kept ws vs i
kept ws vs n i s i_in =
    let a = some_at ws i i_in in
    let v = some_at vs i (omega (arith, s.count)) in
    record { old = a.0; new = v.0; old_is = a.1; new_is = v.1; stays = s.stays i a.0 v.0 a.1 v.1 }

heaps_stay : {sli : ℕ} (ws vs : List (Worker sli Queues)) (n : ℕ) → EachQueueSettled ws n vs → map heap_of vs ≡ map heap_of ws
heaps_stay ws vs n s =
    same_lists (map heap_of vs) (map heap_of ws) (length-map vs heap_of ∙ (s.count ∙ sym (length-map ws heap_of)))
    (λ k d k_in.
    let w = kept ws vs n k s (omega (arith, length-map vs heap_of, s.count)) in
    let same = w.stays in
    map_at vs k w.new d w.new_is ∙ ((λ t. (same.heap t).heap) ∙ sym (map_at ws k w.old d w.old_is)))

capacity_kept : {sli : ℕ} (ws vs : List (Worker sli Queues)) (n : ℕ) → EachQueueSettled ws n vs → queue_capacity_in vs ≡ queue_capacity_in ws
capacity_kept ws vs n s = elim (cases_lt 0 (length ws)) [
  | inl lt ↦ let w = kept ws vs n 0 s lt in let same = w.stays in ap first_capacity w.new_is ∙ (same.own.1 ∙ sym (ap first_capacity w.old_is))
  | inr ge ↦ ap first_capacity (slice_get_past vs 0 (omega (arith, s.count)) ∙ sym (slice_get_past ws 0 ge))
]

-- what waits of worker i in the queue of another
ends_kept : {sli : ℕ} (ws vs : List (Worker sli Queues)) (n i j : ℕ) → IsQueueYard ws → EachQueueSettled ws n vs → j < length ws → i ≢ j → (x : Kept ws vs i) (y : Kept ws vs j)
    → waits_of (Some y.new) (queue_end_to x.new j) ≡ waits_of (Some y.old) (queue_end_to x.old j)
ends_kept ws vs n i j yard s j_in ne x y =
    let was = yard.workers i x.old x.old_is in
    let after = s.yard in
    let is = after.workers i x.new x.new_is in
    let p = was.knows.to j (j_in, λ e. ne (sym (e ∙ was.number))) in
    let q = is.knows.to j (omega (arith, s.count), λ e. ne (sym (e ∙ is.number))) in
    let from : number_of q.0 ≡ number_of p.0 = q.2 ∙ (is.number ∙ sym (p.2 ∙ was.number)) in
    let owner = y.stays in
    let poster = x.stays in
    let put : put_by q.0 ≡ put_by p.0 = poster.put j p.0 q.0 p.1 q.1 in
    ap (waits_of (Some y.new)) q.1 ∙ ((λ t. drop (length (posts_of (from t) (owner.own.0 t))) (put t)) ∙ sym (ap (waits_of (Some y.old)) p.1))

waits_kept : {sli : ℕ} (ws vs : List (Worker sli Queues)) (n : ℕ) → IsQueueYard ws → EachQueueSettled ws n vs → (i j : ℕ) → queue_waits_in vs i j ≡ queue_waits_in ws i j
waits_kept {sli} ws vs n yard s i j = elim (cases_lt j (length ws)) [
  | inr ge ↦ rw (slice_get_past vs j (omega (arith, s.count)), slice_get_past ws j ge) refl
  | inl j_in ↦
      let y = kept ws vs n j s j_in in
      elim (cases_lt i (length ws)) [
        | inr ge ↦ rw (slice_get_past vs i (omega (arith, s.count)), slice_get_past ws i ge, y.new_is, y.old_is) refl
        | inl i_in ↦
            let x = kept ws vs n i s i_in in
            rw (x.new_is, x.old_is, y.new_is, y.old_is) (elim (cases_eq i j) [
              | inl e ↦
                  let new : queue_end_to x.new j ≡ None = ap (queue_end_to x.new) (sym e) ∙ owner_none vs i x.new s.yard x.new_is in
                  let old : queue_end_to x.old j ≡ None = ap (queue_end_to x.old) (sym e) ∙ owner_none ws i x.old yard x.old_is in
                  ap (waits_of (Some y.new)) new ∙ sym (ap (waits_of (Some y.old)) old)
              | inr ne ↦ ends_kept ws vs n i j yard s j_in ne x y
            ])
      ]
]

pub settled_world : {sli : ℕ} (ws vs : List (Worker sli Queues)) (n : ℕ) → IsQueueYard ws → EachQueueSettled ws n vs → queue_world_of vs ≡ queue_world_of ws
unfolding queue_world_of
settled_world ws vs n yard s =
    let heaps = heaps_stay ws vs n s in
    let waits = waits_kept ws vs n yard s in
    let capacity = capacity_kept ws vs n s in
    λ t. record { heaps = heaps t; waiting = λ i j. waits i j t; capacity = capacity t }
