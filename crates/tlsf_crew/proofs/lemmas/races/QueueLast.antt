-- The last drains of a race over queues, worker after worker, take all that was known to have been put, and are told.
use Rattle.tlsf_crew.proofs.Common.{[], ◌∷◌, ◌++◌, ◌≡◌, ◌≢◌, ℕ, ◌+◌, ◌<◌, ◌≤◌, List, Option, Some, length, set, sym, ◌∙◌, ap, subst, arith, refl, inl, inr, append_assoc, append-nil, get_or, get_or-set_other, cases_eq, length-map, length-set, map-set, slice_get_within, slice_get, Vec, Global, Name, posts_of, got_by, known_to, Entry, Drained, Stage, last_call, record_of, sum_of, posts_taken, post_of_take, Worker, Queues, id_of, queue_end_to, KeepsQueueYards, KnowsQueueYard, IsQueueYard, QueueStepped, entry_by, QueueLastDrained, EachQueueLastDrained, IsPrefix}
use Rattle.tlsf_crew.proofs.lemmas.races.LastDrains.{items_of, record_items}
use Rattle.tlsf_crew.proofs.lemmas.histories.JoinedEntries.{told_nothing, taken_then}
use Rattle.tlsf_crew.proofs.lemmas.worker.Slots.{get_set_other, get_set_same, some_same, some_at}
use Rattle.tlsf_crew.proofs.lemmas.queues.QueueYards.{all_kept}

-- ---- one worker

pub queue_drain_is_last : {sli : ℕ} (n : ℕ) (s t : Stage sli Queues) (at taken : ℕ) (longer : List Entry) → taken ≤ sum_of s.limits → sum_of s.limits < 8192 → at ≡ id_of t.worker
    → ((made : List (Option Name)) → QueueStepped n s last_call made t (Drained taken)) → queue_end_to t.worker ≡ queue_end_to s.worker
    → longer ≡ t.entries ++ entry_by at last_call (Drained taken) ∷ [] → QueueLastDrained n s.worker t.worker s.entries longer
queue_drain_is_last n s t at taken longer few less is step ends more =
    let a = s.worker in
    let x = step [] in
    let m = x.moved [] in
    let id : at ≡ id_of a = is ∙ m.yard.number in
    let z = entry_by (id_of a) last_call (Drained taken) in
    let g : longer ≡ t.entries ++ z ∷ [] = more ∙ ap (λ (i : ℕ). t.entries ++ entry_by i last_call (Drained taken) ∷ []) id in
    record {
      own = x.own ++ z ∷ [];
      entries_are = g ∙ (ap (λ l. l ++ z ∷ []) x.entries_are ∙ append_assoc s.entries x.own (z ∷ []));
      told = λ made. let y = step made in rw g y.told;
      limits = s.limits;
      left = t.limits;
      moved = λ made. x.moved made;
      all = λ i.
          let at_end = m.drained x.own z 8192 taken ([], refl) refl refl (omega arith) i in
          let no_take = told_nothing (λ e. post_of_take i e.call e.reply) (id_of a) z refl in
          let taken_is : posts_taken i (id_of a) (x.own ++ z ∷ []) ≡ posts_taken i (id_of a) x.own
          = taken_then i (id_of a) x.own (z ∷ []) ∙ (ap (λ l. posts_taken i (id_of a) x.own ++ l) no_take ∙ append-nil (posts_taken i (id_of a) x.own)) in
          subst (IsPrefix (posts_of i (known_to a.ports.own))) (sym (m.taken i ∙ ap (λ l. posts_of i (got_by a.ports.own) ++ l) taken_is)) at_end;
      ends = ends;
    }

-- ---- all workers

pub queue_drain_next : {sli : ℕ} (ws us : List (Worker sli Queues)) (rs ss : List (Vec Entry Global)) (j : ℕ) (u w : Worker sli Queues) (r s : Vec Entry Global) → EachQueueLastDrained ws (items_of rs) (items_of ss) us j → slice_get us j ≡ Some u
    → slice_get ss j ≡ Some r → slice_get rs j ≡ Some r → ((n : ℕ) → KnowsQueueYard n u → QueueLastDrained n u w r.items s.items) → EachQueueLastDrained ws (items_of rs) (items_of (set ss j s)) (set us j w) (j + 1)
queue_drain_next {sli} ws us rs ss j u w r s x at here there step =
    let j_in = slice_get_within us j u at in
    let le : j ≤ j = omega arith in
    let was : slice_get ws j ≡ Some u = sym (x.later_workers j le) ∙ at in
    let s_in = slice_get_within ss j r here in
    record {
      worker_count = length-set us j w ∙ x.worker_count;
      record_count = length-map (set ss j s) (λ (e : Vec Entry Global). e.items) ∙ (length-set ss j s ∙ (sym (length-map ss (λ (e : Vec Entry Global). e.items)) ∙ x.record_count));
      drained = λ k a lt is. elim (cases_eq k j) [
        | inl e ↦
            let a_is : u ≡ a = some_same u a (sym was ∙ (sym (ap (slice_get ws) e) ∙ is)) in
            let before : r.items ≡ record_of (items_of rs) k = sym (ap (record_of (items_of rs)) e ∙ record_items rs j r there) in
            let after : s.items ≡ record_of (items_of (set ss j s)) k = sym (ap (record_of (items_of (set ss j s))) e ∙ record_items (set ss j s) j s (get_set_same ss j s s_in)) in (
              w,
              ap (slice_get (set us j w)) e ∙ get_set_same us j w j_in,
              λ n known. subst (λ (z : Worker sli Queues × List Entry × List Entry). QueueLastDrained n z.0 w z.1 z.2) (λ t. (a_is t, before t, after t)) (step n (subst (KnowsQueueYard n) (sym a_is) known)),
            )
        | inr ne ↦
            let below : k < j = omega arith in
            let o = x.drained k a below is in
            let same : record_of (items_of ss) k ≡ record_of (items_of (set ss j s)) k
            = sym (ap (λ (l : List (List Entry)). get_or l k []) (map-set (λ (e : Vec Entry Global). e.items) ss j s) ∙ get_or-set_other (items_of ss) j k s.items [] ne) in
            (o.0, get_set_other us j k w ne ∙ o.1, λ n known. subst (QueueLastDrained n a o.0 (record_of (items_of rs) k)) same (o.2 n known))
      ];
      later_workers = λ k after. let ne : k ≢ j = (λ e. omega arith) in get_set_other us j k w ne ∙ x.later_workers k (omega arith);
    }

-- the yard is whole then
pub drained_yard : {sli : ℕ} (ws : List (Worker sli Queues)) (rs ss : List (List Entry)) (vs : List (Worker sli Queues)) → IsQueueYard ws → EachQueueLastDrained ws rs ss vs (length ws) → IsQueueYard vs
drained_yard {sli} ws rs ss vs yard x = all_kept ws vs yard x.worker_count (λ j v is.
    let a = some_at ws j (omega (arith, slice_get_within vs j v is, x.worker_count)) in
    let o = x.drained j a.0 (slice_get_within ws j a.0 a.1) a.1 in
    let w = yard.workers j a.0 a.1 in
    let d = o.2 (length ws) w.knows in
    let m = d.moved [] in
    record { old = a.0; is = a.1; keeps = subst (λ (z : Worker sli Queues). KeepsQueueYards a.0 z) (some_same o.0 v (sym o.1 ∙ is)) m.yard })
