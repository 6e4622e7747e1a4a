-- The yard that calls over queues leave, one after another.
use Rattle.tlsf_crew.proofs.Common.{[], ◌++◌, ◌≡◌, ℕ, List, Option, length, sym, ◌∙◌, ap, arith, inl, inr, subst, append_assoc, append-nil, length-append, Name, posts_of, put_by, got_by, known_to, Call, Entry, Worker, Queues, posts_made, posts_taken, id_of, queue_end_to, QueueMoved, queue_promise, AreMoves, IsPrefix, Plan}
use Rattle.tlsf_crew.proofs.lemmas.histories.JoinedEntries.{made_then, taken_then}
use Rattle.tlsf_crew.proofs.lemmas.scripts.ManyEntries.{stands_split}
use Rattle.tlsf_crew.proofs.lemmas.scripts.OneEntry.{no_entry}
use Rattle.tlsf_crew.proofs.lemmas.queues.QueueKept.{keeps_all, keeps_then, knows_kept, slot_kept}
use Rattle.tlsf_crew.proofs.lemmas.worker.Slots.{some_same}

-- ---- what calls leave

queue_moved_none : {sli : ℕ} (at : ℕ) (made : List (Option Name)) (a : Worker sli Queues) (limits : List ℕ) → QueueMoved at made a limits [] [] a limits
queue_moved_none at made a limits = record {
  yard = keeps_all a;
  sent = λ j p q is_p is_q. ap put_by (some_same q p (sym is_q ∙ is_p)) ∙ sym (append-nil (put_by p));
  taken = λ i. sym (append-nil (posts_of i (got_by a.ports.own)));
  drained = λ before e most k s. absurd (no_entry before e s);
  full = λ before e name p s. absurd (no_entry before e s);
  room = omega arith;
}

pub queue_moved_then : {sli : ℕ} (at : ℕ) (made : List (Option Name)) (a b v : Worker sli Queues) (limits mid left : List ℕ) (calls ds : List Call) (xs ys : List Entry) → QueueMoved at made a limits calls xs b mid
    → QueueMoved at made b mid ds ys v left → QueueMoved at made a limits (calls ++ ds) (xs ++ ys) v left
queue_moved_then at made a b v limits mid left calls ds xs ys x y =
    let got_of : (i : ℕ) (zs : List Entry) → posts_of i (got_by b.ports.own) ++ posts_taken i at zs ≡ posts_of i (got_by a.ports.own) ++ posts_taken i at (xs ++ zs) =
    λ i zs. ap (λ l. l ++ posts_taken i at zs) (x.taken i)
    ∙ (append_assoc (posts_of i (got_by a.ports.own)) (posts_taken i at xs) (posts_taken i at zs) ∙ ap (λ l. posts_of i (got_by a.ports.own) ++ l) (sym (taken_then i at xs zs))) in
    record {
      yard = keeps_then a b v x.yard y.yard;
      sent = λ j p q is_p is_q.
          let m = slot_kept (queue_end_to a j) (queue_end_to b j) p (x.yard.posts j) is_p in
          y.sent j m.0 q m.1 is_q ∙ (ap (λ l. l ++ posts_made at j made ys) (x.sent j p m.0 is_p m.1)
          ∙ (append_assoc (put_by p) (posts_made at j made xs) (posts_made at j made ys) ∙ ap (λ l. put_by p ++ l) (sym (made_then at j made xs ys))));
      taken = λ i. y.taken i ∙ got_of i ys;
      drained = λ before e most k s c r lt i. elim (stands_split xs ys before e s) [
        | inl u ↦ x.drained before e most k u c r lt i
        | inr u ↦
            let there = y.drained u.0 e most k u.2 c r lt i in
            subst (λ l. IsPrefix l (posts_of i (got_by a.ports.own) ++ posts_taken i at before)) (ap (posts_of i) x.yard.own.4)
            (subst (IsPrefix (posts_of i (known_to b.ports.own))) (got_of i u.0 ∙ ap (λ zs. posts_of i (got_by a.ports.own) ++ posts_taken i at zs) (sym u.1)) there)
      ];
      full = λ before e name p s r is_p only. elim (stands_split xs ys before e s) [
        | inl u ↦ x.full before e name p u r is_p only
        | inr u ↦
            let j = name.heap in
            let m = slot_kept (queue_end_to a j) (queue_end_to b j) p (x.yard.posts j) is_p in
            let k = m.2 in
            let there = y.full u.0 e name m.0 u.2 r m.1 (ap (λ (plan : Plan). plan.workers) k.2 ∙ only) in
            let put = ap length (x.sent j p m.0 is_p m.1) ∙ length-append (put_by p) (posts_made at j made xs) in
            let made_is = ap length (ap (posts_made at j made) u.1 ∙ made_then at j made xs u.0) ∙ length-append (posts_made at j made xs) (posts_made at j made u.0) in
            omega (arith, there, put, made_is, ap (λ (plan : Plan). plan.capacity) k.2, ap length k.3)
      ];
      room = omega (arith, x.room, y.room, length-append xs ys, length-append calls ds);
    }

pub queue_moves : {sli : ℕ} → AreMoves (queue_promise sli)
queue_moves = record {
  none = λ made a limits. queue_moved_none (id_of a) made a limits;
  then = queue_moved_then;
  number = λ at made a v limits left calls entries m. m.yard.number;
  known = λ at made a v limits left calls entries m n k. knows_kept n a v m.yard k;
  room = λ at made a v limits left calls entries m. m.room;
}
