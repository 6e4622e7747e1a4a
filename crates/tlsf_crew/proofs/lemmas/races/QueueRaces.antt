-- A race over queues leads from the yard that was handed in to the one that comes back. Each record is legal, and each two agree.
use Rattle.tlsf_crew.proofs.Common.{◌==◌, true, false, [], ◌∷◌, ◌++◌, ◌≡◌, ◌≢◌, ℕ, ◌+◌, ◌<◌, ◌≤◌, List, Some, None, All, length, map, drop, sym, ◌∙◌, ap, subst, arith, refl, inl, inr, append_assoc, append-nil, length-append, length-drop, slice_get, cases_eq, cases_lt, nat_tests, append_cancel_left, length-map, nil_from_length, same_from_push, All-nil, All-cons, All-tail, get_or_from_slice_get, slice_get_past, slice_get_within, HeapState, Name, posts_of, number_of, put_by, gone_from, plan_of, got_by, known_to, most_of, IsOnlyPoster, Post, PosterEnd, Call, Drain, Entry, Full, Drained, Refused, StandsBehind, posts_made, posts_taken, Progress, untold, heap_in, no_heap, last_call, script_of, record_of, Worker, Queues, heap_of, id_of, queue_end_to, KeepsQueueYards, KnowsQueueYard, IsQueueYard, first_capacity, queue_capacity_in, queue_end_in, queue_waits_in, queue_world_of, waits_of, MayTellQueue, with_takes, AgreeQueue, IsLegalQueue, IsQueueRace, QueueKnown, EachQueueSettled, StaysPut, end_at, QueueLastDrained, SettledAndDrained, EachQueueWorkerRan, QueueWorkerRan, IsPrefix, Plan, of_append}
use Rattle.tlsf_crew.specs.scripts.QueueMoves.{told_of}
use Rattle.tlsf_crew.proofs.lemmas.jobs.Gathering.{map_at}
use Rattle.tlsf_crew.proofs.lemmas.histories.JoinedEntries.{made_then, taken_then}
use Rattle.tlsf_crew.proofs.lemmas.scripts.ManyEntries.{prefix_then, stands_split}
use Rattle.tlsf_crew.proofs.lemmas.worker.Slots.{some_same, some_at}
use Rattle.tlsf_crew.proofs.lemmas.races.QueueAgree.{whole_taken, queue_drained_early, queue_nothing_waits, queue_posts_agree}
use Rattle.tlsf_crew.proofs.lemmas.queues.QueueKept.{slot_kept}
use Rattle.tlsf_crew.proofs.lemmas.scripts.ScriptRuns.{tell_more}
use Rattle.tlsf_crew.proofs.lemmas.queues.QueueSettled.{own_end}
use Rattle.tlsf_crew.proofs.lemmas.races.QueueTakes.{DrainTold, drain_entry, drain_unfilled, end_takes, no_more_posts, none_of_others}
use Rattle.tlsf_crew.proofs.lemmas.queues.QueueYards.{all_kept}

-- ---- the yard

-- the yard stays whole while the scripts run
pub ran_yard : {sli : ℕ} (ws : List (Worker sli Queues)) (scripts : List (List Call)) (rs : List (List Entry)) (vs : List (Worker sli Queues)) → IsQueueYard ws → EachQueueWorkerRan ws scripts rs vs → IsQueueYard vs
ran_yard {sli} ws scripts rs vs yard x = all_kept ws vs yard x.worker_count (λ j v is.
    let a = some_at ws j (omega (arith, slice_get_within vs j v is, x.worker_count)) in
    let o = x.ran j a.0 a.1 in
    let w = yard.workers j a.0 a.1 in
    let d = o.2 (length ws) w.knows in
    let m = d.run.moved [] in
    record { old = a.0; is = a.1; keeps = subst (λ (z : Worker sli Queues). KeepsQueueYards a.0 z) (some_same o.0 v (sym o.1 ∙ is)) m.yard })

-- ---- what one worker has put for another

-- worker i's end to queue j, at the beginning, when the queues were settled, and at the end
record SentOn {sli : ℕ} (zs : List (Worker sli Queues)) (i j : ℕ) (start settled back : Worker sli Queues) (made : List Post) : Type 0 where
  put : List Post
  given : PosterEnd
  given_is : end_at zs i j ≡ Some given
  given_number : number_of given ≡ i
  given_put : put_by given ≡ put
  first : PosterEnd
  first_is : queue_end_to start j ≡ Some first
  first_put : put_by first ≡ put
  second : PosterEnd
  second_is : queue_end_to settled j ≡ Some second
  second_put : put_by second ≡ put ++ made
  third : PosterEnd
  third_is : queue_end_to back j ≡ Some third
  third_put : put_by third ≡ put ++ made
  third_number : number_of third ≡ i

-- an end of a worker of a whole yard to another
yard_end : {sli : ℕ} (ws : List (Worker sli Queues)) (i j : ℕ) (a : Worker sli Queues) → IsQueueYard ws → slice_get ws i ≡ Some a → j < length ws → i ≢ j → (p : PosterEnd) × (queue_end_to a j ≡ Some p) × (number_of p ≡ i)
yard_end ws i j a yard is j_in ne =
    let w = yard.workers i a is in
    let k = w.knows in
    let o = k.to j (j_in, λ e. ne (sym (e ∙ w.number))) in
    (o.0, o.1, o.2 ∙ w.number)

none_more : {X : Type 0} (xs ys : List X) → xs ≡ xs ++ ys → ys ≡ []
none_more xs ys e = nil_from_length ys (omega (arith, ap length e, length-append xs ys))

-- ---- posts and their posters

all_by_poster : (i : ℕ) (ps : List Post) → All (λ (post : Post). post.from ≡ i) (posts_of i ps)
all_by_poster i [] = All-nil (λ (post : Post). post.from ≡ i)
all_by_poster i (p ∷ ps) = elim (cases_eq p.from i) [
  | inl e ↦ let b : (p.from == i) ≡ true = grind (arith, nat_tests) in rw b (All-cons (λ (post : Post). post.from ≡ i) p (posts_of i ps) e (all_by_poster i ps))
  | inr ne ↦ let b : (p.from == i) ≡ false = grind (arith, nat_tests) in rw b (all_by_poster i ps)
]

all_behind : {X : Type 0} (P : X → Type 0) (xs ys : List X) → All P (xs ++ ys) → All P ys
all_behind P [] ys all = all
all_behind P (x ∷ xs) ys all = all_behind P xs ys (All-tail P x (xs ++ ys) all)

-- ---- what waits

waits_are : {sli : ℕ} (ws : List (Worker sli Queues)) (i j : ℕ) (b : Worker sli Queues) (p : PosterEnd) → slice_get ws j ≡ Some b → end_at ws i j ≡ Some p → number_of p ≡ i
    → queue_waits_in ws i j ≡ drop (length (posts_of i (got_by b.ports.own))) (put_by p)
waits_are ws i j b p b_is p_is number = (λ t. waits_of (b_is t) (p_is t)) ∙ ap (λ (k : ℕ). drop (length (posts_of k (got_by b.ports.own))) (put_by p)) number

-- where all that waits is known
record Seen (i : ℕ) (got put : List Post) : Type 0 where
  waiting : List Post
  is : put ≡ posts_of i (got ++ waiting)

seen : {sli : ℕ} (vs : List (Worker sli Queues)) (i j : ℕ) (v b : Worker sli Queues) (q : PosterEnd) (got put : List Post) → QueueKnown vs j → slice_get vs i ≡ Some v → slice_get vs j ≡ Some b → queue_end_to v j ≡ Some q
    → got_by b.ports.own ≡ got → put_by q ≡ put → Seen i got put
seen vs i j v b q got put k v_is b_is q_is got_is put_is =
    let o = k.order b b_is in
    record { waiting = o.0; is = sym put_is ∙ (sym (k.known i v b q v_is b_is q_is) ∙ (o.1 i ∙ ap (λ g. posts_of i (g ++ o.0)) got_is)) }

-- all that matters of two workers
record Pair (i j : ℕ) (got empty put whole : List Post) (made : List Post) (ss : List Entry) : Type 0 where
  start : Seen i got put
  end : Seen i empty whole
  all : IsPrefix whole (posts_of i empty)
  whole_is : whole ≡ put ++ made
  took : posts_of i empty ≡ posts_of i got ++ posts_taken i j ss

-- the capacity of a queue, as its owner knows it before the threads
given_room : {sli : ℕ} (zs : List (Worker sli Queues)) (j : ℕ) (a : Worker sli Queues) → IsQueueYard zs → slice_get zs j ≡ Some a → most_of a.ports.own ≡ queue_capacity_in zs
given_room zs j a yard is = let w = yard.workers j a is in w.room

heap_of_heap : {sli : ℕ} (a v : Worker sli Queues) → v.heap ≡ a.heap → heap_of v ≡ heap_of a
heap_of_heap a v e = ap (λ h. h.heap) e

-- what is taken of worker i by the script, and by all calls
record TookOf (i j : ℕ) (got settled empty : List Post) (rs ss : List Entry) : Type 0 where
  script : posts_of i settled ≡ posts_of i got ++ posts_taken i j rs
  all : posts_of i empty ≡ posts_of i got ++ posts_taken i j ss

heap_there : {sli : ℕ} (ws : List (Worker sli Queues)) (j : ℕ) (a : Worker sli Queues) → slice_get ws j ≡ Some a → heap_in (queue_world_of ws) j ≡ heap_of a
unfolding queue_world_of
heap_there ws j a is = get_or_from_slice_get (map heap_of ws) j (heap_of a) no_heap (map_at heap_of ws j a is)

-- ---- a whole race

-- the yard was given, and settled before the threads; the workers ran their scripts, were settled, drained and settled again
module _ {sli : ℕ} (zs ws vs ts : List (Worker sli Queues)) (scripts : List (List Call)) (rs ss : List (List Entry)) (yard : IsQueueYard zs) (s : EachQueueSettled zs (length zs) ws) (run : EachQueueWorkerRan ws scripts rs vs) (done : SettledAndDrained vs rs ss ts) where
  -- ---- one worker on its way

  record Way (j : ℕ) : Type 0 where
    given : Worker sli Queues
    given_is : slice_get zs j ≡ Some given
    start : Worker sli Queues
    start_is : slice_get ws j ≡ Some start
    ran : Worker sli Queues
    settled : Worker sli Queues
    settled_is : slice_get done.settled j ≡ Some settled
    empty : Worker sli Queues
    back : Worker sli Queues
    back_is : slice_get ts j ≡ Some back
    number : id_of start ≡ j
    later_number : id_of settled ≡ j
    first : StaysPut given start
    ran_so : QueueWorkerRan (length zs) start (script_of scripts j) (run.made j) (record_of rs j) ran
    second : StaysPut ran settled
    last : QueueLastDrained (length zs) settled empty (record_of rs j) (record_of ss j)
    third : StaysPut empty back

  way : (j : ℕ) → j < length zs → Way j
  way j j_in =
      let f = done.first in
      let d = done.drained in
      let l = done.last in
      let n : length ws ≡ length zs = s.count in
      let m : length done.settled ≡ length zs = f.count ∙ (run.worker_count ∙ n) in
      let a = some_at zs j j_in in
      let b = some_at ws j (omega (arith, n)) in
      let c = run.ran j b.0 b.1 in
      let e = some_at done.settled j (omega (arith, m)) in
      let g = d.drained j e.0 (omega (arith, m)) e.1 in
      let h = some_at ts j (omega (arith, l.count, d.worker_count, m)) in
      let yard_start = s.yard in
      let yard_settled = f.yard in
      let w = yard_start.workers j b.0 b.1 in
      let u = yard_settled.workers j e.0 e.1 in
      record {
        given = a.0;
        given_is = a.1;
        start = b.0;
        start_is = b.1;
        ran = c.0;
        settled = e.0;
        settled_is = e.1;
        empty = g.0;
        back = h.0;
        back_is = h.1;
        number = w.number;
        later_number = u.number;
        first = s.stays j a.0 b.0 a.1 b.1;
        ran_so = c.2 (length zs) (subst (λ (k : ℕ). KnowsQueueYard k b.0) n w.knows);
        second = f.stays j c.0 e.0 c.1 e.1;
        last = g.2 (length zs) (subst (λ (k : ℕ). KnowsQueueYard k e.0) m u.knows);
        third = l.stays j g.0 h.0 g.1 h.1;
      }

  sent_on : (i j : ℕ) → j < length zs → i ≢ j → (x : Way i)
      → SentOn zs i j x.start x.settled x.back (posts_made i j (run.made i ++ None ∷ []) (record_of ss i))
  sent_on i j j_in ne x =
      let f = done.first in
      let d = done.drained in
      let l = done.last in
      let names = run.made i ++ None ∷ [] in
      let m : length done.settled ≡ length zs = f.count ∙ (run.worker_count ∙ s.count) in
      let p = yard_end zs i j x.given yard x.given_is j_in ne in
      let q = yard_end ws i j x.start s.yard x.start_is (omega (arith, s.count)) ne in
      let r = yard_end done.settled i j x.settled f.yard x.settled_is (omega (arith, m)) ne in
      let t = yard_end ts i j x.back l.yard x.back_is (omega (arith, l.count, d.worker_count, m)) ne in
      let moved = x.ran_so.run.moved (None ∷ []) in
      let mid = slot_kept (queue_end_to x.start j) (queue_end_to x.ran j) q.0 (moved.yard.posts j) q.1 in
      let last = x.last in
      let emptied : queue_end_to x.empty j ≡ Some r.0 = ap (λ g. g j) last.ends ∙ r.1 in
      let put = put_by p.0 in
      let first : put_by q.0 ≡ put = x.first.put j p.0 q.0 p.1 q.1 in
      let own = posts_made i j names last.own in
      let scripted = posts_made i j names (record_of rs i) in
      let second : put_by r.0 ≡ put ++ scripted
      = x.second.put j mid.0 r.0 mid.1 r.1 ∙ (subst (λ (k : ℕ). put_by mid.0 ≡ put_by q.0 ++ posts_made k j names (record_of rs i)) x.number (moved.sent j q.0 mid.0 q.1 mid.1) ∙ ap (λ g. g ++ scripted) first) in
      let at_end = last.moved names in
      let none : own ≡ [] = none_more (put_by r.0) own (subst (λ (k : ℕ). put_by r.0 ≡ put_by r.0 ++ posts_made k j names last.own) x.later_number (at_end.sent j r.0 r.0 r.1 emptied)) in
      let all : posts_made i j names (record_of ss i) ≡ scripted
      = ap (posts_made i j names) last.entries_are ∙ (made_then i j names (record_of rs i) last.own ∙ (ap (λ g. scripted ++ g) none ∙ append-nil scripted)) in
      let whole : put_by r.0 ≡ put ++ posts_made i j names (record_of ss i) = second ∙ ap (λ g. put ++ g) (sym all) in
      record {
        put = put;
        given = p.0;
        given_is = ap (λ o. queue_end_in o j) x.given_is ∙ p.1;
        given_number = p.2;
        given_put = refl;
        first = q.0;
        first_is = q.1;
        first_put = first;
        second = r.0;
        second_is = r.1;
        second_put = whole;
        third = t.0;
        third_is = t.1;
        third_put = x.third.put j r.0 t.0 emptied t.1 ∙ whole;
        third_number = t.2;
      }

  -- ---- what the other took

  took_of : (i j : ℕ) (y : Way j)
      → TookOf i j (got_by y.given.ports.own) (got_by y.settled.ports.own) (got_by y.empty.ports.own) (record_of rs j) (record_of ss j)
  took_of i j y =
      let script = record_of rs j in
      let got = posts_of i (got_by y.given.ports.own) in
      let m = y.ran_so.run.moved [] in
      let l = y.last.moved [] in
      let own = y.last.own in
      let first : posts_of i (got_by y.settled.ports.own) ≡ got ++ posts_taken i j script
      = ap (posts_of i) y.second.own.0 ∙ (subst (λ (k : ℕ). posts_of i (got_by y.ran.ports.own) ≡ posts_of i (got_by y.start.ports.own) ++ posts_taken i k script) y.number (m.taken i)
      ∙ ap (λ g. posts_of i g ++ posts_taken i j script) y.first.own.0) in
      record {
        script = first;
        all = subst (λ (k : ℕ). posts_of i (got_by y.empty.ports.own) ≡ posts_of i (got_by y.settled.ports.own) ++ posts_taken i k own) y.later_number (l.taken i)
            ∙ (ap (λ g. g ++ posts_taken i j own) first
            ∙ (append_assoc got (posts_taken i j script) (posts_taken i j own)
            ∙ ap (λ g. got ++ g) (sym (taken_then i j script own) ∙ ap (posts_taken i j) (sym y.last.entries_are))));
      }

  -- ---- two records

  pair : (i j : ℕ) → j < length zs → (x : Way i) → (y : Way j) → (made : List Post) → (t : SentOn zs i j x.start x.settled x.back made)
      → Pair i j (got_by y.given.ports.own) (got_by y.empty.ports.own) t.put (t.put ++ made) made (record_of ss j)
  pair i j j_in x y made t =
      let f = done.first in
      let d = done.drained in
      let l = done.last in
      let m : length vs ≡ length zs = run.worker_count ∙ s.count in
      let n : length done.emptied ≡ length zs = d.worker_count ∙ (f.count ∙ m) in
      let known = f.known j (omega (arith, m)) in
      let at_settled : posts_of i (known_to y.settled.ports.own) ≡ t.put ++ made = known.known i x.settled y.settled t.second x.settled_is y.settled_is t.second_is ∙ t.second_put in
      let took = took_of i j y in
      record {
        start = seen ws i j x.start y.start t.first (got_by y.given.ports.own) t.put (s.known j j_in) x.start_is y.start_is t.first_is y.first.own.0 t.first_put;
        end = seen ts i j x.back y.back t.third (got_by y.empty.ports.own) (t.put ++ made) (l.known j (omega (arith, n))) x.back_is y.back_is t.third_is y.third.own.0 t.third_put;
        all = subst (λ g. IsPrefix g (posts_of i (got_by y.empty.ports.own))) at_settled (y.last.all i);
        whole_is = refl;
        took = took.all;
      }

  -- a drain that ended early
  early_drain : (i j : ℕ) → j < length zs → (x : Way i) → (y : Way j) → (made : List Post) → (t : SentOn zs i j x.start x.settled x.back made)
      → (before : List Entry) (e : Entry) (most k : ℕ) → StandsBehind (record_of ss j) before e → e.call ≡ Drain most → e.reply ≡ Drained k → k < most
      → IsPrefix t.put (posts_of i (got_by y.given.ports.own) ++ posts_taken i j before)
  early_drain i j j_in x y made t before e most k stands call reply less =
      let got = posts_of i (got_by y.given.ports.own) in
      let f = done.first in
      let last = y.last in
      let script = record_of rs j in
      let here = subst (λ (es : List Entry). StandsBehind es before e) last.entries_are stands in
      elim (stands_split script last.own before e here) [
        | inl u ↦
            let m = y.ran_so.run.moved [] in
            let known = s.known j j_in in
            let put_is : posts_of i (known_to y.start.ports.own) ≡ t.put = known.known i x.start y.start t.first x.start_is y.start_is t.first_is ∙ t.first_put in
            subst (λ (z : List Post × List Post × ℕ). IsPrefix z.0 (posts_of i z.1 ++ posts_taken i z.2 before)) (λ a. (put_is a, y.first.own.0 a, y.number a)) (m.drained before e most k u call reply less i)
        | inr u ↦
            let l = last.moved [] in
            let known = f.known j (omega (arith, run.worker_count, s.count)) in
            let whole : posts_of i (known_to y.settled.ports.own) ≡ t.put ++ made = known.known i x.settled y.settled t.second x.settled_is y.settled_is t.second_is ∙ t.second_put in
            let took = took_of i j y in
            let there : posts_of i (got_by y.settled.ports.own) ++ posts_taken i j u.0 ≡ got ++ posts_taken i j before
            = ap (λ g. g ++ posts_taken i j u.0) took.script ∙ (append_assoc got (posts_taken i j script) (posts_taken i j u.0) ∙ ap (λ g. got ++ g) (sym (taken_then i j script u.0) ∙ ap (posts_taken i j) (sym u.1))) in
            let p : IsPrefix (t.put ++ made) (posts_of i (got_by y.settled.ports.own) ++ posts_taken i j u.0)
            = subst (λ (z : List Post × ℕ). IsPrefix z.0 (posts_of i (got_by y.settled.ports.own) ++ posts_taken i z.1 u.0)) (λ a. (whole a, y.later_number a)) (l.drained u.0 e most k u.2 call reply less i) in
            prefix_then t.put (t.put ++ made) (got ++ posts_taken i j before) (made, refl) (subst (IsPrefix (t.put ++ made)) there p)
      ]

  -- ---- a full queue

  -- worker i settled the queue of worker j full, and nobody else posts into it
  found_full : (i j : ℕ) → j < length zs → (x : Way i) → (y : Way j) → (all : List Post) → (t : SentOn zs i j x.start x.settled x.back all)
      → length zs ≡ 2 → (before : List Entry) (e : Entry) (name : Name) → StandsBehind (record_of ss i) before e → e.reply ≡ Refused (Full name) → name.heap ≡ j
      → queue_capacity_in zs ≤ length (drop (length (posts_of i (got_by y.given.ports.own))) t.put) + length (posts_made i j (run.made i ++ None ∷ []) before)
  found_full i j j_in x y all t two before e name stands r at_j =
      let names = run.made i ++ None ∷ [] in
      let last = x.last in
      let drain = last.told (run.made i) in
      let here = drain_unfilled (id_of x.settled) (told_of (run.made i) (record_of rs i) (heap_of x.settled)) (told_of names (record_of ss i) (heap_of x.empty)) drain.0 before e name drain.3 stands r in
      let moved = x.ran_so.run.moved (None ∷ []) in
      let yard_start = s.yard in
      let box = yard_start.mailboxes i j x.start y.start t.first x.start_is y.start_is t.first_is in
      let w = yard_start.workers j y.start y.start_is in
      let k = w.knows in
      let only : IsOnlyPoster t.first = ap (λ (plan : Plan). plan.workers) box.1 ∙ (k.own.1 ∙ (s.count ∙ two)) in
      let found = moved.full before e name t.first here r (ap (queue_end_to x.start) at_j ∙ t.first_is) only in
      let made_is : posts_made (id_of x.start) name.heap names before ≡ posts_made i j names before = λ a. posts_made (x.number a) (at_j a) names before in
      let known = s.known j j_in in
      let gone : gone_from t.first ≡ posts_of i (got_by y.given.ports.own) = known.gone i x.start y.start t.first x.start_is y.start_is t.first_is ∙ ap (posts_of i) y.first.own.0 in
      let room : (plan_of t.first).capacity ≡ queue_capacity_in zs = ap (λ (plan : Plan). plan.capacity) box.1 ∙ (y.first.own.1 ∙ given_room zs j y.given yard y.given_is) in
      omega (arith, found, ap length made_is, ap length gone, room, ap length t.first_put, length-drop (length (posts_of i (got_by y.given.ports.own))) t.put)

  -- ---- the last drain

  -- of each poster the last drain of worker j took no more than had waited in its queue when the scripts were done
  took_waiting : (p j : ℕ) → p < length zs → j < length zs → p ≢ j → (y : Way j) → (posts waiting : List Post)
      → DrainTold (id_of y.settled) (told_of (run.made j) (record_of rs j) (heap_of y.settled)) posts (told_of (run.made j ++ None ∷ []) (record_of ss j) (heap_of y.empty))
      → ((p : ℕ) → posts_of p (known_to y.settled.ports.own) ≡ posts_of p (got_by y.settled.ports.own ++ waiting)) → posts_of p posts ≡ posts_of p waiting
  took_waiting p j p_in j_in ne y posts waiting drain order =
      let at = id_of y.settled in
      let x = way p p_in in
      let made = posts_made p j (run.made p ++ None ∷ []) (record_of ss p) in
      let t = sent_on p j j_in ne x in
      let both = pair p j j_in x y made t in
      let f = done.first in
      let known = f.known j (omega (arith, run.worker_count, s.count)) in
      let whole = t.put ++ made in
      let got = got_by y.settled.ports.own in
      let at_settled : whole ≡ posts_of p got ++ posts_of p waiting
      = sym (known.known p x.settled y.settled t.second x.settled_is y.settled_is t.second_is ∙ t.second_put) ∙ (order p ∙ of_append p got waiting) in
      let moved = y.last.moved [] in
      let own = y.last.own in
      let script = record_of rs j in
      let took : posts_taken p at own ≡ posts_of p posts
      = append_cancel_left (posts_taken p at script) (posts_taken p at own) (posts_of p posts)
      (sym (taken_then p at script own) ∙ (ap (posts_taken p at) (sym y.last.entries_are) ∙ end_takes p at (told_of (run.made j) script (heap_of y.settled)) (told_of (run.made j ++ None ∷ []) (record_of ss j) (heap_of y.empty)) posts drain)) in
      let at_end : posts_of p (got_by y.empty.ports.own) ≡ posts_of p got ++ posts_of p posts = moved.taken p ∙ ap (λ l. posts_of p got ++ l) took in
      let here : whole ≡ posts_of p (got_by y.empty.ports.own) = whole_taken p (got_by y.empty.ports.own) both.end.waiting whole both.end.is both.all in
      append_cancel_left (posts_of p got) (posts_of p posts) (posts_of p waiting) (sym at_end ∙ (sym here ∙ at_settled))

  last_few : (j : ℕ) → j < length zs → (before : List Entry) (k : ℕ) → record_of ss j ≡ before ++ record { worker = j; call = last_call; reply = Drained k } ∷ [] → k ≤ queue_capacity_in zs
  last_few j j_in before k is =
      let n = length zs in
      let y = way j j_in in
      let at = id_of y.settled in
      let drain = y.last.told (run.made j) in
      let posts = drain.0 in
      let start = told_of (run.made j) (record_of rs j) (heap_of y.settled) in
      let ends = same_from_push (with_takes at start posts).entries before (drain_entry at posts) (record { worker = j; call = last_call; reply = Drained k }) (sym (ap (λ (t : Progress). t.entries) drain.3) ∙ is) in
      let reply : Drained (length posts) ≡ Drained k = ap (λ (e : Entry). e.reply) ends.1 in
      let count : length posts ≡ k = cc in
      let f = done.first in
      let known = f.known j (omega (arith, run.worker_count, s.count)) in
      let order = known.order y.settled y.settled_is in
      let waiting = order.0 in
      let each : (p : ℕ) → length (posts_of p posts) ≤ length (posts_of p waiting) = λ p. elim (cases_lt p n) [
        | inl p_in ↦ elim (cases_eq p j) [
          | inl e ↦ let none = ap length (none_of_others n at p posts drain.1 (λ other. other.1 (e ∙ sym y.later_number))) in omega (arith, none)
          | inr ne ↦ let same = ap length (took_waiting p j p_in j_in ne y posts waiting drain.3 order.1) in omega (arith, same)
        ]
        | inr ge ↦ let none = ap length (none_of_others n at p posts drain.1 (λ other. let lt = other.0 in omega arith)) in omega (arith, none)
      ] in
      let self : length posts ≤ length posts = omega arith in
      let few = no_more_posts (length posts) posts waiting self each in
      let moved = y.ran_so.run.moved [] in
      let room : most_of y.settled.ports.own ≡ queue_capacity_in zs = y.second.own.1 ∙ (moved.yard.own.3 ∙ (y.first.own.1 ∙ given_room zs j y.given yard y.given_is)) in
      omega (arith, few, order.2, room, count)

  -- ---- each two records agree

  queues_agree : (i j : ℕ) → i < length zs → j < length zs → i ≢ j → AgreeQueue (length zs) (queue_capacity_in zs) i j (queue_waits_in zs i j) (run.made i ++ None ∷ []) (record_of ss i) (record_of ss j)
  queues_agree i j i_in j_in ne =
      let x = way i i_in in
      let y = way j j_in in
      let made = posts_made i j (run.made i ++ None ∷ []) (record_of ss i) in
      let t = sent_on i j j_in ne x in
      let p = pair i j j_in x y made t in
      let got = got_by y.given.ports.own in
      let waits : queue_waits_in zs i j ≡ drop (length (posts_of i got)) t.put
      = waits_are zs i j y.given t.given y.given_is t.given_is t.given_number ∙ ap (drop (length (posts_of i got))) t.given_put in
      record {
        posts = ap (λ g. g ++ made) waits
            ∙ queue_posts_agree i got p.start.waiting t.put made (posts_taken i j (record_of ss j)) (got_by y.empty.ports.own) p.end.waiting (t.put ++ made) p.start.is p.whole_is p.took p.end.is p.all;
        full = λ two before e name stands r at_j.
            let found = found_full i j j_in x y made t two before e name stands r at_j in
            omega (arith, found, ap length waits);
        signed = all_behind (λ (post : Post). post.from ≡ i) (posts_of i got) (posts_taken i j (record_of ss j)) (subst (All (λ (post : Post). post.from ≡ i)) p.took (all_by_poster i (got_by y.empty.ports.own)));
        drained = λ before e most k stands call reply less.
            subst (λ g. IsPrefix g (posts_taken i j before)) (sym waits)
            (queue_drained_early i got p.start.waiting t.put (posts_taken i j before) p.start.is (early_drain i j j_in x y made t before e most k stands call reply less));
      }

  -- ---- one record

  way_legal : (j : ℕ) (y : Way j) → IsLegalQueue sli (length zs) j (heap_of y.given) (script_of scripts j) (told_of (run.made j ++ None ∷ []) (record_of ss j) (heap_of y.back))
  way_legal j y =
      let made = run.made j in
      let second = heap_of_heap y.ran y.settled y.second.heap in
      let third = sym (heap_of_heap y.empty y.back y.third.heap) in
      let first = rw (y.number, heap_of_heap y.given y.start y.first.heap) at y.ran_so.run.told in
      let last = rw (y.later_number, second, third) at y.last.told made in
      tell_more (MayTellQueue sli (length zs) j) (untold (heap_of y.given)) (told_of made (record_of rs j) (heap_of y.ran)) (told_of (made ++ None ∷ []) (record_of ss j) (heap_of y.back)) (script_of scripts j) last_call first last

  -- ---- nothing waits

  nothing_waits : length ts ≡ length zs → (i j : ℕ) → queue_waits_in ts i j ≡ []
  nothing_waits count i j =
      let l = done.last in
      elim (cases_lt j (length ts)) [
        | inl j_in ↦ elim (cases_lt i (length ts)) [
          | inl i_in ↦ elim (cases_eq i j) [
            | inl e ↦
                let b = some_at ts j j_in in
                let none : end_at ts i j ≡ None = ap (λ k. end_at ts k j) e ∙ own_end ts j b.0 l.yard b.1 in
                (λ t. waits_of (b.1 t) (none t))
            | inr ne ↦
                let here : j < length zs = omega arith in
                let x = way i (omega arith) in
                let y = way j here in
                let made = posts_made i j (run.made i ++ None ∷ []) (record_of ss i) in
                let t = sent_on i j here ne x in
                let p = pair i j here x y made t in
                waits_are ts i j y.back t.third y.back_is (ap (λ o. queue_end_in o j) x.back_is ∙ t.third_is) t.third_number
                ∙ ((λ a. drop (length (posts_of i (y.third.own.0 a))) (t.third_put a)) ∙ queue_nothing_waits i (got_by y.empty.ports.own) p.end.waiting (t.put ++ made) p.end.is p.all)
          ]
          | inr far ↦
              let b = some_at ts j j_in in
              (λ t. waits_of (b.1 t) (queue_end_in (slice_get_past ts i far t) j))
        ]
        | inr far ↦ ap (λ o. waits_of o (end_at ts i j)) (slice_get_past ts j far)
      ]

  -- ---- the whole race

  way_capacity : (j : ℕ) (y : Way j) → most_of y.back.ports.own ≡ most_of y.given.ports.own
  way_capacity j y =
      let m = y.ran_so.run.moved [] in
      let l = y.last.moved [] in
      y.third.own.1 ∙ (l.yard.own.3 ∙ (y.second.own.1 ∙ (m.yard.own.3 ∙ y.first.own.1)))

  same_capacity : length ts ≡ length zs → queue_capacity_in ts ≡ queue_capacity_in zs
  same_capacity count = elim (cases_lt 0 (length zs)) [
    | inl lt ↦
        let y = way 0 lt in
        ap first_capacity y.back_is ∙ (way_capacity 0 y ∙ sym (ap first_capacity y.given_is))
    | inr ge ↦ ap first_capacity (slice_get_past ts 0 (omega (arith, count))) ∙ sym (ap first_capacity (slice_get_past zs 0 ge))
  ]

  pub queue_race_is : IsQueueRace (queue_world_of zs) scripts ss (queue_world_of ts)
  unfolding queue_world_of
  queue_race_is =
      let f = done.first in
      let d = done.drained in
      let l = done.last in
      let count : length ts ≡ length zs = l.count ∙ (d.worker_count ∙ (f.count ∙ (run.worker_count ∙ s.count))) in
      let n : length (map heap_of zs) ≡ length zs = length-map zs heap_of in
      record {
        made = λ j. run.made j ++ None ∷ [];
        heaps = length-map ts heap_of ∙ (count ∙ sym n);
        records = d.record_count ∙ (run.record_count ∙ (s.count ∙ sym n));
        capacity = same_capacity count;
        legal = λ j j_in.
            let y = way j (omega (arith, n)) in
            let first = heap_there zs j y.given y.given_is in
            let last = heap_there ts j y.back y.back_is in
            subst (λ (z : ℕ × HeapState × HeapState). IsLegalQueue sli z.0 j z.1 (script_of scripts j) (told_of (run.made j ++ None ∷ []) (record_of ss j) z.2)) (λ a. (sym n a, sym first a, sym last a))
            (way_legal j y);
        agree = λ i j i_in j_in ne.
            subst (λ (m : ℕ). AgreeQueue m (queue_capacity_in zs) i j (queue_waits_in zs i j) (run.made i ++ None ∷ []) (record_of ss i) (record_of ss j)) (sym n)
            (queues_agree i j (omega (arith, n)) (omega (arith, n)) ne);
        last = λ j j_in before k is. last_few j (omega (arith, n)) before k is;
        taken = nothing_waits count;
      }
