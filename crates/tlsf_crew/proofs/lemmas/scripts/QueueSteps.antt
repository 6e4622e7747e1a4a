-- One call of a worker over queues, and the entries that tell of it.
use Rattle.tlsf_crew.proofs.Common.{◌==◌, true, false, [], ◌∷◌, ◌++◌, ◌≡◌, ◌≢◌, ℕ, suc, ◌+◌, ◌-◌, ◌<◌, ◌≤◌, List, Option, Some, None, Result, Ok, Err, All, length, sym, ◌∙◌, ap, arith, refl, inl, inr, ◌⊎◌, subst, append_assoc, append-nil, length-append, cons_option, slice_index, cases_eq, cases_lt, nat_tests, All-nil, All-cons, HeapState, Name, Refusal, posts_of, number_of, put_by, got_by, known_to, IsAllTaken, IsOnlyPoster, HasFilled, Post, OwnerEnd, PosterEnd, Call, Release, Take, Drain, Entry, Target, Released, Took, CrewRefusal, Full, Stranger, Reply, Posted, Drained, Refused, released, sum_of, IsNoPost, StandsBehind, posts_made, posts_taken, post_of_release, post_of_take, IsModelAnswer, MayTell, Progress, name_of, Worker, Queues, Journal, IsOther, heap_of, id_of, SameButHeap, AfterTake, ReleasedThere, posted_as, put_answer, SourceNoted, EachNoted, EachTakeNoted, IsAdmitted, OneFewer, EntersTake, IsNoTake, QuietCall, at_stage, stage_of, reply_released, queue_to, queue_end_to, PutsIntoQueue, HasQueueEnd, KnowsQueueYard, KeepsQueueYards, PosterEndPut, OwnEndTook, IsFromOther, MayTellQueue, take_entry, with_reply, with_take, with_takes, QueueMoved, QueueStepped, entry_by, IsPrefix, Taken, TakenFromQueue, queue_rules, of_append}
use Rattle.tlsf_heap.specs.Calls as heap
use Rattle.tlsf_crew.specs.scripts.QueueMoves.{told_of}
use Rattle.tlsf_crew.proofs.lemmas.histories.AllEntries.{more_knows}
use Rattle.tlsf_crew.proofs.lemmas.histories.JoinedEntries.{told_nothing, told_own, made_then, taken_then}
use Rattle.tlsf_crew.proofs.lemmas.scripts.LaneMoves.{posts_made_by_post, release_posts_elsewhere}
use Rattle.tlsf_crew.proofs.lemmas.worker.SameParts.{ports_heap}
use Rattle.tlsf_crew.proofs.lemmas.scripts.ManyEntries.{stands_split}
use Rattle.tlsf_crew.proofs.lemmas.scripts.OneEntry.{no_entry, the_one, stands_last}
use Rattle.tlsf_crew.proofs.lemmas.worker.OwnHeaps.{call_keeps}
use Rattle.tlsf_crew.proofs.lemmas.worker.Slots.{end_or, some_same}
use Rattle.tlsf_crew.proofs.lemmas.queues.QueueDrains.{queue_ends}
use Rattle.tlsf_crew.proofs.lemmas.queues.QueueKept.{keeps_all, queues_keep_heap, queues_keep_put, queues_keep_take, keeps_then, knows_kept}
use Rattle.tlsf_crew.proofs.lemmas.scripts.OwnTold.{IsNotFull, model_tells, put_answered}

-- ---- an entry that tells of no queue

-- it is no drain, and not refused as Full
record TellsNone (e : Entry) : Type 0 where
  posts : (made : List (Option Name)) → IsNoPost made e
  drain : (most : ℕ) → e.call ≡ Drain most → ⊥
  unfilled : IsNotFull e.reply

-- the same end of a worker whose ends are the same
same_end : {sli : ℕ} (a v : Worker sli Queues) (j : ℕ) (p q : PosterEnd) → queue_end_to v j ≡ queue_end_to a j → queue_end_to a j ≡ Some p → queue_end_to v j ≡ Some q → q ≡ p
same_end a v j p q same is_p is_q = some_same q p (sym is_q ∙ (same ∙ is_p))

queue_moved_none : {sli : ℕ} (at : ℕ) (made : List (Option Name)) (a v : Worker sli Queues) (limits : List ℕ) (call : Call) (e : Entry) → SameButHeap a v → KeepsQueueYards a v → TellsNone e
    → QueueMoved at made a limits (call ∷ []) (e ∷ []) v limits
queue_moved_none at made a v limits call e same keeps none = record {
  yard = keeps;
  sent = λ j p q is_p is_q.
      let n = none.posts made in
      rw (told_nothing (λ e. post_of_release j made e.worker e.call e.reply) at e (n.made_none j))
      (ap put_by (same_end a v j p q (λ t. queue_to (same.1 t) j) is_p is_q) ∙ sym (append-nil (put_by p)));
  taken = λ i. let n = none.posts made in
      rw (told_nothing (λ e. post_of_take i e.call e.reply) at e (n.taken_none i)) ((λ t. posts_of i (got_by (same.1 t).own)) ∙ sym (append-nil (posts_of i (got_by a.ports.own))));
  drained = λ before x most k s c r lt i. let o = the_one e before x s in absurd (none.drain most (ap (λ (y : Entry). y.call) (sym o.1) ∙ c));
  full = λ before x name p s r is_p only. let o = the_one e before x s in absurd (none.unfilled name (ap (λ (y : Entry). y.reply) (sym o.1) ∙ r));
  room = omega arith;
}

tells_queue : (sli n at : ℕ) (s : Progress) (call : Call) (t : Progress) → IsNoTake call → MayTell sli n at s call t → MayTellQueue sli n at s call t
tells_queue sli n at s (Take from) t plain told = absurd plain
tells_queue sli n at s (Drain most) t plain told = absurd plain
tells_queue sli n at s call t plain told = told

pub quiet_stepped : {sli : ℕ} (n : ℕ) (a v : Worker sli Queues) (limits : List ℕ) (call : Call) (made : List (Option Name)) (entries : List Entry) (reply : Reply) → KnowsQueueYard n a → KeepsQueueYards a v
    → QuietCall n a v call made entries reply → QueueStepped n (at_stage a limits entries) call made (at_stage v limits entries) reply
quiet_stepped {sli} n a v limits call made entries reply k keeps q = record {
  own = [];
  entries_are = sym (append-nil entries);
  told = tells_queue sli n (id_of a) _ call _ q.quiet.call (model_tells sli n (id_of a) (told_of made entries (heap_of a)) call reply (heap_of v) k.self q.told);
  moved = λ rest.
      queue_moved_none (id_of a) (made ++ rest) a v limits call _ q.same keeps (record { posts = q.quiet.posts; drain = λ most d. subst IsNoTake d q.quiet.call; unfilled = q.quiet.unfilled });
}

-- ---- a post

-- an end leads to another worker
pub ends_are : {sli : ℕ} (n : ℕ) (a : Worker sli Queues) → KnowsQueueYard n a → (j : ℕ) (p : PosterEnd) → queue_end_to a j ≡ Some p → IsOther n (id_of a) j
ends_are n a k j p is = elim (cases_lt j n) [
  | inl lt ↦ elim (cases_eq j (id_of a)) [
    | inl e ↦ let none = k.none j (λ other. other.1 e) in absurd cc
    | inr ne ↦ (lt, ne)
  ]
  | inr ge ↦ let none = k.none j (λ other. let lt = other.0 in omega arith) in absurd cc
]

put_sent : {sli : ℕ} (a v : Worker sli Queues) (target : Target) (name : Name) (done : Unit {0}) (made : List (Option Name)) (n : ℕ) → KnowsQueueYard n a → name_of made target ≡ Some name
    → PosterEndPut a v name.heap name (Ok done) → (j : ℕ) (p q : PosterEnd) → queue_end_to a j ≡ Some p → queue_end_to v j ≡ Some q
    → put_by q ≡ put_by p ++ posts_made (id_of a) j made (entry_by (id_of a) (Release target) Posted ∷ [])
put_sent a v target name done made n k known put j p q is_p is_q =
    let at = id_of a in
    elim (cases_eq j name.heap) [
      | inl e ↦
          let old : p ≡ put.1.end = some_same p put.1.end (sym is_p ∙ (ap (queue_end_to a) e ∙ put.1.end_is)) in
          let new : q ≡ put.1.new_end = some_same q put.1.new_end (sym is_q ∙ (ap (queue_end_to v) e ∙ put.1.new_end_is)) in
          let other : IsOther n at name.heap = ends_are n a k name.heap put.1.end put.1.end_is in
          let known_end = k.to name.heap other in
          let by : number_of put.1.end ≡ at = ap number_of (some_same put.1.end known_end.0 (sym put.1.end_is ∙ known_end.1)) ∙ known_end.2 in
          rw (old, new, e, posts_made_by_post at made target name known) (put.1.ok ∙ ap (λ (i : ℕ). put_by put.1.end ++ record { from = i; name = name } ∷ []) by)
      | inr e ↦ rw (release_posts_elsewhere at j made target name known e) (ap put_by (same_end a v j p q (put.1.others j e) is_p is_q) ∙ sym (append-nil (put_by p)))
    ]

queue_moved_post : {sli : ℕ} (n : ℕ) (made : List (Option Name)) (a v : Worker sli Queues) (limits : List ℕ) (target : Target) (name : Name) (done : Unit {0}) → KnowsQueueYard n a → name_of made target ≡ Some name
    → PosterEndPut a v name.heap name (Ok done) → QueueMoved (id_of a) made a limits (Release target ∷ []) (entry_by (id_of a) (Release target) Posted ∷ []) v limits
queue_moved_post n made a v limits target name done k known put =
    let e = entry_by (id_of a) (Release target) Posted in
    record {
      yard = queues_keep_put a v name.heap name (Ok done) put;
      sent = put_sent a v target name done made n k known put;
      taken = λ i. let none = told_nothing (λ e. post_of_take i e.call e.reply) (id_of a) e refl in
          rw none (ap (λ (o : OwnerEnd). posts_of i (got_by o)) put.1.same ∙ sym (append-nil (posts_of i (got_by a.ports.own))));
      drained = λ before x most m s c r lt i. let o = the_one e before x s in absurd (let h = ap (λ (y : Entry). y.call) (sym o.1) ∙ c in cc);
      full = λ before x other p s r is_p only. let o = the_one e before x s in absurd (let h = ap (λ (y : Entry). y.reply) (sym o.1) ∙ r in cc);
      room = omega arith;
    }

full_moved : {sli : ℕ} (made : List (Option Name)) (a v : Worker sli Queues) (limits : List ℕ) (target : Target) (name back : Name)
    → PosterEndPut a v name.heap name (Err back) → QueueMoved (id_of a) made a limits (Release target ∷ []) (entry_by (id_of a) (Release target) (Refused (Full name)) ∷ []) v limits
full_moved made a v limits target name back put =
    let e = entry_by (id_of a) (Release target) (Refused (Full name)) in
    record {
      yard = queues_keep_put a v name.heap name (Err back) put;
      sent = λ j p q is_p is_q.
          let none = told_nothing (λ e. post_of_release j made e.worker e.call e.reply) (id_of a) e refl in
          rw none (elim (cases_eq j name.heap) [
            | inl h ↦
                let old : p ≡ put.1.end = some_same p put.1.end (sym is_p ∙ (ap (queue_end_to a) h ∙ put.1.end_is)) in
                let new : q ≡ put.1.new_end = some_same q put.1.new_end (sym is_q ∙ (ap (queue_end_to v) h ∙ put.1.new_end_is)) in
                rw (old, new) (put.1.full.1 ∙ sym (append-nil (put_by put.1.end)))
            | inr h ↦ ap put_by (same_end a v j p q (put.1.others j h) is_p is_q) ∙ sym (append-nil (put_by p))
          ]);
      taken = λ i. let none = told_nothing (λ e. post_of_take i e.call e.reply) (id_of a) e refl in
          rw none (ap (λ (o : OwnerEnd). posts_of i (got_by o)) put.1.same ∙ sym (append-nil (posts_of i (got_by a.ports.own))));
      drained = λ before x most m s c r lt i. let o = the_one e before x s in absurd (let h = ap (λ (y : Entry). y.call) (sym o.1) ∙ c in cc);
      full = λ before x other p s r is_p only.
          let o = the_one e before x s in
          let reply : Refused (Full name) ≡ Refused (Full other) = ap (λ (y : Entry). y.reply) (sym o.1) ∙ r in
          let name_is : name ≡ other = cc in
          let end : put.1.end ≡ p = some_same put.1.end p (sym put.1.end_is ∙ (ap (λ (n : Name). queue_end_to a n.heap) name_is ∙ is_p)) in
          let filled = subst HasFilled end (put.1.alone (subst IsOnlyPoster (sym end) only)) in
          omega (arith, filled);
      room = omega arith;
    }

put_moved : {sli : ℕ} (n : ℕ) (made : List (Option Name)) (a v : Worker sli Queues) (limits : List ℕ) (target : Target) (name : Name) (put : Result (Unit {0}) Name) → KnowsQueueYard n a → name_of made target ≡ Some name
    → PosterEndPut a v name.heap name put → QueueMoved (id_of a) made a limits (Release target ∷ []) (entry_by (id_of a) (Release target) (reply_released (posted_as (put_answer name put))) ∷ []) v limits
put_moved n made a v limits target name (Ok done) k known put = queue_moved_post n made a v limits target name done k known put
put_moved n made a v limits target name (Err back) k known put = full_moved made a v limits target name back put

pub has_port_or : {sli : ℕ} (n : ℕ) (a : Worker sli Queues) (j : ℕ) → KnowsQueueYard n a → HasQueueEnd a j ⊎ ((j ≢ id_of a → n ≤ j) × ¬ (HasQueueEnd a j))
has_port_or n a j k = elim (end_or (queue_end_to a j)) [
  | inl has ↦ inl has
  | inr none ↦ inr ((λ ne. elim (cases_lt j n) [ inl lt ↦ let e = k.to j (lt, ne) in absurd (none (e.0, e.1)) | inr ge ↦ ge ]), none)
]

pub there_stepped : {sli : ℕ} (n : ℕ) (a v : Worker sli Queues) (limits : List ℕ) (target : Target) (name : Name) (made : List (Option Name)) (entries : List Entry) (answer : Result Released CrewRefusal) → KnowsQueueYard n a
    → name_of made target ≡ Some name → name.heap ≢ id_of a → HasQueueEnd a name.heap → ReleasedThere PutsIntoQueue a v name answer
    → QueueStepped n (at_stage a limits entries) (Release target) made (at_stage v limits entries) (reply_released answer)
there_stepped {sli} n a v limits target name made entries answer k known ne has there =
    let other = ends_are n a k name.heap has.0 has.1 in
    let put = there.post.through in
    let e : answer ≡ posted_as (put_answer name put.0) = there.answer_is ∙ ap posted_as put.2 in
    let h = sym (ports_heap a v there.post.same) in
    rw e (record {
      own = [];
      entries_are = sym (append-nil entries);
      told = model_tells sli n (id_of a) (told_of made entries (heap_of a)) (Release target) _ (heap_of v) k.self
          (subst (IsModelAnswer sli n (id_of a) (told_of made entries (heap_of a)) (Release target) _) h (put_answered sli n (id_of a) (heap_of a) made entries target name put.0 known ne other.0));
      moved = λ rest. put_moved n (made ++ rest) a v limits target name put.0 k (more_knows made rest target name known) (there.post.same, put.1);
    })

-- ---- takes

-- the take of a post, as the heap answered its release, and the post of a take
abbrev took_of : Post → Result (Unit {0}) Refusal → Took
took_of post answer = record { from = post.from; name = post.name; answer = answer }

abbrev post_in : Took → Post
post_in took = record { from = took.from; name = took.name }

-- one post was taken and released
record OneTaken {sli : ℕ} (n : ℕ) (a b : Worker sli Queues) (took : Took) : Type 0 where
  post : Post
  other : IsFromOther n (id_of a) post
  told : took ≡ took_of post (released (heap_of a) post.name).answer
  heap : heap_of b ≡ (released (heap_of a) post.name).heap
  got : got_by b.ports.own ≡ got_by a.ports.own ++ post ∷ []
  ends : queue_end_to b ≡ queue_end_to a
  keeps : KeepsQueueYards a b

taken_by : {sli : ℕ} (n : ℕ) (a c b : Worker sli Queues) (post : Option Post) (took : Took) → KnowsQueueYard n a → OwnEndTook a c post → AfterTake c b post (Some took) → OneTaken n a b took
unfolding released
taken_by n a c b None took k q after = let e = after.0 in absurd cc
taken_by n a c b (Some p) took k q after =
    let h : heap_of c ≡ heap_of a = ports_heap a c q.0 in
    record {
      post = p;
      other = (omega (arith, q.1.from.0, k.own.1), λ e. q.1.from.1 (e ∙ sym k.own.0));
      told = some_same took (took_of p (heap.released (heap_of c) p.name).answer) after.0 ∙ ap (λ (g : HeapState). took_of p (heap.released g p.name).answer) h;
      heap = after.1.heap ∙ ap (λ (g : HeapState). (heap.released g p.name).heap) h;
      got = (λ t. got_by (after.2.1 t).own) ∙ q.1.some;
      ends = (λ t. queue_to (after.2.1 t)) ∙ q.1.same;
      keeps = keeps_then a c b (queues_keep_take a c (Some p) q) (queues_keep_heap c b after.2 (call_keeps (heap_of c) (heap_of b) (heap.Release p.name) after.1.heap));
    }

one_taken : {sli : ℕ} (n : ℕ) (a b : Worker sli Queues) (took : Took) → KnowsQueueYard n a → TakenFromQueue a b (Some took) → OneTaken n a b took
one_taken n a b took k t = taken_by n a t.between b t.post took k t.took t.then

-- what the entry of a take tells
pub take_tells : (i at : ℕ) (took : Took) → posts_taken i at (entry_by at (Take took.from) (Taken took) ∷ []) ≡ posts_of i (post_in took ∷ [])
take_tells i at took =
    let x = entry_by at (Take took.from) (Taken took) in
    let post = post_in took in
    let f : Entry → Option Post = λ e. post_of_take i e.call e.reply in
    elim (cases_eq took.from i) [
      | inl e ↦
          let b : (took.from == i) ≡ true = grind (arith, nat_tests) in
          let this : f x ≡ Some post = rw b refl in
          let there : posts_of i (post ∷ []) ≡ post ∷ [] = rw b refl in
          told_own f at x refl ∙ (ap (λ o. cons_option o []) this ∙ sym there)
      | inr ne ↦
          let b : (took.from == i) ≡ false = grind (arith, nat_tests) in
          let this : f x ≡ None = rw b refl in
          let there : posts_of i (post ∷ []) ≡ [] = rw b refl in
          told_nothing f at x this ∙ sym there
    ]

-- a take counts the sum of the limits down
fewer_sum : (limits left : List ℕ) → OneFewer limits 0 left → sum_of left + 1 ≡ sum_of limits
fewer_sum limits left f =
    let same : (k : ℕ) → 0 < k → slice_index left k ≡ slice_index limits k = λ k more. f.1 k (λ e. omega arith) in
    omega (arith, f.0, same 1 (omega arith), same 2 (omega arith), same 3 (omega arith), same 4 (omega arith), same 5 (omega arith), same 6 (omega arith), same 7 (omega arith))

-- the takes of a drain, one after another, by worker `at`, and what its journal notes of them
record TakenAll {sli : ℕ} (n at : ℕ) (a v : Worker sli Queues) (x y : Journal) (count : ℕ) : Type 0 where
  posts : List Post
  own : List Entry
  others : All (IsFromOther n at) posts
  count_is : (length posts ≡ count) × (length own ≡ count)
  entries : y.entries.items ≡ x.entries.items ++ own
  told : (made : List (Option Name)) → with_takes at (told_of made x.entries.items (heap_of a)) posts ≡ told_of made y.entries.items (heap_of v)
  got : got_by v.ports.own ≡ got_by a.ports.own ++ posts
  ends : queue_end_to v ≡ queue_end_to a
  keeps : KeepsQueueYards a v
  taken : (i : ℕ) → posts_taken i at own ≡ posts_of i posts
  made_none : (j : ℕ) (made : List (Option Name)) → posts_made at j made own ≡ []
  no_drain : (before : List Entry) (e : Entry) (most : ℕ) → StandsBehind own before e → e.call ≡ Drain most → ⊥
  unfilled : (before : List Entry) (e : Entry) → StandsBehind own before e → IsNotFull e.reply
  left : sum_of y.limits + length own ≡ sum_of x.limits

taken_all : {sli : ℕ} (n at : ℕ) (a v : Worker sli Queues) (x y : Journal) (tooks : List Took) → id_of a ≡ at → KnowsQueueYard n a → EachTakeNoted (queue_rules IsAdmitted EntersTake) a v x y 0 tooks → TakenAll n at a v x y (length tooks)
taken_all n at a v x y [] is k t =
    rw (t.0, t.1) (record {
      posts = [];
      own = [];
      others = All-nil (IsFromOther n at);
      count_is = (refl, refl);
      entries = sym (append-nil x.entries.items);
      told = λ made. refl;
      got = sym (append-nil (got_by a.ports.own));
      ends = refl;
      keeps = keeps_all a;
      taken = λ i. refl;
      made_none = λ j made. refl;
      no_drain = λ before e most s c. no_entry before e s;
      unfilled = λ before e s. absurd (no_entry before e s);
      left = omega arith;
    })
taken_all n at a v x y (took ∷ tooks) is k t =
    let b = t.0 in
    let z = t.1 in
    let one = one_taken n a b took k t.2 in
    let noted = t.3 in
    let b_is : id_of b ≡ at = one.keeps.number ∙ is in
    let rest = taken_all n at b v z y tooks b_is (knows_kept n a b one.keeps k) t.4 in
    let e : Entry = entry_by at (Take took.from) (Taken took) in
    let longer : z.entries.items ≡ x.entries.items ++ e ∷ [] = noted.entries ∙ ap (λ (i : ℕ). x.entries.items ++ entry_by i (Take took.from) (Taken took) ∷ []) b_is in
    let post_is : post_in took ≡ one.post = ap post_in one.told in
    record {
      posts = one.post ∷ rest.posts;
      own = e ∷ rest.own;
      others = All-cons (IsFromOther n at) one.post rest.posts (one.other.0, λ d. one.other.1 (d ∙ sym is)) rest.others;
      count_is = (ap suc rest.count_is.0, ap suc rest.count_is.1);
      entries = rest.entries ∙ (ap (λ l. l ++ rest.own) longer ∙ append_assoc x.entries.items (e ∷ []) rest.own);
      told = λ made.
          let noted_is : x.entries.items ++ take_entry at (heap_of a) one.post ∷ [] ≡ z.entries.items
          = ap (λ (r : Took). x.entries.items ++ entry_by at (Take r.from) (Taken r) ∷ []) (sym one.told) ∙ sym longer in
          let step : with_take at (told_of made x.entries.items (heap_of a)) one.post ≡ told_of made z.entries.items (heap_of b)
          = λ i. told_of made (noted_is i) (sym one.heap i) in
          ap (λ (s : Progress). with_takes at s rest.posts) step ∙ rest.told made;
      got = rest.got ∙ (ap (λ l. l ++ rest.posts) one.got ∙ append_assoc (got_by a.ports.own) (one.post ∷ []) rest.posts);
      ends = rest.ends ∙ one.ends;
      keeps = keeps_then a b v one.keeps rest.keeps;
      taken = λ i.
          taken_then i at (e ∷ []) rest.own
          ∙ (ap (λ l. l ++ posts_taken i at rest.own) (take_tells i at took ∙ ap (λ (p : Post). posts_of i (p ∷ [])) post_is)
          ∙ (ap (λ l. posts_of i (one.post ∷ []) ++ l) (rest.taken i) ∙ sym (of_append i (one.post ∷ []) rest.posts)));
      made_none = λ j made.
          made_then at j made (e ∷ []) rest.own
          ∙ (ap (λ l. l ++ posts_made at j made rest.own) (told_nothing (λ e. post_of_release j made e.worker e.call e.reply) at e refl) ∙ rest.made_none j made);
      no_drain = λ before u most s c. elim (stands_split (e ∷ []) rest.own before u s) [
        | inl w ↦ let o = the_one e before u w in let h = ap (λ (y : Entry). y.call) (sym o.1) ∙ c in absurd cc
        | inr w ↦ rest.no_drain w.0 u most w.2 c
      ];
      unfilled = λ before u s name r. elim (stands_split (e ∷ []) rest.own before u s) [
        | inl w ↦ let o = the_one e before u w in let h = ap (λ (y : Entry). y.reply) (sym o.1) ∙ r in absurd cc
        | inr w ↦ rest.unfilled w.0 u w.2 name r
      ];
      left = omega (arith, rest.left, fewer_sum x.limits z.limits noted.fewer);
    }

-- ---- the end of a drain

record EndSeen {sli : ℕ} (a v : Worker sli Queues) (most count : ℕ) : Type 0 where
  keeps : KeepsQueueYards a v
  heap : heap_of v ≡ heap_of a
  got : got_by v.ports.own ≡ got_by a.ports.own
  ends : queue_end_to v ≡ queue_end_to a
  early : count < most → IsAllTaken v.ports.own

none_by : {sli : ℕ} (a c v : Worker sli Queues) (post : Option Post) (most count : ℕ) → OwnEndTook a c post → AfterTake c v post None → EndSeen a v most count
none_by a c v None most count q after = rw after.1 (record { keeps = queues_keep_take a c None q; heap = ports_heap a c q.0; got = q.1.none.0; ends = q.1.same; early = λ lt. q.1.none.1 })
none_by a c v (Some p) most count q after = let e = after.0 in absurd cc

end_seen : {sli : ℕ} (a v : Worker sli Queues) (most count : ℕ) → ((count ≡ most) × (v ≡ a)) ⊎ ((count < most) × TakenFromQueue a v None) → EndSeen a v most count
end_seen a v most count (inl e) = rw e.1 (record { keeps = keeps_all a; heap = refl; got = refl; ends = refl; early = λ lt. absurd (omega (arith, e.0)) })
end_seen a v most count (inr e) = let t = e.1 in none_by a t.between v t.post most count t.took t.then

drained_queue_moved : {sli : ℕ} (n : ℕ) (a last v : Worker sli Queues) (x y : Journal) (most count : ℕ) (made : List (Option Name)) → EndSeen last v most count
    → (t : TakenAll n (id_of a) a last x y count) → QueueMoved (id_of a) made a x.limits (Drain most ∷ []) (t.own ++ entry_by (id_of a) (Drain most) (Drained count) ∷ []) v y.limits
drained_queue_moved n a last v x y most count made seen t =
    let at = id_of a in
    let z = entry_by at (Drain most) (Drained count) in
    let no_post = λ (j : ℕ). told_nothing (λ e. post_of_release j made e.worker e.call e.reply) at z refl in
    let no_take = λ (i : ℕ). told_nothing (λ e. post_of_take i e.call e.reply) at z refl in
    let got : got_by v.ports.own ≡ got_by a.ports.own ++ t.posts = seen.got ∙ t.got in
    let got_of : (i : ℕ) → posts_of i (got_by v.ports.own) ≡ posts_of i (got_by a.ports.own) ++ posts_taken i at t.own =
    λ i. ap (posts_of i) got ∙ (of_append i (got_by a.ports.own) t.posts ∙ ap (λ l. posts_of i (got_by a.ports.own) ++ l) (sym (t.taken i))) in
    let keeps = keeps_then a last v t.keeps seen.keeps in
    record {
      yard = keeps;
      sent = λ j p q is_p is_q.
          let none : posts_made at j made (t.own ++ z ∷ []) ≡ [] = made_then at j made t.own (z ∷ []) ∙ (ap (λ l. l ++ posts_made at j made (z ∷ [])) (t.made_none j made) ∙ no_post j) in
          rw none (ap put_by (same_end a v j p q (ap (λ f. f j) (seen.ends ∙ t.ends)) is_p is_q) ∙ sym (append-nil (put_by p)));
      taken = λ i.
          let all : posts_taken i at (t.own ++ z ∷ []) ≡ posts_taken i at t.own
          = taken_then i at t.own (z ∷ []) ∙ (ap (λ l. posts_taken i at t.own ++ l) (no_take i) ∙ append-nil (posts_taken i at t.own)) in
          rw all (got_of i);
      drained = λ before e m k s c r lt i. elim (stands_last t.own z before e s) [
        | inl u ↦ absurd (t.no_drain before e m u c)
        | inr u ↦
            let call : Drain most ≡ Drain m = ap (λ (y : Entry). y.call) (sym u.1) ∙ c in
            let reply : Drained count ≡ Drained k = ap (λ (y : Entry). y.reply) (sym u.1) ∙ r in
            let most_is : most ≡ m = cc in
            let count_is : count ≡ k = cc in
            let all = seen.early (omega (arith, most_is, count_is)) in
            let there : posts_of i (got_by v.ports.own) ≡ posts_of i (got_by a.ports.own) ++ posts_taken i at before = got_of i ∙ ap (λ b. posts_of i (got_by a.ports.own) ++ posts_taken i at b) (sym u.0) in
            subst (λ l. IsPrefix l (posts_of i (got_by a.ports.own) ++ posts_taken i at before)) (ap (posts_of i) keeps.own.4)
            (subst (IsPrefix (posts_of i (known_to v.ports.own))) there (all i))
      ];
      full = λ before e name p s r is_p only. elim (stands_last t.own z before e s) [
        | inl u ↦ absurd (t.unfilled before e u name r)
        | inr u ↦ let reply : Drained count ≡ Refused (Full name) = ap (λ (y : Entry). y.reply) (sym u.1) ∙ r in absurd cc
      ];
      room = omega (arith, length-append t.own (z ∷ []), t.left);
    }

pub drain_stepped : {sli : ℕ} (n : ℕ) (a v : Worker sli Queues) (x y : Journal) (most : ℕ) (made : List (Option Name)) (tooks : List Took) → KnowsQueueYard n a → SourceNoted (queue_rules IsAdmitted EntersTake) a v x y 0 most tooks
    → QueueStepped n (stage_of a x) (Drain most) made (stage_of v y) (Drained (length tooks))
drain_stepped n a v x y most made tooks k noted =
    let at = id_of a in
    let count = length tooks in
    let t = taken_all n at a noted.last x y tooks refl k noted.turns in
    let seen = end_seen noted.last v most count (queue_ends IsAdmitted EntersTake noted.last v y most count noted.end) in
    let few : length t.posts ≤ most = elim noted.end [
      | inl e ↦ omega (arith, e.0, t.count_is.0)
      | inr e ↦ omega (arith, e.0, t.count_is.0)
    ] in
    let count_is : count ≡ length t.posts = sym t.count_is.0 in
    let left : told_of (made ++ None ∷ []) (y.entries.items ++ entry_by at (Drain most) (Drained count) ∷ []) (heap_of v)
    ≡ told_of (made ++ None ∷ []) (y.entries.items ++ entry_by at (Drain most) (Drained (length t.posts)) ∷ []) (heap_of noted.last) =
    λ i. told_of (made ++ None ∷ []) (y.entries.items ++ entry_by at (Drain most) (Drained (count_is i)) ∷ []) (seen.heap i) in
    record {
      own = t.own;
      entries_are = t.entries;
      told = (
        t.posts,
        t.others,
        few,
        left ∙ sym (ap (λ (s : Progress). with_reply at s (Drain most) (Drained (length t.posts))) (t.told made)),
      );
      moved = λ rest. drained_queue_moved n a noted.last v x y most count (made ++ rest) seen t;
    }

-- a drain of all sources is one of the own queue
pub drained_once : {sli : ℕ} {N : Type 0} (admitted : N → ℕ → Type 0) (noted : N → ℕ → ℕ → Option ℕ → Took → N → Type 0) (a v : Worker sli Queues) (x y : N) (most : ℕ) (tooks : List Took)
    → EachNoted (queue_rules admitted noted) a v x y most 1 tooks → SourceNoted (queue_rules admitted noted) a v x y 0 most tooks
drained_once {sli} {N} admitted noted a v x y most tooks l =
    let by = queue_rules admitted noted in
    let none = l.5 in
    let there = l.6.here tt in
    let m : most - length l.2 ≡ most = omega (arith, ap length none.0) in
    let t : l.3 ≡ tooks = sym (l.4 ∙ ap (λ (before : List Took). before ++ l.3) none.0) in
    subst (SourceNoted by a v x y 0 most) t (subst (λ (k : ℕ). SourceNoted by a v x y 0 k l.3) m
    (subst (λ (z : N). SourceNoted by a v z y 0 (most - length l.2) l.3) none.2
    (subst (λ (b : Worker sli Queues). SourceNoted by b v l.1 y 0 (most - length l.2) l.3) none.1 there)))

-- each post that was taken counts the limits down
turns_left : {sli : ℕ} (a v : Worker sli Queues) (x y : Journal) (tooks : List Took) → EachTakeNoted (queue_rules IsAdmitted EntersTake) a v x y 0 tooks → sum_of y.limits + length tooks ≡ sum_of x.limits
turns_left a v x y [] t = omega (arith, ap (λ (z : Journal). sum_of z.limits) t.1)
turns_left a v x y (took ∷ tooks) t = let noted = t.3 in let z = t.1 in omega (arith, turns_left t.0 v t.1 y tooks t.4, fewer_sum x.limits z.limits noted.fewer)

pub drain_few : {sli : ℕ} (a v : Worker sli Queues) (x y : Journal) (most : ℕ) (tooks : List Took) → SourceNoted (queue_rules IsAdmitted EntersTake) a v x y 0 most tooks → length tooks ≤ sum_of x.limits
drain_few a v x y most tooks n = omega (arith, turns_left a n.last x y tooks n.turns)

-- a drain leaves the ends to other queues
pub drain_ends : {sli : ℕ} (n : ℕ) (a v : Worker sli Queues) (x y : Journal) (most : ℕ) (tooks : List Took) → KnowsQueueYard n a → SourceNoted (queue_rules IsAdmitted EntersTake) a v x y 0 most tooks → queue_end_to v ≡ queue_end_to a
drain_ends n a v x y most tooks k noted =
    let t = taken_all n (id_of a) a noted.last x y tooks refl k noted.turns in
    let seen = end_seen noted.last v most (length tooks) (queue_ends IsAdmitted EntersTake noted.last v y most (length tooks) noted.end) in
    seen.ends ∙ t.ends

-- ---- a take of its own

pub take_stepped : {sli : ℕ} (n : ℕ) (a : Worker sli Queues) (limits : List ℕ) (from : ℕ) (made : List (Option Name)) (entries : List Entry) → QueueStepped n (at_stage a limits entries) (Take from) made (at_stage a limits entries) (Refused Stranger)
take_stepped n a limits from made entries = record {
  own = [];
  entries_are = sym (append-nil entries);
  told = refl;
  moved = λ rest.
      queue_moved_none (id_of a) (made ++ rest) a a limits (Take from) _ (refl, refl) (keeps_all a)
      (record { posts = λ made. record { made_none = λ j. refl; taken_none = λ i. refl }; drain = λ most c. cc; unfilled = λ name r. cc });
}
