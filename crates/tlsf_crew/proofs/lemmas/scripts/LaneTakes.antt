-- A worker's takes from one lane after another, in a drain under limits.
use Rattle.tlsf_crew.proofs.Common.{slice_get, ◌==◌, true, false, Bool, [], ◌∷◌, ◌++◌, ◌≡◌, ◌≢◌, ◌-◌, ℕ, zero, suc, ◌+◌, ◌<◌, ◌≤◌, List, Option, Some, None, length, sym, ◌∙◌, ap, arith, refl, inl, inr, subst, append_assoc, append-nil, length-append, add-one, if◌then◌else◌, slice_index, cases_eq, cases_lt, slice_get_within, nat_tests, fold-append, Name, Post, Worker, Lanes, Entry, Take, Took, Journal, released, heap_of, id_of, SameButPorts, end_from, HasTake, lane_places, KnowsYard, sum_below, posts_taken, SourceNoted, EachNoted, AllNoted, EachTakeNoted, EntersTake, IsAdmitted, one, Spent, LaneMoved, LaneTakenWithin, took_by, WorkerDrain, took_post, took_posts, took_each_lane, drain_at, LaneTaken, LaneSpent, EachLaneTaken, EachLaneSpent, Stage, at_stage, stage_of, Taken, lane_rules}
use Rattle.tlsf_calls.specs.declared.drained.Drained.{Drained}
use Rattle.tlsf_crew.proofs.lemmas.lanes.YardKept.{same_keeps}
use Rattle.tlsf_crew.proofs.lemmas.scripts.ManyEntries.{moved_then, spent_then, spent_more}
use Rattle.tlsf_crew.proofs.lemmas.histories.JoinedEntries.{taken_then}
use Rattle.tlsf_crew.proofs.lemmas.scripts.LaneMoves.{taken_same, taken_elsewhere}
use Rattle.tlsf_crew.proofs.lemmas.model.Sums.{same_sum}
use Rattle.tlsf_crew.proofs.lemmas.worker.Slots.{end_or, from_slot}
use Rattle.tlsf_crew.proofs.lemmas.scripts.WithinTakes.{within_none, within_empty, within_some}
use Rattle.tlsf_crew.proofs.lemmas.scripts.OneEntry.{moved_still, still_heap}

-- ---- one lane

pub moved_none : {sli : ℕ} (made : List (Option Name)) (a : Worker sli Lanes) (limits : List ℕ) → LaneMoved (id_of a) made a limits [] [] a limits
moved_none made a limits = moved_still (id_of a) made a a limits (still_heap (id_of a) a a (refl, refl) (same_keeps a))

lane_none : {sli : ℕ} (s : Stage sli Lanes) (from : ℕ) → LaneTaken s from s 0
lane_none s from = record {
  own = [];
  entries_are = sym (append-nil s.entries);
  posts = [];
  told = λ n. let e : n + 0 ≡ n = omega arith in ap (drain_at s) e;
  here = refl;
  others = λ k ne. refl;
  count_is = refl;
  moved = λ made. moved_none made s.worker s.limits;
}

-- moves of a worker of that number, by the number that it had
moved_at : {sli : ℕ} (at : ℕ) (made : List (Option Name)) (b v : Worker sli Lanes) (mid left : List ℕ) (own : ℕ → List Entry) → id_of b ≡ at → LaneMoved (id_of b) made b mid [] (own (id_of b)) v left → LaneMoved at made b mid [] (own at) v left
moved_at at made b v mid left own e m = subst (λ x. LaneMoved x made b mid [] (own x) v left) e m

lane_id : {sli : ℕ} (s t : Stage sli Lanes) (from count : ℕ) → LaneTaken s from t count → id_of t.worker ≡ id_of s.worker
lane_id s t from count x = let m = x.moved [] in ap (λ n. n.0) m.numbers

-- one take more
lane_more : {sli : ℕ} (s t : Stage sli Lanes) (v : Worker sli Lanes) (left : List ℕ) (from count : ℕ) (took : Took) → LaneTaken s from t count
    → LaneTakenWithin t.worker t.limits from v left (Some took) → LaneTaken s from (at_stage v left (t.entries ++ one (id_of v) (Take from) (Taken took))) (count + 1)
lane_more {sli} s t v left from count took x y =
    let at = id_of s.worker in
    let q : id_of t.worker ≡ at = lane_id s t from count x in
    let r : id_of v ≡ at = let m = y.0 [] in ap (λ n. n.0) m.numbers ∙ q in
    let p = y.1 in
    let last = one at (Take from) (Taken took) in
    let all : t.entries ++ one (id_of v) (Take from) (Taken took) ≡ t.entries ++ last = ap (λ i. t.entries ++ one i (Take from) (Taken took)) r in
    record {
      own = x.own ++ last;
      entries_are = all ∙ (ap (λ l. l ++ last) x.entries_are ∙ append_assoc s.entries x.own last);
      posts = x.posts ++ p ∷ [];
      here = taken_then from at x.own last ∙ (ap (λ l. l ++ posts_taken from at last) x.here ∙ ap (λ l. x.posts ++ l) (taken_same at from took ∙ ap (λ k. record { from = k.from; name = k.name } ∷ []) y.2));
      others = λ k ne. taken_then k at x.own last ∙ (ap (λ l. l ++ posts_taken k at last) (x.others k ne) ∙ taken_elsewhere at from k took ne);
      count_is = omega (arith, x.count_is, length-append x.posts (p ∷ []));
      told = λ n.
          let e : n + (count + 1) ≡ n + count + 1 = omega arith in
          let step : drain_at (at_stage v left (t.entries ++ last)) (n + count + 1) ≡ took_post at from (drain_at t (n + count)) p = lane_step at from t v left (n + count) p took y.2 y.3 in
          ap (λ l. drain_at (at_stage v left l) (n + (count + 1))) all ∙ (ap (drain_at (at_stage v left (t.entries ++ last))) e ∙ (step ∙ (ap (λ d. took_post at from d p) (x.told n)
          ∙ sym (fold-append (took_post at from) (drain_at s n) x.posts (p ∷ [])))));
      moved = λ made. moved_then at made s.worker t.worker v s.limits t.limits left [] [] x.own last (x.moved made)
          (moved_at at made t.worker v t.limits left (λ i. one i (Take from) (Taken took)) q (y.0 made));
    }
  where
    lane_step : (at from : ℕ) (t : Stage sli Lanes) (v : Worker sli Lanes) (left : List ℕ) (n : ℕ) (p : Post) (took : Took) → took ≡ took_by (heap_of t.worker) p → heap_of v ≡ (released (heap_of t.worker) p.name).heap
        → drain_at (at_stage v left (t.entries ++ one at (Take from) (Taken took))) (n + 1) ≡ took_post at from (drain_at t n) p
    lane_step at from t v left n p took e h = rw (e, h) refl

-- the lane showed no more, or no more might be taken
lane_end : {sli : ℕ} (s t : Stage sli Lanes) (v : Worker sli Lanes) (left : List ℕ) (from most count : ℕ) → LaneTaken s from t count → count ≤ most
    → LaneTakenWithin t.worker t.limits from v left None → LaneSpent s from most (at_stage v left t.entries) count
lane_end s t v left from most count x few y =
    let at = id_of s.worker in
    let q : id_of t.worker ≡ at = lane_id s t from count x in
    record {
      takes = record {
        own = x.own ++ [];
        entries_are = x.entries_are ∙ ap (λ l. s.entries ++ l) (sym (append-nil x.own));
        posts = x.posts;
        told = λ n. ap (λ h. record { entries = t.entries; heap = h; taken = n + count }) y.1 ∙ x.told n;
        here = taken_then from at x.own [] ∙ (append-nil (posts_taken from at x.own) ∙ x.here);
        others = λ k ne. taken_then k at x.own [] ∙ (append-nil (posts_taken k at x.own) ∙ x.others k ne);
        count_is = x.count_is;
        moved = λ made. moved_then at made s.worker t.worker v s.limits t.limits left [] [] x.own [] (x.moved made) (moved_at at made t.worker v t.limits left (λ i. []) q (y.0 made));
      };
      few = few;
      spent = λ _. spent_then at [] s.worker t.worker s.limits t.limits [] x.own [] from (x.moved []) (subst (λ i. Spent t.worker t.limits i from []) q y.2);
    }

-- ---- one lane after another

nothing_below : {sli : ℕ} (s : Stage sli Lanes) → EachLaneTaken s 0 s 0
nothing_below s = record {
  own = [];
  entries_are = sym (append-nil s.entries);
  posts = λ i. [];
  told = refl;
  posts_are = λ k. refl;
  only = λ k none. refl;
  moved = λ made. moved_none made s.worker s.limits;
}

id_below : {sli : ℕ} (s t : Stage sli Lanes) (below count : ℕ) → EachLaneTaken s below t count → id_of t.worker ≡ id_of s.worker
id_below s t below count x = let m = x.moved [] in ap (λ n. n.0) m.numbers

lanes_knows : {sli : ℕ} (n : ℕ) (s t : Stage sli Lanes) (below count : ℕ) → EachLaneTaken s below t count → KnowsYard n s.worker → KnowsYard n t.worker
lanes_knows n s t below count x k = let m = x.moved [] in m.knows n k

-- what the lanes below a number tell rests on their posts alone
lanes_same : (at : ℕ) (f g : ℕ → List Post) (d : WorkerDrain) (k : ℕ) → ((i : ℕ) → i < k → f i ≡ g i) → took_each_lane at f d k ≡ took_each_lane at g d k
lanes_same at f g d zero e = refl
lanes_same at f g d (suc k) e = two (k == at) (lanes_same at f g d k (λ i lt. e i (omega arith)))
  where
    two : (b : Bool) → took_each_lane at f d k ≡ took_each_lane at g d k
        → (if b then took_each_lane at f d k else took_posts at k (took_each_lane at f d k) (f k)) ≡ (if b then took_each_lane at g d k else took_posts at k (took_each_lane at g d k) (g k))
    two true before = before
    two false before = ap (λ x. took_posts at k x (f k)) before ∙ ap (λ ps. took_posts at k (took_each_lane at g d k) ps) (e k (omega arith))

pub took_each_lane_turn : (at : ℕ) (f : ℕ → List Post) (d : WorkerDrain) (k : ℕ) → k ≡ at → took_each_lane at f d (k + 1) ≡ took_each_lane at f d k
took_each_lane_turn at f d k e = let b : (k == at) ≡ true = grind (arith, nat_tests) in rw (add-one k, b) refl

pub lanes_other_turn : (at : ℕ) (f : ℕ → List Post) (d : WorkerDrain) (k : ℕ) → k ≢ at → took_each_lane at f d (k + 1) ≡ took_posts at k (took_each_lane at f d k) (f k)
lanes_other_turn at f d k ne = let b : (k == at) ≡ false = grind (arith, nat_tests) in rw (add-one k, b) refl

-- with these posts from one more
abbrev with_lane : (ℕ → List Post) → ℕ → List Post → ℕ → List Post
with_lane f k posts i = if i == k then posts else f i

with_lane_same : (f : ℕ → List Post) (k : ℕ) (posts : List Post) → with_lane f k posts k ≡ posts
with_lane_same f k posts = let b : (k == k) ≡ true = grind (arith, nat_tests) in rw b refl

with_lane_other : (f : ℕ → List Post) (k : ℕ) (posts : List Post) (i : ℕ) → i ≢ k → with_lane f k posts i ≡ f i
with_lane_other f k posts i ne = let b : (i == k) ≡ false = grind (arith, nat_tests) in rw b refl

with_lane_below : (f : ℕ → List Post) (k : ℕ) (posts : List Post) (i : ℕ) → i < k → with_lane f k posts i ≡ f i
with_lane_below f k posts i lt = let b : (i == k) ≡ false = grind (arith, nat_tests) in rw b refl

-- the turn of another worker
after_other_lane : {sli : ℕ} (s t u : Stage sli Lanes) (from n count : ℕ) → from ≢ id_of s.worker → HasTake s.worker from → EachLaneTaken s from t n → LaneTaken t from u count → EachLaneTaken s (from + 1) u (n + count)
after_other_lane s t u from n count ne has x y =
    let at = id_of s.worker in
    let q : id_of t.worker ≡ at = id_below s t from n x in
    let f = with_lane x.posts from y.posts in
    let d = drain_at s 0 in
    let below : took_each_lane at f d from ≡ took_each_lane at x.posts d from = lanes_same at f x.posts d from (with_lane_below x.posts from y.posts) in
    record {
      own = x.own ++ y.own;
      entries_are = y.entries_are ∙ (ap (λ l. l ++ y.own) x.entries_are ∙ append_assoc s.entries x.own y.own);
      posts = f;
      told = y.told n ∙ (ap (λ i. took_posts i from (drain_at t n) y.posts) q
          ∙ (ap (λ z. took_posts at from z y.posts) (x.told ∙ sym below) ∙ (ap (took_posts at from (took_each_lane at f d from)) (sym (with_lane_same x.posts from y.posts))
          ∙ sym (lanes_other_turn at f d from ne))));
      posts_are = λ k. taken_then k at x.own y.own ∙ elim (cases_eq k from) [
        | inl e ↦
            let none = x.posts_are k ∙ x.only k (λ lt. absurd (omega arith)) in
            let own : posts_taken from at y.own ≡ y.posts = subst (λ i. posts_taken from i y.own ≡ y.posts) q y.here in
            ap (λ l. l ++ posts_taken k at y.own) none ∙ rw e (own ∙ sym (with_lane_same x.posts from y.posts))
        | inr apart ↦
            let none : posts_taken k at y.own ≡ [] = subst (λ i. posts_taken k i y.own ≡ []) q (y.others k apart) in
            ap (λ l. l ++ posts_taken k at y.own) (x.posts_are k) ∙ (ap (λ l. x.posts k ++ l) none ∙ (append-nil (x.posts k) ∙ sym (with_lane_other x.posts from y.posts k apart)))
      ];
      only = λ k none. elim (cases_eq k from) [
        | inl e ↦ absurd (none (omega arith) (subst (HasTake s.worker) (sym e) has))
        | inr apart ↦ with_lane_other x.posts from y.posts k apart ∙ x.only k (λ lt. none (omega arith))
      ];
      moved = λ made. moved_then at made s.worker t.worker u.worker s.limits t.limits u.limits [] [] x.own y.own (x.moved made) (moved_at at made t.worker u.worker t.limits u.limits (λ i. y.own) q (y.moved made));
    }

lane_count : (at from : ℕ) (posts : List Post) (d : WorkerDrain) → (took_posts at from d posts).taken ≡ d.taken + length posts
lane_count at from [] d = omega arith
lane_count at from (p ∷ posts) d = omega (arith, lane_count at from posts (took_post at from d p))

-- how many were taken from the lanes below a number
pub count_below : (at : ℕ) (posts : ℕ → List Post) (d : WorkerDrain) (k : ℕ) → ((i : ℕ) → i ≡ at → posts i ≡ []) → (took_each_lane at posts d k).taken ≡ d.taken + sum_below k (λ i. length (posts i))
count_below at posts d zero none = omega arith
count_below at posts d (suc k) none =
    let e : k + 1 ≡ suc k = omega arith in
    let before = count_below at posts d k none in
    elim (cases_eq k at) [
      | inl own ↦
          let a = ap (λ o. o.taken) (subst (λ m. took_each_lane at posts d m ≡ took_each_lane at posts d k) e (took_each_lane_turn at posts d k own)) in
          let b = ap length (none k own) in
          omega arith
      | inr ne ↦
          let a = ap (λ o. o.taken) (subst (λ m. took_each_lane at posts d m ≡ took_posts at k (took_each_lane at posts d k) (posts k)) e (lanes_other_turn at posts d k ne)) in
          let b = lane_count at k (posts k) (took_each_lane at posts d k) in
          omega arith
    ]

pub lanes_taken_count : {sli : ℕ} (n : ℕ) (s t : Stage sli Lanes) (below count : ℕ) → KnowsYard n s.worker → (x : EachLaneTaken s below t count)
    → count ≡ sum_below below (λ i. length (x.posts i))
lanes_taken_count n s t below count k x =
    let c = count_below (id_of s.worker) x.posts (drain_at s 0) below (λ i own. x.only i (λ _ has. let y = (k.from i).0 has in y.1 own)) in
    let told = ap (λ o. o.taken) x.told in
    omega arith

other_turn : {sli : ℕ} (m : ℕ) (s t u : Stage sli Lanes) (from most n count : ℕ) → KnowsYard m s.worker → HasTake s.worker from → EachLaneSpent s from most t n → LaneSpent t from (most - n) u count
    → EachLaneSpent s (from + 1) most u (n + count)
unfolding after_other_lane
other_turn m s t u from most n count known has x y =
    let at = id_of s.worker in
    let near = (known.from from).0 has in
    let q : id_of t.worker ≡ at = id_below s t from n x.takes in
    let f = with_lane x.takes.posts from y.takes.posts in
    let below = lanes_taken_count m s t from n known x.takes in
    let here_spent = λ (spent : Spent t.worker t.limits (id_of t.worker) from y.takes.own).
    spent_then at [] s.worker t.worker s.limits t.limits [] x.takes.own y.takes.own from (x.takes.moved []) (subst (λ z. Spent t.worker t.limits z from y.takes.own) q spent) in
    record {
      takes = after_other_lane s t u from n count near.1 has x.takes y.takes;
      few = omega (arith, x.few, y.few);
      spent = λ lt i below. elim (cases_lt i from) [
        | inl before ↦ spent_more at s.worker s.limits x.takes.own y.takes.own i (x.spent (omega arith) i before)
        | inr last ↦
            let e : from ≡ i = omega arith in
            subst (λ z. Spent s.worker s.limits at z (x.takes.own ++ y.takes.own)) e (here_spent (y.spent (omega (arith, x.few))))
      ];
      each = λ k lt apart. elim (cases_lt k from) [
        | inl before ↦ elim (x.each k before apart) [
          | inl all ↦ inl (same_sum (suc k) (λ i. length (x.takes.posts i)) (λ i. length (f i)) (λ i less. ap length (with_lane_below x.takes.posts from y.takes.posts i (omega arith))) ∙ all)
          | inr spent ↦ inr (spent_more at s.worker s.limits x.takes.own y.takes.own k spent)
        ]
        | inr last ↦
            let e : k ≡ from = omega arith in
            let low = same_sum from (λ i. length (x.takes.posts i)) (λ i. length (f i)) (λ i less. ap length (with_lane_below x.takes.posts from y.takes.posts i less)) in
            let here = ap length (with_lane_same x.takes.posts from y.takes.posts) in
            elim (cases_lt count (most - n)) [
              | inl early ↦ inr (subst (λ z. Spent s.worker s.limits at z (x.takes.own ++ y.takes.own)) (sym e) (here_spent (y.spent early)))
              | inr all ↦ inl (rw e (omega (arith, low, here, below, y.takes.count_is, x.few, y.few)))
            ]
      ];
    }

-- no turn: there is no lane
no_turn : {sli : ℕ} (s t : Stage sli Lanes) (from most count : ℕ) → ¬ (HasTake s.worker from) → EachLaneSpent s from most t count → EachLaneSpent s (from + 1) most t count
no_turn s t from most count none x =
    let o = x.takes in
    let at = id_of s.worker in
    let d = drain_at s 0 in
    let nothing = o.only from (λ _. none) in
    let same : took_each_lane at o.posts d (from + 1) ≡ took_each_lane at o.posts d from = elim (cases_eq from at) [
      | inl own ↦ took_each_lane_turn at o.posts d from own
      | inr ne ↦ lanes_other_turn at o.posts d from ne ∙ ap (took_posts at from (took_each_lane at o.posts d from)) nothing
    ] in
    record {
      takes = record {
        own = o.own;
        entries_are = o.entries_are;
        posts = o.posts;
        told = o.told ∙ sym same;
        posts_are = o.posts_are;
        only = λ k away. elim (cases_eq k from) [
          | inl e ↦ rw e nothing
          | inr ne ↦ o.only k (λ lt. away (omega arith))
        ];
        moved = o.moved;
      };
      few = x.few;
      spent = λ lt i below. elim (cases_lt i from) [
        | inl before ↦ x.spent lt i before
        | inr last ↦ λ end is. absurd (none (subst (HasTake s.worker) (omega arith) (end, is)))
      ];
      each = λ k lt apart. elim (cases_lt k from) [
        | inl before ↦ x.each k before apart
        | inr last ↦ inr (λ end is. absurd (none (subst (HasTake s.worker) (omega arith) (end, is))))
      ];
    }

-- ---- a drain, by its notes

takes_in_lane : {sli : ℕ} (s : Stage sli Lanes) (b v : Worker sli Lanes) (x y : Journal) (from count : ℕ) (tooks : List Took) → LaneTaken s from (stage_of b x) count
    → EachTakeNoted (lane_rules IsAdmitted EntersTake) b v x y from tooks → LaneTaken s from (stage_of v y) (count + length tooks)
takes_in_lane s b v x y from count [] acc t =
    let e : count ≡ count + 0 = omega arith in
    rw (t.0, t.1, sym e) acc
takes_in_lane s b v x y from count (took ∷ tooks) acc t =
    let b' = t.0 in
    let z = t.1 in
    let n = t.3 in
    let step = lane_more s (stage_of b x) b' z.limits from count took acc (within_some b b' x.limits z.limits from took n.near n.fewer t.2) in
    let one_more = subst (λ l. LaneTaken s from (at_stage b' z.limits l) (count + 1)) (sym n.entries) step in
    let e : count + 1 + length tooks ≡ count + length (took ∷ tooks) = omega arith in
    subst (LaneTaken s from (stage_of v y)) e (takes_in_lane s b' v z y from (count + 1) tooks one_more t.4)

-- a worker with the same number, heap and lanes
same_worker : {sli : ℕ} (a v : Worker sli Lanes) → SameButPorts a v → v.ports ≡ a.ports → v ≡ a
same_worker a v same ports = λ t. record { heap = same.1 t; id = same.0 t; ports = ports t }

spent_in_lane : {sli : ℕ} (a v : Worker sli Lanes) (x y : Journal) (from most : ℕ) (tooks : List Took) → from < 8 → SourceNoted (lane_rules IsAdmitted EntersTake) a v x y from most tooks
    → LaneSpent (stage_of a x) from most (stage_of v y) (length tooks)
spent_in_lane a v x y from most tooks near l =
    let s = stage_of a x in
    let u = stage_of l.last y in
    let e : 0 + length tooks ≡ length tooks = omega arith in
    let t = subst (LaneTaken s from u) e (takes_in_lane s a l.last x y from 0 tooks (lane_none s from) l.turns) in
    elim l.end [
      | inl done ↦ rw (done.1) (record { takes = t; few = omega (arith, done.0); spent = λ lt. absurd (omega (arith, done.0)) })
      | inr early ↦
          let lt = early.0 in
          elim early.1 [
            | inl stopped ↦
                let none : slice_index y.limits from ≡ 0 = elim (cases_lt 0 (slice_index y.limits from)) [ inl some ↦ absurd (stopped.0 (near, some)) | inr le ↦ omega arith ] in
                rw (same_worker l.last v stopped.1 stopped.2) (lane_end s u l.last y.limits from most (length tooks) t (omega arith) (within_none l.last y.limits from none))
            | inr empty ↦ lane_end s u v y.limits from most (length tooks) t (omega arith) (within_empty l.last v y.limits from empty)
          ]
    ]

each_lane_spent : {sli : ℕ} (n : ℕ) (a v : Worker sli Lanes) (x y : Journal) (most k : ℕ) (tooks : List Took) → KnowsYard n a → EachNoted (lane_rules IsAdmitted EntersTake) a v x y most k tooks
    → EachLaneSpent (stage_of a x) k most (stage_of v y) (length tooks)
each_lane_spent {sli} n a v x y most zero tooks known l =
    let e : length tooks ≡ 0 = ap length l.0 in
    rw (l.1, l.2, e) (record { takes = nothing_below (stage_of a x); few = omega arith; spent = λ lt i below. absurd (omega arith); each = λ i below. absurd (omega arith) })
each_lane_spent {sli} n a v x y most (suc k) tooks known l =
    let b = l.0 in
    let z = l.1 in
    let s = stage_of a x in
    let t = stage_of b z in
    let before = each_lane_spent n a b x z most k l.2 known l.5 in
    let next : k + 1 ≡ suc k = omega arith in
    let count : length l.2 + length l.3 ≡ length tooks = sym (ap length l.4 ∙ length-append l.2 l.3) in
    let later : KnowsYard n b = lanes_knows n s t k (length l.2) before.takes known in
    let q : id_of b ≡ id_of a = id_below s t k (length l.2) before.takes in
    elim (end_or (end_from b k)) [
      | inl has ↦
          let near = (later.from k).0 has in
          let first : HasTake a k = (known.from k).1 (near.0, λ e. near.1 (e ∙ sym q)) in
          let spent = other_turn n s t (stage_of v y) k most (length l.2) (length l.3) known first before
          (spent_in_lane b v z y k (most - length l.2) l.3 (omega (arith, near.0, known.few)) (l.6.here has)) in
          subst (λ m. EachLaneSpent s m most (stage_of v y) (length tooks)) next
          (subst (EachLaneSpent s (k + 1) most (stage_of v y)) count spent)
      | inr none ↦
          let still = l.6.nowhere none in
          let away : ¬ (HasTake a k) = λ h. let near = (known.from k).0 h in none ((later.from k).1 (near.0, λ e. near.1 (e ∙ q))) in
          let same : length l.2 ≡ length tooks = let f = ap length still.0 in omega arith in
          let spent = no_turn s t k most (length l.2) away before in
          rw (still.1, still.2) (subst (λ m. EachLaneSpent s m most t (length tooks)) next
          (subst (EachLaneSpent s (k + 1) most t) same spent))
    ]

-- the lanes above the last one tell nothing
lanes_past : (at : ℕ) (posts : ℕ → List Post) (d : WorkerDrain) (m e : ℕ) → ((k : ℕ) → m ≤ k → posts k ≡ []) → took_each_lane at posts d (m + e) ≡ took_each_lane at posts d m
lanes_past at posts d m zero none = let q : m + 0 ≡ m = omega arith in ap (took_each_lane at posts d) q
lanes_past at posts d m (suc e) none =
    let q : m + suc e ≡ m + e + 1 = omega arith in
    let step : took_each_lane at posts d (m + e + 1) ≡ took_each_lane at posts d (m + e) = elim (cases_eq (m + e) at) [
      | inl own ↦ took_each_lane_turn at posts d (m + e) own
      | inr ne ↦ lanes_other_turn at posts d (m + e) ne ∙ ap (took_posts at (m + e) (took_each_lane at posts d (m + e))) (none (m + e) (omega arith))
    ] in
    ap (took_each_lane at posts d) q ∙ (step ∙ lanes_past at posts d m e none)

has_place : {sli : ℕ} (a : Worker sli Lanes) (k : ℕ) → HasTake a k → k < lane_places a
has_place a k h = slice_get_within a.ports.takes.items k (Some h.0) (from_slot (slice_get a.ports.takes.items k) h.0 h.1)

-- a drain of all places is one of the lanes from all workers
pub noted_lanes_spent : {sli : ℕ} (n : ℕ) (a v : Worker sli Lanes) (x y : Journal) (most : ℕ) (answer : Drained) → KnowsYard n a → AllNoted (lane_rules IsAdmitted EntersTake) a v x y (lane_places a) most answer → EachLaneSpent (stage_of a x) n most (stage_of v y) answer.taken
noted_lanes_spent n a v x y most answer known d =
    let places = lane_places a in
    let c = d.count.0 in
    let s = subst (EachLaneSpent (stage_of a x) places most (stage_of v y)) (sym c) (each_lane_spent n a v x y most places d.tooks known d.each) in
    let t = s.takes in
    let at = id_of a in
    let o = drain_at (stage_of a x) 0 in
    let beyond : (k : ℕ) → places ≤ k → t.posts k ≡ [] = λ k le. t.only k (λ lt. absurd (omega arith)) in
    let away : (k : ℕ) → n ≤ k → t.posts k ≡ [] = λ k le. t.only k (λ lt h. let near = (known.from k).0 h in absurd (omega (arith, near.0))) in
    let swap : places + n ≡ n + places = omega arith in
    let same : took_each_lane at t.posts o places ≡ took_each_lane at t.posts o n = sym (lanes_past at t.posts o places n beyond) ∙ (ap (took_each_lane at t.posts o) swap ∙ lanes_past at t.posts o n places away) in
    record {
      takes = record {
        own = t.own;
        entries_are = t.entries_are;
        posts = t.posts;
        told = t.told ∙ same;
        posts_are = t.posts_are;
        only = λ k none. elim (cases_lt k n) [ inl lt ↦ t.only k (λ _. none lt) | inr ge ↦ away k ge ];
        moved = t.moved;
      };
      few = s.few;
      spent = λ lt i below end is. let p = has_place a i (end, is) in s.spent lt i p end is;
      each = λ k lt apart. let p = has_place a k ((known.from k).1 (lt, apart)) in s.each k p apart;
    }
