-- A drain under limits is a drain in the world in which those posts wait that it took.
use Rattle.tlsf_crew.proofs.Common.{take-append_seam, ◌⊎◌, append-nil, [], ◌∷◌, ◌++◌, ◌≡◌, ◌≢◌, ◌-◌, ℕ, zero, suc, ◌+◌, ◌<◌, ◌≤◌, List, Option, None, length, take, drop, sym, ◌∙◌, ap, arith, refl, inl, inr, subst, fold, cases_eq, length-set, get_or-set_same, take_all, Name, Post, Worker, Lanes, Entry, Drain, Drained, released, heap_of, id_of, KnowsYard, no_heap, World, DrainState, heap_in, called, draining, after_drain, drained_below, drained_waiting, took_more, MayTell, HasHeap, told_by, sum_below, posts_taken, one, Spent, WorkerDrain, took_posts, took_each_lane, drain_at, EachLaneTaken, EachLaneSpent, SuitsDrain, LaneStepped, Stage, told_of}
use Rattle.tlsf_crew.proofs.lemmas.scripts.LaneTakes.{lanes_other_turn, took_each_lane_turn, count_below, lanes_taken_count}
use Rattle.tlsf_crew.proofs.lemmas.model.Sums.{same_sum, sum_longer}
use Rattle.tlsf_crew.proofs.lemmas.model.OneEvent.{from_other, from_own}
use Rattle.tlsf_crew.proofs.lemmas.scripts.OneEntry.{IsIdle, moved_idle}
use Rattle.tlsf_crew.proofs.lemmas.scripts.Witnesses.{a_world, world_has}
use Rattle.tlsf_crew.proofs.lemmas.model.Edits.{edited_other}

-- what its worker sees of a drain
abbrev own_of : {sli : ℕ} → ℕ → DrainState sli → WorkerDrain
own_of at d = record { entries = d.entries; heap = heap_in d.world at; taken = d.taken }

-- takes from one lane leave the heaps' count and the other lanes
record LaneWorld {sli : ℕ} (at from : ℕ) (posts : List Post) (d c : DrainState sli) : Type 0 where
  own : own_of at c ≡ took_posts at from (own_of at d) posts
  count : length c.world.heaps ≡ length d.world.heaps
  waits : (x : ℕ) → x ≢ from → c.world.waiting x at ≡ d.world.waiting x at

one_world : {sli : ℕ} (at from : ℕ) (p : Post) (d : DrainState sli) → at < length d.world.heaps → LaneWorld at from (p ∷ []) d (took_more at from d p)
one_world at from p d lt =
    let h = (released (heap_in d.world at) p.name).heap in
    let c = took_more at from d p in
    record {
      own = ap (λ g. record { entries = c.entries; heap = g; taken = c.taken }) (get_or-set_same d.world.heaps at h no_heap lt);
      count = length-set d.world.heaps at h;
      waits = λ x ne. edited_other d.world.waiting from at x at (drop 1 (d.world.waiting from at)) (λ e _. ne e);
    }

lane_world : {sli : ℕ} (at from : ℕ) (posts : List Post) (d : DrainState sli) → at < length d.world.heaps → LaneWorld at from posts d (fold (took_more at from) d posts)
lane_world at from [] d lt = record { own = refl; count = refl; waits = λ x ne. refl }
lane_world at from (p ∷ posts) d lt =
    let x = one_world at from p d lt in
    let y = lane_world at from posts (took_more at from d p) (omega (arith, x.count)) in
    record {
      own = y.own ∙ ap (λ o. took_posts at from o posts) x.own;
      count = y.count ∙ x.count;
      waits = λ i ne. y.waits i ne ∙ x.waits i ne;
    }

-- the lanes below a number
record WorldBelow {sli : ℕ} (at : ℕ) (posts : ℕ → List Post) (k : ℕ) (d c : DrainState sli) : Type 0 where
  own : own_of at c ≡ took_each_lane at posts (own_of at d) k
  count : length c.world.heaps ≡ length d.world.heaps
  waits : (x : ℕ) → k ≤ x → c.world.waiting x at ≡ d.world.waiting x at

-- one lane more, from which these posts are taken
next_lane : {sli : ℕ} (at most k : ℕ) (posts : ℕ → List Post) (d c : DrainState sli) → at < length d.world.heaps → WorldBelow at posts k d c → take (most - c.taken) (c.world.waiting k at) ≡ posts k → k ≢ at
    → WorldBelow at posts (k + 1) d (drained_waiting at most k c)
unfolding drained_waiting
next_lane at most k posts d c lt w all ne =
    let x = lane_world at k (posts k) c (omega (arith, w.count)) in
    let y : WorldBelow at posts (k + 1) d (fold (took_more at k) c (posts k)) = record {
      own = x.own ∙ (ap (λ o. took_posts at k o (posts k)) w.own ∙ sym (lanes_other_turn at posts (own_of at d) k ne));
      count = x.count ∙ w.count;
      waits = λ i le. x.waits i (λ e. absurd (omega arith)) ∙ w.waits i (omega arith);
    } in
    subst (λ l. WorldBelow at posts (k + 1) d (fold (took_more at k) c l)) (sym all) y

own_turn_of_drain : {sli : ℕ} (at k : ℕ) (posts : ℕ → List Post) (d c : DrainState sli) → WorldBelow at posts k d c → k ≡ at → WorldBelow at posts (k + 1) d c
own_turn_of_drain at k posts d c w e = record {
  own = w.own ∙ sym (took_each_lane_turn at posts (own_of at d) k e);
  count = w.count;
  waits = λ i le. w.waits i (omega arith);
}

-- these posts are the first in a lane, and all where the drain may take more
abbrev WaitsFirst : (ℕ → List Post) → ℕ → ℕ → List Post → Type 0
WaitsFirst posts most k waits = (rest : List Post) × (waits ≡ posts k ++ rest) × ((sum_below (suc k) (λ i. length (posts i)) ≡ most) ⊎ (rest ≡ []))

take_first : (posts : ℕ → List Post) (most k taken : ℕ) (waits : List Post) → taken ≡ sum_below k (λ i. length (posts i)) → sum_below (suc k) (λ i. length (posts i)) ≤ most → WaitsFirst posts most k waits
    → take (most - taken) waits ≡ posts k
take_first posts most k taken waits e le w =
    let m = most - taken in
    ap (take m) w.1 ∙ elim w.2 [
      | inl all ↦
          let q : m ≡ length (posts k) = omega arith in
          ap (λ n. take n (posts k ++ w.0)) q ∙ take-append_seam (posts k) w.0
      | inr none ↦ ap (λ r. take m (posts k ++ r)) none ∙ (ap (take m) (append-nil (posts k)) ∙ take_all m (posts k) (omega arith))
    ]

world_below : {sli : ℕ} (at most n : ℕ) (posts : ℕ → List Post) (d : DrainState sli) (k : ℕ) → k ≤ n → at < length d.world.heaps → d.taken ≡ 0 → ((i : ℕ) → i ≡ at → posts i ≡ [])
    → ((x : ℕ) → x < n → x ≢ at → WaitsFirst posts most x (d.world.waiting x at)) → sum_below n (λ i. length (posts i)) ≤ most → WorldBelow at posts k d (drained_below at most d k)
world_below at most n posts d zero le lt start none waits few = record { own = refl; count = refl; waits = λ x le. refl }
world_below at most n posts d (suc k) le lt start none waits few =
    let c = drained_below at most d k in
    let next : k + 1 ≡ suc k = omega arith in
    let w = world_below at most n posts d k (omega arith) lt start none waits few in
    elim (cases_eq k at) [
      | inl e ↦ rw (from_own at most c k e) (subst (λ n. WorldBelow at posts n d c) next (own_turn_of_drain at k posts d c w e))
      | inr ne ↦
          let taken = ap (λ o. o.taken) w.own in
          let count = count_below at posts (own_of at d) k none in
          let longer = sum_longer (suc k) n (λ i. length (posts i)) le in
          let here = subst (WaitsFirst posts most k) (sym (w.waits k (omega arith))) (waits k (omega arith) ne) in
          let all = take_first posts most k c.taken (c.world.waiting k at) (omega arith) (omega arith) here in
          rw (from_other at most c k ne) (subst (λ n. WorldBelow at posts n d (drained_waiting at most k c)) next (next_lane at most k posts d c lt w all ne))
    ]

all_world : {sli : ℕ} (at most n : ℕ) (posts : ℕ → List Post) (d : DrainState sli) → length d.world.heaps ≡ n → at < n → d.taken ≡ 0 → ((i : ℕ) → i ≡ at → posts i ≡ [])
    → ((x : ℕ) → x < n → x ≢ at → WaitsFirst posts most x (d.world.waiting x at)) → sum_below n (λ i. length (posts i)) ≤ most → own_of at (after_drain at most d) ≡ took_each_lane at posts (own_of at d) n
unfolding after_drain
all_world at most n posts d len lt start none waits few =
    let w = world_below at most n posts d n (omega arith) (omega arith) start none waits few in
    ap (λ k. own_of at (drained_below at most d k)) len ∙ w.own

-- what a drain tells, as its worker sees it
drain_tells : {sli : ℕ} (made : List (Option Name)) (at most : ℕ) (es : List Entry) (w : World sli) (o : WorkerDrain) → own_of at (after_drain at most (record { entries = es; world = w; taken = 0 })) ≡ o
    → told_by at (called (record { made = made; entries = es; world = w }) at (Drain most))
    ≡ record { made = made ++ None ∷ []; entries = o.entries ++ one at (Drain most) (Drained o.taken); heap = o.heap }
unfolding draining
drain_tells made at most es w o e = ap (λ x. record { made = made ++ None ∷ []; entries = x.entries ++ one at (Drain most) (Drained x.taken); heap = x.heap }) e

drain_exact : {sli : ℕ} (n : ℕ) (s t : Stage sli Lanes) (most : ℕ) (made : List (Option Name)) (count : ℕ) → KnowsYard n s.worker → count ≤ most
    → (x : EachLaneTaken s n t count) → (w : World sli) → HasHeap w n (id_of s.worker) (heap_of s.worker) → SuitsDrain w n (id_of s.worker) most x.own
    → told_by (id_of s.worker) (called (record { made = made; entries = s.entries; world = w }) (id_of s.worker) (Drain most))
    ≡ record { made = made ++ None ∷ []; entries = t.entries ++ one (id_of s.worker) (Drain most) (Drained count); heap = heap_of t.worker }
drain_exact {sli} n s t most made count k few x w has suits =
    let at = id_of s.worker in
    let d : DrainState sli = record { entries = s.entries; world = w; taken = 0 } in
    let start : own_of at d ≡ drain_at s 0 = ap (λ h. record { entries = s.entries; heap = h; taken = 0 }) has.1 in
    let told : took_each_lane at x.posts (own_of at d) n ≡ drain_at t count = ap (λ o. took_each_lane at x.posts o n) start ∙ sym x.told in
    let none : (i : ℕ) → i ≡ at → x.posts i ≡ [] = λ i own. x.only i (λ _ h. let y = (k.from i).0 h in y.1 own) in
    let m = lanes_taken_count n s t n count k x in
    let waits : (i : ℕ) → i < n → i ≢ at → WaitsFirst x.posts most i (w.waiting i at) = λ i lt ne.
    let suit = suits i lt ne in
    let sums = same_sum (suc i) (λ j. length (x.posts j)) (λ j. length (posts_taken j at x.own)) (λ j _. ap length (x.posts_are j)) in
    (suit.0, suit.1 ∙ ap (λ l. l ++ suit.0) (x.posts_are i), elim suit.2 [ inl all ↦ inl (sym sums ∙ all) | inr rest ↦ inr rest ]) in
    let all = all_world at most n x.posts d has.0 k.self refl none waits (omega arith) in
    drain_tells made at most s.entries w (drain_at t count) (all ∙ told)

-- there is a world that suits
drain_told : {sli : ℕ} (n : ℕ) (s t : Stage sli Lanes) (most : ℕ) (made : List (Option Name)) (count : ℕ) → KnowsYard n s.worker → count ≤ most → EachLaneTaken s n t count
    → MayTell sli n (id_of s.worker) (told_of made s.entries (heap_of s.worker)) (Drain most) (told_of (made ++ None ∷ []) (t.entries ++ one (id_of s.worker) (Drain most) (Drained count)) (heap_of t.worker))
drain_told {sli} n s t most made count k few x =
    let at = id_of s.worker in
    let w = a_world {sli = sli} n at (heap_of s.worker) (λ i. posts_taken i at x.own) 1 in
    let has = world_has sli n at (heap_of s.worker) (λ i. posts_taken i at x.own) 1 k.self in
    (w, has, drain_exact n s t most made count k few x w has (λ i lt ne. ([], sym (append-nil (posts_taken i at x.own)), inr refl)))

drain_idle : {sli : ℕ} (n : ℕ) (a : Worker sli Lanes) (limits : List ℕ) (most count : ℕ) (later : List (Option Name)) (own : List Entry) → KnowsYard n a → (count < most → (i : ℕ) → i < n → Spent a limits (id_of a) i own)
    → IsIdle (id_of a) later a limits own (record { worker = id_of a; call = Drain most; reply = Drained count })
drain_idle n a limits most count later own k spent = record {
  posts = record { made_none = λ j. refl; taken_none = λ i. refl };
  full = λ name p e. cc;
  empty = λ i c e. cc;
  drained = λ m c i e r lt.
      let p : most ≡ m = cc in
      let q : count ≡ c = cc in
      λ t is. let x = (k.from i).0 (t, is) in spent (omega arith) i x.0 t is;
}

pub drain_stepped : {sli : ℕ} (n : ℕ) (s t : Stage sli Lanes) (most : ℕ) (made : List (Option Name)) (count : ℕ) → KnowsYard n s.worker → EachLaneSpent s n most t count
    → LaneStepped n s (Drain most) made t (Drained count)
drain_stepped n s t most made count k x =
    let o = x.takes in
    record {
      step = record {
        own = o.own;
        entries_are = o.entries_are;
        told = drain_told n s t most made count k x.few o;
        moved = λ rest. moved_idle (id_of s.worker) (made ++ rest) s.worker t.worker s.limits t.limits o.own _ (Drain most) (o.moved (made ++ rest)) (drain_idle n s.worker s.limits most count (made ++ rest) o.own k x.spent);
      };
      exact = λ w has suits. drain_exact n s t most made count k x.few o w has (suits.drain most refl);
      single = λ none. absurd (none most refl);
      each = λ m e i lt ne.
          let q : most ≡ m = cc in
          let sums = same_sum (suc i) (λ j. length (o.posts j)) (λ j. length (posts_taken j (id_of s.worker) o.own)) (λ j _. ap length (o.posts_are j)) in
          elim (x.each i lt ne) [ inl all ↦ inl (sums ∙ (all ∙ q)) | inr spent ↦ inr spent ];
    }
