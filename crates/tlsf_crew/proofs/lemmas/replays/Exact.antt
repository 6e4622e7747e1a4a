-- A call in a yard whose lanes it concerns are settled before and after: it is answered, and leaves the yard, as the model says.
use Rattle.tlsf_crew.proofs.Common.{ℕ, ◌+◌, ◌≤◌, List, length, ap, arith, ◌==◌, false, suc, zero, [], ◌∷◌, ◌++◌, ◌≡◌, ◌≢◌, ◌⊎◌, ◌-◌, ◌<◌, Option, Some, None, map, take, drop, get_or, set, slice_get, replicate, sym, ◌∙◌, subst, refl, inl, inr, append_assoc, append-nil, length-append, length_push, get_or-replicate, length-set, map-set, drop_at, drop-drop, nil_from_length, take_all, append_cancel_left, Worker, Lanes, Reply, Entry, Event, Replayed, after, no_heap, World, WorldReply, heap_in, made_by, name_of, called, draining, releasing_named, IsReplied, replay_of, ConcernsCall, AreLimits, slice_index, filter_map, cases_eq, cases_lt, nat_tests, filter-append, slice_get_within, HeapState, Name, Post, PostEnd, TakeEnd, posts_sent, waited, taken, ready, Took, Target, Call, Release, Take, Drain, Posted, Empty, Drained, Refused, Full, heap_of, id_of, id_and_capacity, end_to, end_from, KnowsYard, IsYard, post_at, take_at, end_to_in, end_from_in, lane_waits, capacity_in, waits_in, world_of, sum_below, sum_of, count_of, ready_from, LaneSettled, AreTakes, TellsCall, RunsTo, calls_on, answers_on, call_on_own, post_of_release, post_of_take, posts_made, posts_taken, entries_of, one, LaneMoved, Spent, SuitsCall, LaneStepped, at_stage, IsPrefix, Taken}
use Rattle.tlsf_crew.specs.replays.ReplaySteps.{MayTake}
use Rattle.tlsf_heap.specs.Calls as heap
use Rattle.tlsf_crew.proofs.lemmas.histories.DrainEntries.{drain_makes}
use Rattle.tlsf_crew.proofs.lemmas.model.EventSteps.{after_near}
use Rattle.tlsf_crew.proofs.lemmas.histories.AllEntries.{called_told, more_knows}
use Rattle.tlsf_crew.proofs.lemmas.scripts.LaneMoves.{posts_made_by_post, taken_same}
use Rattle.tlsf_crew.proofs.lemmas.histories.LaneCalls.{of_other}
use Rattle.tlsf_crew.proofs.lemmas.lanes.LaneSettled.{none_wait, none_for, settled_waits, settled_room, capacity_by_world, waits_same}
use Rattle.tlsf_crew.proofs.lemmas.histories.JoinedEntries.{taken_then, IsHistory, told_nothing}
use Rattle.tlsf_crew.proofs.lemmas.lanes.LaneChanges.{heaps_count, heap_in_is}
use Rattle.tlsf_crew.proofs.lemmas.model.OneEvent.{drain_by, posting_by, release_capacity, releasing_by, taking_by}
use Rattle.tlsf_crew.proofs.lemmas.model.Sums.{least_sum}
use Rattle.tlsf_crew.proofs.lemmas.worker.Slots.{get_set_same, get_set_other, some_same}
use Rattle.tlsf_crew.proofs.lemmas.lanes.LaneSlots.{map_same}
use Rattle.tlsf_crew.proofs.lemmas.model.Edits.{same_world, edited_other}

-- there is room for the entry
pub replied_room : {sli : ℕ} (r : Replayed sli) (event : Event) (es : List Entry) (vs : List (Worker sli Lanes)) (reply : Reply) (n : ℕ)
    → IsReplied r event es vs reply → length (after r event).entries ≤ n → length es + 1 ≤ n
replied_room r event es vs reply n told le =
    let a = ap (λ x. length x.entries) told.after in
    let b = length_push es (record { worker = event.worker; call = event.call; reply = reply }) in
    omega arith

-- one worker of a yard made a call, as the executor promises
pub record Run (sli : ℕ) : Type 0 where
  pub vs : List (Worker sli Lanes)
  pub a : Worker sli Lanes
  pub v : Worker sli Lanes
  pub made : List (Option Name)
  pub es : List Entry
  pub longer : List Entry
  pub limits : List ℕ
  pub left : List ℕ
  pub call : Call
  pub reply : Reply
  pub yard : IsYard vs
  pub is : slice_get vs (id_of a) ≡ Some a
  pub knows : KnowsYard (length vs) a
  pub step : LaneStepped (length vs) (at_stage a limits es) call made (at_stage v left longer) reply

abbrev pub at_of : {sli : ℕ} → Run sli → ℕ
at_of r = id_of r.a

abbrev pub own_of : {sli : ℕ} → Run sli → List Entry
own_of r = r.step.step.own ++ one (at_of r) r.call r.reply

-- the yard with the worker as the call left it
abbrev pub us_of : {sli : ℕ} → Run sli → List (Worker sli Lanes)
us_of r = set r.vs (at_of r) r.v

moved_of : {sli : ℕ} (r : Run sli) → LaneMoved (at_of r) (r.made ++ []) r.a r.limits (r.call ∷ []) (own_of r) r.v r.left
moved_of r = r.step.step.moved []

-- the lanes that the call concerns were settled before and after it
pub record Settles {sli : ℕ} (r : Run sli) (ws zs : List (Worker sli Lanes)) : Type 0 where
  pub before : (i j : ℕ) → i < length r.vs → j < length r.vs → i ≢ j → ConcernsCall r.made (at_of r) r.call i j → LaneSettled ws r.vs i j
  pub after : (i j : ℕ) → i < length r.vs → j < length r.vs → i ≢ j → ConcernsCall r.made (at_of r) r.call i j → LaneSettled (us_of r) zs i j
  pub limits : MayTake r.call → (i : ℕ) (t : TakeEnd) → i < 8 → end_from r.a i ≡ Some t → length (ready t) ≤ slice_index r.limits i
  pub yard : IsYard zs
  pub count : length zs ≡ length (us_of r)
  pub world : world_of zs ≡ world_of (us_of r)

-- ---- the ends after the call

pub us_yard : {sli : ℕ} (r : Run sli) → IsYard (us_of r)
us_yard r = let m = moved_of r in m.yard r.vs (at_of r) r.is r.yard

at_in : {sli : ℕ} (r : Run sli) → at_of r < length r.vs
at_in r = slice_get_within r.vs (at_of r) r.a r.is

at_us : {sli : ℕ} (r : Run sli) → slice_get (us_of r) (at_of r) ≡ Some r.v
at_us r = get_set_same r.vs (at_of r) r.v (at_in r)

us_capacity : {sli : ℕ} (r : Run sli) → capacity_in (us_of r) ≡ capacity_in r.vs
us_capacity r = let m = moved_of r in ap (λ (l : List (ℕ × ℕ)). (get_or l 0 (0, 0)).1) (map_same id_and_capacity r.vs (at_of r) r.a r.v r.is m.numbers)

post_at_other : {sli : ℕ} (r : Run sli) (i j : ℕ) → i ≢ at_of r → post_at (us_of r) i j ≡ post_at r.vs i j
post_at_other r i j ne = ap (λ o. end_to_in o j) (get_set_other r.vs (at_of r) i r.v ne)

take_at_other : {sli : ℕ} (r : Run sli) (i j : ℕ) → j ≢ at_of r → take_at (us_of r) i j ≡ take_at r.vs i j
take_at_other r i j ne = ap (λ o. end_from_in o i) (get_set_other r.vs (at_of r) j r.v ne)

post_at_own : {sli : ℕ} (r : Run sli) (j : ℕ) → post_at (us_of r) (at_of r) j ≡ end_to r.v j
post_at_own r j = ap (λ o. end_to_in o j) (at_us r)

own_end : {sli : ℕ} (r : Run sli) (i : ℕ) → take_at (us_of r) i (at_of r) ≡ end_from r.v i
own_end r i = ap (λ o. end_from_in o i) (at_us r)

post_was : {sli : ℕ} (r : Run sli) (j : ℕ) → end_to r.a j ≡ post_at r.vs (at_of r) j
post_was r j = sym (ap (λ o. end_to_in o j) r.is)

take_was : {sli : ℕ} (r : Run sli) (i : ℕ) → end_from r.a i ≡ take_at r.vs i (at_of r)
take_was r i = sym (ap (λ o. end_from_in o i) r.is)

-- ---- one lane, settled before and after

lane_took : {sli : ℕ} (r : Run sli) (ws zs : List (Worker sli Lanes)) (i : ℕ) → i ≢ at_of r → LaneSettled ws r.vs i (at_of r) → (n : LaneSettled (us_of r) zs i (at_of r))
    → waits_in r.vs i (at_of r) ≡ posts_taken i (at_of r) (own_of r) ++ waited n.new_take
lane_took r ws zs i ne m n =
    let at = at_of r in
    let mv = moved_of r in
    let t = mv.taken i m.new_take (take_was r i ∙ m.new_take_is) in
    let took = posts_taken i at (own_of r) in
    let take_is : n.take ≡ t.end = some_same n.take t.end (sym n.take_is ∙ (own_end r i ∙ t.end_is)) in
    let post_is : n.post ≡ m.new_post = some_same n.post m.new_post (sym n.post_is ∙ (post_at_other r i at ne ∙ m.new_post_is)) in
    let gone : taken n.take ≡ took = ap taken take_is ∙ (t.taken ∙ ap (λ l. l ++ took) m.beside.fresh.1) in
    let had : waited n.take ≡ waited m.new_take = ap waited take_is ∙ t.waited in
    let sent : posts_sent n.post ≡ [] = ap posts_sent post_is ∙ m.beside.fresh.0 in
    let all : waited n.take ++ posts_sent n.post ≡ waited m.new_take = ap (λ l. waited n.take ++ l) sent ∙ (append-nil (waited n.take) ∙ had) in
    settled_waits ws r.vs i at m ∙ (sym all ∙ (sym n.beside.order ∙ ap (λ l. l ++ waited n.new_take) gone))

lane_sent : {sli : ℕ} (r : Run sli) (ws zs : List (Worker sli Lanes)) → Settles r ws zs → (j : ℕ) → j < length r.vs → at_of r ≢ j → LaneSettled ws r.vs (at_of r) j → LaneSettled (us_of r) zs (at_of r) j
    → length (waits_in r.vs (at_of r) j) + length (posts_made (at_of r) j (r.made ++ []) (own_of r)) ≤ capacity_in r.vs
lane_sent r ws zs s j j_in ne m n =
    let at = at_of r in
    let mv = moved_of r in
    let e = mv.sent j m.new_post (post_was r j ∙ m.new_post_is) in
    let posts = posts_made at j (r.made ++ []) (own_of r) in
    let post_is : n.post ≡ e.end = some_same n.post e.end (sym n.post_is ∙ (post_at_own r j ∙ e.end_is)) in
    let take_is : n.take ≡ m.new_take = some_same n.take m.new_take (sym n.take_is ∙ (take_at_other r at j (λ q. ne (sym q)) ∙ m.new_take_is)) in
    let sent : posts_sent n.post ≡ posts = ap posts_sent post_is ∙ (e.sent ∙ ap (λ l. l ++ posts) m.beside.fresh.0) in
    let gone : taken n.take ≡ [] = ap taken take_is ∙ m.beside.fresh.1 in
    let order : waited n.new_take ≡ waited m.new_take ++ posts =
    ap (λ l. l ++ waited n.new_take) (sym gone) ∙ (n.beside.order ∙ (ap (λ l. l ++ posts_sent n.post) (ap waited take_is) ∙ ap (λ l. waited m.new_take ++ l) sent)) in
    let len = ap length order ∙ length-append (waited m.new_take) posts in
    let k = length-set r.vs at r.v in
    let inside = at_in r in
    let c = s.count in
    let room = settled_room (us_of r) zs at j (omega arith) (omega arith) ne s.yard n in
    let now = ap length (settled_waits (us_of r) zs at j n) in
    let before = ap length (settled_waits ws r.vs at j m) in
    omega (arith, capacity_by_world (us_of r) zs s.world, us_capacity r)

no_rest : (waits took rest : List Post) → waits ≡ took ++ rest → IsPrefix waits took → rest ≡ []
no_rest waits took rest e p =
    let a = ap length e ∙ length-append took rest in
    let b = sym (length-append waits p.0) ∙ ap length p.1 in
    nil_from_length rest (omega arith)

spent_within : {sli : ℕ} (r : Run sli) (ws : List (Worker sli Lanes)) (i : ℕ) (own : List Entry) → (m : LaneSettled ws r.vs i (at_of r)) → length (ready m.new_take) ≤ slice_index r.limits i → Spent r.a r.limits (at_of r) i own
    → IsPrefix (waits_in r.vs i (at_of r)) (posts_taken i (at_of r) own)
spent_within r ws i own m le spent =
    let known : ready m.new_take ≡ waits_in r.vs i (at_of r) = m.beside.fresh.2 ∙ sym (settled_waits ws r.vs i (at_of r) m) in
    subst (λ l. IsPrefix l (posts_taken i (at_of r) own)) (take_all (slice_index r.limits i) (ready m.new_take) le ∙ known) (spent m.new_take (take_was r i ∙ m.new_take_is))

-- ---- the world suits

single_of : {sli : ℕ} (r : Run sli) → ((most : ℕ) → r.call ≡ Drain most → ⊥) → own_of r ≡ one (at_of r) r.call r.reply
single_of r single = ap (λ o. o ++ one (at_of r) r.call r.reply) (r.step.single single)

room_in : {sli : ℕ} (r : Run sli) (ws zs : List (Worker sli Lanes)) → Settles r ws zs → (target : Target) (name : Name) → r.call ≡ Release target → name_of r.made target ≡ Some name → name.heap ≢ at_of r → name.heap < length r.vs
    → r.reply ≡ Posted → length (waits_in r.vs (at_of r) name.heap) ≢ capacity_in r.vs
room_in r ws zs s target name c known ne lt e full =
    let at = at_of r in
    let j = name.heap in
    let apart : at ≢ j = λ q. ne (sym q) in
    let concern : ConcernsCall r.made at r.call at j = subst (λ x. ConcernsCall r.made at x at j) (sym c) (refl, name, known, refl) in
    let m = s.before at j (at_in r) lt apart concern in
    let n = s.after at j (at_in r) lt apart concern in
    let l = lane_sent r ws zs s j lt apart m n in
    let own = single_of r (λ most d. let q : Release target ≡ Drain most = sym c ∙ d in cc) in
    let posted : posts_made at j (r.made ++ []) (own_of r) ≡ record { from = at; name = name } ∷ [] =
    ap (posts_made at j (r.made ++ [])) (own ∙ (ap (λ x. one at x r.reply) c ∙ ap (λ y. one at (Release target) y) e))
    ∙ posts_made_by_post at (r.made ++ []) target name (more_knows r.made [] target name known) in
    let p = ap length posted in
    absurd (omega arith)

full_in : {sli : ℕ} (r : Run sli) (ws zs : List (Worker sli Lanes)) → Settles r ws zs → (target : Target) (name : Name) → r.call ≡ Release target → name_of r.made target ≡ Some name → name.heap ≢ at_of r → name.heap < length r.vs
    → r.reply ≡ Refused (Full name) → length (waits_in r.vs (at_of r) name.heap) ≡ capacity_in r.vs
full_in r ws zs s target name c known ne lt e =
    let at = at_of r in
    let j = name.heap in
    let apart : at ≢ j = λ q. ne (sym q) in
    let concern : ConcernsCall r.made at r.call at j = subst (λ x. ConcernsCall r.made at x at j) (sym c) (refl, name, known, refl) in
    let m = s.before at j (at_in r) lt apart concern in
    let own = single_of r (λ most d. let q : Release target ≡ Drain most = sym c ∙ d in cc) in
    let entry : Entry = record { worker = at; call = r.call; reply = r.reply } in
    let mv = moved_of r in
    let f = mv.full [] entry name m.new_post ([], own) e (post_was r j ∙ m.new_post_is) in
    let room = settled_room ws r.vs at j (at_in r) lt apart r.yard m in
    omega arith

take_concern : {sli : ℕ} (r : Run sli) (from i : ℕ) → r.call ≡ Take from → ConcernsCall r.made (at_of r) r.call i (at_of r)
take_concern r from i c = subst (λ x. ConcernsCall r.made (at_of r) x i (at_of r)) (sym c) refl

first_in : {sli : ℕ} (r : Run sli) (ws zs : List (Worker sli Lanes)) → Settles r ws zs → (from : ℕ) (t : Took) → r.call ≡ Take from → from ≢ at_of r → from < length r.vs → r.reply ≡ Taken t
    → (rest : List Post) × (waits_in r.vs from (at_of r) ≡ record { from = t.from; name = t.name } ∷ rest)
first_in r ws zs s from t c ne lt e =
    let at = at_of r in
    let m = s.before from at lt (at_in r) ne (take_concern r from from c) in
    let n = s.after from at lt (at_in r) ne (take_concern r from from c) in
    let own = single_of r (λ most d. let q : Take from ≡ Drain most = sym c ∙ d in cc) in
    let took : posts_taken from at (own_of r) ≡ record { from = t.from; name = t.name } ∷ [] =
    ap (posts_taken from at) (own ∙ (ap (λ x. one at x r.reply) c ∙ ap (λ y. one at (Take from) y) e)) ∙ taken_same at from t in
    (waited n.new_take, lane_took r ws zs from ne m n ∙ ap (λ l. l ++ waited n.new_take) took)

empty_in : {sli : ℕ} (r : Run sli) (ws zs : List (Worker sli Lanes)) → Settles r ws zs → (from : ℕ) → r.call ≡ Take from → from ≢ at_of r → from < length r.vs → r.reply ≡ Empty → waits_in r.vs from (at_of r) ≡ []
empty_in r ws zs s from c ne lt e =
    let at = at_of r in
    let m = s.before from at lt (at_in r) ne (take_concern r from from c) in
    let own = single_of r (λ most d. let q : Take from ≡ Drain most = sym c ∙ d in cc) in
    let entry : Entry = record { worker = at; call = r.call; reply = r.reply } in
    let mv = moved_of r in
    let spent = mv.empty [] entry from ([], own) c e in
    let few = r.yard.few in
    let le = s.limits (subst MayTake (sym c) tt) from m.new_take (omega arith) (take_was r from ∙ m.new_take_is) in
    let p = spent_within r ws from [] m le spent in
    let k = sym (length-append (waits_in r.vs from at) p.0) ∙ ap length p.1 in
    nil_from_length (waits_in r.vs from at) (omega arith)

drain_in : {sli : ℕ} (r : Run sli) (ws zs : List (Worker sli Lanes)) → Settles r ws zs → (most : ℕ) → r.call ≡ Drain most → (k : ℕ) → k < length r.vs → k ≢ at_of r
    → (rest : List Post) × (waits_in r.vs k (at_of r) ≡ posts_taken k (at_of r) r.step.step.own ++ rest) × ((sum_below (suc k) (λ i. length (posts_taken i (at_of r) r.step.step.own)) ≡ most) ⊎ (rest ≡ []))
drain_in r ws zs s most c k lt ne =
    let at = at_of r in
    let concern : ConcernsCall r.made at r.call k at = subst (λ x. ConcernsCall r.made at x k at) (sym c) refl in
    let m = s.before k at lt (at_in r) ne concern in
    let n = s.after k at lt (at_in r) ne concern in
    let entry : Entry = record { worker = at; call = r.call; reply = r.reply } in
    let none : post_of_take k r.call r.reply ≡ None = rw c refl in
    let took : posts_taken k at (own_of r) ≡ posts_taken k at r.step.step.own =
    taken_then k at r.step.step.own (entry ∷ []) ∙ (ap (λ l. posts_taken k at r.step.step.own ++ l) (told_nothing (λ e. post_of_take k e.call e.reply) at entry none) ∙ append-nil (posts_taken k at r.step.step.own)) in
    let waits : waits_in r.vs k at ≡ posts_taken k at r.step.step.own ++ waited n.new_take = lane_took r ws zs k ne m n ∙ ap (λ l. l ++ waited n.new_take) took in
    let few = r.yard.few in
    let le = s.limits (subst MayTake (sym c) tt) k m.new_take (omega arith) (take_was r k ∙ m.new_take_is) in (
      waited n.new_take,
      waits,
      elim (r.step.each most c k lt ne) [
        | inl all ↦ inl all
        | inr spent ↦ inr (no_rest (waits_in r.vs k at) (posts_taken k at r.step.step.own) (waited n.new_take) waits (spent_within r ws k r.step.step.own m le spent))
      ],
    )

suits : {sli : ℕ} (r : Run sli) (ws zs : List (Worker sli Lanes)) → Settles r ws zs → SuitsCall (world_of r.vs) (length r.vs) (at_of r) r.made r.call r.reply r.step.step.own
unfolding world_of
suits r ws zs s =
    let n = heaps_count r.vs in
    record {
      one = record {
        room = λ target name c known ne lt e. room_in r ws zs s target name c known ne (omega arith) e;
        full = λ target name c known ne lt e. full_in r ws zs s target name c known ne (omega arith) e;
        first = λ from t c ne lt e. first_in r ws zs s from t c ne (omega arith) e;
        empty = λ from c ne lt e. empty_in r ws zs s from c ne (omega arith) e;
      };
      drain = λ most c k lt ne. drain_in r ws zs s most c k lt ne;
    }

-- ---- whom the entries of a call are of

takes_away : (at low j : ℕ) (es : List Entry) → AreTakes at low es → j ≢ at → entries_of j es ≡ []
takes_away at low j [] t ne = refl
takes_away at low j (e ∷ es) t ne =
    let w : e.worker ≡ at = ap (λ (x : Entry). x.worker) t.2 in
    let apart : e.worker ≢ j = λ q. ne (sym q ∙ w) in
    let b : (e.worker == j) ≡ false = grind (arith, nat_tests) in
    rw b (takes_away at t.0 j es t.4 ne)

one_away : (at j : ℕ) (call : Call) (reply : Reply) → j ≢ at → entries_of j (one at call reply) ≡ []
one_away at j call reply ne = let apart : at ≢ j = λ q. ne (sym q) in let b : (at == j) ≡ false = grind (arith, nat_tests) in rw b refl

call_away : (at : ℕ) (made : List (Option Name)) (call : Call) (name : Option Name) (own : List Entry) (j : ℕ) → TellsCall at made call name own → j ≢ at → entries_of j own ≡ []
call_away at made (Drain most) name own j t ne =
    let d = t.1 in
    let last = one at (Drain most) (Drained (length d.takes)) in
    ap (entries_of j) d.whole ∙ (filter-append (λ e. e.worker == j) d.takes last ∙ (ap (λ l. l ++ entries_of j last) (takes_away at 0 j d.takes d.are_takes ne) ∙ one_away at j (Drain most) (Drained (length d.takes)) ne))
call_away at made call name own j t ne = ap (entries_of j) t.whole ∙ one_away at j call t.reply ne

-- a post is made by a release of such a name alone
abbrev Posts : ℕ → List (Option Name) → Call → Type 0
Posts j later call = (target : Target) × (name : Name) × (call ≡ Release target) × (name_of later target ≡ Some name) × (name.heap ≡ j)

named_or : (at j : ℕ) (later : List (Option Name)) (target : Target) (o : Option Name) → name_of later target ≡ o → (posts_made at j later (one at (Release target) Posted) ≡ []) ⊎ Posts j later (Release target)
named_or at j later target None e =
    let entry : Entry = record { worker = at; call = Release target; reply = Posted } in
    let f : Entry → Option Post = λ x. post_of_release j later x.worker x.call x.reply in
    let none : f entry ≡ None = rw e refl in
    inl (told_nothing f at entry none)
named_or at j later target (Some name) e = elim (cases_eq name.heap j) [
  | inl here ↦ inr (target, name, refl, e, here)
  | inr away ↦
      let entry : Entry = record { worker = at; call = Release target; reply = Posted } in
      let f : Entry → Option Post = λ x. post_of_release j later x.worker x.call x.reply in
      let none : f entry ≡ None = rw (e, of_other j name away) refl in
      inl (told_nothing f at entry none)
]

release_or : (at j : ℕ) (later : List (Option Name)) (target : Target) (reply : Reply) → (posts_made at j later (one at (Release target) reply) ≡ []) ⊎ Posts j later (Release target)
release_or at j later target Posted = named_or at j later target (name_of later target) refl
release_or at j later target reply = inl (told_nothing (λ x. post_of_release j later x.worker x.call x.reply) at (record { worker = at; call = Release target; reply = reply }) refl)

posts_or : (at j : ℕ) (made later : List (Option Name)) (call : Call) (name : Option Name) (own : List Entry) → TellsCall at made call name own → (posts_made at j later own ≡ []) ⊎ Posts j later call
posts_or at j made later (Drain most) name own t = inl (drain_makes at j at most later own t.1)
posts_or at j made later (Release target) name own t = subst (λ es. (posts_made at j later es ≡ []) ⊎ Posts j later (Release target)) (sym t.whole) (release_or at j later target t.reply)
posts_or at j made later call name own t = inl (ap (posts_made at j later) t.whole ∙ told_nothing (λ x. post_of_release j later x.worker x.call x.reply) at (record { worker = at; call = call; reply = t.reply }) refl)

-- ---- what a release leaves in a lane that isn't there

far_lane_waits : {sli : ℕ} (w : World sli) (at j : ℕ) (o : Option Name) → (j ≡ at) ⊎ (length w.heaps ≤ j) → (releasing_named w at o).world.waiting at j ≡ w.waiting at j
far_lane_waits w at j None far = refl
far_lane_waits {sli} w at j (Some name) far =
    let same : WorldReply sli → Type 0 = λ x. x.world.waiting at j ≡ w.waiting at j in
    releasing_by same w at name (λ own. refl) (λ ne lt. posting_by same w at name (λ full. refl) (λ room.
    let away : name.heap ≢ j = elim far [ inl e ↦ λ q. ne (q ∙ e) | inr ge ↦ λ q. absurd (omega arith) ] in
    edited_other w.waiting at name.heap at j (w.waiting at name.heap ++ record { from = at; name = name } ∷ []) (λ _ q. away (sym q)))) (λ ne ge. refl)

-- ---- the capacity of a world

draining_capacity : {sli : ℕ} (r : Replayed sli) (at most : ℕ) → (draining r at most).world.capacity ≡ r.world.capacity
unfolding draining
draining_capacity r at most = drain_by (λ d. d.world.capacity ≡ r.world.capacity) at most (record { entries = r.entries; world = r.world; taken = 0 }) (λ from d p lt ne full same. same) refl

called_capacity : {sli : ℕ} (r : Replayed sli) (at : ℕ) (call : Call) → (called r at call).world.capacity ≡ r.world.capacity
called_capacity r at (Release target) = release_capacity r.world at (name_of r.made target)
called_capacity r at (Take from) = taking_by (λ x. x.world.capacity ≡ r.world.capacity) r.world at from refl refl (λ p rest ne lt e. refl)
called_capacity r at (Drain most) = draining_capacity r at most
called_capacity r at call = refl

-- ---- the model's world is the yard's

-- a list that differs at one place
same_set : {X : Type 0} (d h : X) (xs ys : List X) (at : ℕ) → length ys ≡ length xs → at < length xs → get_or ys at d ≡ h → ((j : ℕ) → j < length xs → j ≢ at → get_or ys j d ≡ get_or xs j d) → ys ≡ set xs at h
same_set d h [] ys at len lt here others = absurd (omega arith)
same_set d h (x ∷ xs) [] at len lt here others = absurd (omega arith)
same_set d h (x ∷ xs) (y ∷ ys) zero len lt here others =
    let e : y ≡ h = here in
    let rest : ys ≡ xs = same_all d xs ys (omega arith) (λ j less. others (suc j) (omega arith) (λ q. absurd (omega arith))) in
    cc
  where
    same_all : {X : Type 0} (d : X) (xs ys : List X) → length ys ≡ length xs → ((j : ℕ) → j < length xs → get_or ys j d ≡ get_or xs j d) → ys ≡ xs
    same_all d [] [] len all = refl
    same_all d [] (y ∷ ys) len all = absurd (omega arith)
    same_all d (x ∷ xs) [] len all = absurd (omega arith)
    same_all d (x ∷ xs) (y ∷ ys) len all =
        let e : y ≡ x = all 0 (omega arith) in
        let rest = same_all d xs ys (omega arith) (λ j less. all (suc j) (omega arith)) in
        cc
same_set d h (x ∷ xs) (y ∷ ys) (suc at) len lt here others =
    let e : y ≡ x = others 0 (omega arith) (λ q. absurd (omega arith)) in
    let rest = same_set d h xs ys at (omega arith) (omega arith) here (λ j less ne. others (suc j) (omega arith) (λ q. ne (omega arith))) in
    cc

-- what the model answers and leaves
record Model {sli : ℕ} (r : Run sli) (s : Replayed sli) : Type 0 where
  name : Option Name
  tells : TellsCall (at_of r) r.made r.call name (own_of r)
  history : IsHistory (r.made ++ []) (world_of r.vs) (own_of r) s.world
  made : s.made ≡ r.made ++ made_by r.reply ∷ []
  entries : s.entries ≡ r.longer ++ one (at_of r) r.call r.reply
  heap : heap_in s.world (at_of r) ≡ heap_of r.v

abbrev begun_of : {sli : ℕ} → Run sli → Replayed sli
begun_of r = replay_of r.made r.es r.vs

model : {sli : ℕ} (r : Run sli) (ws zs : List (Worker sli Lanes)) → Settles r ws zs → Model r (called (begun_of r) (at_of r) r.call)
model r ws zs s =
    let at = at_of r in
    let n = heaps_count r.vs in
    let inside = at_in r in
    let told = r.step.exact (world_of r.vs) (n, heap_in_is r.vs at r.a r.is) (suits r ws zs s) in
    let t = called_told (r.made ++ []) (begun_of r) at r.call (omega arith) (more_knows r.made []) in
    let entries = ap (λ x. x.entries) told in
    let all : r.longer ++ one at r.call r.reply ≡ r.es ++ own_of r = ap (λ l. l ++ one at r.call r.reply) r.step.step.entries_are ∙ append_assoc r.es r.step.step.own (one at r.call r.reply) in
    let own : t.own ≡ own_of r = append_cancel_left r.es t.own (own_of r) (sym t.entries ∙ (entries ∙ all)) in
    record {
      name = t.name;
      tells = subst (TellsCall at r.made r.call t.name) own t.tells;
      history = subst (λ es. IsHistory (r.made ++ []) (world_of r.vs) es (called (begun_of r) at r.call).world) own t.history;
      made = ap (λ x. x.made) told;
      entries = entries;
      heap = ap (λ x. x.heap) told;
    }

nothing_run : {sli : ℕ} (made : List (Option Name)) (own : List Entry) (j : ℕ) (h g : HeapState) → entries_of j own ≡ [] → RunsTo sli h (calls_on j made own) (answers_on j own) g → h ≡ g
nothing_run {sli} made own j h g none run = sym (ap (λ (es : List Entry). (heap.run sli h (filter_map (λ e. call_on_own made e.worker e.call e.reply) es)).1) none) ∙ run.left

heaps_stay : {sli : ℕ} (r : Run sli) (s : Replayed sli) → Model r s → s.world.heaps ≡ (world_of (us_of r)).heaps
unfolding world_of
heaps_stay r s m =
    let at = at_of r in
    let n = heaps_count r.vs in
    let inside = at_in r in
    let other : (j : ℕ) → j < length (map heap_of r.vs) → j ≢ at → get_or s.world.heaps j no_heap ≡ get_or (map heap_of r.vs) j no_heap = λ j lt ne.
    let none = call_away at r.made r.call m.name (own_of r) j m.tells ne in
    let run = m.history.heaps j lt in
    sym (nothing_run (r.made ++ []) (own_of r) j (get_or (map heap_of r.vs) j no_heap) (get_or s.world.heaps j no_heap) none run) in
    same_set no_heap (heap_of r.v) (map heap_of r.vs) s.world.heaps at m.history.count (omega arith) m.heap other ∙ sym (map-set heap_of r.vs at r.v)

lane_of : (o : Option PostEnd) (u : Option TakeEnd) (p : PostEnd) (t : TakeEnd) → o ≡ Some p → u ≡ Some t → lane_waits o u ≡ drop (length (taken t)) (waited t ++ posts_sent p)
lane_of o u p t a b = rw (a, b) refl

-- the model after the call
abbrev after_of : {sli : ℕ} → Run sli → Replayed sli
after_of r = called (begun_of r) (at_of r) r.call

none_made : (i j : ℕ) (made : List (Option Name)) (own : List Entry) → entries_of i own ≡ [] → posts_made i j made own ≡ []
none_made i j made own none = ap (λ (es : List Entry). filter_map (λ e. post_of_release j made e.worker e.call e.reply) es) none

none_taken : (i j : ℕ) (own : List Entry) → entries_of j own ≡ [] → posts_taken i j own ≡ []
none_taken i j own none = ap (λ (es : List Entry). filter_map (λ e. post_of_take i e.call e.reply) es) none

nil_end : (xs ys : List Post) → [] ≡ xs ++ ys → ys ≡ []
nil_end xs ys e = let a = ap length e ∙ length-append xs ys in nil_from_length ys (omega arith)

-- a lane that isn't there
nowhere_same : {sli : ℕ} (r : Run sli) → Model r (after_of r) → (j : ℕ) → (j ≡ at_of r) ⊎ (length r.vs ≤ j) → waits_in r.vs (at_of r) j ≡ [] → waits_in (us_of r) (at_of r) j ≡ []
    → (after_of r).world.waiting (at_of r) j ≡ waits_in (us_of r) (at_of r) j
unfolding world_of
nowhere_same r m j far before now =
    let at = at_of r in
    let posts = posts_made at j (r.made ++ []) (own_of r) in
    elim (posts_or at j r.made (r.made ++ []) r.call m.name (own_of r) m.tells) [
      | inl none ↦
          let e : waits_in r.vs at j ++ posts ≡ [] = ap (λ l. l ++ posts) before ∙ none in
          nil_end (posts_taken at j (own_of r)) ((after_of r).world.waiting at j) (sym e ∙ m.history.posts at j) ∙ sym now
      | inr p ↦
          let n = heaps_count r.vs in
          let away : (j ≡ at) ⊎ (length (world_of r.vs).heaps ≤ j) = elim far [ inl e ↦ inl e | inr ge ↦ inr (omega arith) ] in
          ap (λ (c : Call). (called (begun_of r) at c).world.waiting at j) p.2 ∙ (far_lane_waits (world_of r.vs) at j (name_of r.made p.0) away ∙ (before ∙ sym now))
    ]

sent_same : {sli : ℕ} (r : Run sli) (ws zs : List (Worker sli Lanes)) → Settles r ws zs → Model r (after_of r) → (j : ℕ) → j < length r.vs → j ≢ at_of r → (after_of r).world.waiting (at_of r) j ≡ waits_in (us_of r) (at_of r) j
unfolding world_of
sent_same r ws zs s m j lt ne =
    let at = at_of r in
    let apart : at ≢ j = λ q. ne (sym q) in
    let mv = moved_of r in
    let posts = posts_made at j (r.made ++ []) (own_of r) in
    let none = none_taken at j (own_of r) (call_away at r.made r.call m.name (own_of r) j m.tells ne) in
    let model : (after_of r).world.waiting at j ≡ waits_in r.vs at j ++ posts = sym (m.history.posts at j ∙ ap (λ l. l ++ (after_of r).world.waiting at j) none) in
    let h = r.yard.lanes at j (at_in r) lt apart in
    let e = mv.sent j h.0 (post_was r j ∙ h.2) in
    let t = h.1 in
    let was : waits_in r.vs at j ≡ drop (length (taken t)) (waited t ++ posts_sent h.0) = rw (h.2, h.3) refl in
    let post_is : post_at (us_of r) at j ≡ Some e.end = post_at_own r j ∙ e.end_is in
    let take_is : take_at (us_of r) at j ≡ Some t = take_at_other r at j ne ∙ h.3 in
    let now : waits_in (us_of r) at j ≡ drop (length (taken t)) (waited t ++ (posts_sent h.0 ++ posts)) = lane_of (post_at (us_of r) at j) (take_at (us_of r) at j) e.end t post_is take_is ∙ ap (λ l. drop (length (taken t)) (waited t ++ l)) e.sent in
    model ∙ elim (posts_or at j r.made (r.made ++ []) r.call m.name (own_of r) m.tells) [
      | inl quiet ↦
          let same : posts_sent h.0 ++ posts ≡ posts_sent h.0 = ap (λ l. posts_sent h.0 ++ l) quiet ∙ append-nil (posts_sent h.0) in
          ap (λ l. waits_in r.vs at j ++ l) quiet ∙ (append-nil (waits_in r.vs at j) ∙ (was ∙ (ap (λ l. drop (length (taken t)) (waited t ++ l)) (sym same) ∙ sym now)))
      | inr p ↦
          let known : name_of r.made p.0 ≡ Some p.1 = ap (λ (l : List (Option Name)). name_of l p.0) (sym (append-nil r.made)) ∙ p.3 in
          let concern : ConcernsCall r.made at r.call at j = subst (λ x. ConcernsCall r.made at x at j) (sym p.2) (refl, p.1, known, sym p.4) in
          let first = s.before at j (at_in r) lt apart concern in
          let same : t ≡ first.new_take = some_same t first.new_take (sym h.3 ∙ first.new_take_is) in
          let fresh : taken t ≡ [] = ap taken same ∙ first.beside.fresh.1 in
          let whole : (xs : List Post) → drop (length (taken t)) xs ≡ xs = λ xs. ap (λ (l : List Post). drop (length l) xs) fresh in
          ap (λ l. l ++ posts) (was ∙ whole (waited t ++ posts_sent h.0)) ∙ (append_assoc (waited t) (posts_sent h.0) posts ∙ (sym (whole (waited t ++ (posts_sent h.0 ++ posts))) ∙ sym now))
    ]

taken_same_lane : {sli : ℕ} (r : Run sli) → Model r (after_of r) → (i : ℕ) → i < length r.vs → i ≢ at_of r → (after_of r).world.waiting i (at_of r) ≡ waits_in (us_of r) i (at_of r)
unfolding world_of
taken_same_lane r m i lt ne =
    let at = at_of r in
    let mv = moved_of r in
    let took = posts_taken i at (own_of r) in
    let left = (after_of r).world.waiting i at in
    let none = none_made i at (r.made ++ []) (own_of r) (call_away at r.made r.call m.name (own_of r) i m.tells ne) in
    let model : waits_in r.vs i at ≡ took ++ left = sym (ap (λ l. waits_in r.vs i at ++ l) none ∙ append-nil (waits_in r.vs i at)) ∙ m.history.posts i at in
    let h = r.yard.lanes i at lt (at_in r) ne in
    let t = h.1 in
    let e = mv.taken i t (take_was r i ∙ h.3) in
    let was : waits_in r.vs i at ≡ drop (length (taken t)) (waited t ++ posts_sent h.0) = rw (h.2, h.3) refl in
    let post_is : post_at (us_of r) i at ≡ Some h.0 = post_at_other r i at ne ∙ h.2 in
    let take_is : take_at (us_of r) i at ≡ Some e.end = own_end r i ∙ e.end_is in
    let count : length (taken e.end) ≡ length (taken t) + length took = ap length e.taken ∙ length-append (taken t) took in
    let now : waits_in (us_of r) i at ≡ drop (length (taken t) + length took) (waited t ++ posts_sent h.0) =
    lane_of (post_at (us_of r) i at) (take_at (us_of r) i at) h.0 e.end post_is take_is ∙ (ap (λ n. drop n (waited e.end ++ posts_sent h.0)) count ∙ ap (λ l. drop (length (taken t) + length took) (l ++ posts_sent h.0)) e.waited) in
    sym (drop_at took left (length took) refl) ∙ (ap (drop (length took)) (sym model ∙ was) ∙ (drop-drop (length took) (length (taken t)) (waited t ++ posts_sent h.0) ∙ sym now))

lanes_same : {sli : ℕ} (r : Run sli) (ws zs : List (Worker sli Lanes)) → Settles r ws zs → Model r (after_of r) → (i j : ℕ) → (after_of r).world.waiting i j ≡ waits_in (us_of r) i j
unfolding world_of
lanes_same r ws zs s m i j =
    let at = at_of r in
    let k = length-set r.vs at r.v in
    let us = us_yard r in
    elim (cases_eq j at) [
      | inl own ↦ elim (cases_eq i at) [
        | inl self ↦
            let same : i ≡ j = self ∙ sym own in
            rw (self, own) (nowhere_same r m at (inl refl) (none_wait r.vs at at r.yard (λ ne. absurd (ne refl))) (none_wait (us_of r) at at us (λ ne. absurd (ne refl))))
        | inr ne ↦ elim (cases_lt i (length r.vs)) [
          | inl lt ↦ rw own (taken_same_lane r m i lt ne)
          | inr ge ↦
              let none = none_made i at (r.made ++ []) (own_of r) (call_away at r.made r.call m.name (own_of r) i m.tells ne) in
              let e : waits_in r.vs i at ++ posts_made i at (r.made ++ []) (own_of r) ≡ [] = ap (λ l. l ++ posts_made i at (r.made ++ []) (own_of r)) (none_wait r.vs i at r.yard (λ _. ge)) ∙ none in
              rw own (nil_end (posts_taken i at (own_of r)) ((after_of r).world.waiting i at) (sym e ∙ m.history.posts i at) ∙ sym (none_wait (us_of r) i at us (λ _. omega arith)))
        ]
      ]
      | inr apart ↦ elim (cases_eq i at) [
        | inl self ↦ elim (cases_lt j (length r.vs)) [
          | inl lt ↦ rw self (sent_same r ws zs s m j lt apart)
          | inr ge ↦ rw self (nowhere_same r m j (inr ge) (none_for r.vs at j r.yard ge) (none_for (us_of r) at j us (omega arith)))
        ]
        | inr ne ↦
            let made = none_made i j (r.made ++ []) (own_of r) (call_away at r.made r.call m.name (own_of r) i m.tells ne) in
            let taken = none_taken i j (own_of r) (call_away at r.made r.call m.name (own_of r) j m.tells apart) in
            let model : waits_in r.vs i j ≡ (after_of r).world.waiting i j =
            sym (ap (λ l. waits_in r.vs i j ++ l) made ∙ append-nil (waits_in r.vs i j)) ∙ (m.history.posts i j ∙ ap (λ l. l ++ (after_of r).world.waiting i j) taken) in
            let now : waits_in (us_of r) i j ≡ waits_in r.vs i j =
            ap (λ o. lane_waits o (take_at (us_of r) i j)) (post_at_other r i j ne) ∙ ap (λ o. lane_waits (post_at r.vs i j) o) (take_at_other r i j apart) in
            sym model ∙ sym now
      ]
    ]

model_world : {sli : ℕ} (r : Run sli) (ws zs : List (Worker sli Lanes)) → Settles r ws zs → Model r (after_of r) → (after_of r).world ≡ world_of (us_of r)
unfolding world_of
model_world r ws zs s m =
    same_world (after_of r).world (world_of (us_of r)) (heaps_stay r (after_of r) m) (lanes_same r ws zs s m) (called_capacity (begun_of r) (at_of r) r.call ∙ sym (us_capacity r))

-- the call leaves what the model says
ran : {sli : ℕ} (r : Run sli) (ws zs : List (Worker sli Lanes)) → Settles r ws zs → after_of r ≡ replay_of (r.made ++ made_by r.reply ∷ []) (r.longer ++ one (at_of r) r.call r.reply) zs
ran r ws zs s =
    let m = model r ws zs s in
    let w : (after_of r).world ≡ world_of zs = model_world r ws zs s m ∙ sym s.world in
    λ k. record { made = m.made k; entries = m.entries k; world = w k }

pub replied : {sli : ℕ} (r : Run sli) (ws zs : List (Worker sli Lanes)) (event : Event) → Settles r ws zs → world_of r.vs ≡ world_of ws → event.worker ≡ at_of r → event.call ≡ r.call
    → IsReplied (replay_of r.made r.es ws) event r.longer zs r.reply
replied {sli} r ws zs event s world at_is call_is =
    let at = at_of r in
    let start : Replayed sli = replay_of r.made r.es ws in
    let n = heaps_count r.vs in
    let inside = at_in r in
    let same = ap (λ (w : World sli). length w.heaps) world in
    let first : Entry = record { worker = at; call = r.call; reply = r.reply } in
    let last : Entry = record { worker = event.worker; call = event.call; reply = r.reply } in
    let entry : first ≡ last = λ k. record { worker = (sym at_is) k; call = (sym call_is) k; reply = r.reply } in
    record {
      yard = s.yard;
      after = after_near start event r.call (omega arith) call_is ∙ (ap (λ (k : ℕ). called start k r.call) at_is
          ∙ (ap (λ (w : World sli). called (record { made = r.made; entries = r.es; world = w }) at r.call) (sym world) ∙ (ran r ws zs s
          ∙ ap (λ (e : Entry). replay_of (r.made ++ made_by r.reply ∷ []) (r.longer ++ e ∷ []) zs) entry)));
    }

-- ---- before and after the call

-- the facts of both settlings, where the worker goes by the event's number
pub settles : {sli : ℕ} (r : Run sli) (ws zs : List (Worker sli Lanes)) (at : ℕ) → at_of r ≡ at → length r.vs ≡ length ws
    → ((i j : ℕ) → i < length ws → j < length ws → i ≢ j → ConcernsCall r.made at r.call i j → LaneSettled ws r.vs i j)
    → ((i j : ℕ) → i < length (set r.vs at r.v) → j < length (set r.vs at r.v) → i ≢ j → ConcernsCall r.made at r.call i j → LaneSettled (set r.vs at r.v) zs i j)
    → (MayTake r.call → (i : ℕ) (t : TakeEnd) → i < 8 → take_at r.vs i at ≡ Some t → length (ready t) ≤ slice_index r.limits i)
    → IsYard zs → length zs ≡ length (set r.vs at r.v) → world_of zs ≡ world_of (set r.vs at r.v) → Settles r ws zs
settles r ws zs at e len first second limits yard count world =
    let k = length-set r.vs at r.v in
    record {
      before = λ i j a b ne c. first i j (omega arith) (omega arith) ne (subst (λ x. ConcernsCall r.made x r.call i j) e c);
      after = λ i j a b ne c. subst (λ x. LaneSettled (set r.vs x r.v) zs i j) (sym e) (second i j (omega arith) (omega arith) ne (subst (λ x. ConcernsCall r.made x r.call i j) e c));
      limits = λ may i t lt is. limits may i t lt (subst (λ x. take_at r.vs i x ≡ Some t) e (sym (take_was r i) ∙ is));
      yard = yard;
      count = count ∙ ap (λ x. length (set r.vs x r.v)) (sym e);
      world = world ∙ ap (λ x. world_of (set r.vs x r.v)) (sym e);
    }

-- what is ready after the lanes to a worker were settled is all that waits
pub limits_are : {sli : ℕ} (ws vs : List (Worker sli Lanes)) (e : Event) (counts : List ℕ) (a : Worker sli Lanes) → IsYard vs → length vs ≡ length ws → slice_get vs e.worker ≡ Some a
    → ((i : ℕ) → i < length ws → i ≢ e.worker → LaneSettled ws vs i e.worker) → ((i : ℕ) → i < 8 → slice_index counts i ≡ ready_from a i) → AreLimits vs e counts
limits_are ws vs e counts a yard len is settled counted =
    let at = e.worker in
    let was : (i : ℕ) → end_from a i ≡ take_at vs i at = λ i. sym (ap (λ o. end_from_in o i) is) in
    let none : (i : ℕ) → take_at vs i at ≡ None → ready_from a i ≡ 0 = λ i q. ap count_of (was i ∙ q) in
    record {
      few = λ i lt.
          let n = counted i lt in
          elim (cases_eq i at) [
            | inl own ↦ let z = none i (subst (λ x. take_at vs x at ≡ None) (sym own) (yard.alone at).1) in omega arith
            | inr ne ↦ elim (cases_lt i (length vs)) [
              | inl i_in ↦
                  let m = settled i (omega arith) ne in
                  let r = ap count_of (was i ∙ m.new_take_is) in
                  let k = ap length m.beside.fresh.2 in
                  let w = ap length (settled_waits ws vs i at m) in
                  omega arith
              | inr far ↦ let z = none i (yard.outside at i far).1 in omega arith
            ]
          ];
      all = λ may i t lt q. let n = counted i lt in let r = ap count_of (was i ∙ q) in omega arith;
    }

-- where nothing may be taken, no limits are enough
pub zero_limits : {sli : ℕ} (ws : List (Worker sli Lanes)) (e : Event) → (MayTake e.call → ⊥) → AreLimits ws e (replicate 8 0)
zero_limits ws e none = record { few = λ i lt. let z : slice_index (replicate 8 0) i ≡ 0 = get_or-replicate 8 i 0 0 lt in omega (arith, z); all = λ may. absurd (none may) }

pub limit_room : {sli : ℕ} (ws vs : List (Worker sli Lanes)) (e : Event) (limits : List ℕ) → AreLimits vs e limits → world_of vs ≡ world_of ws → sum_of limits ≤ sum_below 8 (λ i. length (waits_in ws i e.worker))
limit_room ws vs e limits l same =
    least_sum 8 (slice_index limits) (λ i. length (waits_in ws i e.worker)) (λ i lt. let w = ap length (waits_same ws vs same i e.worker) in omega (arith, l.few i lt))
