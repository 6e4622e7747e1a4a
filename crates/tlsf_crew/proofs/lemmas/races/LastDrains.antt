-- The last drains, worker after worker, take all that waits, are told, and have their room.
use Rattle.tlsf_crew.proofs.Common.{[], ◌∷◌, ◌++◌, ◌≡◌, ◌≢◌, ℕ, ◌+◌, ◌*◌, ◌<◌, ◌≤◌, List, Option, Some, None, length, map, set, get_or, sym, ◌∙◌, ap, subst, arith, refl, inl, inr, append-nil, length-append, get_or-set_same, get_or-set_other, cases_eq, cases_lt, length-map, length-set, map-set, slice_get_within, slice_get-map, get_or_from_slice_get, slice_get, option_map, Vec, Global, Name, Post, Worker, Lanes, Entry, IsYard, heap_of_worker, capacity_in, waits_in, world_of, World, Replayed, made_by, called, after_drain, draining, sum_below, posts_made, posts_taken, drain_of, replay_of, IsReplied, Event, Reply, Drained, last_call, record_of, MayTell, HasFew, HasLastRoom, LastTold, EachLastDrained}
use Rattle.tlsf_crew.proofs.lemmas.model.EventSteps.{after_near}
use Rattle.tlsf_crew.proofs.lemmas.lanes.LaneChanges.{heaps_count}
use Rattle.tlsf_crew.proofs.lemmas.histories.DrainEntries.{drain_told, drain_makes}
use Rattle.tlsf_crew.proofs.lemmas.model.Emptied.{LanesOut, waits_below, all_out}
use Rattle.tlsf_crew.proofs.lemmas.model.Sums.{sum_most, sum_longer, same_sum}
use Rattle.tlsf_crew.proofs.lemmas.lanes.LaneSettled.{none_wait}

-- what such a drain leaves
pub last_out : {sli : ℕ} (ws : List (Worker sli Lanes)) (es : List Entry) (at : ℕ) → IsYard ws → HasFew ws at
    → LanesOut at (length ws) (drain_of es ws 0) (after_drain at 8192 (drain_of es ws 0))
unfolding world_of
last_out ws es at yard few =
    let d = drain_of es ws 0 in
    let n = heaps_count ws in
    let k : waits_below at d (length ws) ≤ length ws * 1024 = sum_most (length ws) 1024 (λ x. length (waits_in ws x at)) (λ x _. few x) in
    let le : waits_below at d (length ws) ≤ 8192 = omega (arith, yard.few) in
    subst (λ (m : ℕ). LanesOut at m d (after_drain at 8192 d)) n (all_out at 8192 d (rw n (omega arith)))

pub last_drain_fits : {sli : ℕ} (ws : List (Worker sli Lanes)) (es : List Entry) (at : ℕ) → IsYard ws → HasFew ws at
    → length (after_drain at 8192 (drain_of es ws 0)).entries ≤ length es + sum_below 8 (λ i. length (waits_in ws i at))
unfolding world_of
last_drain_fits ws es at yard few =
    let a = (last_out ws es at yard few).entries in
    let b = sum_longer (length ws) 8 (λ x. length (waits_in ws x at)) yard.few in
    omega arith

-- the event of the last drain, and what it is told
last_replied : {sli : ℕ} (ws vs : List (Worker sli Lanes)) (made : List (Option Name)) (es fs : List Entry) (at : ℕ) (reply : Reply) → at < length ws
    → IsReplied (replay_of made es ws) (record { worker = at; call = last_call }) fs vs reply
    → draining (replay_of made es ws) at 8192 ≡ replay_of (made ++ made_by reply ∷ []) (fs ++ record { worker = at; call = last_call; reply = reply } ∷ []) vs
last_replied ws vs made es fs at reply lt told =
    let n = heaps_count ws in
    let event : Event = record { worker = at; call = last_call } in
    sym (after_near (replay_of made es ws) event last_call (omega arith) refl) ∙ told.after

pub last_fits : {sli : ℕ} (ws vs : List (Worker sli Lanes)) (made : List (Option Name)) (es fs : List Entry) (at : ℕ) (reply : Reply) → IsYard ws → HasFew ws at → at < length ws
    → IsReplied (replay_of made es ws) (record { worker = at; call = last_call }) fs vs reply → length fs ≤ length es + sum_below 8 (λ i. length (waits_in ws i at))
unfolding draining
last_fits {sli} ws vs made es fs at reply yard few lt told =
    let d = after_drain at 8192 (drain_of es ws 0) in
    let last : Entry = record { worker = at; call = last_call; reply = Drained d.taken } in
    let entry : Entry = record { worker = at; call = last_call; reply = reply } in
    let e : d.entries ++ last ∷ [] ≡ fs ++ entry ∷ [] = ap (λ (x : Replayed sli). x.entries) (last_replied ws vs made es fs at reply lt told) in
    let a = sym (length-append d.entries (last ∷ [])) ∙ (ap length e ∙ length-append fs (entry ∷ [])) in
    let b = last_drain_fits ws es at yard few in
    omega arith

pub last_told : {sli : ℕ} (ws vs : List (Worker sli Lanes)) (es fs : List Entry) (at : ℕ) (reply : Reply) → at < length ws → IsReplied (replay_of [] es ws) (record { worker = at; call = last_call }) fs vs reply
    → (made : List (Option Name)) → replay_of (made ++ None ∷ []) (fs ++ record { worker = at; call = last_call; reply = reply } ∷ []) vs ≡ called (replay_of made es ws) at last_call
unfolding draining
last_told {sli} ws vs es fs at reply lt told made =
    let d = after_drain at 8192 (drain_of es ws 0) in
    let last : Entry = record { worker = at; call = last_call; reply = Drained d.taken } in
    let entry : Entry = record { worker = at; call = last_call; reply = reply } in
    let all = last_replied ws vs [] es fs at reply lt told in
    let e : d.entries ++ last ∷ [] ≡ fs ++ entry ∷ [] = ap (λ (x : Replayed sli). x.entries) all in
    let w : d.world ≡ world_of vs = ap (λ (x : Replayed sli). x.world) all in
    sym (λ k. record { made = made ++ None ∷ []; entries = e k; world = w k })

-- ---- one drain

-- worker j took all, and nothing else changed
pub record OneDrained {sli : ℕ} (ws vs : List (Worker sli Lanes)) (j : ℕ) (es fs : List Entry) : Type 0 where
  pub last : LastTold ws vs j es fs
  pub yard : IsYard vs
  pub count : length vs ≡ length ws
  pub capacity : capacity_in vs ≡ capacity_in ws
  pub empty : (i : ℕ) → waits_in vs i j ≡ []
  pub waits : (i y : ℕ) → y ≢ j → waits_in vs i y ≡ waits_in ws i y
  pub heaps : (y : ℕ) → y ≢ j → heap_of_worker vs y ≡ heap_of_worker ws y

abbrev TellsLast : {sli : ℕ} → List (Worker sli Lanes) → List (Worker sli Lanes) → ℕ → List Entry → List Entry → Type 0
TellsLast ws vs j es fs = (made : List (Option Name)) → replay_of (made ++ None ∷ []) fs vs ≡ draining (replay_of made es ws) j 8192

waits_of : {sli : ℕ} (w : World sli) (vs : List (Worker sli Lanes)) → world_of vs ≡ w → (i j : ℕ) → waits_in vs i j ≡ w.waiting i j
unfolding world_of
waits_of {sli} w vs e i j = ap (λ (x : World sli). x.waiting i j) e

heap_of_world : {sli : ℕ} (w : World sli) (vs : List (Worker sli Lanes)) → world_of vs ≡ w → (j : ℕ) → heap_of_worker vs j ≡ get_or w.heaps j (heap_of_worker {sli = sli} [] 0)
unfolding world_of
heap_of_world {sli} w vs e j = ap (λ (x : World sli). get_or x.heaps j (heap_of_worker {sli = sli} [] 0)) e

capacity_of_world : {sli : ℕ} (w : World sli) (vs : List (Worker sli Lanes)) → world_of vs ≡ w → capacity_in vs ≡ w.capacity
unfolding world_of
capacity_of_world {sli} w vs e = ap (λ (x : World sli). x.capacity) e

may_tell_last : {sli : ℕ} (ws vs : List (Worker sli Lanes)) (j : ℕ) (es fs : List Entry) (made : List (Option Name)) → replay_of (made ++ None ∷ []) fs vs ≡ draining (replay_of made es ws) j 8192
    → MayTell sli (length ws) j (record { made = made; entries = es; heap = heap_of_worker ws j }) last_call (record { made = made ++ None ∷ []; entries = fs; heap = heap_of_worker vs j })
unfolding world_of
may_tell_last {sli} ws vs j es fs made e =
    (world_of ws, (heaps_count ws, refl), ap (λ (r : Replayed sli). record { made = r.made; entries = r.entries; heap = get_or r.world.heaps j (heap_of_worker {sli = sli} [] 0) }) (sym e))

nothing_left : (ps qs ms : List Post) (waits : List Post) → waits ++ ms ≡ ps ++ qs → ms ≡ [] → qs ≡ [] → ps ≡ waits
nothing_left ps qs ms waits e m q = sym (append-nil ps) ∙ (ap (λ l. ps ++ l) (sym q) ∙ (sym e ∙ (ap (λ l. waits ++ l) m ∙ append-nil waits)))

pub one_drained : {sli : ℕ} (ws vs : List (Worker sli Lanes)) (j : ℕ) (es fs : List Entry) → IsYard ws → j < length ws → HasFew ws j → IsYard vs → TellsLast ws vs j es fs → OneDrained ws vs j es fs
unfolding world_of draining
one_drained {sli} ws vs j es fs yard j_in few after tells =
    let d = drain_of es ws 0 in
    let b = after_drain j 8192 d in
    let r : Replayed sli = replay_of [] es ws in
    let n = heaps_count ws in
    let out = last_out ws es j yard few in
    let world : world_of vs ≡ b.world = ap (λ (x : Replayed sli). x.world) (tells []) in
    let told = drain_told [] r j 8192 (omega arith) in
    let h = told.history in
    let len : length vs ≡ length ws = sym (heaps_count vs) ∙ (ap (λ (x : World sli). length x.heaps) world ∙ (h.count ∙ n)) in
    let empty : (i : ℕ) → waits_in vs i j ≡ [] = λ i. elim (cases_lt i (length ws)) [
      | inl lt ↦ elim (cases_eq i j) [ inl e ↦ none_wait vs i j after (λ ne. absurd (ne e)) | inr ne ↦ waits_of b.world vs world i j ∙ out.empty i lt ne ]
      | inr ge ↦ none_wait vs i j after (λ _. omega arith)
    ] in
    record {
      last = record {
        own = told.own;
        entries = ap (λ (x : Replayed sli). x.entries) (tells []) ∙ told.entries;
        is_drain = told.tells.1;
        posts = λ i. nothing_left (posts_taken i j told.own) (b.world.waiting i j) (posts_made i j [] told.own) (waits_in ws i j) (h.posts i j)
            (drain_makes i j j 8192 [] told.own told.tells.1) (sym (waits_of b.world vs world i j) ∙ empty i);
        told = λ made. may_tell_last ws vs j es fs made (tells made);
      };
      yard = after;
      count = len;
      capacity = capacity_of_world b.world vs world ∙ out.capacity;
      empty = empty;
      waits = λ i y ne. waits_of b.world vs world i y ∙ out.waiting i y ne;
      heaps = λ y ne. heap_of_world b.world vs world y ∙ out.heaps y ne;
    }

-- ---- drain after drain

told_along : {sli : ℕ} (ws vs us : List (Worker sli Lanes)) (j : ℕ) (es fs : List Entry) → heap_of_worker us j ≡ heap_of_worker vs j → LastTold ws vs j es fs → LastTold ws us j es fs
told_along ws vs us j es fs e t = record {
  own = t.own;
  entries = t.entries;
  is_drain = t.is_drain;
  posts = t.posts;
  told = λ made. rw e (t.told made);
}

first_worker_told : {sli : ℕ} (ws vs us : List (Worker sli Lanes)) (j : ℕ) (es fs : List Entry) → length vs ≡ length ws → heap_of_worker vs j ≡ heap_of_worker ws j → ((i : ℕ) → waits_in vs i j ≡ waits_in ws i j)
    → LastTold vs us j es fs → LastTold ws us j es fs
first_worker_told ws vs us j es fs len heap waits t = record {
  own = t.own;
  entries = t.entries;
  is_drain = t.is_drain;
  posts = λ i. t.posts i ∙ waits i;
  told = λ made. rw (sym len, sym heap) (t.told made);
}

pub last_step : {sli : ℕ} (ws vs us : List (Worker sli Lanes)) (rs ss : List (List Entry)) (j : ℕ) (fs : List Entry) → EachLastDrained ws rs ss vs j → j < length ss
    → record_of ss j ≡ record_of rs j → OneDrained vs us j (record_of ss j) fs → EachLastDrained ws rs (set ss j fs) us (j + 1)
last_step ws vs us rs ss j fs a j_in same one = record {
  yard = one.yard;
  worker_count = one.count ∙ a.worker_count;
  record_count = length-set ss j fs ∙ a.record_count;
  capacity = one.capacity ∙ a.capacity;
  told = λ y lt. elim (cases_eq y j) [
    | inl e ↦
        let first = first_worker_told ws vs us j (record_of ss j) fs a.worker_count (a.later_heaps j (omega arith)) (λ i. a.later_waits i j (omega arith)) one.last in
        let at : record_of (set ss j fs) j ≡ fs = get_or-set_same ss j fs [] j_in in
        rw (e, at, sym same) first
    | inr ne ↦
        let at : record_of (set ss j fs) y ≡ record_of ss y = get_or-set_other ss j y fs [] ne in
        rw at (told_along ws vs us y (record_of rs y) (record_of ss y) (one.heaps y ne) (a.told y (omega arith)))
  ];
  empty = λ i y lt. elim (cases_eq y j) [
    | inl e ↦ rw e (one.empty i)
    | inr ne ↦ one.waits i y ne ∙ a.empty i y (omega arith)
  ];
  later_waits = λ i y le. let ne : y ≢ j = omega arith in one.waits i y ne ∙ a.later_waits i y (omega arith);
  later_heaps = λ y le. let ne : y ≢ j = omega arith in one.heaps y ne ∙ a.later_heaps y (omega arith);
}

abbrev pub items_of : List (Vec Entry Global) → List (List Entry)
items_of rs = map (λ r. r.items) rs

pub record_items : (rs : List (Vec Entry Global)) (j : ℕ) (r : Vec Entry Global) → slice_get rs j ≡ Some r → record_of (items_of rs) j ≡ r.items
record_items rs j r e = get_or_from_slice_get (items_of rs) j r.items [] (slice_get-map (λ (x : Vec Entry Global). x.items) rs j ∙ ap (option_map (λ (x : Vec Entry Global). x.items)) e)

-- the next worker is drained
pub lane_drain_next : {sli : ℕ} (ws vs us : List (Worker sli Lanes)) (rs ss : List (Vec Entry Global)) (j : ℕ) (r new : Vec Entry Global) → EachLastDrained ws (items_of rs) (items_of ss) vs j
    → HasFew ws j → j < length ws → slice_get ss j ≡ Some r → slice_get rs j ≡ Some r → IsYard us → TellsLast vs us j r.items new.items
    → EachLastDrained ws (items_of rs) (items_of (set ss j new)) us (j + 1)
lane_drain_next ws vs us rs ss j r new a few j_in here there after tells =
    let at = record_items ss j r here in
    let before = record_items rs j r there in
    let few_now : HasFew vs j = λ i. rw (a.later_waits i j (omega arith)) (few i) in
    let one : OneDrained vs us j r.items new.items = one_drained vs us j r.items new.items a.yard (omega (arith, a.worker_count)) few_now after tells in
    let within : j < length (items_of ss) = let l = length-map ss (λ (x : Vec Entry Global). x.items) in omega (arith, slice_get_within ss j r here) in
    rw (map-set (λ (x : Vec Entry Global). x.items) ss j new)
    (last_step ws vs us (items_of rs) (items_of ss) j new.items a within (at ∙ sym before) (rw at one))

-- it has the room for it
pub room_next : {sli : ℕ} (ws vs : List (Worker sli Lanes)) (rs ss : List (List Entry)) (j : ℕ) (r : Vec Entry Global) → EachLastDrained ws rs ss vs j → HasLastRoom ws j r → HasLastRoom vs j r
room_next ws vs rs ss j r a room =
    let s = same_sum 8 (λ i. length (waits_in ws i j)) (λ i. length (waits_in vs i j)) (λ i _. ap length (a.later_waits i j (omega arith))) in
    omega arith
