-- A race leads from the yard that was handed in to the one that comes back: each record is legal, and each two agree.
use Rattle.tlsf_crew.proofs.Common.{take-append_seam, [], ◌∷◌, ◌++◌, ◌≡◌, ◌≢◌, ℕ, ◌+◌, ◌<◌, ◌≤◌, List, Option, Some, None, length, map, take, drop, vec_len, vec_capacity, sym, ◌∙◌, ap, subst, arith, refl, inl, inr, length-append, slice_get, Vec, Global, cases_eq, cases_lt, length-map, slice_get_within, Name, HeapState, Post, PostEnd, TakeEnd, posts_sent, waited, taken, ready, Worker, Lanes, Entry, Call, heap_of, id_of, id_and_capacity, end_to, end_from, IsYard, heap_of_worker, post_at, take_at, end_to_in, end_from_in, capacity_in, waits_in, world_of, EachLaneSettled, sum_below, count_of, ready_from, releases_of, posts_made, posts_taken, last_call, script_of, IsLegal, Agree, IsRace, record_of, untold, MayTell, MayTellAll, LaneWorkerRan, EachLaneWorkerRan, HaveRooms, EachHasLastRoom, HasFew, EachLastDrained, IsPrefix}
use Rattle.tlsf_crew.proofs.lemmas.worker.Slots.{some_same, some_at}
use Rattle.tlsf_crew.proofs.lemmas.lanes.LaneSlots.{from_post, from_take, heap_at}
use Rattle.tlsf_crew.proofs.lemmas.lanes.LanesOfOne.{own_number}
use Rattle.tlsf_crew.proofs.lemmas.model.Sums.{least_sum, sum_both}
use Rattle.tlsf_crew.proofs.lemmas.races.TwoRecords.{ScriptsAgree, records_agree}
use Rattle.tlsf_crew.proofs.lemmas.lanes.LaneSettled.{none_wait, none_for, settled_waits, settled_room, capacity_by_world, heap_by_world, waits_same}
use Rattle.tlsf_crew.proofs.lemmas.races.LastDrains.{items_of, record_items}
use Rattle.tlsf_crew.proofs.lemmas.histories.Nowhere.{tells_none}

-- ---- a settled lane

pub settled_few : {sli : ℕ} (ws vs : List (Worker sli Lanes)) → length vs ≡ length ws → EachLaneSettled ws vs → IsYard vs → (j : ℕ) → HasFew vs j
settled_few ws vs len settled yard j i =
    elim (cases_lt j (length vs)) [
      | inl j_in ↦ elim (cases_eq i j) [
        | inl e ↦ let n = ap length (none_wait vs i j yard (λ ne. absurd (ne e))) in omega arith
        | inr ne ↦ elim (cases_lt i (length vs)) [
          | inl i_in ↦ let r = settled_room ws vs i j i_in j_in ne yard (settled i j (omega arith) (omega arith) ne) in let s = yard.small in omega arith
          | inr far ↦ let n = ap length (none_wait vs i j yard (λ _. far)) in omega arith
        ]
      ]
      | inr far ↦ let n = ap length (none_for vs i j yard far) in omega arith
    ]

-- ---- the capacity

pub capacity_kept : {sli : ℕ} (ws vs : List (Worker sli Lanes)) (scripts : List (List Call)) (rs : List (List Entry)) → EachLaneWorkerRan ws scripts rs vs → capacity_in vs ≡ capacity_in ws
capacity_kept [] [] scripts rs run = refl
capacity_kept [] (v ∷ vs) scripts rs run = let n : length vs + 1 ≡ 0 = let m = run.worker_count in omega arith in absurd (omega arith)
capacity_kept (a ∷ ws) [] scripts rs run = let n : 0 ≡ length ws + 1 = let m = run.worker_count in omega arith in absurd (omega arith)
capacity_kept (a ∷ ws) (v ∷ vs) scripts rs run =
    let r = run.ran 0 a refl in
    ap (λ (x : ℕ × ℕ). x.1) (ap id_and_capacity (some_same v r.0 r.1) ∙ r.2.numbers)

-- ---- scripts that ran

-- what worker j took from i
record TakenIn (t u : TakeEnd) (i j : ℕ) (es : List Entry) : Type 0 where
  waited : waited u ≡ waited t
  taken : taken u ≡ posts_taken i j es

in_order : (W waits ts ps t w u s : List Post) → t ++ u ≡ w ++ s → t ≡ ts → u ≡ waits → w ≡ W → s ≡ ps → ts ++ waits ≡ W ++ ps
in_order W waits ts ps t w u s e a b c d = sym (ap (λ l. l ++ u) a ∙ ap (λ l. ts ++ l) b) ∙ (e ∙ (ap (λ l. l ++ s) c ∙ ap (λ l. W ++ l) d))

-- the workers of a whole yard ran their scripts
module _ {sli : ℕ} (ws vs : List (Worker sli Lanes)) (scripts : List (List Call)) (rs : List (List Entry)) (yard : IsYard ws) (run : EachLaneWorkerRan ws scripts rs vs) where
  -- worker j of a settled yard, which becomes v
  record WorkerRan (j : ℕ) : Type 0 where
    old : Worker sli Lanes
    old_is : slice_get ws j ≡ Some old
    number : id_of old ≡ j
    new : Worker sli Lanes
    new_is : slice_get vs j ≡ Some new
    ran : LaneWorkerRan (length ws) old (script_of scripts j) (run.made j) (record_of rs j) new

  abbrev worker_ran : (j : ℕ) (a : Worker sli Lanes) → slice_get ws j ≡ Some a → WorkerRan j
  worker_ran j a is =
      let r = run.ran j a is in
      record { old = a; old_is = is; number = own_number ws j a yard is; new = r.0; new_is = r.1; ran = r.2 }

  -- what worker i sent to j
  sent_in : (i j : ℕ) (a : WorkerRan i) (p q : PostEnd) → post_at ws i j ≡ Some p → posts_sent p ≡ [] → post_at vs i j ≡ Some q → posts_sent q ≡ posts_made i j (run.made i) (record_of rs i)
  sent_in i j a p q p_is none q_is =
      let s = a.ran.sent j p (sym (ap (λ o. end_to_in o j) a.old_is) ∙ p_is) in
      let same : q ≡ s.end = some_same q s.end (sym q_is ∙ (ap (λ o. end_to_in o j) a.new_is ∙ s.end_is)) in
      ap posts_sent same ∙ (s.sent ∙ (ap (λ l. l ++ posts_made (id_of a.old) j (run.made i) (record_of rs i)) none ∙ ap (λ (k : ℕ). posts_made k j (run.made i) (record_of rs i)) a.number))

  takes_told : (i j : ℕ) (a : WorkerRan j) (t u : TakeEnd) → take_at ws i j ≡ Some t → taken t ≡ [] → take_at vs i j ≡ Some u → TakenIn t u i j (record_of rs j)
  takes_told i j a t u t_is none u_is =
      let s = a.ran.taken i t (sym (ap (λ o. end_from_in o i) a.old_is) ∙ t_is) in
      let same : u ≡ s.end = some_same u s.end (sym u_is ∙ (ap (λ o. end_from_in o i) a.new_is ∙ s.end_is)) in
      record {
        waited = ap waited same ∙ s.waited;
        taken = ap taken same ∙ (s.taken ∙ (ap (λ l. l ++ posts_taken i (id_of a.old) (record_of rs j)) none ∙ ap (λ (k : ℕ). posts_taken i k (record_of rs j)) a.number));
      }

  -- the yard was settled before and after
  module _ (zs us : List (Worker sli Lanes)) (len : length ws ≡ length zs) (settled : EachLaneSettled zs ws) (later_len : length us ≡ length vs) (later_settled : EachLaneSettled vs us) (later : IsYard us) (capacity : capacity_in us ≡ capacity_in ws) where
    -- ---- one lane

    -- the scripts of two workers agree, and how many posts there are
    record LaneRan (i j : ℕ) : Type 0 where
      agree : ScriptsAgree (capacity_in ws) i j (waits_in ws i j) (waits_in us i j) (run.made i) (record_of rs i) (record_of rs j)
      ready : length (waits_in ws i j) ≡ count_of (take_at ws i j)
      made_few : length (posts_made i j (run.made i) (record_of rs i)) ≤ releases_of (script_of scripts i)

    lane_ran : (i j : ℕ) → i < length ws → j < length ws → i ≢ j → LaneRan i j
    lane_ran i j i_in j_in ne =
        let m = settled i j (omega arith) (omega arith) ne in
        let n = let c = run.worker_count in later_settled i j (omega arith) (omega arith) ne in
        let f = from_post (slice_get ws i) j m.new_post m.new_post_is in
        let g = from_take (slice_get ws j) i m.new_take m.new_take_is in
        let a = worker_ran i f.0 f.1 in
        let b = worker_ran j g.0 g.1 in
        let to : end_to a.old j ≡ Some m.new_post = sym (ap (λ o. end_to_in o j) a.old_is) ∙ m.new_post_is in
        let from : end_from b.old i ≡ Some m.new_take = sym (ap (λ o. end_from_in o i) b.old_is) ∙ m.new_take_is in
        let sent = sent_in i j a m.new_post n.post m.new_post_is m.beside.fresh.0 n.post_is in
        let took = takes_told i j b m.new_take n.take m.new_take_is m.beside.fresh.1 n.take_is in
        let waits = settled_waits zs ws i j m in
        let known : ready m.new_take ≡ waits_in ws i j = m.beside.fresh.2 ∙ sym waits in
        let room = settled_room zs ws i j i_in j_in ne yard m in
        let c = run.worker_count in
        let last = settled_room vs us i j (omega arith) (omega arith) ne later n in
        record {
          agree = record {
            posts = in_order (waits_in ws i j) (waits_in us i j) _ _ (taken n.take) (waited n.take) (waited n.new_take) (posts_sent n.post)
                n.beside.order took.taken (sym (settled_waits vs us i j n)) (took.waited ∙ sym waits) sent;
            signed = yard.signed i j;
            few = omega arith;
            full = λ before e name stands reply here.
                let k = a.ran.full before e name m.new_post stands reply (ap (end_to a.old) here ∙ to) in
                let q : posts_made (id_of a.old) name.heap (run.made i) before ≡ posts_made i j (run.made i) before = rw (a.number, here) refl in
                let l = ap length q in
                omega arith;
            empty = λ before e stands call reply.
                subst (λ (k : ℕ). IsPrefix (waits_in ws i j) (posts_taken i k before)) b.number
                (subst (λ (l : List Post). IsPrefix l (posts_taken i (id_of b.old) before)) known (b.ran.empty before e i m.new_take stands call reply from));
            drained = λ before e most k stands call reply lt.
                subst (λ (x : ℕ). IsPrefix (waits_in ws i j) (posts_taken i x before)) b.number
                (subst (λ (l : List Post). IsPrefix l (posts_taken i (id_of b.old) before)) known (b.ran.drained before e most k i m.new_take stands call reply lt from));
          };
          ready = sym (ap length known) ∙ sym (ap count_of m.new_take_is);
          made_few = subst (λ (k : ℕ). length (posts_made k j (run.made i) (record_of rs i)) ≤ releases_of (script_of scripts i)) a.number (a.ran.few_posts j);
        }

    -- ---- the room for the last drains

    lane_room : (j : ℕ) (a : Worker sli Lanes) → slice_get ws j ≡ Some a → (i : ℕ)
        → length (posts_taken i j (record_of rs j)) + length (waits_in us i j) ≤ ready_from a i + releases_of (script_of scripts i)
    lane_room j a is i =
        let j_in = slice_get_within ws j a is in
        let c = run.worker_count in
        let nowhere : (i ≢ j → length ws ≤ i) → length (posts_taken i j (record_of rs j)) + length (waits_in us i j) ≤ ready_from a i + releases_of (script_of scripts i) = λ far.
        let r = worker_ran j a is in
        let none = tells_none sli (length ws) i (id_of a) (untold (heap_of a)) (record { made = run.made j; entries = record_of rs j; heap = heap_of r.new }) (script_of scripts j)
        (λ ne. far (λ e. ne (e ∙ sym r.number))) r.ran.told refl in
        let n : length (posts_taken i j (record_of rs j)) ≡ 0 = ap length (subst (λ (k : ℕ). posts_taken i k (record_of rs j) ≡ []) r.number none) in
        let m = ap length (none_wait us i j later (λ ne. let h : length ws ≤ i = far ne in omega arith)) in
        omega arith in
        elim (cases_eq i j) [
          | inl e ↦ nowhere (λ ne. absurd (ne e))
          | inr ne ↦ elim (cases_lt i (length ws)) [
            | inl i_in ↦
                let l = lane_ran i j i_in j_in ne in
                let e = ap length l.agree.posts in
                let p = length-append (posts_taken i j (record_of rs j)) (waits_in us i j) in
                let q = length-append (waits_in ws i j) (posts_made i j (run.made i) (record_of rs i)) in
                let r : count_of (take_at ws i j) ≡ ready_from a i = ap (λ o. count_of (end_from_in o i)) is in
                let s = l.ready in
                let t = l.made_few in
                omega arith
            | inr far ↦ nowhere (λ _. far)
          ]
        ]

plain_room : (n e s t w b m c : ℕ) → n ≡ e → e ≤ s + t → b ≡ t + w → b ≤ m → c ≡ s + m + 1 → n + w + 1 ≤ c
plain_room n e s t w b m c p q r x y = omega arith

pub last_rooms : {sli : ℕ} (zs ws vs us : List (Worker sli Lanes)) (scripts : List (List Call)) (records : List (Vec Entry Global)) → length ws ≡ length zs → EachLaneSettled zs ws → IsYard ws → (run : EachLaneWorkerRan ws scripts (items_of records) vs)
    → HaveRooms ws scripts records → length us ≡ length vs → EachLaneSettled vs us → IsYard us → world_of us ≡ world_of vs → EachHasLastRoom us records
last_rooms zs ws vs us scripts records len settled yard run rooms later_len later_settled later same j r there =
    let rs = items_of records in
    let j_in : j < length ws = let n = slice_get_within records j r there in let m = length-map records (λ (x : Vec Entry Global). x.items) in let c = run.record_count in omega arith in
    let capacity = capacity_by_world vs us same ∙ capacity_kept ws vs scripts rs run in
    let found = some_at ws j j_in in
    let a = found.0 in
    let w = worker_ran ws vs scripts rs yard run j a found.1 in
    let room = rooms j a r found.1 there in
    let taken_sum = sum_below 8 (λ i. length (posts_taken i j (record_of rs j))) in
    let entries : length (record_of rs j) ≤ length (script_of scripts j) + taken_sum =
    subst (λ (k : ℕ). length (record_of rs j) ≤ length (script_of scripts j) + sum_below 8 (λ i. length (posts_taken i k (record_of rs j)))) w.number w.ran.few_entries in
    let both = sum_both 8 (λ i. length (posts_taken i j (record_of rs j))) (λ i. length (waits_in us i j)) in
    let most = least_sum 8 (λ i. length (posts_taken i j (record_of rs j)) + length (waits_in us i j)) (λ i. ready_from a i + releases_of (script_of scripts i))
    (λ i _. lane_room ws vs scripts rs yard run zs us len settled later_len later_settled later capacity j a found.1 i) in
    let n = ap length (record_items records j r there) in
    let o : vec_len r ≡ length r.items = let k = r.ok in omega arith in
    plain_room (vec_len r) (length (record_of rs j)) (length (script_of scripts j)) taken_sum (sum_below 8 (λ i. length (waits_in us i j)))
    (sum_below 8 (λ i. length (posts_taken i j (record_of rs j)) + length (waits_in us i j))) (sum_below 8 (λ i. ready_from a i + releases_of (script_of scripts i))) (vec_capacity r)
    (o ∙ sym n) entries both most room

-- ---- the whole race

told_as : (sli : ℕ) (n m i j : ℕ) (h g x y : HeapState) (script : List Call) (made : List (Option Name)) (es : List Entry) → n ≡ m → i ≡ j → h ≡ g → x ≡ y
    → MayTellAll sli n i (untold h) script (record { made = made; entries = es; heap = x }) → MayTellAll sli m j (untold g) script (record { made = made; entries = es; heap = y })
told_as sli n m i j h g x y script made es a b c d t = rw (sym a, sym b, sym c, sym d) t

agree_as : (c d i j : ℕ) (W V : List Post) (made : List (Option Name)) (s t r u v : List Entry) → c ≡ d → W ≡ V → u ≡ s → v ≡ t → Agree c i j W made s r t → Agree d i j V made u r v
agree_as c d i j W V made s t r u v a b e f agree = rw (sym a, sym b, e, f) agree

-- the workers of a yard were settled, ran their scripts, were settled and drained one after another
module _ {sli : ℕ} (zs ws vs us xs : List (Worker sli Lanes)) (scripts : List (List Call)) (rs ss : List (List Entry)) (len : length ws ≡ length zs) (settled : EachLaneSettled zs ws) (same : world_of ws ≡ world_of zs) (yard : IsYard ws)
    (run : EachLaneWorkerRan ws scripts rs vs) (later_len : length us ≡ length vs) (later_settled : EachLaneSettled vs us) (later_same : world_of us ≡ world_of vs) (later : IsYard us) (last : EachLastDrained us rs ss xs (length us)) where
  legal_in : (j : ℕ) → j < length zs
      → IsLegal sli (length zs) j (heap_of_worker zs j) (script_of scripts j) (record_of rs j) (record { made = run.made j ++ None ∷ []; entries = record_of ss j; heap = heap_of_worker xs j })
  legal_in j j_in =
      let found = some_at ws j (omega arith) in
      let w = worker_ran ws vs scripts rs yard run j found.0 found.1 in
      let c = run.worker_count in
      let told = last.told j (omega arith) in
      let first : heap_of w.old ≡ heap_of_worker zs j = sym (heap_at ws j w.old w.old_is) ∙ heap_by_world zs ws same j in
      let then : heap_of w.new ≡ heap_of_worker us j = sym (heap_at vs j w.new w.new_is) ∙ sym (heap_by_world vs us later_same j) in
      let n : length us ≡ length zs = later_len ∙ (c ∙ len) in
      record {
        between = record { made = run.made j; entries = record_of rs j; heap = heap_of_worker us j };
        entries = refl;
        script = told_as sli _ _ _ _ _ _ _ _ (script_of scripts j) (run.made j) (record_of rs j) len w.number first then w.ran.told;
        last = subst (λ (k : ℕ). MayTell sli k j (record { made = run.made j; entries = record_of rs j; heap = heap_of_worker us j }) last_call
            (record { made = run.made j ++ None ∷ []; entries = record_of ss j; heap = heap_of_worker xs j })) n (told.told (run.made j));
      }

  pub race_is : IsRace (world_of zs) scripts ss (world_of xs)
  unfolding world_of
  race_is =
      let c = run.worker_count in
      let o = last.worker_count in
      let n : length (map heap_of zs) ≡ length zs = length-map zs heap_of in
      let kept : capacity_in us ≡ capacity_in ws = capacity_by_world vs us later_same ∙ capacity_kept ws vs scripts rs run in
      record {
        made = λ j. run.made j ++ None ∷ [];
        scripted = λ j. record_of rs j;
        heaps = length-map xs heap_of ∙ (o ∙ (later_len ∙ (c ∙ (len ∙ sym n))));
        records = last.record_count ∙ (run.record_count ∙ (len ∙ sym n));
        capacity = last.capacity ∙ (kept ∙ capacity_by_world zs ws same);
        legal = λ j j_in.
            rw n (legal_in j (omega arith));
        agree = λ i j i_in j_in ne.
            let l = lane_ran ws vs scripts rs yard run zs us len settled later_len later_settled later kept i j (omega arith) (omega arith) ne in
            let p = last.told i (omega arith) in
            let q = last.told j (omega arith) in
            agree_as (capacity_in ws) (capacity_in zs) i j (waits_in ws i j) (waits_in zs i j) (run.made i ++ None ∷ []) (record_of rs i ++ p.own) (record_of rs j ++ q.own) (record_of rs j)
            (record_of ss i) (record_of ss j) (capacity_by_world zs ws same) (waits_same zs ws same i j) p.entries q.entries
            (records_agree (capacity_in ws) i j (waits_in ws i j) (waits_in us i j) (run.made i) (record_of rs i) (record_of rs j) l.agree p.own q.own p.is_drain q.is_drain (q.posts i));
        taken = λ i j. elim (cases_lt j (length us)) [
          | inl j_in ↦ last.empty i j j_in
          | inr far ↦ none_for xs i j last.yard (omega arith)
        ];
      }

-- what a vector holds after all of its elements were written
pub written_back : {X : Type 0} (n : ℕ) (new old : List X) → n ≡ length new → take n (new ++ drop (length new) old) ≡ new
written_back n new old e = rw e (take-append_seam new (drop (length new) old))
