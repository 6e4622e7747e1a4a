-- Where each worker over lanes ran its script, the yard is whole, and each record has its room.
use Rattle.tlsf_crew.proofs.Common.{[], ◌≡◌, ℕ, ◌≤◌, List, Option, Some, length, subst, append-nil, suc, ◌∷◌, ◌++◌, ◌+◌, map, set, slice_index, vec_capacity, sym, ◌∙◌, ap, arith, refl, append_assoc, take_all, length-map, TakeEnd, ready, Name, Worker, Lanes, Entry, Call, id_of, end_from, KnowsYard, LaneWorkerRan, EachLaneWorkerRan, HaveRooms, posts_taken, LaneMoved, Spent, lane_promise, ScriptRun, at_stage, script_of, slice_get, All, Vec, Global, set-append_seam, slice_get_within, get_or_from_slice_get, IsYard, AreLaneLimits, releases_of, count_of, ready_from, record_of, KnowsSome, KeepsYards, EachJobRan, IsPrefix}
use Rattle.tlsf_crew.proofs.lemmas.worker.Slots.{some_same}
use Rattle.tlsf_crew.proofs.lemmas.model.Sums.{same_sum}
use Rattle.tlsf_crew.proofs.lemmas.jobs.Gathering.{record_at}
use Rattle.tlsf_crew.proofs.lemmas.lanes.LanesOfOne.{each_knows}

-- where all that was known to be ready might be taken, what is spent is all of it
all_ready : {sli : ℕ} (a : Worker sli Lanes) (limits : List ℕ) (at i : ℕ) (entries : List Entry) (t : TakeEnd) → length (ready t) ≤ slice_index limits i → end_from a i ≡ Some t → Spent a limits at i entries → IsPrefix (ready t) (posts_taken i at entries)
all_ready a limits at i entries t le is spent = subst (λ l. IsPrefix l (posts_taken i at entries)) (take_all (slice_index limits i) (ready t) le) (spent t is)

at_seam : {X : Type 0} (pre xs : List X) (x : X) → slice_get (pre ++ x ∷ xs) (length pre) ≡ Some x
at_seam [] xs x = refl
at_seam (p ∷ pre) xs x = at_seam pre xs x

pub each_knows_some : {sli : ℕ} (ws : List (Worker sli Lanes)) → IsYard ws → All (KnowsSome KnowsYard) ws
each_knows_some ws yard k d lt = (length ws, each_knows (length ws) ws refl yard k d lt)

abbrev EachKeeps : {sli : ℕ} → List (Worker sli Lanes) → List (Worker sli Lanes) → Type 0
EachKeeps {sli} ws vs = (j : ℕ) (a : Worker sli Lanes) → slice_get ws j ≡ Some a → (v : Worker sli Lanes) × (slice_get vs j ≡ Some v) × KeepsYards a v

-- the yard stays whole, worker after worker
kept_yard : {sli : ℕ} (pre ws vs : List (Worker sli Lanes)) → length vs ≡ length ws → EachKeeps ws vs → IsYard (pre ++ ws) → IsYard (pre ++ vs)
kept_yard {sli} pre [] [] n each yard = yard
kept_yard {sli} pre [] (v ∷ vs) n each yard = absurd (omega arith)
kept_yard {sli} pre (w ∷ ws) [] n each yard = absurd (omega arith)
kept_yard {sli} pre (w ∷ ws) (v ∷ vs) n each yard =
    let first = each 0 w refl in
    let keeps : KeepsYards w v = subst (KeepsYards w) (sym (some_same v first.0 first.1)) first.2 in
    let next : IsYard (set (pre ++ w ∷ ws) (length pre) v) = keeps (pre ++ w ∷ ws) (length pre) (at_seam pre ws w) yard in
    let moved : IsYard (pre ++ v ∷ ws) = subst IsYard (set-append_seam pre w ws v) next in
    let shifted : IsYard ((pre ++ v ∷ []) ++ ws) = subst IsYard (sym (append_assoc pre (v ∷ []) ws)) moved in
    subst IsYard (append_assoc pre (v ∷ []) vs) (kept_yard (pre ++ v ∷ []) ws vs (omega arith) (λ j a is. each (suc j) a is) shifted)

abbrev LanesRan : {sli : ℕ} → List (Worker sli Lanes) → List (List Call) → List (Vec Entry Global) → List (Worker sli Lanes) → Type 0
LanesRan {sli} ws scripts records vs = EachJobRan (lane_promise sli) ws scripts records vs

enough : {sli : ℕ} (n : ℕ) (a : Worker sli Lanes) (releases limits : List ℕ) → KnowsYard n a → AreLaneLimits a.ports releases limits → (i : ℕ) (t : TakeEnd) → end_from a i ≡ Some t → length (ready t) ≤ slice_index limits i
enough n a releases limits k are i t e =
    let here = ((k.from i).0 (t, e)).0 in
    let limit = are i (omega (arith, k.few)) in
    let r : ready_from a i ≡ length (ready t) = ap count_of e in
    omega arith

script_ran : {sli : ℕ} (n : ℕ) (a v : Worker sli Lanes) (limits left : List ℕ) (calls : List Call) (made : List (Option Name)) (entries : List Entry)
    → ((i : ℕ) (t : TakeEnd) → end_from a i ≡ Some t → length (ready t) ≤ slice_index limits i) → ScriptRun (lane_promise sli) n a limits calls made (at_stage v left entries) → LaneWorkerRan n a calls made entries v
script_ran {sli} n a v limits left calls made entries enough x =
    let at = id_of a in
    let m : LaneMoved at made a limits calls entries v left = subst (λ l. LaneMoved at l a limits calls entries v left) (append-nil made) (x.moved []) in
    record {
      told = x.told;
      yard = m.yard;
      numbers = m.numbers;
      sent = λ j p is. let s = m.sent j p is in record { end = s.end; end_is = s.end_is; sent = s.sent };
      taken = λ i t is. let s = m.taken i t is in record { end = s.end; end_is = s.end_is; waited = s.waited; taken = s.taken };
      full = m.full;
      empty = λ before e i t s c r is. all_ready a limits at i before t (enough i t is) is (m.empty before e i s c r);
      drained = λ before e most k i t s c r lt is. all_ready a limits at i before t (enough i t is) is (m.drained before e most k i s c r lt);
      few_posts = m.few_posts;
      few_entries = m.few_entries;
    }

pub lanes_ran : {sli : ℕ} (ws vs : List (Worker sli Lanes)) (scripts : List (List Call)) (records : List (Vec Entry Global)) → IsYard ws → LanesRan ws scripts records vs → EachLaneWorkerRan ws scripts (map (λ r. r.items) records) vs
lanes_ran {sli} ws vs scripts records yard run =
    let of : (j : ℕ) (a : Worker sli Lanes) → slice_get ws j ≡ Some a → (v : Worker sli Lanes) × (slice_get vs j ≡ Some v) × LaneWorkerRan (length ws) a (script_of scripts j) (run.made j) (record_of (map (λ r. r.items) records) j) v =
    λ j a is.
    let r = run.ran j a is in
    let x = r.4 in
    let k = subst (KnowsYard (length ws)) (get_or_from_slice_get ws j a a is) (each_knows (length ws) ws refl yard j a (slice_get_within ws j a is)) in
    (r.0, r.2, rw (record_at records j r.1 r.3) (script_ran (length ws) a r.0 x.limits x.left (script_of scripts j) (run.made j) r.1.items (enough (length ws) a run.releases x.limits k x.limits_are) (x.run (length ws) k)))
    in
    record {
      made = run.made;
      worker_count = run.worker_count;
      record_count = length-map records (λ (r : Vec Entry Global). r.items) ∙ run.record_count;
      yard = kept_yard [] ws vs run.worker_count (λ j a is. let r = of j a is in (r.0, r.1, r.2.yard)) yard;
      ran = of;
    }

pub lanes_rooms : {sli : ℕ} (ws vs : List (Worker sli Lanes)) (scripts : List (List Call)) (records : List (Vec Entry Global)) → LanesRan ws scripts records vs → HaveRooms ws scripts records
lanes_rooms ws vs scripts records run k a r is there =
    let x = run.ran k a is in
    let ran = x.4 in
    let capacity = ap (λ (v : Vec Entry Global). vec_capacity v) (some_same x.1 r (sym x.3 ∙ there)) in
    let room = ran.room in
    let sums = same_sum 8 (slice_index ran.limits) (λ i. ready_from a i + releases_of (script_of scripts i)) (λ i lt. let e = run.counts i lt in let f = ran.limits_are i lt in omega arith) in
    omega arith
