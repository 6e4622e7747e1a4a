-- Where each worker over queues ran its script, each record has a place left.
use Rattle.tlsf_crew.proofs.Common.{◌∙◌, ℕ, List, length, map, get_or, vec_capacity, All, ap, sym, arith, subst, slice_index, Vec, Global, length-map, slice_get-get_or, slice_get_within, Call, Entry, Worker, Queues, KeepRooms, EachJobRan, script_of, releases_of, queue_promise, HasPlace, EachQueueWorkerRan, KnowsSomeYard, IsQueueYard, HaveQueueRecordRooms}
use Rattle.tlsf_crew.proofs.lemmas.scripts.QueueRuns.{queue_moves}
use Rattle.tlsf_crew.proofs.lemmas.scripts.ScriptRuns.{script_room}
use Rattle.tlsf_crew.proofs.lemmas.jobs.Gathering.{record_at}
use Rattle.tlsf_crew.proofs.lemmas.model.Sums.{same_sum}
use Rattle.tlsf_crew.proofs.lemmas.worker.Slots.{some_same, some_at}

-- each worker of a whole yard is one of it
pub each_knows_some : {sli : ℕ} (ws : List (Worker sli Queues)) → IsQueueYard ws → All KnowsSomeYard ws
each_knows_some ws yard k d lt = let w = yard.workers k (get_or ws k d) (slice_get-get_or ws k d lt) in (length ws, w.knows)

abbrev QueuesRan : {sli : ℕ} → List (Worker sli Queues) → List (List Call) → List (Vec Entry Global) → List (Worker sli Queues) → Type 0
QueuesRan {sli} ws scripts records vs = EachJobRan (queue_promise sli) ws scripts records vs

pub queues_ran : {sli : ℕ} (ws vs : List (Worker sli Queues)) (scripts : List (List Call)) (records : List (Vec Entry Global)) → QueuesRan ws scripts records vs → EachQueueWorkerRan ws scripts (map (λ r. r.items) records) vs
queues_ran ws vs scripts records run = record {
  made = run.made;
  worker_count = run.worker_count;
  record_count = length-map records (λ (r : Vec Entry Global). r.items) ∙ run.record_count;
  ran = λ j a is.
      let r = run.ran j a is in
      let x = r.4 in
      (r.0, r.2, λ n k. record { limits = x.limits; left = x.left; run = rw (record_at records j r.1 r.3) (x.run n k) });
}

pub queue_places : {sli : ℕ} (ws vs : List (Worker sli Queues)) (scripts : List (List Call)) (records : List (Vec Entry Global)) → IsQueueYard ws → QueuesRan ws scripts records vs → All HasPlace records
queue_places ws vs scripts records yard run k d lt =
    let a = some_at ws k (omega (arith, run.record_count)) in
    let w = yard.workers k a.0 a.1 in
    let r = run.ran k a.0 a.1 in
    let x = r.4 in
    let here = slice_get-get_or records k d lt in
    let room = script_room _ queue_moves _ _ _ _ _ _ (x.run (length ws) w.knows) in
    let l = r.1.ok in
    subst HasPlace (some_same r.1 (get_or records k d) (sym r.3 ∙ here)) (omega (arith, x.room))

-- each record has the room that was made, and keeps it
pub queue_record_rooms : {sli : ℕ} (ws vs : List (Worker sli Queues)) (scripts : List (List Call)) (records : List (Vec Entry Global)) → QueuesRan ws scripts records vs → HaveQueueRecordRooms scripts records
queue_record_rooms ws vs scripts records run j r there =
    let a = some_at ws j (omega (arith, run.record_count, slice_get_within records j r there)) in
    let x = run.ran j a.0 a.1 in
    let ran = x.4 in
    let capacity = ap (λ (v : Vec Entry Global). vec_capacity v) (some_same x.1 r (sym x.3 ∙ there)) in
    let sums = same_sum 8 (slice_index run.releases) (λ i. releases_of (script_of scripts i)) (λ i lt. sym (run.counts i lt)) in
    omega (arith, capacity, ran.room, ran.limits_are.0, ran.limits_are.1, sums)

pub queue_rooms_kept : (scripts : List (List Call)) (records ss : List (Vec Entry Global)) → HaveQueueRecordRooms scripts records → KeepRooms records ss → HaveQueueRecordRooms scripts ss
queue_rooms_kept scripts records ss rooms keep j s there = let k = keep j s there in k.2 ∙ rooms j k.0 k.1
