use denote.Param.Send.{sendable}
use Rattle.tlsf_crew.proofs.queues.queues.Queues.TheSendSync.{the_send}
use Rattle.tlsf_crew.proofs.Common.{◌≡◌, ◌∙◌, ◌≤◌, arith, length, map, sym, vec_capacity, Vec, Global, length-map, Entry}
use Rattle.tlsf_crew.proofs.lemmas.races.WholeRace.{written_back}
use Rattle.tlsf_crew.proofs.lemmas.races.QueueGathering.{each_knows_some, queue_places, queue_record_rooms, queue_rooms_kept, queues_ran}
use Rattle.tlsf_crew.proofs.lemmas.races.QueueRaces.{queue_race_is, ran_yard}
use Rattle.tlsf_crew.proofs.races.queue_race.race_queues.Goals as goal

pub finish-requires : goal.finish-requires
finish-requires g c =
    let ws = c.settle_each_queue.new.workers in
    let out = c.in_ok-outcome.outcome in
    let settled = c.settle_each_queue.ensures.settled in
    let first = written_back c.args.workers.len ws c.args.workers.items (omega (arith, settled.count, c.deref_mut.ensures.len)) in
    let count : length out.workers.items ≡ length ws = (rw first at c.in_ok-outcome.ensures.run).worker_count in
    let records : length out.records.items ≡ length ws = (rw first at c.in_ok-outcome.ensures.run).record_count in
    let room : length ws ≤ vec_capacity c.settle_each_queue.new.posters
    = omega (arith, settled.count, c.settle_each_queue.ensures.capacity, c.deref_mut.ensures.len, c.in_ok-posters.ensures.capacity, c.args.workers.ok) in
    let scripts = map (λ s. s.items) c.args.scripts.items in
    let ran = rw first at c.in_ok-outcome.ensures.run in
    rw (c.deref_mut-2.ensures.value, c.deref_mut-3.ensures.value) (
      omega arith,
      (
        ran_yard ws scripts _ out.workers.items settled.yard (queues_ran ws out.workers.items scripts out.records.items ran),
        (record { count = records ∙ sym count; places = queue_places ws out.workers.items scripts out.records.items settled.yard ran }, rw count room),
      ),
    )

pub returns : goal.returns
returns g c =
    let zs = c.deref_mut.result.now in
    let ws = c.settle_each_queue.new.workers in
    let out = c.in_ok-outcome.outcome in
    let settled = c.settle_each_queue.ensures.settled in
    let done = rw (c.deref_mut-2.ensures.value, c.deref_mut-3.ensures.value) at c.finish.ensures.finished in
    let first = written_back c.args.workers.len ws c.args.workers.items (omega (arith, settled.count, c.deref_mut.ensures.len)) in
    let new_len = length-map c.finish.new.records (λ (r : Vec Entry Global). r.items) in
    let old_len = length-map out.records.items (λ (r : Vec Entry Global). r.items) in
    let a = out.workers.ok in
    let b = out.records.ok in
    let workers = written_back out.workers.len c.finish.new.workers out.workers.items (omega (arith, done.last.count, done.drained.worker_count, done.first.count)) in
    let records = written_back out.records.len c.finish.new.records out.records.items (omega (arith, done.drained.record_count, new_len, old_len)) in
    let scripts = map (λ s. s.items) c.args.scripts.items in
    let ran = rw first at c.in_ok-outcome.ensures.run in
    let run = queues_ran ws out.workers.items scripts out.records.items ran in
    record {
      race = rw (records, workers, sym c.deref_mut.ensures.value) (queue_race_is zs ws out.workers.items c.finish.new.workers scripts
          (map (λ r. r.items) out.records.items) (map (λ r. r.items) c.finish.new.records) (rw c.deref_mut.ensures.value c.requires.yard) settled run done);
      yard = rw workers done.last.yard;
      room = rw records (queue_rooms_kept _ out.records.items c.finish.new.records (queue_record_rooms ws out.workers.items scripts out.records.items ran) (rw c.deref_mut-3.ensures.value at c.finish.ensures.rooms));
    }

pub run_scripts-requires-send-P : goal.run_scripts-requires-send-P
run_scripts-requires-send-P g c κs within = search (sendable, the_send)

pub run_scripts-requires-after_bounds : goal.run_scripts-requires-after_bounds
run_scripts-requires-after_bounds g c κs within =
    let ws = c.settle_each_queue.new.workers in
    let settled = c.settle_each_queue.ensures.settled in
    let yard = settled.yard in
    let first = written_back c.args.workers.len ws c.args.workers.items (omega (arith, settled.count, c.deref_mut.ensures.len)) in
    (omega arith, (omega arith, (omega arith, (rw first (each_knows_some ws yard), (rw first yard.few, c.requires.scripts)))))
