use denote.Param.Send.{sendable}
use Rattle.tlsf_crew.proofs.worker.lanes.Lanes.TheSendSync.{the_send}
use Rattle.tlsf_crew.proofs.Common.{◌++◌, ap, length, map, take, drop, sym, arith, Vec, Global, length-map, Entry}
use Rattle.tlsf_crew.proofs.lemmas.races.WholeRace.{settled_few, last_rooms, race_is, written_back}
use Rattle.tlsf_crew.proofs.lemmas.races.LaneGathering.{each_knows_some, lanes_ran, lanes_rooms}
use Rattle.tlsf_crew.proofs.lemmas.races.RecordRooms.{record_rooms}
use Rattle.tlsf_crew.proofs.races.race.race.Goals as goal

pub drain_all-requires : goal.drain_all-requires
drain_all-requires g c = (
  omega arith,
  (
    let us = c.settle-2.new.workers in
        let back = written_back c.in_ok-outcome.outcome.workers.len us c.in_ok-outcome.outcome.workers.items (omega (arith, c.settle-2.ensures.keeps.count, c.deref_mut-2.ensures.len)) in
        rw (c.deref_mut-3.ensures.value, back) c.settle-2.ensures.keeps.yard,
    (
      let us = c.settle-2.new.workers in
          let out = c.in_ok-outcome.outcome in
          let run = c.in_ok-outcome.ensures.run in
          let workers = ap length c.deref_mut-2.ensures.value in
          let back = written_back out.workers.len us out.workers.items (omega (arith, c.settle-2.ensures.keeps.count, c.deref_mut-2.ensures.len)) in
          rw (c.deref_mut-3.ensures.value, back, c.deref_mut-4.ensures.value) (omega (arith, run.worker_count, run.record_count, workers, c.settle-2.ensures.keeps.count)),
      (
        let us = c.settle-2.new.workers in
            let back = written_back c.in_ok-outcome.outcome.workers.len us c.in_ok-outcome.outcome.workers.items (omega (arith, c.settle-2.ensures.keeps.count, c.deref_mut-2.ensures.len)) in
            rw (c.deref_mut-3.ensures.value, back) (settled_few _ us c.settle-2.ensures.keeps.count c.settle-2.ensures.settled c.settle-2.ensures.keeps.yard),
        let ws = c.settle.new.workers in
            let us = c.settle-2.new.workers in
            let first = written_back c.args.workers.len ws c.args.workers.items (omega (arith, c.settle.ensures.keeps.count, c.deref_mut.ensures.len)) in
            let back = written_back c.in_ok-outcome.outcome.workers.len us c.in_ok-outcome.outcome.workers.items (omega (arith, c.settle-2.ensures.keeps.count, c.deref_mut-2.ensures.len)) in
            let ran = rw first at c.in_ok-outcome.ensures.run in
            let scripts = map (λ s. s.items) c.args.scripts.items in
            let out = c.in_ok-outcome.outcome in
            let run = rw (sym c.deref_mut-2.ensures.value) at (lanes_ran ws out.workers.items scripts out.records.items c.settle.ensures.keeps.yard ran) in
            let rooms = lanes_rooms ws out.workers.items scripts out.records.items ran in
            rw (c.deref_mut-3.ensures.value, back, c.deref_mut-4.ensures.value) (last_rooms c.deref_mut.result.now ws c.deref_mut-2.result.now us scripts out.records.items c.settle.ensures.keeps.count c.settle.ensures.settled c.settle.ensures.keeps.yard run rooms c.settle-2.ensures.keeps.count c.settle-2.ensures.settled c.settle-2.ensures.keeps.yard c.settle-2.ensures.keeps.world),
      ),
    ),
  ),
)

pub returns : goal.returns
returns g c =
    let ws = c.settle.new.workers in
    let us = c.settle-2.new.workers in
    let out = c.in_ok-outcome.outcome in
    let scripts = map (λ s. s.items) c.args.scripts.items in
    let first = written_back c.args.workers.len ws c.args.workers.items (omega (arith, c.settle.ensures.keeps.count, c.deref_mut.ensures.len)) in
    let back = written_back out.workers.len us out.workers.items (omega (arith, c.settle-2.ensures.keeps.count, c.deref_mut-2.ensures.len)) in
    let told = c.drain_all.ensures.drained.record_count in
    let new_len = length-map c.drain_all.new.records (λ (r : Vec Entry Global). r.items) in
    let old_len = length-map c.deref_mut-4.result.now (λ (r : Vec Entry Global). r.items) in
    let records = written_back out.records.len c.drain_all.new.records out.records.items (omega (arith, c.deref_mut-4.ensures.len)) in
    let workers = written_back out.workers.len c.drain_all.new.workers (take out.workers.len (us ++ drop (length us) out.workers.items))
    (omega (arith, c.drain_all.ensures.drained.worker_count, c.deref_mut-3.ensures.len)) in
    let ran = rw first at c.in_ok-outcome.ensures.run in
    let run = rw (sym c.deref_mut-2.ensures.value) at (lanes_ran ws out.workers.items scripts out.records.items c.settle.ensures.keeps.yard ran) in
    let last = rw (c.deref_mut-3.ensures.value, back, c.deref_mut-4.ensures.value) at c.drain_all.ensures.drained in
    let rooms = lanes_rooms ws out.workers.items scripts out.records.items ran in
    let keep = rw c.deref_mut-4.ensures.value at c.drain_all.ensures.rooms in
    let made = length-map out.records.items (λ (r : Vec Entry Global). r.items) in
    record {
      yard = rw workers last.yard;
      room = rw (records, sym c.deref_mut.ensures.value) (record_rooms c.deref_mut.result.now ws scripts out.records.items c.drain_all.new.records
          c.settle.ensures.keeps.count c.settle.ensures.settled c.settle.ensures.keeps.yard c.settle.ensures.keeps.world (omega (arith, run.record_count, made)) rooms keep);
      race = rw (records, workers, sym c.deref_mut.ensures.value) (race_is c.deref_mut.result.now ws c.deref_mut-2.result.now us c.drain_all.new.workers scripts
          (map (λ r. r.items) out.records.items) (map (λ r. r.items) c.drain_all.new.records)
          c.settle.ensures.keeps.count c.settle.ensures.settled c.settle.ensures.keeps.world c.settle.ensures.keeps.yard run c.settle-2.ensures.keeps.count c.settle-2.ensures.settled c.settle-2.ensures.keeps.world c.settle-2.ensures.keeps.yard last);
    }

pub settle-requires-2 : goal.settle-requires-2
settle-requires-2 g c =
    let ws = c.settle.new.workers in
    let out = c.in_ok-outcome.outcome in
    let first = written_back c.args.workers.len ws c.args.workers.items (omega (arith, c.settle.ensures.keeps.count, c.deref_mut.ensures.len)) in
    let run = lanes_ran ws out.workers.items (map (λ s. s.items) c.args.scripts.items) out.records.items c.settle.ensures.keeps.yard (rw first at c.in_ok-outcome.ensures.run) in
    (omega arith, rw c.deref_mut-2.ensures.value run.yard)

pub run_scripts-requires-send-P : goal.run_scripts-requires-send-P
run_scripts-requires-send-P g c κs within = search (sendable, the_send)

pub run_scripts-requires-after_bounds : goal.run_scripts-requires-after_bounds
run_scripts-requires-after_bounds g c κs within =
    let ws = c.settle.new.workers in
    let yard = c.settle.ensures.keeps.yard in
    let first = written_back c.args.workers.len ws c.args.workers.items (omega (arith, c.settle.ensures.keeps.count, c.deref_mut.ensures.len)) in
    (omega arith, (omega arith, (omega arith, (rw first (each_knows_some ws yard), (rw first yard.few, c.requires.scripts)))))
