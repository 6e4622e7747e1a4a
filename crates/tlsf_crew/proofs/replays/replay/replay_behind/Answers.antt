use Rattle.tlsf_crew.proofs.Common.{◌+◌, ◌∙◌, ap, sym, length, arith, get_or, fold, take_all, fold_more, Event, Allocate, world_of, after, resumed, waiting_count}
use Rattle.tlsf_crew.proofs.lemmas.lanes.LaneSlots.{shown_same}
use Rattle.tlsf_crew.proofs.lemmas.lanes.Pending.{all_ready}
use Rattle.tlsf_crew.proofs.lemmas.model.InParts.{replies_behind_is}
use Rattle.tlsf_crew.proofs.lemmas.replays.Room.{so_far, worker_waits}
use Rattle.tlsf_crew.proofs.replays.replay.replay_behind.Goals as goal

pub run_event-requires : goal.run_event-requires
run_event-requires g c =
    let w = world_of c.args.workers.now in
    let made = c.args.made.now.items in
    let i = c.loop-event.event-index in
    let now = c.loop-event.invariant in
    let s = c.settle.ensures in
    let ready = all_ready c.args.workers.now c.settle.new.workers s.keeps.count s.settled s.keeps.yard in
    let same = ap waiting_count s.keeps.world in
    let d0 : Event = record { worker = 0; call = Allocate 0 } in
    let e : Event = get_or c.args.events.now i d0 in (
      omega arith,
      (
        now.yard,
        (
          omega arith,
          (
            let before = so_far i c.args.events.now w made (omega arith) in
                let entries = ap (λ r. length r.entries) now.replayed in
                let waits = ap (λ r. waiting_count r.world) now.replayed in
                let most = worker_waits c.loop-event.workers e.worker now.yard in
                omega (arith, c.room_for-room.ensures, now.room),
            let one = fold_more after (resumed w made) c.args.events.now i d0 (omega arith) in
                let then = so_far (i + 1) c.args.events.now w made (omega arith) in
                rw (now.replayed, ← one) (omega (arith, then, ready, same, c.room_for-room.ensures, now.room)),
          ),
        ),
      ),
    )

pub returns : goal.returns
returns g c =
    let w = world_of c.args.workers.now in
    let made = c.args.made.now.items in
    let now = c.loop-event.invariant in
    let s = c.settle.ensures in
    let ready = all_ready c.args.workers.now c.settle.new.workers s.keeps.count s.settled s.keeps.yard in
    let same = ap waiting_count s.keeps.world in
    let all = take_all c.loop-event.event-index c.args.events.now (omega arith) in
    let e = now.replayed ∙ (ap (fold after (resumed w made)) all ∙ sym (replies_behind_is w made c.args.events.now)) in
    record {
      yard = now.yard;
      entries = ap (λ r. r.entries) e;
      made = ap (λ r. r.made) e;
      world = ap (λ r. r.world) e;
      no_memory = tt;
      others = now.others;
      room = omega (arith, ready, same, c.room_for-room.ensures, now.room);
    }

pub loop-event-preserved : goal.loop-event-preserved
loop-event-preserved g c =
    let w = world_of c.args.workers.now in
    let made = c.args.made.now.items in
    let n = c.loop-event.event-index in
    let i = c.loop-event.invariant in
    let e = c.run_event.ensures in
    let d0 : Event = record { worker = 0; call = Allocate 0 } in
    let event : Event = get_or c.args.events.now n d0 in
    let a = fold_more after (resumed w made) c.args.events.now n d0 (omega arith) in
    record {
      yard = e.yard;
      count = omega (arith, i.count);
      made = omega (arith, e.made, i.made);
      made_room = omega (arith, e.capacity.0, i.made_room);
      room = omega (arith, e.capacity.1, i.room);
      others = λ x none. e.others x (λ same. none n d0 (omega arith) (sym same)) ∙ i.others x none;
      replayed = e.after ∙ (ap (λ r. after r event) i.replayed ∙ sym a);
    }

pub loop-event-init : goal.loop-event-init
loop-event-init g c = record {
  yard = c.settle.ensures.keeps.yard;
  count = c.settle.ensures.keeps.count;
  made = omega (arith, c.reserve.ensures.len);
  made_room = omega (arith, c.reserve.ensures.len, c.in_ok-reserve.ensures.ok);
  room = c.in_ok-with_capacity.ensures.exact;
  others = λ x none. shown_same c.args.workers.now c.settle.new.workers x c.settle.ensures.keeps.heaps;
  replayed = rw (c.reserve.ensures.items, c.in_ok-with_capacity.ensures.items) (ap (λ w. resumed w c.args.made.now.items) c.settle.ensures.keeps.world);
}
