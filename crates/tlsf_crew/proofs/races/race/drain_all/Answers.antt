use Rattle.tlsf_crew.proofs.Common.{◌≡◌, ◌∙◌, ap, sym, refl, arith, Some, slice_get, slice_get-get_or}
use Rattle.tlsf_crew.proofs.lemmas.races.LastDrains.{lane_drain_next, room_next}
use Rattle.tlsf_crew.proofs.lemmas.races.RecordRooms.{keeps_set}
use Rattle.tlsf_crew.proofs.lemmas.worker.Slots.{get_set_other}
use Rattle.tlsf_crew.proofs.races.race.drain_all.Goals as goal

pub drain_one-requires : goal.drain_one-requires
drain_one-requires g c = (
  omega arith,
  (
    record { yard = c.loop-j.invariant.last.yard; inside = omega (arith, c.loop-j.invariant.last.worker_count) },
    (
      λ i. rw (c.loop-j.invariant.last.later_waits i c.loop-j.j (omega arith)) (c.requires.few c.loop-j.j i),
      let r = c.index-records-j.result in
          let j = c.loop-j.j in
          let here : slice_get c.loop-j.records j ≡ Some r = slice_get-get_or c.loop-j.records j r (omega arith) ∙ ap Some (sym c.index-records-j.is) in
          let there : slice_get c.args.records.now j ≡ Some r = sym (c.loop-j.invariant.later j (omega arith)) ∙ here in
          rw (sym c.index-records-j.is) (room_next _ _ _ _ j r c.loop-j.invariant.last (c.requires.room j r there)),
    ),
  ),
)

pub loop-j-init : goal.loop-j-init
loop-j-init g c = record {
  last = record {
    yard = c.requires.yard;
    worker_count = refl;
    record_count = refl;
    capacity = refl;
    told = λ j lt. absurd (omega arith);
    empty = λ i j lt. absurd (omega arith);
    later_waits = λ i j le. refl;
    later_heaps = λ j le. refl;
  };
  rooms = λ k s there. (s, there, refl);
  later = λ k le. refl;
}

pub loop-j-preserved : goal.loop-j-preserved
loop-j-preserved g c =
    let r = c.index-records-j.result in
    let j = c.loop-j.j in
    let here : slice_get c.loop-j.records j ≡ Some r = slice_get-get_or c.loop-j.records j r (omega arith) ∙ ap Some (sym c.index-records-j.is) in
    let there : slice_get c.args.records.now j ≡ Some r = sym (c.loop-j.invariant.later j (omega arith)) ∙ here in
    record {
      last = lane_drain_next _ _ _ _ _ j r c.drain_one.new.entries c.loop-j.invariant.last (c.requires.few j) (omega arith) here there c.drain_one.ensures.yard
          (rw (sym c.index-records-j.is) at c.drain_one.ensures.told);
      rooms = keeps_set _ _ j r c.drain_one.new.entries c.loop-j.invariant.rooms (omega arith) here (rw (sym c.index-records-j.is) at c.drain_one.ensures.capacity);
      later = λ k le. get_set_other c.loop-j.records j k c.drain_one.new.entries (λ e. omega arith) ∙ c.loop-j.invariant.later k (omega arith);
    }
