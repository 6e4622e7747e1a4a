use Rattle.tlsf_crew.proofs.Common.{◌≤◌, ◌∙◌, get_or, arith, refl, subst, sym, slice_get-get_or, HasPlace, KnowsSomeYard}
use Rattle.tlsf_crew.proofs.lemmas.races.QueueLast.{queue_drain_next}
use Rattle.tlsf_crew.proofs.lemmas.races.RecordRooms.{keeps_set}
use Rattle.tlsf_crew.proofs.lemmas.worker.Slots.{get_set_other, some_same}
use Rattle.tlsf_crew.proofs.races.queue_race.drain_all.Goals as goal

pub drain_one-requires : goal.drain_one-requires
drain_one-requires g c = (
  omega arith,
  (
    let d = c.index-workers-j.result in
        let x = c.loop-j.invariant.drained in
        let le : c.loop-j.j ≤ c.loop-j.j = omega arith in
        let here = slice_get-get_or c.loop-j.workers c.loop-j.j d (omega (arith, x.worker_count)) in
        let there = slice_get-get_or c.args.workers.now c.loop-j.j d (omega arith) in
        subst KnowsSomeYard (some_same (get_or c.args.workers.now c.loop-j.j d) (get_or c.loop-j.workers c.loop-j.j d) (sym there ∙ (sym (x.later_workers c.loop-j.j le) ∙ here))) (c.requires.yard c.loop-j.j d (omega arith)),
    let d = c.index-records-j.result in
        let le : c.loop-j.j ≤ c.loop-j.j = omega arith in
        let here = slice_get-get_or c.loop-j.records c.loop-j.j d (omega arith) in
        let there = slice_get-get_or c.args.records.now c.loop-j.j d (omega (arith, c.requires.records.count)) in
        subst HasPlace (some_same (get_or c.args.records.now c.loop-j.j d) (get_or c.loop-j.records c.loop-j.j d) (sym there ∙ (sym (c.loop-j.invariant.later c.loop-j.j le) ∙ here))) (c.requires.records.places c.loop-j.j d (omega (arith, c.requires.records.count))),
  ),
)

pub loop-j-init : goal.loop-j-init
loop-j-init g c = record {
  drained = record { worker_count = refl; record_count = refl; drained = λ j a lt. absurd (omega arith); later_workers = λ k le. refl };
  rooms = λ k s there. (s, there, refl);
  later = λ k le. refl;
}

pub loop-j-preserved : goal.loop-j-preserved
loop-j-preserved g c =
    let i = c.loop-j.invariant in
    let le : c.loop-j.j ≤ c.loop-j.j = omega arith in
    let at = slice_get-get_or c.loop-j.workers c.loop-j.j c.index-workers-j.result (omega (arith, i.drained.worker_count)) in
    let here = slice_get-get_or c.loop-j.records c.loop-j.j c.index-records-j.result (omega (arith, c.requires.records.count)) in
    record {
      drained = queue_drain_next c.args.workers.now c.loop-j.workers c.args.records.now c.loop-j.records c.loop-j.j _ c.drain_one.new.worker _ c.drain_one.new.entries i.drained at here (sym (i.later c.loop-j.j le) ∙ here)
          c.drain_one.ensures.drained;
      rooms = keeps_set c.args.records.now c.loop-j.records c.loop-j.j _ c.drain_one.new.entries i.rooms (omega (arith, c.requires.records.count)) here c.drain_one.ensures.capacity;
      later = λ k after. get_set_other c.loop-j.records c.loop-j.j k c.drain_one.new.entries (λ e. omega arith) ∙ i.later k (omega arith);
    }
