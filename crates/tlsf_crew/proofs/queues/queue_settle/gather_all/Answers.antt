use Rattle.tlsf_crew.proofs.Common.{◌≡◌, ◌<◌, ◌≤◌, ◌∙◌, ℕ, Some, length, get_or, ap, arith, inl, refl, subst, sym, slice_get, slice_get-get_or, Worker, Queues, Gathered}
use Rattle.tlsf_crew.proofs.lemmas.queues.QueueSettled.{gathered_none, gathered_more, gathered_own, own_end, slot_there}
use Rattle.tlsf_crew.proofs.queues.queue_settle.gather_all.Goals as goal
use Rattle.tlsf_crew.proofs.queues.queue_settle.gather_all.Goals.{then-i-j, else-i-j}
use Rattle.tlsf_crew.proofs.lemmas.worker.Slots.{some_at}

pub loop-i-init : goal.loop-i-init
loop-i-init g c = record { gathered = gathered_none _ _ _ c.requires.room.0; few = omega (arith, c.args.posters.now.ok, ap length c.requires.room.0); capacity = refl }

pub gather_end-requires : goal.gather_end-requires
gather_end-requires g c = (
  omega arith,
  (
    let whole = c.loop-i.invariant.gathered in
        let inside : c.loop-i.i < length c.loop-i.workers = omega (arith, whole.count) in
        let a : Worker g.row.SLI Queues = get_or c.loop-i.workers c.loop-i.i c.index-workers-i.result in
        let le : c.loop-i.i ≤ c.loop-i.i = omega arith in
        let at : slice_get c.args.workers.now c.loop-i.i ≡ Some a = sym (whole.same c.loop-i.i (inl le)) ∙ slice_get-get_or c.loop-i.workers c.loop-i.i c.index-workers-i.result inside in
        omega (arith, a.ports.posts.ok, slot_there c.args.workers.now c.loop-i.i c.args.j a c.requires.has.yard at c.requires.has.inside c.if-i-j.true),
    omega (arith, c.loop-i.invariant.few, c.loop-i.invariant.capacity, c.requires.room.1),
  ),
)

pub loop-i-preserved : goal.loop-i-preserved
loop-i-preserved g c =
    let i = c.loop-i.invariant in
    elim c.if-i-j.branch [
      | then-i-j w ↦
          let inside : c.loop-i.i < length c.loop-i.workers = omega (arith, i.gathered.count) in
          let at = slice_get-get_or c.loop-i.workers c.loop-i.i w.index-workers-i.result inside in
          let e = w.gather_end.ensures in
          record {
            gathered = rw (w.workers-is, w.posters-is) (gathered_more _ _ _ _ _ _ _ _ i.gathered at w.if-i-j.true e.gave e.ends);
            few = rw w.posters-is (omega (arith, i.few, e.few));
            capacity = rw w.posters-is (e.capacity ∙ i.capacity);
          }
      | else-i-j w ↦
          let b = some_at c.args.workers.now c.args.j c.requires.has.inside in
          record {
            gathered = rw (w.workers-is, w.posters-is) (gathered_own _ _ _ _ _ i.gathered w.if-i-j.false (own_end c.args.workers.now c.args.j b.0 c.requires.has.yard b.1));
            few = rw w.posters-is (omega (arith, i.few));
            capacity = rw w.posters-is i.capacity;
          }
    ]

pub returns-clause-gathered : goal.returns-clause-gathered
returns-clause-gathered g c =
    let e : c.loop-i.i ≡ length c.args.workers.now = omega arith in
    subst (λ (k : ℕ). Gathered c.args.workers.now c.args.j k c.loop-i.workers c.loop-i.posters.items) e c.loop-i.invariant.gathered
