use Rattle.tlsf_crew.proofs.Common.{◌≡◌, ◌∙◌, length, ap, arith, Queues}
use Rattle.tlsf_crew.proofs.lemmas.queues.QueueOpened.{bare_none, bare_more, bare_given}
use Rattle.tlsf_crew.proofs.queues.queue_opening.open_without_ends.Goals as goal

pub loop-id-init : goal.loop-id-init
loop-id-init g c = record {
  count = (omega (arith, ap length c.in_ok-workers.ensures.items, c.in_ok-workers.workers.ok), omega (arith, ap length c.in_ok-ends.ensures.items, c.in_ok-ends.ends.ok));
  room = (omega (arith, c.in_ok-workers.ensures.capacity), omega (arith, c.in_ok-ends.ensures.capacity));
  bare = rw (c.in_ok-workers.ensures.items, c.in_ok-ends.ensures.items) (bare_none g.row.SLI c.args.n c.args.words c.args.capacity);
}

pub loop-id-preserved : goal.loop-id-preserved
loop-id-preserved g c =
    let i = c.loop-id.invariant in
    let made = c.in_ok-open_worker.ensures in
    let box = c.in_ok-own.ensures in
    let len : length c.loop-id.workers.items ≡ c.loop-id.id = omega (arith, i.count.0, c.loop-id.workers.ok) in
    record {
      count = (omega (arith, i.count.0, c.push_reserved.ensures.len), omega (arith, i.count.1, c.push_reserved-in-loop-id.ensures.len));
      room = (omega (arith, i.room.0, c.push_reserved.ensures.capacity), omega (arith, i.room.1, c.push_reserved-in-loop-id.ensures.capacity));
      bare = rw (c.push_reserved.ensures.items, c.push_reserved-in-loop-id.ensures.items)
          (bare_more c.args.n c.args.words c.args.capacity c.loop-id.id _ _ _ _ _ i.bare len
          (record { heap = made.heap; numbers = (made.numbers.0, ap (λ (q : Queues). q.own) made.numbers.1); posts = ap (λ (q : Queues). q.posts.items) made.numbers.1 ∙ c.in_ok-posts.ensures; owner = box.owner; whole = box.whole; fresh = box.fresh }));
    }

pub returns-clause-given : goal.returns-clause-given
returns-clause-given g c =
    let i = c.loop-id.invariant in
    let len : length c.loop-id.workers.items ≡ c.args.n = omega (arith, i.count.0, c.loop-id.workers.ok) in
    bare_given c.args.n c.args.words c.args.capacity _ _ len i.bare

pub returns-clause-ends : goal.returns-clause-ends
returns-clause-ends g c =
    let i = c.loop-id.invariant in
    (i.bare.fit, omega (arith, i.count.1))
