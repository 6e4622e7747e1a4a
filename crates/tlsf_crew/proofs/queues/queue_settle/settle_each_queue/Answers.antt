use Rattle.tlsf_crew.proofs.Common.{◌≡◌, ◌∙◌, ℕ, length, arith, refl, subst, EachQueueSettled}
use Rattle.tlsf_crew.proofs.lemmas.queues.QueueSettled.{settled_none, settled_more}
use Rattle.tlsf_crew.proofs.queues.queue_settle.settle_each_queue.Goals as goal

pub loop-j-init : goal.loop-j-init
loop-j-init g c = record { settled = settled_none c.args.workers.now c.requires.yard; capacity = refl }

pub settle_one_queue-requires : goal.settle_one_queue-requires
settle_one_queue-requires g c = (
  omega arith,
  (
    record { yard = c.loop-j.invariant.settled.yard; inside = omega (arith, c.loop-j.invariant.settled.count) },
    omega (arith, c.loop-j.invariant.settled.count, c.loop-j.invariant.capacity, c.requires.room),
  ),
)

pub loop-j-preserved : goal.loop-j-preserved
loop-j-preserved g c = record {
  settled = settled_more c.args.workers.now c.loop-j.workers c.settle_one_queue.new.workers c.loop-j.j c.loop-j.invariant.settled c.settle_one_queue.ensures.settled;
  capacity = c.settle_one_queue.ensures.capacity ∙ c.loop-j.invariant.capacity;
}

pub returns-clause-settled : goal.returns-clause-settled
returns-clause-settled g c =
    let e : c.loop-j.j ≡ length c.args.workers.now = omega arith in
    subst (λ (k : ℕ). EachQueueSettled c.args.workers.now k c.loop-j.workers) e c.loop-j.invariant.settled
