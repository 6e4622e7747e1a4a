use Rattle.tlsf_crew.proofs.Common.{◌∙◌, ℕ, get_or, set, arith, subst, sym, length-set, IsWhole, below_but, Worker, Queues, GaveEnds}
use Rattle.tlsf_crew.proofs.lemmas.queues.QueueSettled.{ends_whole, numbers_still, owner_there, queue_settled, slots_still}
use Rattle.tlsf_crew.proofs.queues.queue_settle.settle_one_queue.Goals as goal

pub owner_beside-requires : goal.owner_beside-requires
owner_beside-requires g c = (
  omega arith,
  let whole = c.gather_all.ensures.gathered in
      let b : Worker g.row.SLI Queues = get_or c.gather_all.new.workers c.args.j c.index-workers-j.result in
      subst (IsWhole b.ports.own) (sym whole.ends) (ends_whole c.args.workers.now c.args.j b c.requires.has.yard (owner_there _ _ _ _ c.index-workers-j.result whole c.requires.has.inside)),
)

pub give_ends-requires : goal.give_ends-requires
give_ends-requires g c = (
  omega arith,
  (
    omega arith,
    (
      slots_still c.args.workers.now c.gather_all.new.workers c.args.j c.owner_beside.new.worker _ c.requires.has.yard c.requires.has.inside c.gather_all.ensures.gathered,
      let us = c.gather_all.new.workers in
          let whole = c.gather_all.ensures.gathered in
          let b : Worker g.row.SLI Queues = get_or us c.args.j c.index-workers-j.result in
          let len = sym (length-set us c.args.j c.owner_beside.new.worker ∙ whole.count) in
          numbers_still c.args.workers.now c.args.j b c.owner_beside.new.worker _ _ c.requires.has.yard (owner_there _ _ _ _ c.index-workers-j.result whole c.requires.has.inside) c.owner_beside.ensures.beside ∙ (λ t. below_but c.args.j (len t)),
    ),
  ),
)

pub returns-clause-settled : goal.returns-clause-settled
returns-clause-settled g c =
    let us = c.gather_all.new.workers in
    let w = c.owner_beside.new.worker in
    let qs = c.owner_beside.new.posters.items in
    let whole = c.gather_all.ensures.gathered in
    let b : Worker g.row.SLI Queues = get_or us c.args.j c.index-workers-j.result in
    let len = length-set us c.args.j w ∙ whole.count in
    queue_settled c.args.workers.now us c.args.j b w c.gather_all.new.posters.items qs c.give_ends.new.workers (record {
      yard = c.requires.has.yard;
      owner = owner_there _ _ _ _ c.index-workers-j.result whole c.requires.has.inside;
      gathered = whole;
      beside = c.owner_beside.ensures.beside;
      same = c.owner_beside.ensures.same;
      gave = subst (λ (k : ℕ). GaveEnds (set us c.args.j w) c.args.j k qs c.give_ends.new.workers) len c.give_ends.ensures.gave;
    })
