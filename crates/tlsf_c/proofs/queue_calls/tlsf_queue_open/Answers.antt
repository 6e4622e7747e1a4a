use Rattle.tlsf_c.proofs.Common.{◌≡◌, ap, sym, subst, ◌∙◌, Option, Some, owner_of_end, left_of, IsNew, QueueEnd}
use Rattle.std.specs.Prelude.{true}
use Rattle.tlsf_c.specs.Ends.{queue_kind, queue_of_end}
use Rattle.tlsf_c.specs.declared.any_end.AnyEnd.TheVariants.{outs-Queue}
use Rattle.tlsf_c.proofs.queue_calls.tlsf_queue_open.Goals as goal

pub returns-clause-queue : goal.returns-clause-queue
returns-clause-queue c done =
    let held : queue_of_end c.put_in.new.self.inner.value ≡ Some c.in-Ok.end =
    ap queue_of_end (c.put_in.ensures.value ∙ ap Some c.in-Ok-new.ensures.ok) ∙ ap queue_kind (outs-Queue true c.in-Ok.end) in
    let e = c.in-Ok.ensures in
    subst (λ (v : Option QueueEnd). IsNew (owner_of_end v) (left_of v) c.args.posters c.args.capacity) (sym held)
    (e.ends.0, e.ends.1, e.ends.2, e.owner.1, e.owner.2, e.owner.3, e.ends.3)
