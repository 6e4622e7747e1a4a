use Rattle.tlsf_post.proofs.Common.{ap, sym, ◌∙◌, view, ruled_capacity}
use Rattle.tlsf_post.proofs.RuleSteps.{pushes}
use Rattle.tlsf_post.proofs.poster_end.PosterEnd.try_put.Goals as goal

pub try_push_as-requires-clause-rule : goal.try_push_as-requires-clause-rule
try_push_as-requires-clause-rule c =
    let p = c.args.self.now in
    let v = view p.pass in
    pushes (ruled_capacity c.deref.result.now) p.pass.id v (record { from = p.from; name = c.args.name }) p.posts (sym p.number) (p.room ∙ sym (ap ruled_capacity c.deref.ensures)) p.may_put
