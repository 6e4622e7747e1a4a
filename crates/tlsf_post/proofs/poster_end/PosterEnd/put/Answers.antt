use Rattle.tlsf_post.proofs.Common.{ap, sym, ◌∙◌, view, ruled_capacity}
use Rattle.tlsf_post.proofs.RuleSteps.{pushes, learns_own}
use Rattle.tlsf_post.proofs.Waited.{full_alone}
use Rattle.tlsf_post.proofs.poster_end.PosterEnd.put.Goals as goal

pub push_as-requires-clause-rule : goal.push_as-requires-clause-rule
push_as-requires-clause-rule g c =
    let p = c.args.self.now in
    let v = view p.pass in (
      pushes (ruled_capacity c.deref.result.now) p.pass.id v (record { from = p.from; name = c.args.name }) p.posts (sym p.number) (p.room ∙ sym (ap ruled_capacity c.deref.ensures)) p.may_put,
      learns_own p.pass.id v p.posts,
    )

pub returns-in-Err-clause-alone : goal.returns-in-Err-clause-alone
returns-in-Err-clause-alone g c two =
    let p = c.args.self.now in
    let v = view p.pass in
    let held = c.in-Err.ensures.rule.2 in
    let shows = held.2 in
    full_alone v.plan v.number v.put v.got shows.taken held.0 two p.owned p.may_put shows.from (held.1 ∙ ap ruled_capacity c.deref.ensures ∙ sym p.room) shows.own shows.known
