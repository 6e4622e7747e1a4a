use Rattle.tlsf_post.proofs.Common.{ap, sym, ◌∙◌, view, ruled_capacity}
use Rattle.tlsf_post.proofs.RuleSteps.{learns_own}
use Rattle.tlsf_post.proofs.Waited.{full_alone}
use Rattle.tlsf_post.proofs.poster_end.PosterEnd.is_full.Goals as goal

pub is_full_as-requires-clause-rule : goal.is_full_as-requires-clause-rule
is_full_as-requires-clause-rule c = learns_own _ _ c.args.self.now.posts

pub returns-clause-alone : goal.returns-clause-alone
returns-clause-alone c full two =
    let p = c.args.self.now in
    let v = view p.pass in
    let held = c.is_full_as.ensures.rule full in
    let shows = held.2 in
    full_alone v.plan v.number v.put v.got shows.taken held.0 two p.owned p.may_put shows.from (held.1 ∙ ap ruled_capacity c.deref.ensures ∙ sym p.room) shows.own shows.known
