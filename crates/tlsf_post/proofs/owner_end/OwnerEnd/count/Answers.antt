use Rattle.tlsf_post.proofs.Common.{◌≤◌, sym, subst, View, Shows, ruled_capacity}
use Rattle.tlsf_post.proofs.RuleSteps.{learns}
use Rattle.tlsf_post.proofs.Waited.{laid_still, owner_saw}
use Rattle.tlsf_post.proofs.owner_end.OwnerEnd.count.Goals as goal

pub len_as-requires-clause-rule : goal.len_as-requires-clause-rule
len_as-requires-clause-rule g c = learns _ _ c.args.self.now.takes

pub returns-clause-count : goal.returns-clause-count
returns-clause-count g c =
    let held = c.len_as.ensures.rule.1 in
    let same = c.len_as.ensures.queue.1 in
    (held.0, held.1, owner_saw _ held.0 (laid_still _ _ _ _ same c.args.self.now.plan) (subst (λ (v : View). Shows v held.0) (sym same) held.2))

pub invariant_of-self-clause-plan : goal.invariant_of-self-clause-plan
invariant_of-self-clause-plan g c = laid_still _ _ _ _ c.len_as.ensures.queue.1 c.args.self.now.plan

pub returns-clause-most : goal.returns-clause-most
returns-clause-most g c = subst (λ q. c.len_as.result ≤ ruled_capacity q) c.deref.ensures c.len_as.ensures.rule.0
