use Rattle.tlsf_post.proofs.RuleSteps.{learns, true_taken}
use Rattle.tlsf_post.proofs.Waited.{laid_still}
use Rattle.tlsf_post.proofs.owner_end.OwnerEnd.is_empty.Goals as goal

pub is_empty_as-requires-clause-rule : goal.is_empty_as-requires-clause-rule
is_empty_as-requires-clause-rule c = learns _ _ c.args.self.now.takes

pub returns-clause-empty : goal.returns-clause-empty
returns-clause-empty c = true_taken _ _ _ c.is_empty_as.ensures.queue.1 c.is_empty_as.ensures.rule

pub invariant_of-self-clause-plan : goal.invariant_of-self-clause-plan
invariant_of-self-clause-plan c = laid_still _ _ _ _ c.is_empty_as.ensures.queue.1 c.args.self.now.plan
