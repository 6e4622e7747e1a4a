use Rattle.tlsf_post.proofs.RuleSteps.{pops}
use Rattle.tlsf_post.proofs.Waited.{laid_tried, took_first, took_of_poster}
use Rattle.tlsf_post.proofs.owner_end.OwnerEnd.try_take.Goals as goal

pub try_pop_as-requires-clause-rule : goal.try_pop_as-requires-clause-rule
try_pop_as-requires-clause-rule c = pops _ _ c.args.self.now.takes c.args.self.now.posts

pub returns-clause-waited : goal.returns-clause-waited
returns-clause-waited c = took_first c.args.self.now _ _ _ c.args.self.now.plan c.try_pop_as.ensures.rule

pub returns-clause-from : goal.returns-clause-from
returns-clause-from c = took_of_poster c.args.self.now _ (took_first c.args.self.now _ _ _ c.args.self.now.plan c.try_pop_as.ensures.rule)

pub invariant_of-self-clause-plan : goal.invariant_of-self-clause-plan
invariant_of-self-clause-plan c = laid_tried _ _ _ _ _ c.try_pop_as.ensures.rule c.args.self.now.plan
