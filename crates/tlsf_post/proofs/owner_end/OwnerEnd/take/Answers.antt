use Rattle.tlsf_post.proofs.RuleSteps.{pops, learns, none_taken}
use Rattle.tlsf_post.proofs.Waited.{laid_taken, took_first, took_of_poster}
use Rattle.tlsf_post.proofs.owner_end.OwnerEnd.take.Goals as goal

pub pop_as-requires-clause-rule : goal.pop_as-requires-clause-rule
pop_as-requires-clause-rule g c = (pops _ _ c.args.self.now.takes c.args.self.now.posts, learns _ _ c.args.self.now.takes)

pub returns-clause-none : goal.returns-clause-none
returns-clause-none g c = none_taken _ _ _ _ c.pop_as.ensures.rule

pub returns-clause-waited : goal.returns-clause-waited
returns-clause-waited g c = took_first c.args.self.now _ _ _ c.args.self.now.plan c.pop_as.ensures.rule

pub returns-clause-from : goal.returns-clause-from
returns-clause-from g c = took_of_poster c.args.self.now _ (took_first c.args.self.now _ _ _ c.args.self.now.plan c.pop_as.ensures.rule)

pub invariant_of-self-clause-plan : goal.invariant_of-self-clause-plan
invariant_of-self-clause-plan g c = laid_taken _ _ _ _ _ _ c.pop_as.ensures.rule c.args.self.now.plan
