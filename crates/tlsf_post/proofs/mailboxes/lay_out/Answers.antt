use Rattle.tlsf_post.proofs.Common.{ap, View, view}
use Rattle.tlsf_post.proofs.RuleSteps.{plans}
use Rattle.tlsf_post.proofs.mailboxes.lay_out.Goals as goal

pub another-requires-clause-rule : goal.another-requires-clause-rule
another-requires-clause-rule c =
    let v = c.loop-k.invariant.1 in
    plans c.loop-k.pass.id (view c.loop-k.pass) _ (ap (λ (u : View). u.takes) v) (ap (λ (u : View). u.number) v) (ap (λ (u : View). u.put) v)

pub another-requires-in-loop-k-2-clause-rule : goal.another-requires-in-loop-k-2-clause-rule
another-requires-in-loop-k-2-clause-rule c =
    let v = c.loop-k-2.invariant.1 in
    plans c.loop-k-2.pass.id (view c.loop-k-2.pass) _ (ap (λ (u : View). u.takes) v) (ap (λ (u : View). u.number) v) (ap (λ (u : View). u.put) v)

pub another-requires-in-loop-k-3-clause-rule : goal.another-requires-in-loop-k-3-clause-rule
another-requires-in-loop-k-3-clause-rule c =
    let v = c.loop-k-3.invariant.1 in
    plans c.loop-k-3.pass.id (view c.loop-k-3.pass) _ (ap (λ (u : View). u.takes) v) (ap (λ (u : View). u.number) v) (ap (λ (u : View). u.put) v)
