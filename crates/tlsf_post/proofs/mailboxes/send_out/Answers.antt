use Rattle.tlsf_post.proofs.Common.{rules, arith, ap, ◌∙◌, ◌+◌, ◌<◌, sym, subst, common_steps, map-append, View, Plan, owner_view, poster_view, posts_of, MayPut, IsFreshAt, view}
use Rattle.tlsf_post.proofs.RuleSteps.{forks}
use Rattle.tlsf_post.proofs.Numbers.{apart_from, run_push, all_pushed}
use Rattle.tlsf_post.proofs.mailboxes.send_out.Goals as goal

pub another-pass-requires-clause-rule : goal.another-pass-requires-clause-rule
another-pass-requires-clause-rule c =
    let v = c.loop-number.invariant.view in
    let own = ap (λ (v : View). v.plan.owner) v in
    let number = ap (λ (v : View). v.number) v in
    let away = apart_from (view c.args.pass.now).plan.owner c.args.from c.args.to c.loop-number.number c.requires.numbers.1 (search rules) (search rules) in
    forks _ _ (ap (λ (v : View). v.takes) v) (ap (λ (v : View). v.posts) v) (λ e. away (sym own ∙ e ∙ number))

pub invariant_of-push_reserved-clause-room : goal.invariant_of-push_reserved-clause-room
invariant_of-push_reserved-clause-room c =
    let plan = ap (λ (v : View). v.plan.capacity) c.another-pass.ensures.rule.1 ∙ ap (λ (v : View). v.plan.capacity) c.loop-number.invariant.view ∙ c.requires.room in
    grind (arith, common_steps)

pub invariant_of-push_reserved-clause-may_put : goal.invariant_of-push_reserved-clause-may_put
invariant_of-push_reserved-clause-may_put c =
    let mine = c.another-pass.ensures.rule.1 ∙ ap (λ (v : View). poster_view v.plan v.number (posts_of v.number v.put) (posts_of v.number v.got)) c.loop-number.invariant.view in
    let away = apart_from (view c.args.pass.now).plan.owner c.args.from c.args.to c.loop-number.number c.requires.numbers.1 (search rules) (search rules) in
    subst (λ (v : View). MayPut v.plan v.number) (sym mine) (omega (arith, c.requires.numbers.0), λ e. away (sym e))

pub invariant_of-push_reserved-clause-owned : goal.invariant_of-push_reserved-clause-owned
invariant_of-push_reserved-clause-owned c =
    let plan = ap (λ (v : View). v.plan) c.another-pass.ensures.rule.1 ∙ ap (λ (v : View). v.plan) c.loop-number.invariant.view in
    subst (λ (plan : Plan). plan.owner < plan.workers) (sym plan) c.requires.owned

pub loop-number-preserved : goal.loop-number-preserved
loop-number-preserved c =
    let before = c.loop-number.invariant in
    let rule = c.another-pass.ensures.rule in
    record {
      pass = search rules;
      table = grind (arith, common_steps);
      view = rule.0 ∙ ap (λ (v : View). owner_view v.plan (v.number + 1) v.put v.got) before.view;
      posters = all_pushed (IsFreshAt c.args.pass.now) _ _ _ c.push_reserved.ensures.items before.posters (
        (grind (arith, common_steps), ap (λ (v : View). v.plan) rule.1 ∙ ap (λ (v : View). v.plan) before.view),
        ap (λ (v : View). v.put) rule.1 ∙ ap (λ (v : View). posts_of v.number v.put) before.view,
      );
      numbers = grind (arith, common_steps, map-append, run_push);
      len = grind (arith, common_steps);
      capacity = grind (arith, common_steps);
    }
