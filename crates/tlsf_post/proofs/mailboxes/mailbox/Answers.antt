use Rattle.tlsf_post.proofs.Common.{arith, ℕ, ◌≡◌, ap, sym, ◌∙◌, ◌++◌, ◌+◌, ◌-◌, map, View, common_steps, plan_for, number_of, below_but, run, arc_value, view, ruled_capacity}
use Rattle.tlsf_post.proofs.RuleSteps.{begins, skips}
use Rattle.tlsf_post.proofs.RoundSteps.{fresh_puts}
use Rattle.tlsf_post.proofs.Numbers.{but_whole}
use Rattle.tlsf_post.proofs.mailboxes.mailbox.Goals as goal

pub ruled-requires-clause-rule : goal.ruled-requires-clause-rule
ruled-requires-clause-rule c = begins

pub another-requires-clause-rule : goal.another-requires-clause-rule
another-requires-clause-rule c = skips _ _ (ap (λ (v : View). v.takes) c.in_ok-send_out.ensures.pass.2)

pub returns-clause-whole : goal.returns-clause-whole
returns-clause-whole c =
    let zero_less : c.args.owner - 0 ≡ c.args.owner = omega arith in
    let pass = c.in_ok-send_out-2.ensures.pass in
    let laid : (view c.another.new.pass).plan ≡ plan_for c.args.owner c.args.n c.args.capacity
    = ap (λ (v : View). v.plan) c.another.ensures.rule.0 ∙ ap (λ (v : View). v.plan) c.in_ok-send_out.ensures.pass.2 ∙ ap (λ (v : View). v.plan) c.lay_out.ensures.pass.1 in
    let room : ruled_capacity (arc_value c.in-Ok.queue) ≡ c.args.capacity = grind (arith, common_steps) in (
      (λ k d lt.
          let h = c.in_ok-send_out-2.ensures.posters k d lt in
          (h.0.0 ∙ sym pass.1, h.0.1 ∙ laid ∙ (λ i. plan_for c.args.owner (ap (λ (v : View). v.number) (sym pass.2) i) (sym room i)))),
      c.in_ok-send_out-2.ensures.numbers
          ∙ ap (λ l. l ++ run (c.args.owner + 1) (c.args.n - (c.args.owner + 1)))
          (c.in_ok-send_out.ensures.numbers ∙ ap (λ (k : ℕ). map number_of c.in_ok-posters.posters.items ++ run 0 k) zero_less
          ∙ ap (λ l. map number_of l ++ run 0 c.args.owner) c.in_ok-posters.ensures.items)
          ∙ but_whole c.args.owner c.args.n c.requires.count.0
          ∙ ap (below_but c.args.owner) (sym (ap (λ (v : View). v.number) pass.2)),
    )

pub returns-clause-fresh : goal.returns-clause-fresh
returns-clause-fresh c = fresh_puts c.another.new.pass _ c.in_ok-send_out-2.ensures.posters

pub invariant_of-end-clause-plan : goal.invariant_of-end-clause-plan
invariant_of-end-clause-plan c =
    let pass = c.in_ok-send_out-2.ensures.pass in
    let laid : (view c.another.new.pass).plan ≡ plan_for c.args.owner c.args.n c.args.capacity
    = ap (λ (v : View). v.plan) c.another.ensures.rule.0 ∙ ap (λ (v : View). v.plan) c.in_ok-send_out.ensures.pass.2 ∙ ap (λ (v : View). v.plan) c.lay_out.ensures.pass.1 in
    let room : ruled_capacity (arc_value c.in-Ok.queue) ≡ c.args.capacity = grind (arith, common_steps) in
    ap (λ (v : View). v.plan) pass.2 ∙ laid ∙ (λ i. plan_for c.args.owner (ap (λ (v : View). v.number) (sym pass.2) i) (sym room i))
