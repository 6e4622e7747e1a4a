use Rattle.tlsf_post.proofs.Common.{arith, ap, sym, refl, subst, ◌∙◌, ◌≡◌, ◌++◌, ℕ, ◌<◌, Some, length, common_steps, append-nil, All-pop, View, Plan, posts_but, owner_view, MayPut, put_by, below_but, IsOfPass, view}
use Rattle.tlsf_post.proofs.RuleSteps.{learns, merges, signed_of}
use Rattle.tlsf_post.proofs.Numbers.{all_pushed}
use Rattle.tlsf_post.proofs.RoundSteps.{ends_still, back_none, back_some, last_of, gap, no_items}
use Rattle.tlsf_post.proofs.rounds.+come_back.Goals as goal

pub learn_as-requires-clause-rule : goal.learn_as-requires-clause-rule
learn_as-requires-clause-rule t c = learns _ _ c.requires.pass.1

pub returns-in_default-clause-round : goal.returns-in_default-clause-round
returns-in_default-clause-round t c =
    let none : length c.pop.new.self.items ≡ 0 = grind (arith, common_steps) in
    back_none _ _ _ _ c.args.own c.requires.pass.1 c.requires.pass.2 c.requires.own.0 c.requires.own.1 (c.in_default.ensures.items ∙ append-nil _) (no_items _ none) c.requires.numbers c.learn_as.ensures.queue.1 c.learn_as.ensures.rule

pub absorb-requires-clause-rule : goal.absorb-requires-clause-rule
absorb-requires-clause-rule t c =
    let p = c.in-Some.field-0 in
    let l = last_of (view c.args.pass.now) _ _ p c.args.own c.requires.own.1 c.in-Some.ensures.items c.requires.numbers in
    merges _ _ _ _ c.requires.pass.1 p.posts
    (λ q lt. let less : p.from < q = omega (arith, p.number, lt) in gap (view c.args.pass.now) c.args.own p.from q c.requires.own.0 l.2 less)

pub come_back-requires : goal.come_back-requires
come_back-requires t c =
    let p = c.in-Some.field-0 in
    let l = last_of (view c.args.pass.now) _ _ p c.args.own c.requires.own.1 c.in-Some.ensures.items c.requires.numbers in
    let queue = c.absorb.ensures.queue in
    let rule = c.absorb.ensures.rule in
    let number = ap (λ (v : View). v.number) rule ∙ p.number in
    let rest = (All-pop (IsOfPass c.args.pass.now) _ _ _ c.pop.ensures.items c.requires.posters).0 in (
      grind (arith, common_steps),
      (
        ((queue.0 ∙ c.requires.pass.0.0, queue.2 ∙ c.requires.pass.0.1), ap (λ (v : View). v.takes) rule, ap (λ (v : View). v.posts) rule),
        (
          (ap (λ (v : View). v.plan.owner) rule ∙ c.requires.own.0, λ e. l.1 (sym number ∙ e)),
          (
            ends_still c.args.pass.now c.absorb.new.pass _ queue.0 (ap (λ (v : View). v.plan) rule) rest,
            l.0 ∙ ap (below_but c.args.own) (sym number),
          ),
        ),
      ),
    )

pub send_back-back-requires-clause-number : goal.send_back-back-requires-clause-number
send_back-back-requires-clause-number t c =
    let p = c.in-Some.field-0 in
    let l = last_of (view c.args.pass.now) _ _ p c.args.own c.requires.own.1 c.in-Some.ensures.items c.requires.numbers in
    let rule = c.absorb.ensures.rule in
    let same = c.come_back.ensures.round.same in (
      ap (λ (v : View). v.plan.owner) same ∙ ap (λ (v : View). v.plan.owner) rule ∙ c.requires.own.0,
      ap (λ (v : View). v.number) same ∙ ap (λ (v : View). v.number) rule ∙ p.number,
      l.1,
    )

pub invariant_of-push_reserved : goal.invariant_of-push_reserved
invariant_of-push_reserved t c =
    let p = c.in-Some.field-0 in
    let back = c.send_back-back.ensures.back in
    let mine = (All-pop (IsOfPass c.args.pass.now) _ _ (Some p) c.in-Some.ensures.items c.requires.posters).1 in
    let plan : (view c.send_back-back.result).plan ≡ (view p.pass).plan
    = ap (λ (v : View). v.plan) back.1 ∙ ap (λ (v : View). v.plan) c.come_back.ensures.round.same ∙ ap (λ (v : View). v.plan) c.absorb.ensures.rule ∙ sym mine.1 in
    let number : (view c.send_back-back.result).number ≡ (view p.pass).number = ap (λ (v : View). v.number) back.1 ∙ sym p.number in
    record {
      place = back.0.0 ∙ sym c.requires.pass.0.0 ∙ sym mine.0 ∙ p.place;
      whole = back.0.1;
      posts = ap (λ (v : View). v.posts) back.1;
      takes = ap (λ (v : View). v.takes) back.1;
      number = ap (λ (v : View). v.number) back.1;
      room = ap (λ (plan : Plan). plan.capacity) plan ∙ p.room;
      may_put = subst (λ (z : Plan × ℕ). MayPut z.0 z.1) (λ i. (sym plan i, sym number i)) p.may_put;
      owned = subst (λ (plan : Plan). plan.owner < plan.workers) (sym plan) p.owned;
      signed = signed_of _ _ p.from _ _ back.1;
    }

pub returns-clause-round : goal.returns-clause-round
returns-clause-round t c =
    let p = c.in-Some.field-0 in
    let v = view c.args.pass.now in
    back_some v (view c.absorb.new.pass) (view c.come_back.new.pass) (view c.send_back-back.new.pass) _ _ _ _ p _ c.args.own c.requires.own.0 c.requires.own.1 c.in-Some.ensures.items c.requires.numbers p.signed
    (c.absorb.ensures.rule ∙ ap (λ (n : ℕ). owner_view v.plan n (posts_but n v.put ++ put_by p) v.got) p.number)
    c.come_back.ensures.round c.send_back-back.ensures.next refl (ap (λ (u : View). u.put) c.send_back-back.ensures.back.1) (ap (λ (u : View). u.got) c.send_back-back.ensures.back.1)
    c.push_reserved.ensures.items

pub returns-clause-posters : goal.returns-clause-posters
returns-clause-posters t c =
    let back = c.send_back-back.ensures.back in
    let laid : (view c.absorb.new.pass).plan ≡ (view c.args.pass.now).plan = ap (λ (v : View). v.plan) c.absorb.ensures.rule in
    all_pushed (IsOfPass c.args.pass.now) _ _ _ c.push_reserved.ensures.items
    (ends_still c.absorb.new.pass c.args.pass.now _ (sym c.absorb.ensures.queue.0) (sym laid) c.come_back.ensures.posters)
    (back.0.0 ∙ sym c.requires.pass.0.0, ap (λ (v : View). v.plan) back.1 ∙ ap (λ (v : View). v.plan) c.come_back.ensures.round.same ∙ laid)
