use Rattle.tlsf_post.proofs.Common.{◌≡◌, ℕ, List, [], ◌++◌, All, ap, sym, refl, ◌∙◌, subst, append-nil, All-weaker, View, Post, number_of, gone_from, owner_of, most_of, below_but, IsMailbox, IsOfPass, posts_of, plan_for, view}
use Rattle.tlsf_post.proofs.RuleSteps.{of_plan}
use Rattle.tlsf_post.proofs.owner_end.OwnerEnd.beside.Goals as goal

pub come_back-requires-clause-posters : goal.come_back-requires-clause-posters
come_back-requires-clause-posters c = All-weaker (IsMailbox c.args.self.now) (IsOfPass c.args.self.now.pass) (λ p h. (h.0, h.1 ∙ sym c.args.self.now.plan)) _ c.requires.0

pub come_back-requires-clause-numbers : goal.come_back-requires-clause-numbers
come_back-requires-clause-numbers c = c.requires.1

pub returns-clause-beside : goal.returns-clause-beside
returns-clause-beside c =
    let m = c.come_back.ensures.round in
    let number = ap (λ (v : View). v.number) m.same in
    let got = ap (λ (v : View). v.got) m.same in
    let plan = ap (λ (v : View). v.plan) m.same ∙ c.args.self.now.plan ∙ (λ i. plan_for (owner_of c.args.self.now) (sym number i) (most_of c.args.self.now)) in
    let same : (p : ℕ) → posts_of p (view c.come_back.new.pass).put ≡ posts_of p ((view c.come_back.new.pass).got ++ m.items) = λ p. m.order p ∙ ap (λ (l : List Post). posts_of p (l ++ m.items)) (sym got) in
    let here = of_plan m.items (plan_for (owner_of c.args.self.now) (view c.come_back.new.pass).number (most_of c.args.self.now)) (view c.args.self.now.pass).plan (sym plan ∙ ap (λ (v : View). v.plan) m.same) m.few in
    record {
      whole = (
        (λ k d lt. let h = c.come_back.ensures.posters k d lt in (h.0 ∙ sym c.come_back.ensures.pass.1, h.1 ∙ sym (ap (λ (v : View). v.plan) m.same) ∙ plan)),
        m.numbers ∙ c.requires.1 ∙ ap (below_but (owner_of c.args.self.now)) (sym number),
      );
      owner = (refl, number, refl);
      numbers = m.numbers;
      put = m.lists;
      got = got;
      known = m.known;
      order = (m.items, record { few = here.0; from = here.1; known = λ p. ([], append-nil _ ∙ same p) }, same);
      gone = subst (λ l. All (λ q. gone_from q ≡ posts_of (number_of q) l) c.come_back.new.posters.items) (sym got) m.gone;
    }

pub invariant_of-self-clause-plan : goal.invariant_of-self-clause-plan
invariant_of-self-clause-plan c =
    let m = c.come_back.ensures.round in
    let number = ap (λ (v : View). v.number) m.same in
    ap (λ (v : View). v.plan) m.same ∙ c.args.self.now.plan ∙ (λ i. plan_for (owner_of c.args.self.now) (sym number i) (most_of c.args.self.now))
