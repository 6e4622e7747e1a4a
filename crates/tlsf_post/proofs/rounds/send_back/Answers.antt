use Rattle.tlsf_post.proofs.Common.{ap, sym, ◌∙◌, View}
use Rattle.tlsf_post.proofs.RuleSteps.{forks, skips}
use Rattle.tlsf_post.proofs.rounds.send_back.Goals as goal

pub another-back-requires-clause-rule : goal.another-back-requires-clause-rule
another-back-requires-clause-rule c =
    let number = c.requires.number in
    forks _ _ c.requires.pass.1 c.requires.pass.2 (λ e. number.2 (sym number.1 ∙ sym e ∙ number.0))

pub another-requires-clause-rule : goal.another-requires-clause-rule
another-requires-clause-rule c = skips _ _ (ap (λ (v : View). v.takes) c.another-back.ensures.rule.0)
