use Rattle.tlsf_lines.proofs.TableSteps.{set_is}
use Rattle.tlsf_lines.proofs.by_label.ByLabel.set.Goals as goal

pub returns : goal.returns
returns g c =
    set_is c.args.self.now c.self.inside.kept.items c.args.label c.args.thing (rw (← c.self.view_is) at c.in_ok-reach.ensures.same) (rw (← c.self.view_is) at c.in_ok-reach.ensures.len)
