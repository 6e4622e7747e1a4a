use Rattle.tlsf_lines.proofs.Common.{refl, Memory}
use Rattle.tlsf_lines.specs.declared.maker.Maker.{Maker}
use Rattle.tlsf_lines.proofs.LabelSteps.{label_made, label_recalled}
use Rattle.tlsf_lines.proofs.labels.Labels.make.Goals as goal

pub returns-clause-ok : goal.returns-clause-ok
returns-clause-ok c =
    let memory : Memory = record { phase = c.self.inside.phase; made = c.self.inside.makers } in
    let maker : Maker = record { worker = c.args.worker; phase = c.self.inside.phase; event = c.args.event } in
    λ before len known. label_made memory c.set.new.self before c.args.label len maker c.in_ok-set.ensures refl (rw (← c.self.view_is) at known)

pub returns-clause-recalls : goal.returns-clause-recalls
returns-clause-recalls c =
    let memory : Memory = record { phase = c.self.inside.phase; made = c.self.inside.makers } in
    let maker : Maker = record { worker = c.args.worker; phase = c.self.inside.phase; event = c.args.event } in
    λ workers len before known count. label_recalled memory c.set.new.self before c.args.label len maker c.in_ok-set.ensures workers count (rw (← c.self.view_is) at known)
