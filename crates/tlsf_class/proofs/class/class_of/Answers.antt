use Rattle.std.proofs.Common.{sym, arith}
use Rattle.tlsf_class.proofs.TwoLevels.{bounds_of}
use Rattle.tlsf_class.proofs.ClassByBits.{in_use-step, class_of-step, doublings}
use Rattle.tlsf_class.proofs.class.class_of.Goals as goal

pub overflow_add-result : goal.overflow_add-result
overflow_add-result g c =
    let level = c.requires.level in
    let is = in_use-step g.row.SLI level c.args.words c.step_of-step.result c.requires.least c.requires.most c.step_of-step.ensures in
    omega (arith, doublings g.row.SLI level c.step_of-step.result c.step_of-step.ensures.most, is.most, (bounds_of g.row.SLI level).last_most)

pub invariant_of-result : goal.invariant_of-result
invariant_of-result g c =
    let level = c.requires.level in
    let is = in_use-step g.row.SLI level c.args.words c.step_of-step.result c.requires.least c.requires.most c.step_of-step.ensures in
    rw (doublings g.row.SLI level c.step_of-step.result c.step_of-step.ensures.most) (level, is.least, is.most)

pub returns : goal.returns
returns g c =
    let level = c.requires.level in
    rw (doublings g.row.SLI level c.step_of-step.result c.step_of-step.ensures.most)
    (sym (class_of-step g.row.SLI level c.args.words c.step_of-step.result c.requires.least c.requires.most c.step_of-step.ensures))
