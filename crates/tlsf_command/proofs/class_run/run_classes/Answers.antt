use Rattle.std.proofs.Common.{refl}
use Rattle.tlsf_command.proofs.class_run.run_classes.Goals as goal

pub returns-in-Coarse : goal.returns-in-Coarse
returns-in-Coarse g c = λ left. rw c.in-Coarse.is (c.show_classes.ensures left)

pub returns-in-Fine : goal.returns-in-Fine
returns-in-Fine g c = λ left. rw c.in-Fine.is (c.show_classes-in-Fine.ensures left)

pub returns-in-NoClass : goal.returns-in-NoClass
returns-in-NoClass g c = λ left.
    rw c.in-NoClass.is (record { left = refl; written = refl; status_is = refl; reported = c.write_no_class_line.ensures })
