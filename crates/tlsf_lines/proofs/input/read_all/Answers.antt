use Rattle.tlsf_lines.proofs.LongInputs.{fails_too_long, input_passes}
use Rattle.tlsf_lines.proofs.input.read_all.Goals as goal

pub returns-clause-passed : goal.returns-clause-passed
returns-clause-passed g c = λ limit is.
    let long = c.read_counted.ensures.too_long limit is in
    input_passes limit c.read_counted.new.count _ _ long.0 long.1 long.2 long.3

pub returns-clause-too_long : goal.returns-clause-too_long
returns-clause-too_long g c = fails_too_long c.read_counted.result _ (λ limit is.
    let long = c.read_counted.ensures.too_long limit is in
    input_passes limit c.read_counted.new.count _ _ long.0 long.1 long.2 long.3)
