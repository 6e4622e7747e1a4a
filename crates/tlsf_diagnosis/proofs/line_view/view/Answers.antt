use Rattle.std.proofs.Common.{arith}
use Rattle.std.proofs.lemmas.Grind.{common_steps}
use Rattle.tlsf_diagnosis.proofs.line_view.view.Goals as goal

pub returns : goal.returns
returns c = record {
  from = c.last_shown-from.result;
  count = c.first_shown-to.result;
  within = grind (arith, common_steps);
  few = grind (arith, common_steps);
  before_fits = grind (arith, common_steps);
  before_is_most = grind (arith, common_steps);
  behind_fits = grind (arith, common_steps);
  behind_is_most = grind (arith, common_steps);
  rows_are = grind (arith, common_steps);
}
