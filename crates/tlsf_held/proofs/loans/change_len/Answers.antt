use Rattle.tlsf_held.proofs.Common.{arith, with_len}
use Rattle.std.proofs.lemmas.Grind.{common_steps}
use Rattle.std.proofs.lemmas.List.Edits.{map_over_more}
use Rattle.tlsf_held.proofs.loans.change_len.Goals as goal

pub loop-loan-preserved : goal.loop-loan-preserved
loop-loan-preserved c = grind (arith, common_steps, map_over_more (with_len c.args.name c.args.len), c.with_len.ensures)
