use Rattle.std.proofs.Common.{arith}
use Rattle.std.proofs.Math.Pow.{shr_mono}
use Rattle.tlsf_held.proofs.rows.row_of.Goals as goal

pub returns-clause-inside : goal.returns-clause-inside
returns-clause-inside g c = omega (arith, shr_mono c.args.grain c.class_number-class.ensures.most)
