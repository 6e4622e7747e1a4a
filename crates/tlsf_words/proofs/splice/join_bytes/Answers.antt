use Rattle.std.proofs.Common.{arith}
use Rattle.tlsf_words.proofs.Splices.{joined_fits, joined_bytes}
use Rattle.tlsf_words.proofs.splice.join_bytes.Goals as goal

pub overflow_add-result : goal.overflow_add-result
overflow_add-result c = omega (arith, joined_fits c.args.low c.args.high c.args.n c.requires)

pub returns : goal.returns
returns c = joined_bytes c.args.low c.args.high c.args.n c.requires
