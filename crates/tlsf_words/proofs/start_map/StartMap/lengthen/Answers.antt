use Rattle.std.proofs.Common.{arith}
use Rattle.tlsf_words.proofs.StartBits.{starts_in-zeros}
use Rattle.tlsf_words.proofs.start_map.StartMap.lengthen.Goals as goal

pub returns-clause-starts : goal.returns-clause-starts
returns-clause-starts c = starts_in-zeros c.args.n c.div_ceil.result _ _ _ c.clear.ensures.items c.clear.ensures.len c.in-Ok.ensures.items (omega arith)
