use Rattle.std.proofs.Common.{arith}
use Rattle.tlsf_words.proofs.StartBits.{starts_in-zeros}
use Rattle.tlsf_words.proofs.start_map.StartMap.open_for.Goals as goal

pub returns-clause-starts : goal.returns-clause-starts
returns-clause-starts c = starts_in-zeros 4 1 _ _ _ c.in_ok-bits.ensures.items c.in_ok-bits.ensures.len c.in_ok-resize.ensures.items (omega arith)
