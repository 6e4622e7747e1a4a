use Rattle.std.proofs.Common.{arith, refl, length, ◌+◌}
use Rattle.tlsf_words.proofs.Touching.{within_then}
use Rattle.tlsf_words.proofs.cells.unpack_few.Goals as goal

pub returns-clause-tally : goal.returns-clause-tally
returns-clause-tally c =
    within_then _ _ _ (within_then _ c.args.from (c.args.from + length c.args.words.now) c.unpack_last.ensures.tally c.unpack_pair.ensures.tally (omega arith) (omega arith) (omega arith) (omega arith) refl)
    c.unpack_four.ensures.tally (omega arith) (omega arith) (omega arith) (omega arith) (omega arith)
