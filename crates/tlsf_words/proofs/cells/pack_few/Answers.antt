use Rattle.std.proofs.Common.{arith, refl, length, ◌+◌}
use Rattle.tlsf_words.proofs.Touching.{within_then}
use Rattle.tlsf_words.proofs.cells.pack_few.Goals as goal

pub returns-clause-tally : goal.returns-clause-tally
returns-clause-tally c =
    within_then _ _ _ (within_then _ c.args.from (c.args.from + length c.args.words.now) c.pack_last.ensures.tally c.pack_pair.ensures.tally (omega arith) (omega arith) (omega arith) (omega (arith, c.pack_last.auto.words)) refl)
    c.pack_four.ensures.tally (omega arith) (omega (arith, c.pack_last.auto.words)) (omega arith) (omega (arith, c.pack_last.auto.words, c.pack_pair.auto.words)) (omega (arith, c.requires.few, c.pack_last.auto.words, c.pack_pair.auto.words))
