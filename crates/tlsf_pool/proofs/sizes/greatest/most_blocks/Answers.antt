use Rattle.std.proofs.Common.{arith}
use Rattle.tlsf_class.proofs.TwoLevels.{most_words_any}
use Rattle.tlsf_pool.proofs.lemmas.sizes.Bounds.{fours_passed, fours_reached, most_passed, most_reached}
use Rattle.tlsf_pool.proofs.sizes.greatest.most_blocks.Goals as goal

pub returns-clause-reached : goal.returns-clause-reached
returns-clause-reached g c = rw (c.most_words-2.ensures, c.sure.ensures.value, c.want-wanted.ensures) (most_reached g.row.SLI c.requires.level c.args.len c.requires.class (omega (arith, c.if-len-le8.false)))

pub returns-clause-greatest : goal.returns-clause-greatest
returns-clause-greatest g c = rw (c.most_words-2.ensures, c.sure.ensures.value, c.want-wanted.ensures) (most_passed g.row.SLI c.requires.level c.args.len c.requires.class (omega (arith, c.if-len-le8.false)))

pub returns-then-len-le8-clause-reached : goal.returns-then-len-le8-clause-reached
returns-then-len-le8-clause-reached g c = rw c.most_words.ensures (fours_reached g.row.SLI c.requires.level c.args.len c.requires.class (omega (arith, c.if-len-le8.true)))

pub returns-then-len-le8-clause-greatest : goal.returns-then-len-le8-clause-greatest
returns-then-len-le8-clause-greatest g c = rw c.most_words.ensures (fours_passed g.row.SLI c.requires.level c.args.len c.requires.class (omega (arith, c.if-len-le8.true)))

pub sure-requires : goal.sure-requires
sure-requires g c = record { level = c.requires.level; least = omega (arith, c.want-wanted.ensures); most = omega (arith, c.want-wanted.ensures, c.requires.class) }

pub overflow_add-result : goal.overflow_add-result
overflow_add-result g c = omega (arith, c.most_words-2.ensures, c.want-wanted.ensures, c.requires.class, most_words_any g.row.SLI)

pub overflow_add-result-2 : goal.overflow_add-result-2
overflow_add-result-2 g c = omega (arith, c.most_words-2.ensures, c.want-wanted.ensures, c.requires.class, most_words_any g.row.SLI)
