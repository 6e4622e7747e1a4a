use Rattle.tlsf_heap.proofs.Common.{ap, arith, low}
use Rattle.tlsf_class.proofs.TwoLevels.{most_words_any}
use Rattle.tlsf_heap.proofs.lemmas.blocks.Grant.{low_bounds}
use Rattle.tlsf_heap.proofs.tally.grant.Goals as goal

pub overflow_sub-result : goal.overflow_sub-result
overflow_sub-result g c =
    let region = c.requires.region (omega arith) in
    omega (arith, (low_bounds g.row.SLI c.requires.level c.args.largest region.0).0, c.low.ensures, ap (low g.row.SLI) c.class_of.ensures)

pub overflow_mul-result : goal.overflow_mul-result
overflow_mul-result g c =
    let region = c.requires.region (omega arith) in
    omega (arith, (low_bounds g.row.SLI c.requires.level c.args.largest region.0).2, c.low.ensures, ap (low g.row.SLI) c.class_of.ensures, most_words_any g.row.SLI)
