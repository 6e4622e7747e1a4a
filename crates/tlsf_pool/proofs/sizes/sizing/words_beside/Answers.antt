use Rattle.std.proofs.Common.{arith}
use Rattle.tlsf_pool.proofs.lemmas.sizes.Sizes.{lost_small}
use Rattle.tlsf_pool.proofs.sizes.sizing.words_beside.Goals as goal

pub sure-requires : goal.sure-requires
sure-requires g c = record { level = c.requires.level; least = omega (arith, c.want-wanted.ensures); most = omega (arith, c.want-wanted.ensures, c.requires.class) }

pub overflow_mul-result : goal.overflow_mul-result
overflow_mul-result g c = omega (arith, lost_small g.row.SLI c.requires.level c.args.totals.count c.from-lost.result c.requires.small_count (omega (arith, c.from-lost.ensures, c.sure.ensures.most)))

pub overflow_add-result : goal.overflow_add-result
overflow_add-result g c =
    let lost = lost_small g.row.SLI c.requires.level c.args.totals.count c.from-lost.result c.requires.small_count (omega (arith, c.from-lost.ensures, c.sure.ensures.most)) in
    omega (arith, lost, c.requires.small_words, c.saturating_sub.ensures)

pub overflow_add-result-2 : goal.overflow_add-result-2
overflow_add-result-2 g c =
    let lost = lost_small g.row.SLI c.requires.level c.args.totals.count c.from-lost.result c.requires.small_count (omega (arith, c.from-lost.ensures, c.sure.ensures.most)) in
    omega (arith, lost, c.requires.small_words, c.saturating_sub.ensures)
