use Rattle.std.proofs.Common.{arith}
use Rattle.tlsf_class.proofs.TwoLevels.{most_words_any}
use Rattle.tlsf_pool.proofs.lemmas.sizes.Sizes.{longest_class, lost_small}
use Rattle.tlsf_pool.proofs.sizes.one_large.one_large_words.Goals as goal

pub sure-hole-requires : goal.sure-hole-requires
sure-hole-requires g c =
    let class = longest_class g.row.SLI c.requires.smalls.level c.args.smalls.now c.requires.smalls.classes in
    record { level = c.requires.smalls.level; least = omega (arith, c.want.ensures); most = omega (arith, c.want.ensures, c.longest_of.ensures, class) }

pub overflow_mul-holes : goal.overflow_mul-holes
overflow_mul-holes g c =
    let holes = lost_small g.row.SLI c.requires.smalls.level c.totals_of-totals.result.count c.from.result c.totals_of-totals.ensures.small_count (omega (arith, c.from.ensures, c.sure-hole.ensures.most)) in
    omega (arith, holes)

pub overflow_add-beside : goal.overflow_add-beside
overflow_add-beside g c =
    let holes = lost_small g.row.SLI c.requires.smalls.level c.totals_of-totals.result.count c.from.result c.totals_of-totals.ensures.small_count (omega (arith, c.from.ensures, c.sure-hole.ensures.most)) in
    omega (arith, holes, c.totals_of-totals.ensures.small_words)

pub overflow_add-outside : goal.overflow_add-outside
overflow_add-outside g c =
    let holes = lost_small g.row.SLI c.requires.smalls.level c.totals_of-totals.result.count c.from.result c.totals_of-totals.ensures.small_count (omega (arith, c.from.ensures, c.sure-hole.ensures.most)) in
    omega (arith, holes, c.totals_of-totals.ensures.small_words, c.from-block.ensures, c.want-2.ensures, c.requires.class, most_words_any g.row.SLI)
