use Rattle.std.proofs.Common.{arith}
use Rattle.tlsf_pool.proofs.lemmas.sizes.Sizes.{lost_small}
use Rattle.tlsf_pool.proofs.sizes.fixed_size.fixed_kinds_words.Goals as goal

pub overflow_mul-words : goal.overflow_mul-words
overflow_mul-words g c =
    let words = lost_small g.row.SLI c.requires.level c.totals_of-totals.result.count c.from.result c.totals_of-totals.ensures.small_count (omega (arith, c.from.ensures, c.fixed_size.ensures.most)) in
    omega (arith, words)
