use Rattle.std.proofs.Common.{arith}
use Rattle.tlsf_class.proofs.TwoLevels.{most_words_any}
use Rattle.tlsf_pool.proofs.lemmas.sizes.Sizes.{some_words}
use Rattle.tlsf_pool.proofs.sizes.sizing.most_bytes.Goals as goal

pub overflow_sub-result : goal.overflow_sub-result
overflow_sub-result g c = omega (arith, c.most_words.ensures, some_words g.row.SLI c.requires)

pub overflow_mul-result : goal.overflow_mul-result
overflow_mul-result g c = omega (arith, c.most_words.ensures, most_words_any g.row.SLI)
