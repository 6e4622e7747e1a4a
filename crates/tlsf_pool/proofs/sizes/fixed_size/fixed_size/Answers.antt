use Rattle.tlsf_pool.proofs.Common.{arith, HasClass, used}
use Rattle.tlsf_pool.proofs.lemmas.laws.Tables.{all_used}
use Rattle.tlsf_pool.proofs.lemmas.sizes.Sizes.{longest_class}
use Rattle.tlsf_pool.proofs.sizes.fixed_size.fixed_size.Goals as goal

pub sure-requires-clause-most : goal.sure-requires-clause-most
sure-requires-clause-most g c =
    let class = longest_class g.row.SLI c.requires.level (used c.args.kinds.now) (all_used (HasClass g.row.SLI) c.args.kinds.now c.requires.classes) in
    omega (arith, c.want.ensures, c.longest_used.ensures, class)
