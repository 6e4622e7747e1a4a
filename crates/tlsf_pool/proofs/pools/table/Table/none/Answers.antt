use Rattle.tlsf_pool.proofs.Common.{sym, ap, ◌∙◌, fixed_size}
use Rattle.tlsf_pool.proofs.lemmas.laws.FixedSize.{sure_four}
use Rattle.tlsf_pool.proofs.pools.table.Table.none.Goals as goal

pub invariant_of-result : goal.invariant_of-result
invariant_of-result g c = sym (sure_four g.row.SLI c.requires) ∙ ap (fixed_size g.row.SLI) (sym c.new.ensures.items)
