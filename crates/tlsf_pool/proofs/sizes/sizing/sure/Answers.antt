use Rattle.tlsf_pool.proofs.Common.{◌≡◌, arith, sym, ap, ◌∙◌, option_map_or, low, sure}
use Rattle.tlsf_pool.proofs.lemmas.laws.FreeRoom.{sure_enough}
use Rattle.tlsf_pool.proofs.lemmas.sizes.Sizes.{sure_most}
use Rattle.tlsf_pool.proofs.sizes.sizing.sure.Given.{Over}
use Rattle.tlsf_pool.proofs.sizes.sizing.sure.Goals as goal

-- what is returned is the least size of the search class
least : (g : Over) (c : goal.After-low g) → c.low.result ≡ sure g.row.SLI c.args.words
least g c = c.low.ensures ∙ sym (ap (λ o. option_map_or (low g.row.SLI) o 0) c.search_of.ensures)

pub returns-clause-least : goal.returns-clause-least
returns-clause-least g c = omega (arith, least g c, sure_enough g.row.SLI c.requires.level c.args.words c.requires.most)

pub returns-clause-most : goal.returns-clause-most
returns-clause-most g c = omega (arith, least g c, sure_most g.row.SLI c.requires.level c.args.words c.requires.most)
