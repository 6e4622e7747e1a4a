use Rattle.tlsf_words.proofs.Push.{least_listed}
use Rattle.tlsf_words.proofs.free_lists.FreeLists.of_least.Goals as goal

pub returns-clause-least : goal.returns-clause-least
returns-clause-least g c = λ words inside small links.
    least_listed g.row.SLI c.requires c.new-heads.result.places _ _ words c.new-heads.ensures.places c.begin_least.ensures.least c.begin_least.ensures.others c.of_least.ensures.members inside small links
