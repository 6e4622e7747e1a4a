use Rattle.tlsf_heap.proofs.Common.{arith, list_in}
use Rattle.tlsf_heap.proofs.lemmas.lists.Chosen.{none_above, best_class}
use Rattle.tlsf_heap.proofs.fitting.choose.Goals as goal

pub returns-then-words-most_words-clause-best : goal.returns-then-words-most_words-clause-best
returns-then-words-most_words-clause-best g c = none_above g.row.SLI c.requires.region.level c.args.words c.args.region.now.blocks (omega (arith, c.most_words.ensures, c.if-words-most_words.true))

pub returns-clause-best : goal.returns-clause-best
returns-clause-best g c =
    best_class g.row.SLI c.requires.region.level c.args.words c.search_of.result (list_in c.args.region.now.lists) c.args.region.now.blocks c.search_of.ensures c.requires.region.sized c.requires.region.listed c.next_from.result c.next_from.ensures.least
