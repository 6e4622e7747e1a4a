use Rattle.tlsf_words.proofs.Threads.{list_of-nowhere, threaded-none}
use Rattle.tlsf_words.proofs.free_lists.FreeLists.clear.Goals as goal

pub returns-clause-empty : goal.returns-clause-empty
returns-clause-empty g c = λ words class. list_of-nowhere c.clear.new.self.places words class (c.clear.ensures.places class)

pub returns-clause-threaded : goal.returns-clause-threaded
returns-clause-threaded g c = λ words. threaded-none g.row.SLI c.requires c.clear.new.self.places _ words c.clear.ensures.places c.clear_all.ensures.members
