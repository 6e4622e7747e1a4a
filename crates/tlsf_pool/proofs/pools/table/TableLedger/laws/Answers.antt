use Rattle.tlsf_pool.proofs.lemmas.pools.Answering.{granted, live_held}
use Rattle.tlsf_pool.proofs.lemmas.pools.TableKept.{written_table}
use Rattle.tlsf_pool.proofs.lemmas.pools.TableTells.{table_tells}
use Rattle.tlsf_pool.proofs.pools.table.TableLedger.laws.Goals as goal

pub returns-clause-tells : goal.returns-clause-tells
returns-clause-tells g c = λ sli h t len is. table_tells sli h t len is

pub returns-clause-reports : goal.returns-clause-reports
returns-clause-reports g c = λ sli h t is grant. record { held = live_held sli h t is; grant = λ len has. granted sli h t is _ grant len has }

pub returns-clause-written : goal.returns-clause-written
returns-clause-written g c = λ sli h t name at bytes is. written_table sli h t is name at bytes
