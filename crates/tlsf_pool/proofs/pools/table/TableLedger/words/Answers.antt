use Rattle.tlsf_pool.proofs.Common.{sym, subst, arith, HasPlace, IsTable, TableRows}
use Rattle.tlsf_pool.proofs.lemmas.pools.Answering.{enough_words}
use Rattle.tlsf_pool.proofs.pools.table.TableLedger.words.Goals as goal

pub returns-clause-enough : goal.returns-clause-enough
returns-clause-enough g c =
    let is = subst (IsTable g.row.SLI c.requires.heap.0) (sym c.self.view_is) c.requires.heap.1 in
    let has = subst (λ (t : TableRows). HasPlace t c.args._len) (sym c.self.view_is) c.requires.admits in
    omega (arith, c.self.invariant, enough_words g.row.SLI c.requires.heap.0 _ is c.args._len has)
