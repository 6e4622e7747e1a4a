use Rattle.tlsf_pool.proofs.Common.{◌≤◌, sym, subst, arith, want, Bounds, IsPool}
use Rattle.tlsf_pool.proofs.lemmas.laws.FreeRoom.{sure_enough, wants}
use Rattle.tlsf_pool.proofs.pools.one.OneLedger.words.Goals as goal

pub returns-clause-enough : goal.returns-clause-enough
returns-clause-enough g c =
    let is = subst (IsPool g.row.SLI c.requires.heap.0) (sym c.self.view_is) c.requires.heap.1 in
    let short = subst (λ (p : Bounds). c.args._len ≤ p.longest) (sym c.self.view_is) c.requires.admits.0 in
    omega (arith, c.self.invariant, sure_enough g.row.SLI is.level (want c.self.inside.longest) is.class, wants c.args._len c.self.inside.longest short)
