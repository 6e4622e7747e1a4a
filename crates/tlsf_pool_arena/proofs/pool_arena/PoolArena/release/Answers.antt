use Rattle.tlsf_pool_arena.proofs.Common.{Ok, Err, sym, subst, PoolArenaState}
use Rattle.tlsf_arena.specs.Effects.{Releases}
use Rattle.tlsf_arena.specs.Loans.{units_of}
use Rattle.tlsf_pool_arena.specs.PoolArenas.{arena_of}
use Rattle.tlsf_pool_arena.proofs.Kept.{taken}
use Rattle.tlsf_pool_arena.proofs.pool_arena.PoolArena.release.Goals as goal

pub invariant_of-self : goal.invariant_of-self
invariant_of-self g c =
    let e = c.in-Ok.ensures.releases in
    (taken g.row.SLI g.row.UNIT _ c.self.invariant.0 c.args.block.name _ c.release.new.self.region c.release.new.self.book _ _ _ _ (sym e.answer_is) e.heap, c.self.invariant.1)

pub returns-in-Ok-clause-releases : goal.returns-in-Ok-clause-releases
returns-in-Ok-clause-releases g c = subst (λ (p : PoolArenaState). Releases (arena_of p) c.release.new.self c.args.block.name (units_of c.args.block.right.loan) (Ok tt)) c.self.view_is c.in-Ok.ensures.releases

pub returns-in-Err-clause-releases : goal.returns-in-Err-clause-releases
returns-in-Err-clause-releases g c = subst (λ (p : PoolArenaState). Releases (arena_of p) c.release.new.self c.args.block.name (units_of c.args.block.right.loan) (Err c.in-Err.refused.0)) c.self.view_is c.in-Err.ensures.releases
