use Rattle.tlsf_pool_arena.proofs.Idle.{none_lost}
use Rattle.tlsf_pool_arena.proofs.remote_arena.RemoteArena.held.Goals as goal

pub returns-clause-idle : goal.returns-clause-idle
returns-clause-idle g c =
    let a = c.self.inside in
    none_lost _ _ a.count a.idle.slots c.self.view_is c.self.invariant.3 c.self.invariant.1 c.self.invariant.2 c.self.invariant.4
