use Rattle.tlsf_pool_arena.proofs.Common.{◌≡◌, length, ap, arith, RemoteState}
use Rattle.tlsf_pool_arena.proofs.Idle.{none_lost}
use Rattle.tlsf_pool_arena.proofs.Drained.{all_drained, none_drained, one_drained}
use Rattle.tlsf_pool_arena.proofs.remote_arena.RemoteArena.drain.Goals as goal

pub loop-at-init : goal.loop-at-init
loop-at-init g c = none_drained c.args.self.now

pub loop-at-preserved : goal.loop-at-preserved
loop-at-preserved g c =
    let e = c.take_home-home.ensures in
    one_drained c.args.self.now c.loop-at.self c.take_home-home.new.self c.loop-at.at c.loop-at.invariant e.goes_on c.take_home-home.result e.home e.none e.looks e.worn

pub returns-clause-idle : goal.returns-clause-idle
returns-clause-idle g c =
    let a = c.self-2.inside in
    none_lost _ _ a.count a.idle.slots c.self-2.view_is c.self-2.invariant.3 c.self-2.invariant.1 c.self-2.invariant.2 c.self-2.invariant.4

pub returns-clause-taken : goal.returns-clause-taken
returns-clause-taken g c =
    let long : c.loop-at.at ≡ length c.args.self.now.away = omega (arith, c.self.invariant.1, ap (λ (v : RemoteState g.row.UNIT). length v.away) c.self.view_is) in
    all_drained c.args.self.now _ c.loop-at.at c.loop-at.invariant long
