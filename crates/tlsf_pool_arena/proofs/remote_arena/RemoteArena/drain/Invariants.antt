use Rattle.tlsf_pool_arena.proofs.Drained.{Drained}
use Rattle.tlsf_pool_arena.proofs.remote_arena.RemoteArena.drain.Given as goal

abbrev pub invariant-loop-at : goal.invariant-loop-at
invariant-loop-at g l = Drained l.fn.self l.self l.at
