use Rattle.tlsf_pool_arena.proofs.SlotSteps.{opens}
use Rattle.std.proofs.Common.{rules}
use Rattle.tlsf_pool_arena.proofs.returns.slots.open_slots.Goals as goal

pub vacant-requires : goal.vacant-requires
vacant-requires g c = opens c.args.count _ (search rules)
