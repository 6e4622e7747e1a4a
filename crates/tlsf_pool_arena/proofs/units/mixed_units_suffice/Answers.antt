use Rattle.tlsf_pool_arena.proofs.Mixed.{mixed_kept, mixed_room, new_mixed}
use Rattle.tlsf_pool_arena.proofs.units.mixed_units_suffice.Goals as goal

pub returns : goal.returns
returns c = record { begins = new_mixed; kept = mixed_kept; room = mixed_room }
