use Rattle.tlsf_yard_laws.proofs.Told.{never_refuses, yard_serves, holds_live}
use Rattle.tlsf_yard_laws.proofs.yards.yard_never_refuses.Goals as goal

pub returns : goal.returns
returns c = record { room = never_refuses; served = yard_serves; held = holds_live }
