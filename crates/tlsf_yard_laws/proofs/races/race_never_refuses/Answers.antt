use Rattle.tlsf_yard_laws.proofs.Told.{race_suffices, race_serves, race_holds}
use Rattle.tlsf_yard_laws.proofs.races.race_never_refuses.Goals as goal

pub returns : goal.returns
returns c = record { room = race_suffices; served = race_serves; held = race_holds }
