use Rattle.tlsf_yard_laws.proofs.Told.{new_past, replay_past, race_past}
use Rattle.tlsf_yard_laws.proofs.races.past_goes_on.Goals as goal

pub returns : goal.returns
returns c = record { new = new_past; replay = replay_past; race = race_past }
