use Rattle.tlsf_yard_laws.proofs.Told.{race_bytes}
use Rattle.tlsf_yard_laws.proofs.races.race_keeps_bytes.Goals as goal

pub returns : goal.returns
returns c = race_bytes
