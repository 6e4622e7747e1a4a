use Rattle.tlsf_held.proofs.KindsEnough.{kinds_enough}
use Rattle.tlsf_held.proofs.laws.held_kinds_suffice.Goals as goal

pub returns : goal.returns
returns c = kinds_enough
