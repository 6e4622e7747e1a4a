use Rattle.tlsf_yard_laws.proofs.Turns.{shared_serves}
use Rattle.tlsf_yard_laws.proofs.sharing.lanes_add_their_capacity.Goals as goal

pub returns : goal.returns
returns c = shared_serves
