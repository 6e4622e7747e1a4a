use Rattle.tlsf_trace.proofs.RaceTold.{race_told}
use Rattle.tlsf_trace.proofs.laws.one_history_of_a_raced_trace.Goals as goal

pub returns : goal.returns
returns c = race_told
