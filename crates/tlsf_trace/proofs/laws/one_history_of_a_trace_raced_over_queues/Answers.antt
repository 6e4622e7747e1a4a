use Rattle.tlsf_trace.proofs.RaceTold.{queue_race_told}
use Rattle.tlsf_trace.proofs.laws.one_history_of_a_trace_raced_over_queues.Goals as goal

pub returns : goal.returns
returns c = queue_race_told
