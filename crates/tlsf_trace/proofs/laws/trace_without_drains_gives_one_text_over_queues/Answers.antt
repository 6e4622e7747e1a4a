use Rattle.tlsf_trace.proofs.OneText.{one_of_queue_outputs, one_text_over_queues, two_of_queue_outputs}
use Rattle.tlsf_trace.proofs.laws.trace_without_drains_gives_one_text_over_queues.Goals as goal

pub returns : goal.returns
returns c = record { one = one_text_over_queues; two = two_of_queue_outputs; among = one_of_queue_outputs }
