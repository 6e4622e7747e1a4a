use Rattle.tlsf_offsets.proofs.Spans.{apart, within, one}
use Rattle.tlsf_offsets.proofs.laws.spans_never_overlap.Goals as goal

pub returns : goal.returns
returns c = record { apart = apart; within = within; one = one }
