use Rattle.tlsf_trace.proofs.OneText.{one_text}
use Rattle.tlsf_trace.proofs.laws.trace_without_drains_gives_one_text.Goals as goal

pub returns : goal.returns
returns c = one_text
