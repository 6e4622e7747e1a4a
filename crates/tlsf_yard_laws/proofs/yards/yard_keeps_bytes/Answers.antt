use Rattle.tlsf_yard_laws.proofs.Told.{keeps_bytes}
use Rattle.tlsf_yard_laws.proofs.yards.yard_keeps_bytes.Goals as goal

pub returns : goal.returns
returns c = keeps_bytes
