use Rattle.tlsf_lines.proofs.FirstFault.{is_first}
use Rattle.tlsf_lines.proofs.laws.first_fault.Goals as goal

pub returns : goal.returns
returns c = is_first
