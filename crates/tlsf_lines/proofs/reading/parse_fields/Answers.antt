use Rattle.std.proofs.Common.{rules}
use Rattle.tlsf_lines.proofs.reading.parse_fields.Goals as goal

pub returns-in-Phase : goal.returns-in-Phase
returns-in-Phase c = search (rules, c.parse_phase.ensures c.args.workers)
