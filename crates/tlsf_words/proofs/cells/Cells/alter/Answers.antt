use Rattle.std.proofs.Common.{rules}
use Rattle.std.proofs.lemmas.Slice.{overwrites}
use Rattle.tlsf_words.proofs.cells.Cells.alter.Goals as goal

pub returns-clause-called : goal.returns-clause-called
returns-clause-called g c = record { shown = _; shows = search (rules, overwrites); left = _; met = c.f.ensures; leaves = search (rules, overwrites) }
