use Rattle.tlsf_class.proofs.BitmapWords.{marked_in-zeros}
use Rattle.tlsf_class.proofs.bitmaps.Bitmaps.clear_all.Goals as goal

pub returns-clause-members : goal.returns-clause-members
returns-clause-members g c = rw c.clear.ensures (marked_in-zeros g.row.SLI c.self.invariant.level)
