use Rattle.tlsf_class.proofs.BitmapWords.{AreLeast, AreLevels-least, marked_in-least}
use Rattle.tlsf_class.proofs.bitmaps.Bitmaps.of_least.Given.{Over}
use Rattle.tlsf_class.proofs.bitmaps.Bitmaps.of_least.Goals as goal

least : (g : Over) (c : goal.After-of_first g) → AreLeast c.with_bit.result c.with_bit-2.result
least g c = record { first_same = c.with_bit.ensures.same; first_others = c.with_bit.ensures.others; same = c.with_bit-2.ensures.same; others = c.with_bit-2.ensures.others }

pub invariant_of-result : goal.invariant_of-result
invariant_of-result g c = rw c.of_first.ensures (AreLevels-least g.row.SLI c.requires _ _ (least g c))

pub returns-clause-members : goal.returns-clause-members
returns-clause-members g c = rw c.of_first.ensures (marked_in-least g.row.SLI c.requires _ _ (least g c))
