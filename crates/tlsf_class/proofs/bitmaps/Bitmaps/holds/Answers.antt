use Rattle.tlsf_class.proofs.BitmapWords.{Contains-members_of, marked_in-members}
use Rattle.tlsf_class.proofs.bitmaps.Bitmaps.holds.Goals as goal

pub returns-clause-answer : goal.returns-clause-answer
returns-clause-answer g c =
    rw (c.is_bit_set.ensures, c.second_word-word.ensures.value, c.first_level.ensures.value, c.second_level.ensures.value, ← c.self.view_is, marked_in-members g.row.SLI c.self.invariant.level _ _ c.self.invariant)
    (Contains-members_of g.row.SLI c.self.invariant.level c.self.inside.levels.second c.args.class c.first_level.ensures.in_use.least c.first_level.ensures.in_use.most)
