use Rattle.tlsf_class.proofs.Common.{◌≡◌, ap, refl, ◌∙◌, arith, bit_at}
use Rattle.tlsf_class.proofs.BitmapWords.{WritesBit, WritesBit-read, members_of-clear, marked_in-members, AreLevels-write, first_bit-kept}
use Rattle.tlsf_class.proofs.bitmaps.Bitmaps.clear.Given.{Over}
use Rattle.tlsf_class.proofs.bitmaps.Bitmaps.clear.Goals as goal

clears_else : (g : Over) (c : goal.Else-word-eq0 g) → WritesBit g.row.SLI c.self.invariant.level c.self.inside.levels.second c.args.class c.first_level-first_level.result c.second_level.result c.without_bit-word.result 0
clears_else g c =
    WritesBit-read g.row.SLI c.self.invariant.level _ _ _ _ c.second_word.result _ _ c.self.invariant.first_levels c.first_level-first_level.ensures.in_use c.first_level-first_level.ensures.value
    c.second_level.ensures.value c.second_word.ensures.value c.without_bit-word.ensures.same c.without_bit-word.ensures.others

clears_then : (g : Over) (c : goal.After-set_first_word g) → WritesBit g.row.SLI c.self.invariant.level c.self.inside.levels.second c.args.class c.first_level-first_level.result c.second_level.result c.without_bit-word.result 0
clears_then g c =
    WritesBit-read g.row.SLI c.self.invariant.level _ _ _ _ c.second_word.result _ _ c.self.invariant.first_levels c.first_level-first_level.ensures.in_use c.first_level-first_level.ensures.value
    c.second_level.ensures.value c.second_word.ensures.value c.without_bit-word.ensures.same c.without_bit-word.ensures.others

pub invariant_of-self : goal.invariant_of-self
invariant_of-self g c =
    let read : c.first_word-first_word.result ≡ c.self.inside.levels.first = c.first_word-first_word.ensures.value ∙ rw (c.set_second_word.ensures, c.second_word.ensures.reads) refl in
    rw (c.set_first_word.ensures, c.first_word-first_word.ensures.reads, c.set_second_word.ensures, c.second_word.ensures.reads)
    (AreLevels-write g.row.SLI c.self.invariant.level _ _ _ _ _ _ _ _ c.self.invariant (clears_then g c) (omega (arith, c.without_bit.ensures.same)) (λ k other. c.without_bit.ensures.others k other ∙ ap (λ w. bit_at w k) read))

pub invariant_of-self-else-word-eq0 : goal.invariant_of-self-else-word-eq0
invariant_of-self-else-word-eq0 g c =
    rw (c.set_second_word.ensures, c.second_word.ensures.reads)
    (AreLevels-write g.row.SLI c.self.invariant.level c.self.inside.levels.first _ _ _ _ _ _ _ c.self.invariant (clears_else g c)
    (first_bit-kept g.row.SLI c.self.invariant.level _ _ _ _ c.self.invariant (omega (arith, c.second_word.ensures.value, c.without_bit-word.ensures.below)) (omega arith)) (λ k other. refl))

pub returns-then-word-eq0-clause-members : goal.returns-then-word-eq0-clause-members
returns-then-word-eq0-clause-members g c =
    marked_in-members g.row.SLI c.self.invariant.level _ _ (invariant_of-self g c)
    ∙ rw (c.set_first_word.ensures, c.first_word-first_word.ensures.reads, c.set_second_word.ensures, c.second_word.ensures.reads, ← c.self.view_is, marked_in-members g.row.SLI c.self.invariant.level _ _ c.self.invariant)
    (members_of-clear g.row.SLI c.self.invariant.level _ _ _ _ _ (clears_then g c))

pub returns-else-word-eq0-clause-members : goal.returns-else-word-eq0-clause-members
returns-else-word-eq0-clause-members g c =
    marked_in-members g.row.SLI c.self.invariant.level _ _ (invariant_of-self-else-word-eq0 g c)
    ∙ rw (c.set_second_word.ensures, c.second_word.ensures.reads, ← c.self.view_is, marked_in-members g.row.SLI c.self.invariant.level _ _ c.self.invariant)
    (members_of-clear g.row.SLI c.self.invariant.level _ _ _ _ _ (clears_else g c))
