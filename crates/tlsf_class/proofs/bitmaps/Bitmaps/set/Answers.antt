use Rattle.tlsf_class.proofs.Common.{◌≡◌, ap, refl, ◌∙◌, arith, bit_at}
use Rattle.tlsf_class.proofs.BitmapWords.{WritesBit, WritesBit-read, members_of-set, marked_in-members, AreLevels-write, some_bit}
use Rattle.tlsf_class.proofs.bitmaps.Bitmaps.set.Given.{Over}
use Rattle.tlsf_class.proofs.bitmaps.Bitmaps.set.Goals as goal

sets : (g : Over) (c : goal.After-set_second_word g) → WritesBit g.row.SLI c.self.invariant.level c.self.inside.levels.second c.args.class c.first_level-first_level.result c.second_level.result c.with_bit-wider.result 1
sets g c =
    let read : c.second_word-word.result ≡ _ = c.second_word-word.ensures.value ∙ rw (c.first_word-first_word.ensures.reads) refl in
    WritesBit-read g.row.SLI c.self.invariant.level _ _ _ _ c.second_word-word.result _ _ c.self.invariant.first_levels c.first_level-first_level.ensures.in_use c.first_level-first_level.ensures.value
    c.second_level.ensures.value read c.with_bit-wider.ensures.same c.with_bit-wider.ensures.others

pub invariant_of-self : goal.invariant_of-self
invariant_of-self g c =
    rw (c.set_second_word.ensures, c.set_first_word.ensures, c.second_word-word.ensures.reads, c.first_word-first_word.ensures.reads)
    (AreLevels-write g.row.SLI c.self.invariant.level _ _ _ _ _ _ _ _ c.self.invariant (sets g c) (omega (arith, some_bit g.row.SLI c.self.invariant.level _ _ c.with_bit-wider.ensures.same, c.with_bit.ensures.same)) (λ k other. c.with_bit.ensures.others k other ∙ ap (λ w. bit_at w k) c.first_word-first_word.ensures.value))

pub returns-clause-members : goal.returns-clause-members
returns-clause-members g c =
    marked_in-members g.row.SLI c.self.invariant.level _ _ (invariant_of-self g c)
    ∙ rw (c.set_second_word.ensures, c.set_first_word.ensures, c.second_word-word.ensures.reads, c.first_word-first_word.ensures.reads, ← c.self.view_is, marked_in-members g.row.SLI c.self.invariant.level _ _ c.self.invariant)
    (members_of-set g.row.SLI c.self.invariant.level _ _ _ _ _ (sets g c))
