use Rattle.tlsf_words.proofs.Common.{◌-◌, false, ap, sym, ◌∙◌, arith, size_in, back_in}
use Rattle.tlsf_words.proofs.TagSums.{Says, says_without, without_fits}
use Rattle.tlsf_words.proofs.tag.Tag.without.Goals as goal

pub overflow_sub-result : goal.overflow_sub-result
overflow_sub-result c = rw (c.from.ensures, c.low_half.ensures)
    (without_fits c.self.inside.word c.rest.inside.word (omega (arith, c.requires.size, ap (λ t. t.size) c.self.view_is, ap (λ t. t.size) c.rest.view_is))
    (ap (λ t. t.free) c.rest.view_is ∙ c.requires.free ∙ sym (ap (λ t. t.free) c.self.view_is)) (ap (λ t. t.last) c.rest.view_is ∙ c.requires.last ∙ sym (ap (λ t. t.last) c.self.view_is)))

says : (c : goal.After-struct_known-1) → Says (c.self.inside.word - c.from.result) (size_in c.self.inside.word - size_in c.rest.inside.word) false false (back_in c.self.inside.word)
says c = rw (c.from.ensures, c.low_half.ensures)
    (says_without c.self.inside.word c.rest.inside.word (omega (arith, c.requires.size, ap (λ t. t.size) c.self.view_is, ap (λ t. t.size) c.rest.view_is))
    (ap (λ t. t.free) c.rest.view_is ∙ c.requires.free ∙ sym (ap (λ t. t.free) c.self.view_is)) (ap (λ t. t.last) c.rest.view_is ∙ c.requires.last ∙ sym (ap (λ t. t.last) c.self.view_is)))

pub returns : goal.returns
returns c = rw (← c.self.view_is, ← c.rest.view_is) (says c)
