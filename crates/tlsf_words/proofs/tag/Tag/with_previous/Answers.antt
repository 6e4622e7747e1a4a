use Rattle.tlsf_words.proofs.Common.{◌+◌, ◌-◌, true, ap, ◌∙◌, arith, size_in, last_in, back_in}
use Rattle.tlsf_words.proofs.TagSums.{Says, says_previous, previous_fits, free_least}
use Rattle.tlsf_words.proofs.tag.Tag.with_previous.Goals as goal

pub overflow_sub-result : goal.overflow_sub-result
overflow_sub-result c = omega (arith, free_least c.previous.inside.word (ap (λ t. t.free) c.previous.view_is ∙ c.requires.before))

pub overflow_add-result : goal.overflow_add-result
overflow_add-result c = omega (
  arith,
  c.from.ensures,
  c.low_half.ensures,
  previous_fits c.self.inside.word c.previous.inside.word (omega arith) (ap (λ t. t.free) c.self.view_is ∙ c.requires.free) (ap (λ t. t.free) c.previous.view_is ∙ c.requires.before)
      (ap (λ t. t.last) c.previous.view_is ∙ c.requires.inner) (omega (arith, c.requires.fits, ap (λ t. t.size) c.self.view_is, ap (λ t. t.size) c.previous.view_is)),
)

says : (c : goal.After-from) → Says (c.previous.inside.word - 1 + c.from.result) (size_in c.previous.inside.word + size_in c.self.inside.word) true (last_in c.self.inside.word) (back_in c.previous.inside.word)
says c = rw (c.from.ensures, c.low_half.ensures)
    (says_previous c.self.inside.word c.previous.inside.word (ap (λ t. t.free) c.self.view_is ∙ c.requires.free) (ap (λ t. t.free) c.previous.view_is ∙ c.requires.before) (ap (λ t. t.last) c.previous.view_is ∙ c.requires.inner)
    (omega (arith, c.requires.fits, ap (λ t. t.size) c.self.view_is, ap (λ t. t.size) c.previous.view_is)))

pub returns : goal.returns
returns c = rw (← c.self.view_is, ← c.previous.view_is) (says c)
