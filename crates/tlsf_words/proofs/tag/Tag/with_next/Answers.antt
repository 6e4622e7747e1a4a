use Rattle.tlsf_words.proofs.Common.{◌+◌, true, ap, ◌∙◌, arith, size_in, last_in, back_in}
use Rattle.tlsf_words.proofs.TagSums.{Says, says_next, next_fits}
use Rattle.tlsf_words.proofs.tag.Tag.with_next.Goals as goal

pub overflow_add-result : goal.overflow_add-result
overflow_add-result c = omega (
  arith,
  c.from.ensures,
  c.low_half.ensures,
  next_fits c.self.inside.word c.next.inside.word (omega arith) (ap (λ t. t.free) c.self.view_is ∙ c.requires.live) (ap (λ t. t.last) c.self.view_is ∙ c.requires.inner)
      (ap (λ t. t.free) c.next.view_is ∙ c.requires.free) (omega (arith, c.requires.fits, ap (λ t. t.size) c.self.view_is, ap (λ t. t.size) c.next.view_is)),
)

says : (c : goal.After-struct_known-1) → Says (c.self.inside.word + c.from.result) (size_in c.self.inside.word + size_in c.next.inside.word) true (last_in c.next.inside.word) (back_in c.self.inside.word)
says c = rw (c.from.ensures, c.low_half.ensures)
    (says_next c.self.inside.word c.next.inside.word (ap (λ t. t.free) c.self.view_is ∙ c.requires.live) (ap (λ t. t.last) c.self.view_is ∙ c.requires.inner) (ap (λ t. t.free) c.next.view_is ∙ c.requires.free)
    (omega (arith, c.requires.fits, ap (λ t. t.size) c.self.view_is, ap (λ t. t.size) c.next.view_is)))

pub returns : goal.returns
returns c = rw (← c.self.view_is, ← c.next.view_is) (says c)
