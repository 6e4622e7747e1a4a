use Rattle.tlsf_words.proofs.Common.{◌-◌, false, ap, ◌∙◌, size_in, last_in, back_in}
use Rattle.tlsf_words.proofs.TagSums.{Says, says_granted, free_least}
use Rattle.tlsf_words.proofs.tag.Tag.granted.Goals as goal

pub overflow_sub-result : goal.overflow_sub-result
overflow_sub-result c = free_least c.self.inside.word (ap (λ t. t.free) c.self.view_is ∙ c.requires)

says : (c : goal.After-struct_known-1) → Says (c.self.inside.word - 1) (size_in c.self.inside.word) false (last_in c.self.inside.word) (back_in c.self.inside.word)
says c = says_granted c.self.inside.word (ap (λ t. t.free) c.self.view_is ∙ c.requires)

pub returns : goal.returns
returns c = rw (← c.self.view_is) (says c)
