use Rattle.tlsf_words.proofs.Common.{◌-◌, ap, arith, size_in, free_in, last_in}
use Rattle.tlsf_words.proofs.TagSums.{Says, says_rest, rest_fits}
use Rattle.tlsf_words.proofs.tag.Tag.rest.Goals as goal

pub overflow_mul-size : goal.overflow_mul-size
overflow_mul-size c = omega (arith, rest_fits c.self.inside.word c.args.size (omega (arith, c.requires, ap (λ t. t.size) c.self.view_is)), c.low_half.ensures, c.low_half.auto)

pub overflow_sub-low_half : goal.overflow_sub-low_half
overflow_sub-low_half c = omega (arith, rest_fits c.self.inside.word c.args.size (omega (arith, c.requires, ap (λ t. t.size) c.self.view_is)), c.low_half.ensures)

says : (c : goal.After-join_halves) → Says c.join_halves.result (size_in c.self.inside.word - c.args.size) (free_in c.self.inside.word) (last_in c.self.inside.word) c.args.at
says c = rw (c.join_halves.ensures, c.low_half.ensures) (says_rest c.self.inside.word c.args.size c.args.at (omega (arith, c.requires, ap (λ t. t.size) c.self.view_is)))

pub returns : goal.returns
returns c = rw (← c.self.view_is) (says c)
