use Rattle.tlsf_words.proofs.TagSums.{says_back}
use Rattle.tlsf_words.proofs.tag.Tag.with_back.Goals as goal

pub returns : goal.returns
returns c = rw (← c.self.view_is, c.join_halves.ensures, c.low_half.ensures) (says_back c.self.inside.word c.args.back)
