use Rattle.tlsf_words.proofs.TagSums.{says_live}
use Rattle.tlsf_words.proofs.tag.Tag.as_live.Goals as goal

pub returns : goal.returns
returns c = rw (← c.self.view_is) (says_live c.self.inside.word)
