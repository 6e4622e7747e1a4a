use Rattle.tlsf_words.proofs.TagSums.{says_free}
use Rattle.tlsf_words.proofs.tag.Tag.as_free.Goals as goal

pub returns : goal.returns
returns c = rw (← c.self.view_is) (says_free c.self.inside.word)
