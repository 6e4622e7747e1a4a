use Rattle.std.proofs.Common.{sym}
use Rattle.tlsf_words.proofs.FieldLaws.{tag_word-fields}
use Rattle.tlsf_words.proofs.tag.Tag.to_word.Goals as goal

pub returns : goal.returns
returns c = rw (sym c.self.view_is) (sym (tag_word-fields c.self.inside.word))
