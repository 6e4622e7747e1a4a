use Rattle.tlsf_words.proofs.Common.{◌≡◌, ◌∙◌, ap, tag_word, size_in, free_in, last_in, back_in}
use Rattle.tlsf_words.proofs.FieldLaws.{size_in-tag_word, last_in-tag_word, free_in-tag_word, back_in-tag_word}
use Rattle.tlsf_words.proofs.tag.Tag.new.Goals as goal

word : (c : goal.After-join_halves) → c.join_halves.result ≡ tag_word c.args.size c.args.last c.args.free c.args.back
unfolding tag_word
word c = rw (c.from.ensures, c.from-2.ensures) at c.join_halves.ensures

pub returns : goal.returns
returns c = record {
  size = ap size_in (word c) ∙ size_in-tag_word c.args.size c.args.last c.args.free c.args.back c.requires;
  free = ap free_in (word c) ∙ free_in-tag_word c.args.size c.args.last c.args.free c.args.back;
  last = ap last_in (word c) ∙ last_in-tag_word c.args.size c.args.last c.args.free c.args.back c.requires;
  back = ap back_in (word c) ∙ back_in-tag_word c.args.size c.args.last c.args.free c.args.back c.requires;
}
