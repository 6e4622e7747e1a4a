use Rattle.std.proofs.Common.{arith, refl, ◌+◌}
use Rattle.tlsf_words.proofs.Bytes.{packs_one}
use Rattle.tlsf_words.proofs.Touching.{within_one}
use Rattle.tlsf_words.proofs.cells.pack_one.Goals as goal

pub returns-clause-bytes : goal.returns-clause-bytes
returns-clause-bytes c = rw c.write_at.ensures.words (packs_one c.args.words.now c.args.bytes.now c.first_word.result c.args.i c.requires.inside c.first_word.ensures)

pub returns-clause-tally : goal.returns-clause-tally
returns-clause-tally c = within_one _ _ _ (c.args.from + c.args.i) _ _ refl (omega arith) (omega (arith, c.requires.inside)) c.write_at.ensures.tally
