use Rattle.tlsf_words.proofs.Common.{arith, ◌∙◌, common_steps}
use Rattle.tlsf_words.proofs.Bytes.{byte_in-part}
use Rattle.tlsf_words.proofs.cells.Cells.write_bytes.Goals as goal

pub returns-clause-bytes : goal.returns-clause-bytes
returns-clause-bytes c k h = byte_in-part c.pack.new.words _ c.args.at k (grind (arith, common_steps)) ∙ c.pack.ensures.bytes k (omega (arith, c.requires.whole))
