use Rattle.tlsf_words.proofs.Common.{arith, sym, ◌∙◌, common_steps}
use Rattle.tlsf_words.proofs.Bytes.{byte_in-part}
use Rattle.tlsf_words.proofs.cells.Cells.read_bytes.Goals as goal

pub returns-clause-bytes : goal.returns-clause-bytes
returns-clause-bytes c k h = c.unpack.ensures.bytes k (omega (arith, c.requires.whole)) ∙ sym (byte_in-part _ c.args.self.now.words c.args.at k (grind (arith, common_steps)))
