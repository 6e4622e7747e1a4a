use Rattle.tlsf_heap.proofs.Common.{◌+◌, refl, arith, image_of}
use Rattle.tlsf_heap.proofs.lemmas.words.Checks.{header_read}
use Rattle.tlsf_heap.proofs.check.holds_length.Goals as goal

pub returns-clause-touched : goal.returns-clause-touched
returns-clause-touched c begins = header_read (image_of c.args.words.now) c.args.at 2 (c.args.at + 2) begins (omega arith) refl c.word.ensures.reads.touched
