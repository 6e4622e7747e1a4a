use Rattle.tlsf_heap.proofs.Common.{arith, image_of}
use Rattle.tlsf_heap.proofs.lemmas.words.Checks.{header_begun}
use Rattle.tlsf_heap.proofs.check.begins_free.Goals as goal

pub returns-then-begins-clause-touched : goal.returns-then-begins-clause-touched
returns-then-begins-clause-touched c =
    header_begun (image_of c.args.words.now) c.args.at 0 c.args.at (c.begins.ensures.yes c.if-begins.true) (omega arith) (omega arith) c.begins.ensures.touched c.tag.ensures.reads.touched
