use Rattle.tlsf_heap.proofs.Common.{arith, image_of}
use Rattle.tlsf_heap.proofs.lemmas.words.Checks.{header_begun}
use Rattle.tlsf_heap.proofs.check.joins_behind.Goals as goal

pub returns-after-is_free-clause-touched : goal.returns-after-is_free-clause-touched
returns-after-is_free-clause-touched c =
    header_begun (image_of c.args.words.now) c.args.end 0 c.args.end (c.begins.ensures.yes c.if-not-begins.false) (omega arith) (omega arith) c.begins.ensures.touched c.tag-next.ensures.reads.touched

pub returns-else-back-at-clause-touched : goal.returns-else-back-at-clause-touched
returns-else-back-at-clause-touched c =
    header_begun (image_of c.args.words.now) c.args.end 0 c.args.end (c.begins.ensures.yes c.if-not-begins.false) (omega arith) (omega arith) c.begins.ensures.touched c.tag-next.ensures.reads.touched
