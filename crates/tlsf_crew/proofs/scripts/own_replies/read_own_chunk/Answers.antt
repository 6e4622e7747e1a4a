use Rattle.tlsf_crew.proofs.Common.{◌∙◌, ap, sym, arith, replicate, Ok, length-take-le, read_of, heap_of, by_heap}
use Rattle.tlsf_crew.proofs.lemmas.model.ChunkReads.{answer_of_few, few_err, few_ok, read_many, many_ok, many_err}
use Rattle.tlsf_crew.proofs.scripts.own_replies.read_own_chunk.Goals as goal

pub returns-in-Ok-clause-answer : goal.returns-in-Ok-clause-answer
returns-in-Ok-clause-answer g c =
    many_ok (read_of (heap_of c.args.worker.now) c.args.name c.args.from 0) _ c.in-Ok.ensures.answer ∙ ap by_heap (sym (read_many _ _ _ _ c.if-n-gt64.true))

pub returns-in-Err-clause-answer : goal.returns-in-Err-clause-answer
returns-in-Err-clause-answer g c =
    many_err (read_of (heap_of c.args.worker.now) c.args.name c.args.from 0) _ c.in-Err.ensures.answer ∙ ap by_heap (sym (read_many _ _ _ _ c.if-n-gt64.true))

pub returns-in-Some-clause-answer : goal.returns-in-Some-clause-answer
returns-in-Some-clause-answer g c =
    answer_of_few (heap_of c.args.worker.now) c.args.name c.args.from c.args.n _ _
    (ap Ok c.in-Some.ensures.chunk ∙ few_ok (read_of (heap_of c.args.worker.now) c.args.name c.args.from _) _ _ _ c.in-Ok-read.ensures.answer c.in-Ok-read.ensures.reads.bytes_are) (length-take-le c.args.n (replicate 64 0) (omega arith)) (omega arith)

pub returns-in-Err-read-clause-answer : goal.returns-in-Err-read-clause-answer
returns-in-Err-read-clause-answer g c =
    answer_of_few (heap_of c.args.worker.now) c.args.name c.args.from c.args.n _ _
    (few_err (read_of (heap_of c.args.worker.now) c.args.name c.args.from _) _ c.in-Err-read.ensures.answer) (length-take-le c.args.n (replicate 64 0) (omega arith)) (omega arith)
