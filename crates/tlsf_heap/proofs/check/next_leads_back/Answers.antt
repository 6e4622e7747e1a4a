use Rattle.tlsf_heap.proofs.Common.{◌+◌, ◌∙◌, refl, arith, image_of}
use Rattle.tlsf_heap.proofs.lemmas.words.Checks.{header_read}
use Rattle.tlsf_heap.proofs.check.next_leads_back.Goals as goal

pub returns-then-begins_free-clause-touched : goal.returns-then-begins_free-clause-touched
returns-then-begins_free-clause-touched c k other =
    header_read (image_of c.args.words.now) c.args.next 2 (c.args.next + 2) (c.begins_free.ensures.yes c.if-begins_free.true).begins (omega arith) refl c.links.ensures.reads.touched k other
    ∙ c.begins_free.ensures.touched k other
