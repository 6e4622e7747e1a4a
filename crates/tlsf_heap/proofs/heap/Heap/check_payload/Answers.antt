use Rattle.tlsf_heap.proofs.Common.{ap, ◌∙◌, arith, err_from_is_err_and, Shown, seen, state_of}
use Rattle.tlsf_heap.proofs.lemmas.calls.Named.{named_same, named_stands, named_live, not_forged}
use Rattle.tlsf_heap.proofs.lemmas.calls.Write.{length_is}
use Rattle.tlsf_heap.proofs.lemmas.calls.Frames.{finds_both, finds_more, found_read}
use Rattle.tlsf_heap.proofs.heap.Heap.check_payload.Goals as goal

pub returns-in_err-check-clause-answer : goal.returns-in_err-check-clause-answer
returns-in_err-check-clause-answer g c =
    let p = err_from_is_err_and c.from_residual.result c.from_residual.ensures.1 in
    rw (p.1, p.2) c.in_err-check.ensures.answer

pub length-requires : goal.length-requires
length-requires g c =
    let named = (named_same (state_of g.row.SLI c.self.inside) c.args.self.now.heap c.args.name (ap (λ (s : Shown). s.heap) c.self.view_is ∙ c.in_ok-check.ensures.frame.same.heap) c.in_ok-check.ensures.answer.0).1 in
    (omega arith, (named.0, named_stands _ _ _ _ named.1, named_live _ _ _ _ named.1))

pub returns-clause-answer : goal.returns-clause-answer
returns-clause-answer g c =
    let is_named = c.in_ok-check.ensures.answer.0 in
    (is_named, length_is (state_of g.row.SLI c.self.inside) c.args.self.now.heap c.args.name 0 0 c.length.result (ap (λ (s : Shown). s.heap) c.self.view_is ∙ c.in_ok-check.ensures.frame.same.heap) is_named c.length.ensures.value)

-- ---- the name was not forged

pub returns-clause-forged : goal.returns-clause-forged
returns-clause-forged g c = not_forged (seen c.args.self.now) c.args.name c.in_ok-check.ensures.frame.keeps.was_lawful c.in_ok-check.ensures.answer.0 _

-- ---- the payloads of live blocks

pub returns-clause-frame : goal.returns-clause-frame
returns-clause-frame g c =
    finds_both c.in_ok-check.ensures.frame (found_read g.row.SLI c.self.inside c.self.view_is c.self.invariant _ c.length.ensures.reads c.length.ensures.touched c.length.ensures.groups)

-- ---- groups of eight words

pub returns-in_err-check-clause-frame : goal.returns-in_err-check-clause-frame
returns-in_err-check-clause-frame g c = finds_more (omega arith) (omega arith) c.in_err-check.ensures.frame
