use Rattle.tlsf_heap.proofs.Common.{sym, ap, ◌∙◌, arith, err_from_is_err_and, Shown, seen, read_answer, state_of}
use Rattle.tlsf_heap.proofs.lemmas.calls.Named.{named_same, named_stands, named_live, not_forged}
use Rattle.tlsf_heap.proofs.lemmas.calls.Write.{Ranged, read_refused, range_past, range_within}
use Rattle.tlsf_heap.proofs.heap.Heap.check_range.Given.{Over}
use Rattle.tlsf_heap.proofs.lemmas.calls.Frames.{finds_both, finds_more, found_read}
use Rattle.tlsf_heap.proofs.heap.Heap.check_range.Goals as goal

pub returns-in_err-check-clause-answer : goal.returns-in_err-check-clause-answer
returns-in_err-check-clause-answer g c =
    let p = err_from_is_err_and c.from_residual.result c.from_residual.ensures.1 in
    rw (p.1, p.2) (sym (ap read_answer (read_refused c.args.self.now.heap c.args.name c.args.at c.args.n _ c.in_err-check.ensures.answer)))

pub length-length-requires : goal.length-length-requires
length-length-requires g c =
    let named = (named_same (state_of g.row.SLI c.self.inside) c.args.self.now.heap c.args.name (ap (λ (s : Shown). s.heap) c.self.view_is ∙ c.in_ok-check.ensures.frame.same.heap) c.in_ok-check.ensures.answer.0).1 in
    (omega arith, (named.0, named_stands _ _ _ _ named.1, named_live _ _ _ _ named.1))

pub returns-then-at-n-clause-answer : goal.returns-then-at-n-clause-answer
returns-then-at-n-clause-answer g c =
    range_past (state_of g.row.SLI c.self.inside) c.args.self.now.heap c.args.name c.args.at c.args.n c.length-length.result (ap (λ (s : Shown). s.heap) c.self.view_is ∙ c.in_ok-check.ensures.frame.same.heap) c.in_ok-check.ensures.answer.0
    c.length-length.ensures.value (omega arith)

within : (g : Over) (c : goal.Else-at-n g) → Ranged c.args.self.now.heap c.args.name c.args.at c.args.n
within g c =
    range_within (state_of g.row.SLI c.self.inside) c.args.self.now.heap c.args.name c.args.at c.args.n c.length-length.result (ap (λ (s : Shown). s.heap) c.self.view_is ∙ c.in_ok-check.ensures.frame.same.heap) c.in_ok-check.ensures.answer.0
    c.length-length.ensures.value (omega arith)

pub returns-clause-answer : goal.returns-clause-answer
returns-clause-answer g c = (within g c).is_answer

pub returns-clause-place : goal.returns-clause-place
returns-clause-place g c = (within g c).range

-- ---- the name was not forged

pub returns-then-at-n-clause-forged : goal.returns-then-at-n-clause-forged
returns-then-at-n-clause-forged g c = not_forged (seen c.args.self.now) c.args.name c.in_ok-check.ensures.frame.keeps.was_lawful c.in_ok-check.ensures.answer.0 _

pub returns-clause-forged : goal.returns-clause-forged
returns-clause-forged g c = not_forged (seen c.args.self.now) c.args.name c.in_ok-check.ensures.frame.keeps.was_lawful c.in_ok-check.ensures.answer.0 _

-- ---- the payloads of live blocks

pub returns-then-at-n-clause-frame : goal.returns-then-at-n-clause-frame
returns-then-at-n-clause-frame g c =
    finds_both c.in_ok-check.ensures.frame (found_read g.row.SLI c.self.inside c.self.view_is c.self.invariant _ c.length-length.ensures.reads c.length-length.ensures.touched c.length-length.ensures.groups)

pub returns-clause-frame : goal.returns-clause-frame
returns-clause-frame g c =
    finds_both c.in_ok-check.ensures.frame (found_read g.row.SLI c.self.inside c.self.view_is c.self.invariant _ c.length-length.ensures.reads c.length-length.ensures.touched c.length-length.ensures.groups)

pub returns-in_err-check-clause-frame : goal.returns-in_err-check-clause-frame
returns-in_err-check-clause-frame g c = finds_more (omega arith) (omega arith) c.in_err-check.ensures.frame
