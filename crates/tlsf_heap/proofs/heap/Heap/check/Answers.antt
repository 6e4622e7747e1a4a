use Rattle.tlsf_heap.proofs.Common.{ap, sym, ◌∙◌, subst, Ok, arith, HeapState, IsNameCheck, RefusesName, Stale, Shown}
use Rattle.tlsf_heap.proofs.lemmas.calls.Frames.{finds_more, found_none, found_read}
use Rattle.tlsf_heap.proofs.heap.Heap.check.Goals as goal

pub returns-clause-answer : goal.returns-clause-answer
returns-clause-answer g c =
    let found = c.in-Some.ensures.answer in
    subst (λ (h : HeapState). IsNameCheck h c.args.name (Ok c.in-Some.tag)) (ap (λ (s : Shown). s.heap) c.self.view_is) ((c.if-name-self.false, found.0), found.1)

pub returns-then-name-self-clause-answer : goal.returns-then-name-self-clause-answer
returns-then-name-self-clause-answer g c =
    subst (RefusesName c.args.self.now.heap c.args.name) (sym (c.of_name.ensures.foreign c.if-name-self.true)) (λ e. c.if-name-self.true (e ∙ sym (ap (λ (s : Shown). s.heap.id) c.self.view_is)))

pub returns-in_default-clause-answer : goal.returns-in_default-clause-answer
returns-in_default-clause-answer g c =
    subst (RefusesName c.args.self.now.heap c.args.name) (sym (c.of_name-in_default.ensures.stale c.if-name-self.false))
    (subst (λ (h : HeapState). RefusesName h c.args.name Stale) (ap (λ (s : Shown). s.heap) c.self.view_is) (c.if-name-self.false, c.in_default.ensures.answer))

-- ---- what is kept

pub returns-then-name-self-clause-frame : goal.returns-then-name-self-clause-frame
returns-then-name-self-clause-frame g c = finds_more (omega arith) (omega arith) (found_none g.row.SLI c.self.inside c.self.view_is c.self.invariant)

pub returns-in_default-clause-frame : goal.returns-in_default-clause-frame
returns-in_default-clause-frame g c =
    found_read g.row.SLI c.self.inside c.self.view_is c.self.invariant _ c.find_live.ensures.reads c.find_live.ensures.touched c.find_live.ensures.groups

pub returns-clause-frame : goal.returns-clause-frame
returns-clause-frame g c =
    found_read g.row.SLI c.self.inside c.self.view_is c.self.invariant _ c.find_live.ensures.reads c.find_live.ensures.touched c.find_live.ensures.groups
