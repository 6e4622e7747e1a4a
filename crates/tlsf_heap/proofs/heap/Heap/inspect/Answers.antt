use Rattle.tlsf_heap.proofs.Common.{rules, ◌≡◌, ap, ◌∙◌, arith, err_from_is_err_and, payload_at, Shown, seen, state_of}
use Rattle.tlsf_heap.proofs.lemmas.calls.Alter.{are_payload, stood_in}
use Rattle.tlsf_heap.proofs.lemmas.calls.Named.{live_is, not_forged}
use Rattle.tlsf_heap.proofs.lemmas.calls.Write.{read_none, read_refused}
use Rattle.tlsf_heap.proofs.heap.Heap.inspect.Goals as goal

pub returns-in_err-len-clause-answer : goal.returns-in_err-len-clause-answer
returns-in_err-len-clause-answer g c =
    let p = err_from_is_err_and c.from_residual.result c.from_residual.ensures.1 in
    rw (p.1, p.2) (read_refused c.args.self.now.heap c.args.name 0 0 _ c.in_err-len.ensures.answer)

pub inspect-requires : goal.inspect-requires
inspect-requires g c =
    let h = state_of g.row.SLI c.self.inside in
    let k = c.args.self.now.heap in
    let same : h ≡ k = ap (λ (s : Shown). s.heap) c.self.view_is ∙ c.in_ok-len.ensures.frame.same.heap in
    let is_named = c.in_ok-len.ensures.answer.0 in
    let long = c.in_ok-len.ensures.answer.1 in (
      omega arith,
      (
        stood_in h k c.args.name c.in_ok-len.len same is_named long,
        c.requires (live_is k c.args.name is_named) _ (are_payload h k c.args.name c.in_ok-len.len same c.self.invariant.shows is_named long),
      ),
    )

pub returns-clause-answer : goal.returns-clause-answer
returns-clause-answer g c = read_none c.args.self.now.heap c.args.name c.in_ok-len.ensures.answer.0

pub returns-clause-inspects : goal.returns-clause-inspects
returns-clause-inspects g c = record {
  inspected =
      let same : state_of g.row.SLI c.self.inside ≡ c.args.self.now.heap = ap (λ (s : Shown). s.heap) c.self.view_is ∙ c.in_ok-len.ensures.frame.same.heap in
      record {
        shown = payload_at c.self.inside.region.stored c.args.name.at c.in_ok-len.len;
        payload = are_payload (state_of g.row.SLI c.self.inside) c.args.self.now.heap c.args.name c.in_ok-len.len same c.self.invariant.shows c.in_ok-len.ensures.answer.0 c.in_ok-len.ensures.answer.1;
        called = c.inspect.ensures;
      };
  heap = search rules;
  touches = search rules;
  rise = search rules;
  leaves = search rules;
  forged = not_forged (seen c.args.self.now) c.args.name c.in_ok-len.ensures.frame.keeps.was_lawful c.in_ok-len.ensures.answer.0 _;
}
