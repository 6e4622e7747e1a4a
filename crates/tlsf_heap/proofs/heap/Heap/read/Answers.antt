use Rattle.tlsf_heap.proofs.Common.{length, ap, ◌∙◌, arith, ◌≡◌, sym, subst, rules, err_from_is_err_and, Shown, seen, read_of, state_of, times, HeapState, IsOthersWord}
use Rattle.tlsf_heap.proofs.lemmas.calls.Named.{not_forged}
use Rattle.tlsf_heap.proofs.lemmas.calls.Write.{range_named, range_stands, reads, unread}
use Rattle.tlsf_heap.proofs.lemmas.words.Footprint.{any_word}
use Rattle.tlsf_heap.proofs.heap.Heap.read.Goals as goal

pub returns-in_err-check_range-clause-reads : goal.returns-in_err-check_range-clause-reads
returns-in_err-check_range-clause-reads g c =
    let e = c.in_err-check_range.ensures in
    let p = err_from_is_err_and c.from_residual.result c.from_residual.ensures.1 in
    record {
      answer_is = rw (p.1, p.2) e.answer;
      bytes_are = unread (read_of c.args.self.now.heap c.args.name c.args.at (length c.args.out.now)) _ c.args.out.now e.answer;
      heap = search rules;
      touches = search rules;
      rise = search rules;
      leaves = λ k o. e.frame.leaves k (any_word c.args.self.now.heap.blocks c.args.name.at k o);
      refused = search rules;
      forged = search rules;
    }

pub read-requires : goal.read-requires
read-requires g c = (
  omega arith,
  range_stands (state_of g.row.SLI c.self.inside) c.args.self.now.heap c.args.name c.args.at (length c.args.out.now) (ap (λ (s : Shown). s.heap) c.self.view_is ∙ c.in_ok-check_range.ensures.frame.same.heap)
      c.in_ok-check_range.ensures.answer c.in_ok-check_range.ensures.place,
)

pub returns-clause-reads : goal.returns-clause-reads
returns-clause-reads g c =
    let e = c.in_ok-check_range.ensures in
    let same : state_of g.row.SLI c.self.inside ≡ c.args.self.now.heap = ap (λ (s : Shown). s.heap) c.self.view_is ∙ e.frame.same.heap in
    record {
      answer_is = search rules;
      bytes_are = reads (state_of g.row.SLI c.self.inside) c.args.self.now.heap c.args.name c.args.at (length c.args.out.now) same e.answer e.place c.args.out.now c.read.new.out c.read.ensures.bytes;
      heap = search rules;
      touches = search rules;
      rise = search rules;
      leaves = λ k o. c.read.ensures.touched k (subst (λ (h : HeapState). IsOthersWord h.blocks c.args.name.at k) (sym same) o)
          ∙ ap (λ (s : Shown). times s.touched k) c.self.view_is ∙ e.frame.leaves k (any_word c.args.self.now.heap.blocks c.args.name.at k o);
      refused = search rules;
      forged = not_forged (seen c.args.self.now) c.args.name e.frame.keeps.was_lawful (range_named c.args.self.now.heap c.args.name c.args.at (length c.args.out.now) e.answer e.place) _;
    }
