use Rattle.tlsf_heap.proofs.Common.{ap, ◌∙◌, sym, subst, Ok, arith, rules, err_from_is_err_and, HeapState, Outcome, Name, IsNameCheck, seen, length, payload_of, refl}
use Rattle.tlsf_heap.proofs.lemmas.calls.Named.{not_forged}
use Rattle.tlsf_heap.proofs.lemmas.calls.ResizeOrMove.{name_refused}
use Rattle.tlsf_heap.proofs.lemmas.calls.Leaves.{refused_both}
use Rattle.tlsf_heap.proofs.lemmas.words.Footprint.{any_word}
use Rattle.tlsf_heap.proofs.lemmas.laws.MovedWords.{peak_same}
use Rattle.tlsf_heap.proofs.lemmas.calls.Frames.{settles_found, settles_then}
use Rattle.tlsf_heap.proofs.heap.Heap.resize_or_move_unset.Goals as goal

-- ---- the name is refused

pub returns-in_err-own-clause-moves : goal.returns-in_err-own-clause-moves
returns-in_err-own-clause-moves g c =
    let p = err_from_is_err_and c.from_residual.result c.from_residual.ensures.1 in
    record {
      answer_is = rw (p.1, p.2) (sym (ap (λ (o : Outcome Name). o.answer) (name_refused g.row.SLI c.args.self.now.heap c.args.name c.args.len _ c.in_err-own.ensures.answer)));
      heap = search rules;
      unchanged = search rules;
      touches = search rules;
      in_place = search rules;
      rise = search rules;
      leaves = λ k o. c.in_err-own.ensures.frame.leaves k (any_word c.args.self.now.heap.blocks c.args.name.at k o);
      refused = search rules;
      forged = search rules;
    }

pub returns-in_err-own-clause-frame : goal.returns-in_err-own-clause-frame
returns-in_err-own-clause-frame g c =
    rw (err_from_is_err_and c.from_residual.result c.from_residual.ensures.1).1 (settles_found (omega arith) refl c.in_err-own.ensures.frame)

-- ---- the block was found

pub refit_or_move_unset-requires : goal.refit_or_move_unset-requires
refit_or_move_unset-requires g c =
    let e = c.in_ok-own.ensures in
    (omega arith, subst (λ (s : HeapState). IsNameCheck s c.args.name (Ok c.in_ok-own.own)) (sym e.frame.same.heap) e.answer)

pub returns-clause-moves : goal.returns-clause-moves
returns-clause-moves g c =
    let e = c.in_ok-own.ensures in
    record {
      answer_is = search rules;
      heap = search rules;
      unchanged = search rules;
      touches = search rules;
      in_place = search rules;
      rise = search rules;
      leaves = λ k o. (rw e.frame.same.heap at c.refit_or_move_unset.ensures.others.leaves) k o ∙ e.frame.leaves k (any_word c.args.self.now.heap.blocks c.args.name.at k o);
      refused = refused_both c.refit_or_move_unset.result _ _ _ _ e.frame.leaves (rw e.frame.same.heap at c.refit_or_move_unset.ensures.others.refused);
      forged = not_forged (seen c.args.self.now) c.args.name e.frame.keeps.was_lawful e.answer.0 _;
    }

pub returns-clause-frame : goal.returns-clause-frame
returns-clause-frame g c =
    let e = c.in_ok-own.ensures.frame in
    settles_then (omega (arith, ap (λ (h : HeapState). length (payload_of h c.args.name)) e.same.heap)) (peak_same c.check.new.self c.args.self.now e.same.heap e.same.most_in_use c.args.name.at c.refit_or_move_unset.result c.refit_or_move_unset.new.self.heap) e c.refit_or_move_unset.ensures.frame
