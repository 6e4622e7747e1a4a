use Rattle.tlsf_heap.proofs.Common.{ap, ◌∙◌, sym, subst, Ok, arith, rules, err_from_is_err_and, HeapState, Outcome, want, IsNameCheck, seen}
use Rattle.tlsf_heap.proofs.lemmas.calls.Named.{not_forged}
use Rattle.tlsf_heap.proofs.lemmas.calls.Resize.{resized_refused}
use Rattle.tlsf_heap.proofs.lemmas.calls.Leaves.{refused_both, groups_refused}
use Rattle.tlsf_heap.proofs.lemmas.words.Footprint.{any_word}
use Rattle.tlsf_words.proofs.Touching.{more_groups}
use Rattle.tlsf_heap.proofs.lemmas.calls.Frames.{peak_after, same_peak, settles_found, settles_then}
use Rattle.tlsf_heap.proofs.heap.Heap.resize_unset.Goals as goal

-- ---- the name is refused

pub returns-in_err-own-clause-resizes : goal.returns-in_err-own-clause-resizes
returns-in_err-own-clause-resizes g c =
    let p = err_from_is_err_and c.from_residual.result c.from_residual.ensures.1 in
    record {
      answer_is = rw (p.1, p.2) (sym (ap (λ (o : Outcome (Unit {0})). o.answer) (resized_refused c.args.self.now.heap c.args.name (want c.args.len) c.args.len _ c.in_err-own.ensures.answer)));
      heap = search rules;
      unchanged = search rules;
      touches = search rules;
      rise = search rules;
      leaves = λ k o. c.in_err-own.ensures.frame.leaves k (any_word c.args.self.now.heap.blocks c.args.name.at k o);
      refused = search rules;
      forged = search rules;
    }

pub returns-in_err-own-clause-frame : goal.returns-in_err-own-clause-frame
returns-in_err-own-clause-frame g c =
    let e = c.in_err-own.ensures.frame in
    settles_found (omega arith) (same_peak e.same e.keeps) e

-- ---- the block was found

pub refit_unset-requires : goal.refit_unset-requires
refit_unset-requires g c =
    let e = c.in_ok-own.ensures in
    (omega arith, subst (λ (s : HeapState). IsNameCheck s c.args.name (Ok c.in_ok-own.own)) (sym e.frame.same.heap) e.answer)

pub returns-clause-resizes : goal.returns-clause-resizes
returns-clause-resizes g c =
    let e = c.in_ok-own.ensures in
    record {
      answer_is = search rules;
      heap = search rules;
      unchanged = search rules;
      touches = search rules;
      rise = search rules;
      leaves = λ k o. (rw e.frame.same.heap at c.refit_unset.ensures.others.leaves) k o ∙ e.frame.leaves k (any_word c.args.self.now.heap.blocks c.args.name.at k o);
      refused = refused_both c.refit_unset.result _ _ _ _ e.frame.leaves (rw e.frame.same.heap at c.refit_unset.ensures.others.refused);
      forged = not_forged (seen c.args.self.now) c.args.name e.frame.keeps.was_lawful e.answer.0 _;
    }

pub returns-clause-frame : goal.returns-clause-frame
returns-clause-frame g c =
    let e = c.in_ok-own.ensures.frame in
    settles_then (omega arith) (peak_after c.refit_unset.new.self e) e c.refit_unset.ensures.frame

pub returns-in_err-own-clause-refused_groups : goal.returns-in_err-own-clause-refused_groups
returns-in_err-own-clause-refused_groups g c = rw (err_from_is_err_and c.from_residual.result c.from_residual.ensures.1).1 (more_groups (omega arith) c.in_err-own.ensures.frame.groups)

pub returns-clause-refused_groups : goal.returns-clause-refused_groups
returns-clause-refused_groups g c = groups_refused c.refit_unset.result _ _ _ _ _ c.in_ok-own.ensures.frame.groups c.refit_unset.ensures.refused_groups
