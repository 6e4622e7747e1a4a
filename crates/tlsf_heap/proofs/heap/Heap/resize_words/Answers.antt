use Rattle.tlsf_heap.proofs.Common.{payload_of, length, ap, false≢true, ◌∙◌, sym, subst, Ok, arith, rules, err_from_is_err_and, HeapState, IsNameCheck, seen}
use Rattle.tlsf_heap.proofs.lemmas.calls.Named.{not_forged}
use Rattle.tlsf_heap.proofs.lemmas.calls.Resize.{resized_refused, resizes_refused}
use Rattle.tlsf_heap.proofs.lemmas.calls.Leaves.{refused_both, groups_refused}
use Rattle.tlsf_heap.proofs.lemmas.words.Footprint.{any_word}
use Rattle.tlsf_words.proofs.Touching.{more_groups}
use Rattle.tlsf_heap.proofs.lemmas.calls.Frames.{peak_after, same_peak, settles_found, settles_then}
use Rattle.tlsf_heap.proofs.heap.Heap.resize_words.Goals as goal

-- ---- the name is refused

pub returns-in_err-own-clause-resizes : goal.returns-in_err-own-clause-resizes
returns-in_err-own-clause-resizes g c =
    let e = c.in_err-own.ensures in
    let p = err_from_is_err_and c.from_residual.result c.from_residual.ensures.1 in
    let refuses = resizes_refused c.args.self.now.heap c.check.new.self.heap c.args.name c.args.words c.args.len _ e.frame.keeps.was_lawful e.frame.same.heap (resized_refused c.args.self.now.heap c.args.name c.args.words c.args.len _ e.answer) in
    record {
      answer_is = rw (p.1, p.2) refuses.is_answer;
      heap = refuses.is_heap;
      touches = search rules;
      grown = search rules;
      rise = search rules;
      leaves = λ k o. e.frame.leaves k (any_word c.args.self.now.heap.blocks c.args.name.at k o);
      refused = search rules;
      forged = search rules;
    }

pub returns-in_err-own-clause-frame : goal.returns-in_err-own-clause-frame
returns-in_err-own-clause-frame g c =
    let e = c.in_err-own.ensures.frame in
    settles_found (omega arith) (same_peak e.same e.keeps) e

pub returns-in_err-own-clause-refused_groups : goal.returns-in_err-own-clause-refused_groups
returns-in_err-own-clause-refused_groups g c = rw (err_from_is_err_and c.from_residual.result c.from_residual.ensures.1).1 (more_groups (omega arith) c.in_err-own.ensures.frame.groups)

-- ---- the block was found

pub refit-requires : goal.refit-requires
refit-requires g c =
    let e = c.in_ok-own.ensures in
    (omega arith, (c.requires, (subst (λ (s : HeapState). IsNameCheck s c.args.name (Ok c.in_ok-own.own)) (sym e.frame.same.heap) e.answer, λ kept. absurd (false≢true (sym kept)))))

pub returns-clause-resizes : goal.returns-clause-resizes
returns-clause-resizes g c =
    let e = c.in_ok-own.ensures in
    let r = rw e.frame.same.heap at c.refit.ensures in
    record {
      answer_is = r.answer;
      heap = r.heap;
      touches = omega (arith, r.touches, e.frame.touches);
      grown = omega (arith, r.grown, e.frame.touches);
      rise = omega (arith, r.frame.keeps.touches_rise, e.frame.keeps.touches_rise);
      leaves = λ k o. r.others.leaves k o ∙ e.frame.leaves k (any_word c.args.self.now.heap.blocks c.args.name.at k o);
      refused = refused_both c.refit.result _ _ _ _ e.frame.leaves r.others.refused;
      forged = not_forged (seen c.args.self.now) c.args.name e.frame.keeps.was_lawful e.answer.0 _;
    }

pub returns-clause-frame : goal.returns-clause-frame
returns-clause-frame g c =
    let e = c.in_ok-own.ensures.frame in
    settles_then (omega (arith, ap (λ (h : HeapState). length (payload_of h c.args.name)) e.same.heap)) (peak_after c.refit.new.self e) e c.refit.ensures.frame

pub returns-clause-refused_groups : goal.returns-clause-refused_groups
returns-clause-refused_groups g c = groups_refused c.refit.result _ _ _ _ _ c.in_ok-own.ensures.frame.groups c.refit.ensures.refused_groups
