use Rattle.tlsf_heap.proofs.Common.{ℕ, Ok, sym, ap, ◌∙◌, subst, arith, rules, HeapState, IsPlace, IsNameCheck, IsOthersWord}
use Rattle.tlsf_heap.specs.ByPlace.{kept_of}
use Rattle.tlsf_heap.proofs.lemmas.calls.Named.{named_stands, not_wild}
use Rattle.tlsf_heap.proofs.lemmas.calls.Leaves.{refused_both}
use Rattle.tlsf_heap.proofs.lemmas.words.Footprint.{any_word}
use Rattle.tlsf_words.proofs.Touching.{more_groups, groups_then}
use Rattle.tlsf_heap.proofs.heap.Heap.resize_or_move_unset_at.Goals as goal

pub refit_or_move_unset-requires : goal.refit_or_move_unset-requires
refit_or_move_unset-requires g c = (omega arith, subst (λ (s : HeapState). IsNameCheck s c.in-Some.block.0 (Ok c.in-Some.block.1)) (sym c.in-Some.ensures.frame.same.heap) c.in-Some.ensures.found.1)

-- no live block begins there
pub returns-in-None-clause-moves : goal.returns-in-None-clause-moves
returns-in-None-clause-moves g c =
    record {
      answer_is = search rules;
      heap = search rules;
      unchanged = search rules;
      touches = search rules;
      in_place = search rules;
      rise = search rules;
      leaves = λ k o. c.in-None.ensures.frame.leaves k (any_word c.args.self.now.heap.blocks c.args.at k o);
      refused = search rules;
      wild = search rules;
      unread = search rules;
    }

-- one does
pub returns-in-Some-clause-moves : goal.returns-in-Some-clause-moves
returns-in-Some-clause-moves g c =
    let h = c.args.self.now.heap in
    let e = c.in-Some.ensures in
    let first = e.found.1.0.1 in
    let here : IsPlace h.blocks c.args.at = subst (λ (at : ℕ). IsPlace h.blocks at) e.found.2 (first.0, named_stands _ _ h.blocks first.0 first.1) in
    record {
      answer_is = search rules;
      heap = rw e.found.0 (rw e.frame.same.heap at c.refit_or_move_unset.ensures.heap);
      unchanged = search rules;
      touches = search rules;
      in_place = search rules;
      rise = search rules;
      leaves = λ k o. (rw e.frame.same.heap at c.refit_or_move_unset.ensures.others.leaves) k (subst (λ (at : ℕ). IsOthersWord h.blocks at k) (sym e.found.2) o) ∙ e.frame.leaves k (any_word h.blocks c.args.at k o);
      refused = refused_both c.refit_or_move_unset.result _ _ _ _ e.frame.leaves (rw e.frame.same.heap at c.refit_or_move_unset.ensures.others.refused);
      wild = not_wild here e.found.3 _ _;
      unread = λ none. absurd (none here);
    }

-- ---- groups of eight words

pub returns-in-Some-clause-frame : goal.returns-in-Some-clause-frame
returns-in-Some-clause-frame g c = record {
  err = search rules;
  keeps = search rules;
  peak = search rules;
  groups =
      let e = c.in-Some.ensures in
      more_groups (omega (arith, ap (kept_of c.args.self.now.heap c.args.len) e.found.0)) (groups_then e.frame.groups (rw e.frame.same.heap at c.refit_or_move_unset.ensures.frame.groups));
}
