use Rattle.tlsf_heap.proofs.Common.{rules, sym, ◌∙◌, subst, arith, HeapState, IsOthersWord}
use Rattle.tlsf_heap.proofs.lemmas.laws.MovedWords.{peak_stayed, peak_same}
use Rattle.tlsf_words.proofs.Touching.{more_groups, groups_then}
use Rattle.tlsf_heap.proofs.heap.Heap.refit_or_move.Goals as goal

-- ---- the payloads of other blocks

pub returns-in-Err-NoRoom-clause-others : goal.returns-in-Err-NoRoom-clause-others
returns-in-Err-NoRoom-clause-others g c = record { leaves = λ k o. c.relocate.ensures.others.leaves k (subst (λ (s : HeapState). IsOthersWord s.blocks c.args.name.at k) (sym c.in-Err-NoRoom.ensures.frame.err.heap) o) ∙ c.refit.ensures.others.leaves k o; refused = search rules }

-- ---- groups of eight words

pub returns-in-Ok-clause-frame : goal.returns-in-Ok-clause-frame
returns-in-Ok-clause-frame g c = record { err = search rules; keeps = search rules; peak = peak_stayed c.args.self.now c.args.name c.refit.new.self.heap c.refit.new.self.most_in_use c.refit.ensures.frame.peak; groups = more_groups (omega arith) c.refit.ensures.frame.groups }

pub returns-in-Err-NoRoom-clause-frame : goal.returns-in-Err-NoRoom-clause-frame
returns-in-Err-NoRoom-clause-frame g c = record {
  err = search rules;
  keeps = search rules;
  peak = c.relocate.ensures.frame.peak ∙ peak_same c.refit.new.self c.args.self.now c.in-Err-NoRoom.ensures.frame.err.heap c.in-Err-NoRoom.ensures.frame.err.most_in_use c.args.name.at c.relocate.result c.relocate.new.self.heap;
  groups = more_groups (omega arith) (groups_then c.in-Err-NoRoom.ensures.refused_groups c.relocate.ensures.frame.groups);
}

pub returns-in-Err-clause-frame : goal.returns-in-Err-clause-frame
returns-in-Err-clause-frame g c = record { err = search rules; keeps = search rules; peak = search rules; groups = more_groups (omega arith) c.refit.ensures.frame.groups }
