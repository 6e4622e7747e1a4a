use Rattle.tlsf_heap.proofs.Common.{rules, ◌≡◌, ℕ, ◌+◌, ◌<◌, Result, length, min, refl, sym, ap, ◌∙◌, subst, arith, IfOk, HeapState, want, allocated, Outcome, last_tick, payload_of, moved, Shown, unset_from, Name, Refusal, IsOthersWord, Give, Put, drop, lying, released, copied, words_in_use, words_at}
use Rattle.tlsf_heap.proofs.lemmas.calls.ResizeOrMove.{moved_done}
use Rattle.tlsf_heap.proofs.lemmas.calls.Unset.{first_lives, first_holds, moved_unset}
use Rattle.tlsf_heap.specs.WordsInUse.{peak_moved}
use Rattle.tlsf_heap.proofs.lemmas.laws.MovedWords.{peak_of_move}
use Rattle.tlsf_heap.proofs.lemmas.laws.WordsInUse.{words_set}
use Rattle.tlsf_heap.proofs.lemmas.words.Footprint.{any_word}
use Rattle.tlsf_heap.proofs.lemmas.calls.Leaves.{given_word, word_step}
use Rattle.tlsf_words.proofs.Touching.{more_groups, groups_then}
use Rattle.tlsf_heap.proofs.lemmas.calls.Frames.{found_none, settles_found}
use Rattle.tlsf_heap.proofs.heap.Heap.relocate_unset.Goals as goal

-- ---- both names are live behind the request, and a tick is left

pub hand_over-requires : goal.hand_over-requires
hand_over-requires g c =
    let given = c.in_ok-new.ensures in
    let first = first_lives g.row.SLI c.args.self.now.heap c.args.name c.in_ok-new.new c.args.len c.self.invariant.level given.frame.keeps.was_lawful c.requires (sym given.allocates.answer_is) c.allocate_unset.new.self.stored c.allocate_unset.new.self.heap given.allocates.heap in
    let fresh = ap (λ (s : Shown). s.heap.tick) c.self.view_is in (
      omega arith,
      (first.0, (first.1, λ worn. let later = first.2 in omega (arith, worn, later, c.if-self.false, fresh))),
    )

-- ---- the old bytes stay, and behind them are those that lie there

pub returns-clause-heap : goal.returns-clause-heap
returns-clause-heap g c =
    let h = c.args.self.now.heap in
    let name = c.args.name in
    let new = c.in_ok-new.new in
    let given = c.in_ok-new.ensures in
    let m = c.hand_over.new.self.stored in
    let fresh : h.tick + 1 < last_tick = omega (arith, c.if-self.false, ap (λ (s : Shown). s.heap.tick) c.self.view_is) in
    let move = ap (λ (o : Outcome Name). o.heap) (moved_done g.row.SLI h name c.args.len new given.allocates.answer_is c.requires fresh) in
    let done = moved_unset g.row.SLI h name new c.args.len c.self.invariant.level given.frame.keeps.was_lawful c.requires (sym given.allocates.answer_is) c.allocate_unset.new.self.stored m c.allocate_unset.new.self.heap c.hand_over.new.self.heap
    given.allocates.heap given.frame.keeps.lawful c.hand_over.ensures.heap c.hand_over.ensures.frame.keeps.shows in
    subst (λ (r : Result Name Refusal). IfOk r (λ new. c.hand_over.new.self.heap ≡ unset_from (moved g.row.SLI h name c.args.len).heap new m (min (length (payload_of h name)) c.args.len) c.args.len)) (sym c.hand_over.ensures.answer)
    (done ∙ ap (λ (s : HeapState). unset_from s new m (min (length (payload_of h name)) c.args.len) c.args.len) (sym move))

-- while it moves, both blocks are in use
pub returns-clause-frame : goal.returns-clause-frame
returns-clause-frame g c = record {
  err = search rules;
  keeps = search rules;
  peak =
      let h = c.args.self.now.heap in
      let name = c.args.name in
      let new = c.in_ok-new.new in
      let given = c.in_ok-new.ensures in
      let m = c.hand_over.new.self.stored in
      let fresh : h.tick + 1 < last_tick = omega (arith, c.if-self.false, ap (λ (s : Shown). s.heap.tick) c.self.view_is) in
      let full = (allocated g.row.SLI h c.args.len).heap in
      let left = (released (copied full name new).heap name).heap in
      let bytes = drop 0 (lying c.allocate_unset.new.self.stored new.at c.args.len) in
      let done = moved_unset g.row.SLI h name new c.args.len c.self.invariant.level given.frame.keeps.was_lawful c.requires (sym given.allocates.answer_is) c.allocate_unset.new.self.stored m c.allocate_unset.new.self.heap c.hand_over.new.self.heap
      given.allocates.heap given.frame.keeps.lawful c.hand_over.ensures.heap c.hand_over.ensures.frame.keeps.shows in
      let tail = drop (min (length (payload_of h name)) c.args.len) (lying m new.at c.args.len) in
      let filled = words_set g.row.SLI full (Put new 0 bytes) tt in
      let again = words_set g.row.SLI left (Put new (min (length (payload_of h name)) c.args.len) tail) tt in
      subst (λ (r : Result Name Refusal). c.hand_over.new.self.most_in_use ≡ peak_moved c.args.self.now name.at r c.hand_over.new.self.heap) (sym c.hand_over.ensures.answer)
      (peak_of_move g.row.SLI c.self.invariant.level c.args.self.now name new c.args.len given.frame.keeps.was_lawful c.requires given.allocates.answer_is fresh c.hand_over.new.self.heap (words_in_use c.allocate_unset.new.self.heap) c.allocate_unset.new.self.most_in_use c.hand_over.new.self.most_in_use
      (ap words_in_use given.allocates.heap ∙ filled.0) given.frame.peak c.hand_over.ensures.frame.most (ap (λ (s : HeapState). words_at s new.at) done ∙ again.1 new.at));
  groups =
      let given = c.in_ok-new.ensures in
      let held = first_holds g.row.SLI c.args.self.now.heap c.args.name c.in_ok-new.new c.args.len c.self.invariant.level given.frame.keeps.was_lawful c.requires (sym given.allocates.answer_is) c.allocate_unset.new.self.stored c.allocate_unset.new.self.heap given.allocates.heap in
      more_groups (omega (arith, held.0, held.1)) (groups_then given.frame.groups c.hand_over.ensures.frame.groups);
}

-- ---- 26 for the request, 35 and two a word for the copy and the release

pub returns-clause-touches : goal.returns-clause-touches
returns-clause-touches g c =
    let given = c.in_ok-new.ensures in
    let held = first_holds g.row.SLI c.args.self.now.heap c.args.name c.in_ok-new.new c.args.len c.self.invariant.level given.frame.keeps.was_lawful c.requires (sym given.allocates.answer_is) c.allocate_unset.new.self.stored c.allocate_unset.new.self.heap given.allocates.heap in
    omega (arith, held.0, held.1, given.allocates.touches, c.hand_over.ensures.frame.touches)

-- ---- what is kept

pub returns-then-self-clause-frame : goal.returns-then-self-clause-frame
returns-then-self-clause-frame g c = settles_found (omega arith) refl (found_none g.row.SLI c.self.inside c.self.view_is c.self.invariant)

-- ---- the payloads of other blocks

pub returns-in_err-new-clause-others : goal.returns-in_err-new-clause-others
returns-in_err-new-clause-others g c = record { leaves = λ k o. c.in_err-new.ensures.allocates.leaves k (any_word c.args.self.now.heap.blocks c.args.name.at k o); refused = search rules }

pub returns-clause-others : goal.returns-clause-others
returns-clause-others g c = record {
  leaves = λ k o.
      let h = c.args.self.now.heap in
      let name = c.args.name in
      let new = c.in_ok-new.new in
      let e = c.in_ok-new.ensures in
      let given = (allocated g.row.SLI h c.args.len).heap in
      let wrote : (at : ℕ) → IsOthersWord given.blocks at k → IsOthersWord c.allocate_unset.new.self.heap.blocks at k = λ at w.
      subst (λ (s : HeapState). IsOthersWord s.blocks at k) (sym e.allocates.heap) (word_step given at k w 0 (Put new 0 _) tt) in
      c.hand_over.ensures.leaves k (wrote name.at (word_step h name.at k o g.row.SLI (Give (want c.args.len) c.args.len) tt)) (wrote new.at (given_word h name.at k o g.row.SLI (want c.args.len) c.args.len e.frame.keeps.was_lawful new (sym e.allocates.answer_is)))
      ∙ e.allocates.leaves k (any_word h.blocks name.at k o);
  refused = search rules;
}

-- ---- groups of eight words

pub returns-in_err-new-clause-frame : goal.returns-in_err-new-clause-frame
returns-in_err-new-clause-frame g c = record { err = search rules; keeps = search rules; peak = search rules; groups = more_groups (omega arith) c.in_err-new.ensures.frame.groups }
