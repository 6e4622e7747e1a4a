use Rattle.tlsf_heap.proofs.Common.{rules, ◌≡◌, ◌+◌, ◌<◌, Result, length, refl, sym, ap, ◌∙◌, subst, arith, HeapState, want, allocated, last_tick, named, payload_words_at, payload_words_given, IsLive, Shown, Name, Refusal, IsOthersWord, payload_of, Give, released, copied, words_in_use, words_at}
use Rattle.tlsf_heap.proofs.lemmas.calls.ResizeOrMove.{new_lives, old_lives, payload_fits, ticks}
use Rattle.tlsf_heap.specs.WordsInUse.{peak_moved}
use Rattle.tlsf_heap.proofs.lemmas.laws.MovedWords.{peak_of_move}
use Rattle.tlsf_heap.proofs.lemmas.words.Footprint.{any_word}
use Rattle.tlsf_heap.proofs.lemmas.calls.Leaves.{given_word, word_step}
use Rattle.tlsf_heap.proofs.lemmas.calls.Unset.{given_length}
use Rattle.tlsf_words.proofs.Touching.{more_groups, groups_then}
use Rattle.tlsf_heap.proofs.lemmas.calls.Frames.{found_none, settles_found}
use Rattle.tlsf_heap.proofs.heap.Heap.relocate.Goals as goal

-- ---- both names are live behind the allocate, and a tick is left

pub hand_over-requires : goal.hand_over-requires
hand_over-requires g c =
    let h = c.args.self.now.heap in
    let name = c.args.name in
    let new = c.in_ok-new.new in
    let given = c.in_ok-new.ensures.allocates.heap in
    let fresh : h.tick + 1 < last_tick = omega (arith, c.if-self.false, ap (λ (s : Shown). s.heap.tick) c.self.view_is) in (
      omega arith,
      (
        subst (λ (s : HeapState). IsLive s name) (sym given) (old_lives g.row.SLI h name c.args.len new c.in_ok-new.ensures.allocates.answer_is c.requires),
        (
          subst (λ (s : HeapState). IsLive s new) (sym given) (new_lives g.row.SLI h name c.args.len new c.in_ok-new.ensures.allocates.answer_is c.requires),
          λ worn. let left = ap (λ (s : HeapState). s.tick) given in let later = ticks g.row.SLI h name c.args.len new c.in_ok-new.ensures.allocates.answer_is c.requires in omega (arith, worn, left, later, fresh),
        ),
      ),
    )

-- ---- 26 for the allocate, 35 and two a word for the copy and the release

pub returns-clause-touches : goal.returns-clause-touches
returns-clause-touches g c =
    let h = c.args.self.now.heap in
    let new = c.in_ok-new.new in
    let given = c.in_ok-new.ensures.allocates.heap in
    let words : payload_words_given (allocated g.row.SLI h c.args.len).answer (allocated g.row.SLI h c.args.len).heap ≡ payload_words_at (named new c.allocate.new.self.heap.blocks) =
    ap (λ (r : Result Name Refusal). payload_words_given r (allocated g.row.SLI h c.args.len).heap) (sym c.in_ok-new.ensures.allocates.answer_is) ∙ ap (λ (s : HeapState). payload_words_at (named new s.blocks)) (sym given) in
    let lives = subst (λ (s : HeapState). IsLive s new) (sym given) (new_lives g.row.SLI h c.args.name c.args.len new c.in_ok-new.ensures.allocates.answer_is c.requires) in
    let fits = payload_fits c.allocate.new.self.heap new c.in_ok-new.ensures.frame.keeps.lawful lives in
    omega (arith, words, fits, c.in_ok-new.ensures.allocates.touches, c.hand_over.ensures.frame.touches)

-- while it moves, both blocks are in use
-- the bytes that are copied are no more than those given
pub returns-clause-frame : goal.returns-clause-frame
returns-clause-frame g c = record {
  err = search rules;
  keeps = search rules;
  peak =
      let given = c.in_ok-new.ensures in
      let fresh : c.args.self.now.heap.tick + 1 < last_tick = omega (arith, c.if-self.false, ap (λ (s : Shown). s.heap.tick) c.self.view_is) in
      let left = c.hand_over.ensures.heap ∙ ap (λ (s : HeapState). (released (copied s c.args.name c.in_ok-new.new).heap c.args.name).heap) given.allocates.heap in
      subst (λ (r : Result Name Refusal). c.hand_over.new.self.most_in_use ≡ peak_moved c.args.self.now c.args.name.at r c.hand_over.new.self.heap) (sym c.hand_over.ensures.answer)
      (peak_of_move g.row.SLI c.self.invariant.level c.args.self.now c.args.name c.in_ok-new.new c.args.len given.frame.keeps.was_lawful c.requires given.allocates.answer_is fresh c.hand_over.new.self.heap (words_in_use c.allocate.new.self.heap) c.allocate.new.self.most_in_use c.hand_over.new.self.most_in_use
      (ap words_in_use given.allocates.heap) given.frame.peak c.hand_over.ensures.frame.most (ap (λ (s : HeapState). words_at s c.in_ok-new.new.at) left));
  groups =
      let given = c.in_ok-new.ensures in
      let many = given_length g.row.SLI c.args.self.now.heap (want c.args.len) c.args.len c.in_ok-new.new given.frame.keeps.was_lawful (sym given.allocates.answer_is) in
      let held = ap (λ (s : HeapState). length (payload_of s c.in_ok-new.new)) given.allocates.heap in
      more_groups (omega (arith, many, held)) (groups_then given.frame.groups c.hand_over.ensures.frame.groups);
}

-- ---- what is kept

pub returns-then-self-clause-frame : goal.returns-then-self-clause-frame
returns-then-self-clause-frame g c = settles_found (omega arith) refl (found_none g.row.SLI c.self.inside c.self.view_is c.self.invariant)

-- ---- the payloads of other blocks

pub returns-in_err-new-clause-others : goal.returns-in_err-new-clause-others
returns-in_err-new-clause-others g c = record { leaves = λ k o. c.in_err-new.ensures.allocates.leaves k (any_word c.args.self.now.heap.blocks c.args.name.at k o); refused = search rules }

pub returns-clause-others : goal.returns-clause-others
returns-clause-others g c = record {
  leaves = λ k o.
      let h = c.args.self.now.heap in
      let name = c.args.name in
      let new = c.in_ok-new.new in
      let e = c.in_ok-new.ensures in
      c.hand_over.ensures.leaves k (subst (λ (s : HeapState). IsOthersWord s.blocks name.at k) (sym e.allocates.heap) (word_step h name.at k o g.row.SLI (Give (want c.args.len) c.args.len) tt)) (subst (λ (s : HeapState). IsOthersWord s.blocks new.at k) (sym e.allocates.heap) (given_word h name.at k o g.row.SLI (want c.args.len) c.args.len e.frame.keeps.was_lawful new (sym e.allocates.answer_is)))
      ∙ e.allocates.leaves k (any_word h.blocks name.at k o);
  refused = search rules;
}

-- ---- groups of eight words

pub returns-in_err-new-clause-frame : goal.returns-in_err-new-clause-frame
returns-in_err-new-clause-frame g c = record { err = search rules; keeps = search rules; peak = search rules; groups = more_groups (omega arith) c.in_err-new.ensures.frame.groups }
