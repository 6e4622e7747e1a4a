use Rattle.tlsf_heap.proofs.Common.{◌≡◌, ℕ, List, times, Fill, words_in_use, ◌+◌, ◌≤◌, ◌<◌, max, [], refl, arith, sym, ap, ◌∙◌, subst, suc, false≢true, aligned_words, HeapState, want, Outcome, last_tick, fits, gap_of, IsLawful, Shown, lying, with_payload, Name, IsOthersWord, IsLiveWord, LeavesLive, rules, Err, NoFit}
use Rattle.tlsf_heap.specs.Aligned.{words_aligned}
use Rattle.tlsf_heap.specs.Unset.{GivesUnset}
use Rattle.tlsf_class.proofs.TwoLevels.{most_words_any}
use Rattle.tlsf_heap.proofs.lemmas.calls.AllocateAligned.{IsAligned, stood, has_live, has_room, none_fits, aligned_past, first_moves, first_moved, gives_name, gives_payload, gives_others}
use Rattle.tlsf_heap.proofs.lemmas.blocks.Order.{inside}
use Rattle.tlsf_heap.proofs.lemmas.blocks.Sites.{fits_nothing}
use Rattle.tlsf_heap.proofs.lemmas.laws.WordsInUse.{words_set}
use Rattle.tlsf_heap.proofs.lemmas.calls.Filled.{unfilled}
use Rattle.tlsf_heap.proofs.lemmas.calls.Leaves.{moved_word, given_word}
use Rattle.tlsf_words.proofs.Touching.{more_groups, groups_then}
use Rattle.tlsf_heap.proofs.heap.Heap.allocate_aligned.Given.{Over}
use Rattle.tlsf_heap.proofs.lemmas.calls.Frames.{found_none, same_peak, settles_found}
use Rattle.tlsf_heap.proofs.heap.Heap.allocate_aligned.Goals as goal

pub returns-then-self-clause-allocates : goal.returns-then-self-clause-allocates
returns-then-self-clause-allocates g c =
    record {
      answer_is = search rules;
      gives = search rules;
      aligned = search rules;
      cases = search rules;
      unchanged = search rules;
      touches = search rules;
      rise = search rules;
      leaves = search rules;
    }

pub returns-then-self-clause-frame : goal.returns-then-self-clause-frame
returns-then-self-clause-frame g c =
    let look = found_none g.row.SLI c.self.inside c.self.view_is c.self.invariant in
    settles_found (omega arith) (same_peak look.same look.keeps) look

-- ---- no region has so many words

-- the words that are asked for
past : (g : Over) (c : goal.Then-step-most_words g) → c.args.self.now.heap.words < aligned_words (want c.args.len) c.max-step.result
past g c = omega (arith, ap (λ (s : Shown). s.heap.words) c.self.view_is, c.self.invariant.small, c.most_words.ensures, c.if-step-most_words.true)

refuses : (g : Over) (c : goal.Then-step-most_words g) → Err NoFit ≡ (words_aligned g.row.SLI c.args.self.now.heap (want c.args.len) (max c.args.step 1) c.args.skew).answer
refuses g c =
    let h = c.args.self.now.heap in
    let view = ap (λ (s : Shown). s.heap) c.self.view_is in
    let lawful = subst IsLawful view c.self.invariant.lawful in
    let left : h.tick + 3 < last_tick = omega (arith, ap (λ (s : HeapState). s.tick) view, c.if-self.false) in
    sym (ap (λ (o : Outcome Name). o.answer) (rw c.max-step.ensures at (aligned_past g.row.SLI c.self.invariant.level h (want c.args.len) c.max-step.result c.args.skew lawful left (past g c))))

none : (g : Over) (c : goal.Then-step-most_words g) → fits g.row.SLI (aligned_words (want c.args.len) (max c.args.step 1)) c.args.self.now.heap.blocks ≡ []
none g c =
    let h = c.args.self.now.heap in
    let lawful = subst IsLawful (ap (λ (s : Shown). s.heap) c.self.view_is) c.self.invariant.lawful in
    rw c.max-step.ensures at (fits_nothing g.row.SLI (aligned_words (want c.args.len) c.max-step.result) h.blocks (none_fits g.row.SLI c.self.invariant.level h (aligned_words (want c.args.len) c.max-step.result) lawful (past g c)))

pub returns-then-step-most_words-clause-allocates : goal.returns-then-step-most_words-clause-allocates
returns-then-step-most_words-clause-allocates g c =
    let left = c.if-self.false in
    let tick = ap (λ (s : Shown). s.heap.tick) c.self.view_is in
    record {
      answer_is = refuses g c;
      gives = search rules;
      aligned = search rules;
      cases = record {
        worn = (λ bad. cc, λ past. absurd (omega (arith, past, left, tick)));
        no_fit = λ left. (λ _. none g c, λ _. refl);
        ok = (λ e. absurd (false≢true e), λ p. absurd (p.1 (none g c)));
      };
      unchanged = search rules;
      touches = search rules;
      rise = search rules;
      leaves = search rules;
    }

pub returns-then-step-most_words-clause-frame : goal.returns-then-step-most_words-clause-frame
returns-then-step-most_words-clause-frame g c =
    let look = found_none g.row.SLI c.self.inside c.self.view_is c.self.invariant in
    settles_found (omega arith) (same_peak look.same look.keeps) look

pub returns-in-Err-clause-allocates : goal.returns-in-Err-clause-allocates
returns-in-Err-clause-allocates g c =
    record {
      answer_is = search rules;
      gives = search rules;
      aligned = search rules;
      cases = search rules;
      unchanged = search rules;
      touches = search rules;
      rise = search rules;
      leaves = λ k live. c.allocate_unset_words.ensures.allocates.leaves k live;
    }

-- ---- the block lies in the region

pub gap-gap-requires : goal.gap-gap-requires
gap-gap-requires g c =
    let h = c.args.self.now.heap in
    let a = c.allocate_unset_words.new.self.heap in
    let first = c.in-Ok.first in
    let view = ap (λ (s : Shown). s.heap) c.self.view_is in
    let lawful = subst IsLawful view c.self.invariant.lawful in
    let asked_lawful = c.allocate_unset_words.ensures.frame.keeps.lawful in
    let left : h.tick + 3 < last_tick = omega (arith, ap (λ (s : HeapState). s.tick) view, c.if-self.false) in
    let moves = first_moves g.row.SLI c.self.invariant.level h c.want-words.result c.max-step.result c.args.skew lawful left (omega (arith, c.max-step.ensures)) (omega (arith, c.want-words.ensures)) a first (gap_of first.at c.max-step.result c.args.skew) (unfilled g.row.SLI _ 0 c.in-Ok.ensures.frame.keeps.level (omega arith) c.in-Ok.ensures.frame.keeps.was_lawful c.in-Ok.ensures.frame.keeps.lawful c.in-Ok.ensures.allocates refl) c.in-Ok.ensures.allocates.answer_is asked_lawful refl in
    let own = stood a first (gap_of first.at c.max-step.result c.args.skew + c.want-words.result) asked_lawful moves.has in
    let within = inside a asked_lawful own.0 own.1.stands.within in
    record {
      at = omega (arith, within, own.1.stands.place, moves.words, ap (λ (s : HeapState). s.words) view, c.self.invariant.small, most_words_any g.row.SLI);
      some = omega (arith, c.max-step.ensures);
      most = omega (arith, c.most_words.ensures, c.if-step-most_words.false, most_words_any g.row.SLI);
    }

-- ---- the block is moved on

pub move_on-requires : goal.move_on-requires
move_on-requires g c =
    let h = c.args.self.now.heap in
    let a = c.allocate_unset_words.new.self.heap in
    let view = ap (λ (s : Shown). s.heap) c.self.view_is in
    let lawful = subst IsLawful view c.self.invariant.lawful in
    let left : h.tick + 3 < last_tick = omega (arith, ap (λ (s : HeapState). s.tick) view, c.if-self.false) in
    let least : 4 ≤ c.want-words.result = omega (arith, c.want-words.ensures) in
    let moves = first_moves g.row.SLI c.self.invariant.level h c.want-words.result c.max-step.result c.args.skew lawful left (omega (arith, c.max-step.ensures)) least a c.in-Ok.first c.gap-gap.result (unfilled g.row.SLI _ 0 c.in-Ok.ensures.frame.keeps.level (omega arith) c.in-Ok.ensures.frame.keeps.was_lawful c.in-Ok.ensures.frame.keeps.lawful c.in-Ok.ensures.allocates refl) c.in-Ok.ensures.allocates.answer_is c.allocate_unset_words.ensures.frame.keeps.lawful c.gap-gap.ensures in (
      omega arith,
      (
        has_live a c.in-Ok.first (c.gap-gap.result + c.want-words.result) moves.has,
        (
          has_room a c.in-Ok.first (c.gap-gap.result + c.want-words.result) c.allocate_unset_words.ensures.frame.keeps.lawful moves.has,
          (least, (moves.front, (moves.left, omega (arith, moves.words, ap (λ (s : HeapState). s.words) view, c.self.invariant.small, most_words_any g.row.SLI)))),
        ),
      ),
    )

-- ---- it has its payload

pub set_length-requires : goal.set_length-requires
set_length-requires g c =
    let h = c.args.self.now.heap in
    let a = c.allocate_unset_words.new.self.heap in
    let m = c.move_on.new.self.heap in
    let view = ap (λ (s : Shown). s.heap) c.self.view_is in
    let lawful = subst IsLawful view c.self.invariant.lawful in
    let left : h.tick + 3 < last_tick = omega (arith, ap (λ (s : HeapState). s.tick) view, c.if-self.false) in
    let done = first_moved g.row.SLI c.self.invariant.level h c.want-words.result c.max-step.result c.args.skew lawful left (omega (arith, c.max-step.ensures)) (omega (arith, c.want-words.ensures)) a c.in-Ok.first c.gap-gap.result (unfilled g.row.SLI _ 0 c.in-Ok.ensures.frame.keeps.level (omega arith) c.in-Ok.ensures.frame.keeps.was_lawful c.in-Ok.ensures.frame.keeps.lawful c.in-Ok.ensures.allocates refl) c.in-Ok.ensures.allocates.answer_is c.allocate_unset_words.ensures.frame.keeps.lawful c.gap-gap.ensures
    m c.in_ok-name.name c.move_on.ensures.heap c.in_ok-name.ensures.answer in
    let has = done.gives.has in
    let room = has_room m c.in_ok-name.name c.want-words.result c.move_on.ensures.keeps.lawful has in
    (omega arith, rw c.set_most_in_use.ensures.heap (has_live m c.in_ok-name.name c.want-words.result has, omega (arith, room, c.want-words.ensures)))

done : (g : Over) (c : goal.After-set_length g) → IsAligned g.row.SLI c.args.self.now.heap c.move_on.new.self.heap c.want-words.result c.max-step.result c.args.skew c.in_ok-name.name
done g c =
    let h = c.args.self.now.heap in
    let a = c.allocate_unset_words.new.self.heap in
    let view = ap (λ (s : Shown). s.heap) c.self.view_is in
    let lawful = subst IsLawful view c.self.invariant.lawful in
    let left : h.tick + 3 < last_tick = omega (arith, ap (λ (s : HeapState). s.tick) view, c.if-self.false) in
    first_moved g.row.SLI c.self.invariant.level h c.want-words.result c.max-step.result c.args.skew lawful left (omega (arith, c.max-step.ensures)) (omega (arith, c.want-words.ensures)) a c.in-Ok.first c.gap-gap.result (unfilled g.row.SLI _ 0 c.in-Ok.ensures.frame.keeps.level (omega arith) c.in-Ok.ensures.frame.keeps.was_lawful c.in-Ok.ensures.frame.keeps.lawful c.in-Ok.ensures.allocates refl) c.in-Ok.ensures.allocates.answer_is c.allocate_unset_words.ensures.frame.keeps.lawful c.gap-gap.ensures
    c.move_on.new.self.heap c.in_ok-name.name c.move_on.ensures.heap c.in_ok-name.ensures.answer

-- the name is live, with the bytes that lie there
given : (g : Over) (c : goal.After-set_length g)
    → GivesUnset c.args.self.now.heap c.set_length.new.self.heap c.set_length.new.self.stored (words_aligned g.row.SLI c.args.self.now.heap (want c.args.len) (max c.args.step 1) c.args.skew).heap c.args.len c.in_ok-name.name
given g c =
    let h = c.args.self.now.heap in
    let name = c.in_ok-name.name in
    let bytes = lying c.set_length.new.self.stored name.at c.args.len in
    let lawful = c.allocate_unset_words.ensures.frame.keeps.was_lawful in
    let is = c.set_length.ensures.heap ∙ ap (λ (s : HeapState). with_payload s name bytes) c.set_most_in_use.ensures.heap in
    record {
      heap = is ∙ ap (λ (s : HeapState). with_payload s name bytes) (rw (c.want-words.ensures, c.max-step.ensures) at (done g c).is_heap);
      given = gives_name h c.move_on.new.self.heap name c.want-words.result (done g c).gives lawful bytes c.set_length.new.self.heap is;
      payload = gives_payload h c.move_on.new.self.heap name c.want-words.result (done g c).gives lawful bytes c.set_length.new.self.heap is;
      others = gives_others h c.move_on.new.self.heap name c.want-words.result (done g c).gives lawful bytes c.set_length.new.self.heap is;
    }

-- no payload word of another block was touched
left_alone : (g : Over) (c : goal.After-set_length g) → LeavesLive c.args.self.now.heap.blocks c.args.self.now.touched c.set_length.new.self.touched
left_alone g c k live =
    let h = c.args.self.now.heap in
    let first = c.in-Ok.first in
    let e = c.allocate_unset_words.ensures in
    let given = given_word h (suc live.1) k (live.0, live.1, live.2, live.3, λ e. omega (arith, e)) g.row.SLI _ 0 e.frame.keeps.was_lawful first (sym e.allocates.answer_is ∙ c.in-Ok.is) in
    let left = subst (λ (s : HeapState). IsOthersWord s.blocks first.at k) (sym (unfilled g.row.SLI _ 0 c.in-Ok.ensures.frame.keeps.level (omega arith) e.frame.keeps.was_lawful e.frame.keeps.lawful c.in-Ok.ensures.allocates refl)) given in
    let after = subst (λ (s : HeapState). IsLiveWord s.blocks k) (sym (c.set_most_in_use.ensures.heap ∙ c.move_on.ensures.heap)) (moved_word c.allocate_unset_words.new.self.heap first c.gap-gap.result c.want-words.result k left) in
    c.set_length.ensures.leaves k after ∙ ap (λ (l : List ℕ). times l k) c.set_most_in_use.ensures.touched ∙ c.move_on.ensures.leaves k left ∙ e.allocates.leaves k live

pub returns-clause-allocates : goal.returns-clause-allocates
returns-clause-allocates g c =
    record {
      answer_is = rw (c.want-words.ensures, c.max-step.ensures) at (done g c).is_answer;
      gives = given g c;
      aligned = rw c.max-step.ensures at (done g c).place;
      cases = search rules;
      unchanged = search rules;
      touches = search rules;
      rise = search rules;
      leaves = left_alone g c;
    }

pub returns-clause-frame : goal.returns-clause-frame
returns-clause-frame g c = record {
  err = search rules;
  keeps = search rules;
  peak =
      let bytes = lying c.set_length.new.self.stored c.in_ok-name.name.at c.args.len in
      omega (arith, ap (λ (s : Shown). s.most_in_use) c.self.view_is, ap words_in_use c.set_length.ensures.heap, (words_set g.row.SLI c.set_most_in_use.new.self.heap (Fill c.in_ok-name.name bytes) tt).0, c.set_most_in_use.ensures.most, c.set_length.ensures.frame.most);
  groups = more_groups (omega arith) (groups_then (groups_then c.allocate_unset_words.ensures.frame.groups c.move_on.ensures.groups) (rw c.set_most_in_use.ensures.touched at c.set_length.ensures.frame.groups));
}

-- ---- the move is never refused

pub returns-in_err-name-clause-allocates : goal.returns-in_err-name-clause-allocates
returns-in_err-name-clause-allocates g c =
    record {
      answer_is = search rules;
      gives = search rules;
      aligned = search rules;
      cases = search rules;
      unchanged = search rules;
      touches = search rules;
      rise = search rules;
      leaves = search rules;
    }

-- ---- groups of eight words

pub returns-in-Err-clause-frame : goal.returns-in-Err-clause-frame
returns-in-Err-clause-frame g c = record { err = search rules; keeps = search rules; peak = search rules; groups = more_groups (omega arith) c.allocate_unset_words.ensures.frame.groups }

pub returns-in_err-name-clause-frame : goal.returns-in_err-name-clause-frame
returns-in_err-name-clause-frame g c = record { err = search rules; keeps = search rules; peak = search rules; groups = more_groups (omega arith) (groups_then c.allocate_unset_words.ensures.frame.groups c.move_on.ensures.groups) }
