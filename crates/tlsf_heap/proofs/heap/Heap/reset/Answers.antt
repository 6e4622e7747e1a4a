use Rattle.tlsf_heap.proofs.Common.{rules, refl, sym, ap, ◌∙◌, subst, arith, Outcome, opened, Shown, InGroups}
use Rattle.tlsf_heap.proofs.lemmas.calls.Alone.{stored_alone}
use Rattle.tlsf_heap.proofs.lemmas.calls.Kept.{keeps_stored}
use Rattle.tlsf_heap.proofs.lemmas.calls.Leaves.{seen_live}
use Rattle.tlsf_heap.proofs.lemmas.calls.Reset.{reset_worn, reset_done}
use Rattle.tlsf_heap.proofs.lemmas.words.Groups.{first_words}
use Rattle.tlsf_heap.proofs.lemmas.calls.Frames.{found_none, settles_found}
use Rattle.tlsf_heap.proofs.heap.Heap.reset.Goals as goal

-- ---- the tick is at its last value

pub returns-then-self-clause-resets : goal.returns-then-self-clause-resets
returns-then-self-clause-resets g c =
    let late = reset_worn c.args.self.now.heap (sym (ap (λ (s : Shown). s.heap.tick) c.self.view_is) ∙ c.if-self.true) in
    record {
      answer_is = sym (ap (λ (o : Outcome (Unit {0})). o.answer) late);
      heap = sym (ap (λ (o : Outcome (Unit {0})). o.heap) late);
      touches = omega arith;
      rise = omega arith;
      leaves = λ k live. refl;
    }

pub returns-then-self-clause-frame : goal.returns-then-self-clause-frame
returns-then-self-clause-frame g c = settles_found (omega arith) refl (found_none g.row.SLI c.self.inside c.self.view_is c.self.invariant)

-- ---- all blocks are back

pub reset-requires : goal.reset-requires
reset-requires g c = (omega arith, (c.self.invariant.level, c.self.invariant.small))

pub invariant_of-self : goal.invariant_of-self
invariant_of-self g c = stored_alone g.row.SLI c.self.inside.region.words c.self.inside.tick _ c.self.invariant.level c.self.invariant.small c.reset.ensures.alone refl refl

pub returns-clause-resets : goal.returns-clause-resets
returns-clause-resets g c =
    let e = c.reset.ensures in
    let h = c.args.self.now.heap in
    let tick = ap (λ (s : Shown). s.heap.tick) c.self.view_is in
    let done = reset_done h (λ late. c.if-self.false (tick ∙ late)) in
    let left = ap (λ (s : Shown). opened s.heap.id s.heap.words s.heap.tick) c.self.view_is ∙ sym (ap (λ (o : Outcome (Unit {0})). o.heap) done) in
    let touches = ap (λ (s : Shown). s.touches) c.self.view_is in
    record {
      answer_is = sym (ap (λ (o : Outcome (Unit {0})). o.answer) done);
      heap = rw (e.alone.words, e.alone.blocks) left;
      touches = omega (arith, e.edits.touches, touches, ap (λ (s : Shown). s.heap.words) c.self.view_is);
      rise = omega (arith, e.edits.rise, touches);
      leaves = seen_live g.row.SLI c.self.inside c.self.view_is _ (λ k live. e.touched k (omega (arith, live.2.behind)));
    }

pub returns-clause-frame : goal.returns-clause-frame
returns-clause-frame g c = record {
  err = search rules;
  keeps = keeps_stored g.row.SLI c.self.inside c.self.view_is c.self.invariant _ (invariant_of-self g c) c.reset.ensures.edits.rise c.reset.ensures.edits.stays;
  peak = search rules;
  groups = subst (λ (s : Shown). InGroups 1 s.touched c.reset.new.self.touched) c.self.view_is (first_words c.reset.ensures.touched);
}
