use Rattle.tlsf_heap.proofs.Common.{◌≡◌, ℕ, length, sym, ap, ◌∙◌, arith, subst, rules, err_from_is_err_and, HeapState, StandsAt, Shown, seen, Outcome, free_places, list_in, state_of, times, IsOthersWord}
use Rattle.tlsf_heap.proofs.lemmas.lists.FreeLists.{same_lists}
use Rattle.tlsf_heap.proofs.lemmas.blocks.Lawful.{with_region}
use Rattle.tlsf_heap.proofs.lemmas.blocks.Used.{used_rebytes}
use Rattle.tlsf_heap.proofs.lemmas.calls.Named.{not_forged}
use Rattle.tlsf_heap.proofs.lemmas.calls.Write.{range_named, range_stands, unwritten, Writes, writes}
use Rattle.tlsf_heap.proofs.lemmas.blocks.Stands.{behind_one}
use Rattle.tlsf_heap.proofs.lemmas.calls.Kept.{keeps_both, keeps_stored}
use Rattle.tlsf_heap.proofs.lemmas.words.Footprint.{any_word}
use Rattle.tlsf_heap.proofs.heap.Heap.write.Given.{Over}
use Rattle.tlsf_heap.proofs.heap.Heap.write.Goals as goal

pub returns-in_err-check_range-clause-writes : goal.returns-in_err-check_range-clause-writes
returns-in_err-check_range-clause-writes g c =
    let e = c.in_err-check_range.ensures in
    let p = err_from_is_err_and c.from_residual.result c.from_residual.ensures.1 in
    let none = unwritten c.args.self.now.heap c.args.name c.args.at c.args.bytes.now _ e.answer in
    record {
      answer_is = rw (p.1, p.2) (sym (ap (λ (o : Outcome (Unit {0})). o.answer) none));
      heap = e.frame.same.heap ∙ sym (ap (λ (o : Outcome (Unit {0})). o.heap) none);
      touches = search rules;
      rise = search rules;
      leaves = λ k o. e.frame.leaves k (any_word c.args.self.now.heap.blocks c.args.name.at k o);
      refused = search rules;
      forged = search rules;
    }

pub write-requires : goal.write-requires
write-requires g c = (
  omega arith,
  range_stands (state_of g.row.SLI c.self.inside) c.args.self.now.heap c.args.name c.args.at (length c.args.bytes.now) (ap (λ (s : Shown). s.heap) c.self.view_is ∙ c.in_ok-check_range.ensures.frame.same.heap)
      c.in_ok-check_range.ensures.answer c.in_ok-check_range.ensures.place,
)

-- the block stands there
stood : (g : Over) (c : goal.After-write g) → (i : ℕ) × StandsAt c.self.inside.region.blocks c.args.name.at i
stood g c =
    let stands = range_stands (state_of g.row.SLI c.self.inside) c.args.self.now.heap c.args.name c.args.at (length c.args.bytes.now) (ap (λ (s : Shown). s.heap) c.self.view_is ∙ c.in_ok-check_range.ensures.frame.same.heap)
    c.in_ok-check_range.ensures.answer c.in_ok-check_range.ensures.place in
    (stands.0, stands.1)

wrote : (g : Over) (c : goal.After-write g) → Writes g.row.SLI c.args.self.now.heap c.args.name c.args.at c.args.bytes.now (with_region (state_of g.row.SLI c.self.inside) c.self.inside.tick c.write.new.self)
wrote g c =
    writes g.row.SLI (state_of g.row.SLI c.self.inside) c.args.self.now.heap c.args.name c.args.at c.args.bytes.now (ap (λ (s : Shown). s.heap) c.self.view_is ∙ c.in_ok-check_range.ensures.frame.same.heap)
    c.in_ok-check_range.ensures.answer c.in_ok-check_range.ensures.place c.write.new.self c.self.invariant.lawful (c.write.ensures.change (stood g c).0 (stood g c).1).edits.words (λ i stands. (c.write.ensures.change i stands).blocks ∙ sym (behind_one i _ c.self.inside.region.blocks))

pub invariant_of-self : goal.invariant_of-self
invariant_of-self g c =
    let same : state_of g.row.SLI c.self.inside ≡ c.args.self.now.heap = ap (λ (s : Shown). s.heap) c.self.view_is ∙ c.in_ok-check_range.ensures.frame.same.heap in
    let places : free_places g.row.SLI 0 c.write.new.self.blocks ≡ free_places g.row.SLI 0 c.self.inside.region.blocks = (wrote g c).places ∙ sym (ap (λ (h : HeapState). free_places g.row.SLI 0 h.blocks) same) in
    let change = c.write.ensures.change (stood g c).0 (stood g c).1 in
    record {
      lawful = (wrote g c).lawful;
      shows = change.edits.shows;
      linked = change.edits.linked;
      bits = change.edits.bits;
      level = c.self.invariant.level;
      small = omega (arith, change.edits.words, c.self.invariant.small);
      listed = rw places (same_lists (free_places g.row.SLI 0 c.self.inside.region.blocks) (list_in c.self.inside.region.lists) (list_in c.write.new.self.lists) change.lists c.self.invariant.listed);
      in_use = omega (arith, used_rebytes c.self.inside.region.blocks c.write.new.self.blocks (stood g c).1 _ change.blocks, c.self.invariant.in_use);
      most_in_use = c.self.invariant.most_in_use;
    }

pub returns-clause-writes : goal.returns-clause-writes
returns-clause-writes g c =
    let e = c.in_ok-check_range.ensures in
    let same : state_of g.row.SLI c.self.inside ≡ c.args.self.now.heap = ap (λ (s : Shown). s.heap) c.self.view_is ∙ e.frame.same.heap in
    record {
      answer_is = (wrote g c).is_answer;
      heap = (wrote g c).is_heap;
      touches = omega (arith, (c.write.ensures.change (stood g c).0 (stood g c).1).edits.touches, e.frame.touches, ap (λ (s : Shown). s.touches) c.self.view_is);
      rise = omega (arith, (c.write.ensures.change (stood g c).0 (stood g c).1).edits.rise, e.frame.keeps.touches_rise, ap (λ (s : Shown). s.touches) c.self.view_is);
      leaves = λ k o. c.write.ensures.touched k (subst (λ (h : HeapState). IsOthersWord h.blocks c.args.name.at k) (sym same) o)
          ∙ ap (λ (s : Shown). times s.touched k) c.self.view_is ∙ e.frame.leaves k (any_word c.args.self.now.heap.blocks c.args.name.at k o);
      refused = search rules;
      forged = not_forged (seen c.args.self.now) c.args.name e.frame.keeps.was_lawful (range_named c.args.self.now.heap c.args.name c.args.at (length c.args.bytes.now) e.answer e.place) _;
    }

-- ---- what is kept

pub returns-clause-frame : goal.returns-clause-frame
returns-clause-frame g c = record {
  err = search rules;
  keeps =
      let edits = (c.write.ensures.change (stood g c).0 (stood g c).1).edits in
      keeps_both c.in_ok-check_range.ensures.frame.keeps (keeps_stored g.row.SLI c.self.inside c.self.view_is c.self.invariant _ (invariant_of-self g c) edits.rise edits.stays);
  most = search rules;
}
