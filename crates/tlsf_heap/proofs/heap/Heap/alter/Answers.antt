use Rattle.tlsf_heap.proofs.Common.{rules, ◌≡◌, ℕ, List, length, sym, ap, ◌∙◌, arith, err_from_is_err_and, bytes_in, payload_byte, HeapState, StandsAt, bytes_of, block_at, payload_at, payload_of, Shown, seen, written, free_places, list_in, state_of, times}
use Rattle.tlsf_heap.proofs.lemmas.calls.Alter.{are_payload, bytes_there, payload_is, stood_in}
use Rattle.tlsf_heap.proofs.lemmas.lists.FreeLists.{same_lists}
use Rattle.tlsf_heap.proofs.lemmas.blocks.Lawful.{with_region}
use Rattle.tlsf_heap.proofs.lemmas.blocks.Used.{used_rebytes}
use Rattle.tlsf_heap.proofs.lemmas.calls.Named.{live_is, not_forged}
use Rattle.tlsf_heap.proofs.lemmas.words.Bytes.{length-bytes_in}
use Rattle.tlsf_heap.proofs.lemmas.calls.Write.{Writes, writes, read_none, read_refused, range_is}
use Rattle.tlsf_heap.proofs.lemmas.blocks.Stands.{behind_one}
use Rattle.tlsf_heap.proofs.lemmas.calls.Kept.{keeps_both, keeps_stored}
use Rattle.tlsf_heap.proofs.heap.Heap.alter.Given.{Over}
use Rattle.tlsf_heap.proofs.heap.Heap.alter.Goals as goal

-- ---- the name is refused

pub returns-in_err-len-clause-answer : goal.returns-in_err-len-clause-answer
returns-in_err-len-clause-answer g c =
    let p = err_from_is_err_and c.from_residual.result c.from_residual.ensures.1 in
    rw (p.1, p.2) (read_refused c.args.self.now.heap c.args.name 0 0 _ c.in_err-len.ensures.answer)

-- ---- the closure is called

pub alter-requires : goal.alter-requires
alter-requires g c =
    let h = state_of g.row.SLI c.self.inside in
    let k = c.args.self.now.heap in
    let same : h ≡ k = ap (λ (s : Shown). s.heap) c.self.view_is ∙ c.in_ok-len.ensures.frame.same.heap in
    let is_named = c.in_ok-len.ensures.answer.0 in
    let long = c.in_ok-len.ensures.answer.1 in (
      omega arith,
      (
        stood_in h k c.args.name c.in_ok-len.len same is_named long,
        c.requires (live_is k c.args.name is_named) _ (are_payload h k c.args.name c.in_ok-len.len same c.self.invariant.shows is_named long),
      ),
    )

-- the block stands in the region, and has this many bytes
stood : (g : Over) (c : goal.After-alter g) → (i : ℕ) × StandsAt c.self.inside.region.blocks c.args.name.at i × (c.in_ok-len.len ≡ length (bytes_of (block_at c.self.inside.region.blocks i)))
stood g c =
    stood_in (state_of g.row.SLI c.self.inside) c.args.self.now.heap c.args.name c.in_ok-len.len (ap (λ (s : Shown). s.heap) c.self.view_is ∙ c.in_ok-len.ensures.frame.same.heap) c.in_ok-len.ensures.answer.0 c.in_ok-len.ensures.answer.1

-- the bytes that lie there now
abbrev left_there : (g : Over) → goal.After-alter g → List ℕ
left_there g c = bytes_in c.alter.new.self.stored.words (payload_byte c.args.name.at 0) c.in_ok-len.len

wrote : (g : Over) (c : goal.After-alter g) → Writes g.row.SLI c.args.self.now.heap c.args.name 0 (left_there g c) (with_region (state_of g.row.SLI c.self.inside) c.self.inside.tick c.alter.new.self)
wrote g c =
    let same : state_of g.row.SLI c.self.inside ≡ c.args.self.now.heap = ap (λ (s : Shown). s.heap) c.self.view_is ∙ c.in_ok-len.ensures.frame.same.heap in
    let is_named = c.in_ok-len.ensures.answer.0 in
    let many = length-bytes_in c.alter.new.self.stored.words (payload_byte c.args.name.at 0) c.in_ok-len.len in
    let ranged = range_is c.args.self.now.heap c.args.name 0 (length (left_there g c)) is_named (omega (arith, many, c.in_ok-len.ensures.answer.1)) in
    let here = stood g c in
    writes g.row.SLI (state_of g.row.SLI c.self.inside) c.args.self.now.heap c.args.name 0 (left_there g c) same
    ranged.is_answer ranged.range c.alter.new.self c.self.invariant.lawful (c.alter.ensures.change here.0 here.1).edits.words
    (λ i stands. (c.alter.ensures.change i stands).blocks ∙ sym (behind_one i _ c.self.inside.region.blocks))

pub invariant_of-self : goal.invariant_of-self
invariant_of-self g c =
    let same : state_of g.row.SLI c.self.inside ≡ c.args.self.now.heap = ap (λ (s : Shown). s.heap) c.self.view_is ∙ c.in_ok-len.ensures.frame.same.heap in
    let places : free_places g.row.SLI 0 c.alter.new.self.blocks ≡ free_places g.row.SLI 0 c.self.inside.region.blocks = (wrote g c).places ∙ sym (ap (λ (h : HeapState). free_places g.row.SLI 0 h.blocks) same) in
    let change = c.alter.ensures.change (stood g c).0 (stood g c).1 in
    record {
      lawful = (wrote g c).lawful;
      shows = change.edits.shows;
      linked = change.edits.linked;
      bits = change.edits.bits;
      level = c.self.invariant.level;
      small = omega (arith, change.edits.words, c.self.invariant.small);
      listed = rw places (same_lists (free_places g.row.SLI 0 c.self.inside.region.blocks) (list_in c.self.inside.region.lists) (list_in c.alter.new.self.lists) change.lists c.self.invariant.listed);
      in_use = omega (arith, used_rebytes c.self.inside.region.blocks c.alter.new.self.blocks (stood g c).1 _ change.blocks, c.self.invariant.in_use);
      most_in_use = c.self.invariant.most_in_use;
    }

pub returns-clause-answer : goal.returns-clause-answer
returns-clause-answer g c = read_none c.args.self.now.heap c.args.name c.in_ok-len.ensures.answer.0

pub returns-clause-alters : goal.returns-clause-alters
returns-clause-alters g c = record {
  altered =
      let h = state_of g.row.SLI c.self.inside in
      let k = c.args.self.now.heap in
      let same : h ≡ k = ap (λ (s : Shown). s.heap) c.self.view_is ∙ c.in_ok-len.ensures.frame.same.heap in
      let is_named = c.in_ok-len.ensures.answer.0 in
      let long = c.in_ok-len.ensures.answer.1 in
      let many : length (payload_of k c.args.name) ≡ c.in_ok-len.len = ap length (payload_is k c.args.name is_named) ∙ sym long in
      record {
        shown = payload_at c.self.inside.region.stored c.args.name.at c.in_ok-len.len;
        payload = are_payload h k c.args.name c.in_ok-len.len same c.self.invariant.shows is_named long;
        changed = payload_at c.alter.new.self.stored c.args.name.at c.in_ok-len.len;
        called = c.alter.ensures.called;
        writes = (wrote g c).is_heap ∙ ap (λ (bytes : List ℕ). (written k c.args.name 0 bytes).heap) (sym (bytes_there c.alter.new.self.stored c.args.name.at c.in_ok-len.len _ many));
      };
  unchanged = tt;
  touches = omega (arith, (c.alter.ensures.change (stood g c).0 (stood g c).1).edits.touches, c.in_ok-len.ensures.frame.touches, ap (λ (s : Shown). s.touches) c.self.view_is);
  rise = omega (arith, (c.alter.ensures.change (stood g c).0 (stood g c).1).edits.rise, c.in_ok-len.ensures.frame.keeps.touches_rise, ap (λ (s : Shown). s.touches) c.self.view_is);
  leaves = λ k live. ap (λ (l : List ℕ). times l k) c.alter.ensures.touched ∙ ap (λ (s : Shown). times s.touched k) c.self.view_is ∙ c.in_ok-len.ensures.frame.leaves k live;
  forged = not_forged (seen c.args.self.now) c.args.name c.in_ok-len.ensures.frame.keeps.was_lawful c.in_ok-len.ensures.answer.0 _;
}

-- ---- what is kept

pub returns-clause-frame : goal.returns-clause-frame
returns-clause-frame g c = record {
  err = search rules;
  keeps =
      let edits = (c.alter.ensures.change (stood g c).0 (stood g c).1).edits in
      keeps_both c.in_ok-len.ensures.frame.keeps (keeps_stored g.row.SLI c.self.inside c.self.view_is c.self.invariant _ (invariant_of-self g c) edits.rise edits.stays);
  most = search rules;
}
