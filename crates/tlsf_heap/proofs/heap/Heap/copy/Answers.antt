use Rattle.tlsf_heap.proofs.Common.{rules, ◌≡◌, ℕ, ◌+◌, ◌*◌, ◌/◌, ◌≤◌, List, length, sym, ap, ◌∙◌, subst, arith, bytes_in, payload_byte, HeapState, StandsAt, bytes_of, block_at, Shown, written, free_places, list_in, state_of, InGroups}
use Rattle.tlsf_heap.proofs.lemmas.calls.Alter.{first_bytes, named_of, payload_is, room_in}
use Rattle.tlsf_heap.proofs.lemmas.lists.FreeLists.{same_lists}
use Rattle.tlsf_heap.proofs.lemmas.blocks.Lawful.{with_region}
use Rattle.tlsf_heap.proofs.lemmas.blocks.Used.{used_rebytes}
use Rattle.tlsf_heap.proofs.lemmas.words.Bytes.{length-bytes_in}
use Rattle.tlsf_heap.proofs.lemmas.calls.Write.{Writes, writes, range_is}
use Rattle.tlsf_heap.proofs.lemmas.blocks.Stands.{behind_one}
use Rattle.tlsf_heap.proofs.lemmas.calls.Kept.{keeps_stored}
use Rattle.tlsf_heap.proofs.lemmas.calls.Leaves.{seen_both}
use Rattle.tlsf_heap.proofs.heap.Heap.copy.Given.{Over}
use Rattle.tlsf_heap.proofs.heap.Heap.copy.Goals as goal

pub copy-requires : goal.copy-requires
copy-requires g c =
    let h = state_of g.row.SLI c.self.inside in
    let same : h ≡ c.args.self.now.heap = ap (λ (s : Shown). s.heap) c.self.view_is in
    (omega arith, (room_in h _ c.args.from c.args.len same c.requires.from c.requires.least, room_in h _ c.args.to c.args.len same c.requires.to c.requires.room))

-- the block that is written stands there
stood : (g : Over) (c : goal.After-copy g) → (i : ℕ) × StandsAt c.self.inside.region.blocks c.args.to.at i × (c.args.len ≤ length (bytes_of (block_at c.self.inside.region.blocks i)))
stood g c = room_in (state_of g.row.SLI c.self.inside) c.args.self.now.heap c.args.to c.args.len (ap (λ (s : Shown). s.heap) c.self.view_is) c.requires.to c.requires.room

-- the bytes that are copied
abbrev source : (g : Over) → goal.After-copy g → List ℕ
source g c = bytes_in c.self.inside.region.stored.words (payload_byte c.args.from.at 0) c.args.len

wrote : (g : Over) (c : goal.After-copy g) → Writes g.row.SLI c.args.self.now.heap c.args.to 0 (source g c) (with_region (state_of g.row.SLI c.self.inside) c.self.inside.tick c.copy.new.self)
wrote g c =
    let k = c.args.self.now.heap in
    let is_named = named_of k c.args.to c.requires.to in
    let many = length-bytes_in c.self.inside.region.stored.words (payload_byte c.args.from.at 0) c.args.len in
    let ranged = range_is k c.args.to 0 (length (source g c)) is_named (omega (arith, many, c.requires.room, ap length (payload_is k c.args.to is_named))) in
    writes g.row.SLI (state_of g.row.SLI c.self.inside) k c.args.to 0 (source g c) (ap (λ (s : Shown). s.heap) c.self.view_is)
    ranged.is_answer ranged.range c.copy.new.self c.self.invariant.lawful (c.copy.ensures.change (stood g c).0 (stood g c).1).edits.words
    (λ i stands. (c.copy.ensures.change i stands).blocks ∙ sym (behind_one i _ c.self.inside.region.blocks))

pub invariant_of-self : goal.invariant_of-self
invariant_of-self g c =
    let same : state_of g.row.SLI c.self.inside ≡ c.args.self.now.heap = ap (λ (s : Shown). s.heap) c.self.view_is in
    let places : free_places g.row.SLI 0 c.copy.new.self.blocks ≡ free_places g.row.SLI 0 c.self.inside.region.blocks = (wrote g c).places ∙ sym (ap (λ (h : HeapState). free_places g.row.SLI 0 h.blocks) same) in
    let change = c.copy.ensures.change (stood g c).0 (stood g c).1 in
    record {
      lawful = (wrote g c).lawful;
      shows = change.edits.shows;
      linked = change.edits.linked;
      bits = change.edits.bits;
      level = c.self.invariant.level;
      small = omega (arith, change.edits.words, c.self.invariant.small);
      listed = rw places (same_lists (free_places g.row.SLI 0 c.self.inside.region.blocks) (list_in c.self.inside.region.lists) (list_in c.copy.new.self.lists) change.lists c.self.invariant.listed);
      in_use = omega (arith, used_rebytes c.self.inside.region.blocks c.copy.new.self.blocks (stood g c).1 _ change.blocks, c.self.invariant.in_use);
      most_in_use = c.self.invariant.most_in_use;
    }

pub returns-clause-heap : goal.returns-clause-heap
returns-clause-heap g c =
    let h = state_of g.row.SLI c.self.inside in
    let k = c.args.self.now.heap in
    (wrote g c).is_heap
    ∙ ap (λ (bytes : List ℕ). (written k c.args.to 0 bytes).heap) (first_bytes h k c.args.from c.args.len (ap (λ (s : Shown). s.heap) c.self.view_is) c.self.invariant.shows c.requires.from c.requires.least)

pub returns-clause-frame : goal.returns-clause-frame
returns-clause-frame g c = record {
  keeps =
      let edits = (c.copy.ensures.change (stood g c).0 (stood g c).1).edits in
      keeps_stored g.row.SLI c.self.inside c.self.view_is c.self.invariant _ (invariant_of-self g c) edits.rise edits.stays;
  most = search rules;
  touches = omega (arith, (c.copy.ensures.change (stood g c).0 (stood g c).1).edits.touches, ap (λ (s : Shown). s.touches) c.self.view_is);
  groups = subst (λ (s : Shown). InGroups (4 + 2 * (c.args.len / 64)) s.touched c.copy.new.self.touched) c.self.view_is c.copy.ensures.groups;
}

-- ---- the payloads of other blocks

pub returns-clause-leaves : goal.returns-clause-leaves
returns-clause-leaves g c = seen_both g.row.SLI c.self.inside c.self.view_is _ c.args.from.at c.args.to.at c.copy.ensures.touched
