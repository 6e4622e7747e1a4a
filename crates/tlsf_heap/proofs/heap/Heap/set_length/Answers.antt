use Rattle.tlsf_heap.proofs.Common.{rules, ◌≡◌, ◌≤◌, false, length, ap, ◌∙◌, subst, arith, payload_byte, HeapState, size_of, is_free, words_for, free_places, block_at, IsLawful, IsNamed, list_in, Shown, state_of, lying, with_payload, InGroups}
use Rattle.tlsf_heap.proofs.lemmas.blocks.Lawful.{with_region}
use Rattle.tlsf_heap.proofs.lemmas.blocks.Used.{used_rebytes}
use Rattle.tlsf_heap.proofs.lemmas.words.NewLength.{Relengths, relengths, same_lying, length_room}
use Rattle.tlsf_heap.proofs.lemmas.lists.FreeLists.{same_lists}
use Rattle.tlsf_heap.proofs.lemmas.calls.Named.{named_stands}
use Rattle.tlsf_heap.proofs.lemmas.words.Bytes.{length-bytes_in}
use Rattle.tlsf_heap.proofs.lemmas.calls.Kept.{keeps_stored}
use Rattle.tlsf_heap.proofs.lemmas.calls.Leaves.{seen_live}
use Rattle.tlsf_heap.proofs.heap.Heap.set_length.Given.{Over}
use Rattle.tlsf_heap.proofs.heap.Heap.set_length.Goals as goal

pub set_length-requires : goal.set_length-requires
set_length-requires g c =
    let h = state_of g.row.SLI c.self.inside in
    let same : h ≡ c.args.self.now.heap = ap (λ (s : Shown). s.heap) c.self.view_is in
    let there = length_room h c.args.self.now.heap c.args.name c.args.len same (subst IsLawful same c.self.invariant.lawful) c.requires.live c.requires.room in
    (omega arith, (there.0.1.0, named_stands _ _ _ _ there.0.1.1, (there.1, there.2)))

-- the block, with the room that it has
there : (g : Over) (c : goal.After-set_length g) → (is_named : IsNamed (state_of g.row.SLI c.self.inside) c.args.name)
    × (is_free (block_at c.self.inside.region.blocks is_named.1.0) ≡ false) × (words_for c.args.len ≤ size_of (block_at c.self.inside.region.blocks is_named.1.0))
there g c =
    let h = state_of g.row.SLI c.self.inside in
    let same : h ≡ c.args.self.now.heap = ap (λ (s : Shown). s.heap) c.self.view_is in
    length_room h c.args.self.now.heap c.args.name c.args.len same (subst IsLawful same c.self.invariant.lawful) c.requires.live c.requires.room

set : (g : Over) (c : goal.After-set_length g) → Relengths g.row.SLI (state_of g.row.SLI c.self.inside) c.args.name (lying c.set_length.new.self.stored c.args.name.at c.args.len) (with_region (state_of g.row.SLI c.self.inside) c.self.inside.tick c.set_length.new.self)
set g c =
    let h : HeapState = state_of g.row.SLI c.self.inside in
    let t = there g c in
    let bytes = lying c.set_length.new.self.stored c.args.name.at c.args.len in
    let many = length-bytes_in c.set_length.new.self.stored.words (payload_byte c.args.name.at 0) c.args.len in
    let room : words_for (length bytes) ≤ size_of (block_at h.blocks t.0.1.0) = omega (arith, many, t.2) in
    let change = c.set_length.ensures.change t.0.1.0 (named_stands _ _ _ _ t.0.1.1) in
    relengths g.row.SLI h c.args.name bytes c.set_length.new.self t.0 c.self.invariant.lawful t.1 room change.edits.words change.blocks

pub invariant_of-self : goal.invariant_of-self
invariant_of-self g c =
    let t = there g c in
    let change = c.set_length.ensures.change t.0.1.0 (named_stands _ _ _ _ t.0.1.1) in
    let places = (set g c).places in
    record {
      lawful = (set g c).lawful;
      shows = change.edits.shows;
      linked = change.edits.linked;
      bits = change.edits.bits;
      level = c.self.invariant.level;
      small = omega (arith, change.edits.words, c.self.invariant.small);
      listed = rw places (same_lists (free_places g.row.SLI 0 c.self.inside.region.blocks) (list_in c.self.inside.region.lists) (list_in c.set_length.new.self.lists) change.lists c.self.invariant.listed);
      in_use = omega (arith, used_rebytes c.self.inside.region.blocks c.set_length.new.self.blocks (named_stands _ _ _ _ t.0.1.1) _ change.blocks, c.self.invariant.in_use);
      most_in_use = c.self.invariant.most_in_use;
    }

pub returns-clause-heap : goal.returns-clause-heap
returns-clause-heap g c = (set g c).is_heap ∙ ap (λ (s : Shown). with_payload s.heap c.args.name (lying c.set_length.new.self.stored c.args.name.at c.args.len)) c.self.view_is

pub returns-clause-lies : goal.returns-clause-lies
returns-clause-lies g c = same_lying c.self.inside.region.stored c.set_length.new.self.stored c.args.name.at c.args.len c.set_length.ensures.only ∙ ap (λ (s : Shown). lying s.stored c.args.name.at c.args.len) c.self.view_is

pub returns-clause-frame : goal.returns-clause-frame
returns-clause-frame g c = record {
  keeps =
      let t = there g c in
      let edits = (c.set_length.ensures.change t.0.1.0 (named_stands _ _ _ _ t.0.1.1)).edits in
      keeps_stored g.row.SLI c.self.inside c.self.view_is c.self.invariant _ (invariant_of-self g c) edits.rise edits.stays;
  most = search rules;
  touches = let t = there g c in omega (arith, (c.set_length.ensures.change t.0.1.0 (named_stands _ _ _ _ t.0.1.1)).edits.touches, ap (λ (s : Shown). s.touches) c.self.view_is);
  groups = subst (λ (s : Shown). InGroups 1 s.touched c.set_length.new.self.touched) c.self.view_is c.set_length.ensures.groups;
}

-- ---- the payloads of other blocks

pub returns-clause-leaves : goal.returns-clause-leaves
returns-clause-leaves g c = seen_live g.row.SLI c.self.inside c.self.view_is _ c.set_length.ensures.touched
