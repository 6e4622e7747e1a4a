use Rattle.tlsf_heap.proofs.Common.{rules, ◌≡◌, ◌-◌, ◌≤◌, ℕ, false, length, replicate, ap, ◌∙◌, subst, arith, length-replicate, HeapState, size_of, is_free, bytes_of, want, free_places, block_at, IsLawful, IsNamed, list_in, Shown, state_of, with_payload, LeavesPayloads, InGroups, groups_of}
use Rattle.tlsf_heap.proofs.lemmas.blocks.Lawful.{with_region}
use Rattle.tlsf_heap.proofs.lemmas.blocks.Used.{used_rebytes}
use Rattle.tlsf_heap.proofs.lemmas.words.NewLength.{Relengths, relengths, payload_room}
use Rattle.tlsf_heap.proofs.lemmas.lists.FreeLists.{same_lists}
use Rattle.tlsf_heap.proofs.lemmas.calls.Named.{named_stands}
use Rattle.tlsf_heap.proofs.lemmas.calls.Kept.{keeps_stored}
use Rattle.tlsf_words.proofs.Touching.{more_groups}
use Rattle.tlsf_heap.proofs.heap.Heap.zero_payload.Given.{Over}
use Rattle.tlsf_heap.proofs.heap.Heap.zero_payload.Goals as goal

pub zero-requires : goal.zero-requires
zero-requires g c =
    let same = ap (λ (s : Shown). s.heap) c.self.view_is in
    let t = payload_room (state_of g.row.SLI c.self.inside) c.args.self.now.heap c.args.name c.args.len same (subst IsLawful same c.self.invariant.lawful) c.requires.live c.requires.length in
    (omega arith, (t.0.1.0, named_stands _ _ _ _ t.0.1.1, record { live = t.1; payload = omega (arith, t.2, c.want.ensures); within = omega (arith, t.3, c.want.ensures) }))

-- the block, whose payload has this many bytes
there : (g : Over) (c : goal.After-zero g) → (is_named : IsNamed (state_of g.row.SLI c.self.inside) c.args.name)
    × (is_free (block_at c.self.inside.region.blocks is_named.1.0) ≡ false) × (length (bytes_of (block_at c.self.inside.region.blocks is_named.1.0)) ≡ c.args.len)
    × (want c.args.len ≤ size_of (block_at c.self.inside.region.blocks is_named.1.0))
there g c =
    let same = ap (λ (s : Shown). s.heap) c.self.view_is in
    payload_room (state_of g.row.SLI c.self.inside) c.args.self.now.heap c.args.name c.args.len same (subst IsLawful same c.self.invariant.lawful) c.requires.live c.requires.length

set : (g : Over) (c : goal.After-zero g) → Relengths g.row.SLI (state_of g.row.SLI c.self.inside) c.args.name (replicate c.args.len 0) (with_region (state_of g.row.SLI c.self.inside) c.self.inside.tick c.zero.new.self)
set g c =
    let h : HeapState = state_of g.row.SLI c.self.inside in
    let t = there g c in
    let change = c.zero.ensures.change t.0.1.0 (named_stands _ _ _ _ t.0.1.1) in
    relengths g.row.SLI h c.args.name (replicate c.args.len 0) c.zero.new.self t.0 c.self.invariant.lawful t.1 (omega (arith, length-replicate {A = ℕ} c.args.len 0, t.3)) change.edits.words (rw t.2 at change.blocks)

pub invariant_of-self : goal.invariant_of-self
invariant_of-self g c =
    let t = there g c in
    let change = c.zero.ensures.change t.0.1.0 (named_stands _ _ _ _ t.0.1.1) in
    let places = (set g c).places in
    record {
      lawful = (set g c).lawful;
      shows = change.edits.shows;
      linked = change.edits.linked;
      bits = change.edits.bits;
      level = c.self.invariant.level;
      small = omega (arith, change.edits.words, c.self.invariant.small);
      listed = rw places (same_lists (free_places g.row.SLI 0 c.self.inside.region.blocks) (list_in c.self.inside.region.lists) (list_in c.zero.new.self.lists) change.lists c.self.invariant.listed);
      in_use = omega (arith, used_rebytes c.self.inside.region.blocks c.zero.new.self.blocks (named_stands _ _ _ _ t.0.1.1) _ change.blocks, c.self.invariant.in_use);
      most_in_use = c.self.invariant.most_in_use;
    }

pub returns-clause-heap : goal.returns-clause-heap
returns-clause-heap g c = (set g c).is_heap ∙ ap (λ (s : Shown). with_payload s.heap c.args.name (replicate c.args.len 0)) c.self.view_is

pub returns-clause-frame : goal.returns-clause-frame
returns-clause-frame g c =
    let t = there g c in
    let edits = (c.zero.ensures.change t.0.1.0 (named_stands _ _ _ _ t.0.1.1)).edits in
    record {
      keeps = keeps_stored g.row.SLI c.self.inside c.self.view_is c.self.invariant _ (invariant_of-self g c) edits.rise edits.stays;
      most = search rules;
      touches = omega (arith, edits.touches, c.want.ensures, ap (λ (s : Shown). s.touches) c.self.view_is);
      groups = subst (λ (s : Shown). InGroups (groups_of (want c.args.len - 3)) s.touched c.zero.new.self.touched) c.self.view_is (more_groups (omega (arith, c.want.ensures)) c.zero.ensures.groups);
    }

-- ---- the payloads of other blocks

pub returns-clause-leaves : goal.returns-clause-leaves
returns-clause-leaves g c = subst (λ (s : Shown). LeavesPayloads s.heap.blocks c.args.name.at s.touched c.zero.new.self.touched) c.self.view_is c.zero.ensures.touched
