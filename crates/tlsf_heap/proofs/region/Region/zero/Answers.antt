use Rattle.tlsf_heap.proofs.Common.{◌+◌, [], ◌∷◌, ◌++◌, take, drop, ap, ◌∙◌, subst, arith, inl, inr, block_at, RegionState, image_of, times, InGroups, groups_of}
use Rattle.tlsf_heap.proofs.lemmas.words.ClearPayload.{ClearsBehind, clears_length, zeroed_block, cleared_payload, relisted_payload}
use Rattle.tlsf_heap.proofs.lemmas.words.Edit.{Leaves}
use Rattle.tlsf_heap.proofs.lemmas.words.Links.{linked_lists, marked_lists, Relists, holds_state}
use Rattle.tlsf_heap.proofs.lemmas.words.Says.{shows_state, says_here}
use Rattle.tlsf_heap.proofs.lemmas.blocks.Stands.{behind_one}
use Rattle.tlsf_heap.proofs.lemmas.words.Footprint.{others_apart}
use Rattle.tlsf_heap.proofs.lemmas.words.Groups.{one_row}
use Rattle.tlsf_heap.proofs.region.Region.zero.Given.{Over}
use Rattle.tlsf_heap.proofs.region.Region.zero.Goals as goal

pub overflow_add-at : goal.overflow_add-at
overflow_add-at g c =
    let shows = shows_state g.row.SLI c.self.invariant c.self.view_is in omega (arith, (says_here shows c.requires.1).ends, c.requires.2.within, shows.small)

pub zero-requires : goal.zero-requires
zero-requires g c = omega (arith, (says_here (shows_state g.row.SLI c.self.invariant c.self.view_is) c.requires.1).ends, c.requires.2.within)

clears : (g : Over) (c : goal.After-zero g) → ClearsBehind (image_of c.self.inside.words) (image_of c.zero.new.self) c.args.at c.args.n
clears g c = record {
  inside = omega (arith, (says_here (shows_state g.row.SLI c.self.invariant c.self.view_is) c.requires.1).ends, c.requires.2.within);
  words = c.zero.ensures.words;
  starts = c.zero.ensures.starts;
}

left : (g : Over) (c : goal.After-zero g)
    → Leaves (image_of c.zero.new.self) c.args.self.now.blocks c.args.at (λ i. take i c.args.self.now.blocks ++ (zeroed_block (block_at c.args.self.now.blocks i) ∷ []) ++ drop (i + 1) c.args.self.now.blocks)
left g c = cleared_payload (shows_state g.row.SLI c.self.invariant c.self.view_is) c.requires (clears g c)

relists : (g : Over) (c : goal.After-zero g) → Relists g.row.SLI (image_of c.zero.new.self) c.self.inside.lists c.args.self.now.lists
relists g c = relisted_payload g.row.SLI (holds_state g.row.SLI c.self.invariant c.self.view_is) c.requires (clears g c) (left g c)

pub invariant_of-self : goal.invariant_of-self
invariant_of-self g c = (relists g c).holds

pub returns-clause-change : goal.returns-clause-change
returns-clause-change g c i stands =
    let touches = ap (λ (r : RegionState). r.touches) c.self.view_is in
    let words = ap (λ (r : RegionState). r.words) c.self.view_is in
    record {
      blocks = (left g c).blocks i stands ∙ behind_one i _ c.args.self.now.blocks;
      lists = (relists g c).same;
      edits = record {
        words = clears_length (clears g c) ∙ words;
        shows = (relists g c).holds.shows;
        linked = linked_lists g.row.SLI _ _ (relists g c).holds;
        bits = marked_lists g.row.SLI _ _ (relists g c).holds;
        stays = c.zero.ensures.stays ∙ ap (λ (r : RegionState). r.extents) c.self.view_is;
        touches = omega (arith, c.zero.ensures.touches, touches);
        rise = omega (arith, c.zero.ensures.touches, touches);
      };
    }

pub returns-clause-touched : goal.returns-clause-touched
returns-clause-touched g c k o =
    elim (others_apart c.args.self.now.blocks c.args.at c.requires.0 k c.requires.1 o) [
      | inl below ↦ c.zero.ensures.touched_before k (omega (arith, below))
      | inr above ↦ c.zero.ensures.touched_behind k (omega (arith, above, c.requires.2.within))
    ]
    ∙ ap (λ (r : RegionState). times r.touched k) c.self.view_is

pub returns-clause-groups : goal.returns-clause-groups
returns-clause-groups g c = subst (λ (r : RegionState). InGroups (groups_of c.args.n) r.touched c.zero.new.self.touched) c.self.view_is (one_row (c.args.at + 3) c.args.n c.zero.ensures.touched_before c.zero.ensures.touched_behind)
