-- The header of a free block of the words is one of the blocks, and leaves the lists.
use Rattle.tlsf_heap.proofs.Common.{◌∷◌, ◌+◌, List, ℕ, length, sym, ap, ◌∙◌, subst, arith, refl, StandsAt, coalesced, site_at, RegionState, AreNeighbours, IsTagOf, image_of, times, InGroups}
use Rattle.tlsf_heap.proofs.lemmas.words.Free.{merged, alone_are, merges_alone}
use Rattle.tlsf_heap.proofs.lemmas.words.Links.{linked_lists, marked_lists, Reshapes, holds_state}
use Rattle.tlsf_heap.proofs.lemmas.words.Says.{shows_state, at_index, in_region}
use Rattle.tlsf_words.proofs.Touching.{times_other, one_touch, groups_then}
use Rattle.tlsf_heap.proofs.lemmas.words.Footprint.{header_apart}
use Rattle.tlsf_heap.proofs.region.Region.free.Given.{Over}
use Rattle.tlsf_heap.proofs.region.Region.free.Goals as goal

pub free_header-requires-clause-within : goal.free_header-requires-clause-within
free_header-requires-clause-within g c = omega (arith, in_region (shows_state g.row.SLI c.self.invariant c.self.view_is) (c.requires.own.0, c.requires.own.1))

alone : (g : Over) (c : goal.After-free_header g) → (i : ℕ) → StandsAt c.args.self.now.blocks c.args.at i → AreNeighbours (length c.self.inside.words.words) (site_at c.args.self.now.blocks i) 0 0 c.as_free.result
alone g c i stands =
    let shows = shows_state g.row.SLI c.self.invariant c.self.view_is in
    let none = c.requires.alone i stands in
    let tag = c.as_free.ensures in
    alone_are shows stands
    (subst (λ (n : ℕ). IsTagOf n (site_at c.args.self.now.blocks i) c.args.own) (sym (ap (λ (r : RegionState). r.words) c.self.view_is))
    (at_index shows (λ i. IsTagOf c.args.self.now.words (site_at c.args.self.now.blocks i) c.args.own) c.requires.own stands)) none.0 none.1 tag.size tag.free tag.last tag.back

reshapes : (g : Over) (c : goal.After-free_header g) → (i : ℕ) → StandsAt c.args.self.now.blocks c.args.at i
    → Reshapes g.row.SLI (image_of c.free_header.new.words) c.self.inside.lists (coalesced c.args.stamp (site_at c.args.self.now.blocks i)) c.args.self.now.lists
reshapes g c i stands =
    let is = alone g c i stands in
    let free = c.free_header.ensures in
    merged g.row.SLI (holds_state g.row.SLI c.self.invariant c.self.view_is) stands is
    (merges_alone (shows_state g.row.SLI c.self.invariant c.self.view_is) stands is free.header free.only free.starts)
    (λ k low high. c.requires.unlisted i stands k (omega (arith, low)) (omega (arith, high, is.size, is.before, is.after)))

pub invariant_of-self : goal.invariant_of-self
invariant_of-self g c = (reshapes g c c.requires.own.0 c.requires.own.1).holds

pub returns-clause-change : goal.returns-clause-change
returns-clause-change g c i stands =
    let left = reshapes g c i stands in
    let touches = ap (λ (r : RegionState). r.touches) c.self.view_is in
    let words = ap (λ (r : RegionState). r.words) c.self.view_is in
    record {
      blocks = left.blocks;
      lists = left.same;
      edits = record { words = c.free_header.ensures.only.length ∙ words; shows = left.holds.shows; linked = linked_lists g.row.SLI _ _ left.holds; bits = marked_lists g.row.SLI _ _ left.holds; stays = c.free_header.ensures.stays ∙ ap (λ (r : RegionState). r.extents) c.self.view_is; touches = omega (arith, c.free_header.ensures.touches, touches); rise = omega (arith, c.free_header.ensures.touches, touches) };
    }

pub returns-clause-touched : goal.returns-clause-touched
returns-clause-touched g c k live =
    let apart = header_apart (shows_state g.row.SLI c.self.invariant c.self.view_is) c.requires.own.1 in
    ap (λ (l : List ℕ). times l k) c.free_header.ensures.touched
    ∙ times_other (c.args.at + 1) k (c.args.at ∷ c.self.inside.words.touched) (apart 1 (omega arith) k live)
    ∙ times_other c.args.at k c.self.inside.words.touched (λ e. apart 0 (omega arith) k live (omega (arith, e)))
    ∙ ap (λ (r : RegionState). times r.touched k) c.self.view_is

pub returns-clause-groups : goal.returns-clause-groups
returns-clause-groups g c = subst (λ (r : RegionState). InGroups 2 r.touched c.free_header.new.words.touched) c.self.view_is (groups_then (one_touch c.args.at {old = c.self.inside.words.touched} refl) (one_touch (c.args.at + 1) c.free_header.ensures.touched))
