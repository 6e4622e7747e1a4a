use Rattle.tlsf_heap.proofs.Common.{Contains, subst, refl, zero, ℕ, List, sym, ap, ◌∙◌, arith, slice_get, without_place, RegionState, image_of, times, InGroups}
-- The free lists without the head of one: only links have changed.
use Rattle.tlsf_heap.proofs.lemmas.words.Links.{linked_lists, marked_lists, Relinks, holds_state, list_in-lists_of, relinked, free_removed}
use Rattle.tlsf_words.proofs.Touching.{more_groups}
use Rattle.tlsf_heap.proofs.lemmas.words.Footprint.{header_apart}
use Rattle.tlsf_heap.proofs.region.Region.pop_first.Given.{Over}
use Rattle.tlsf_heap.proofs.region.Region.pop_first.Goals as goal

pub pop_first-requires : goal.pop_first-requires
pop_first-requires g c = (
  omega arith,
  (
    omega arith,
    (
      c.self.invariant.threaded,
      λ none. c.requires.some ((holds_state g.row.SLI c.self.invariant c.self.view_is).lists c.args.class ∙ none),
    ),
  ),
)

relinks : (g : Over) (c : goal.After-pop_first g) → Relinks g.row.SLI (image_of c.pop_first.new.words) c.pop_first.new.self c.args.self.now.blocks
relinks g c =
    let new = c.pop_first.ensures in
    let state = holds_state g.row.SLI c.self.invariant c.self.view_is in
    relinked g.row.SLI state new.lists.threaded (free_removed g.row.SLI state (image_of c.pop_first.new.words) c.pop_first.new.self c.args.class c.pop_first.result new.lists.others new.lists.list) new.lists.words new.links.length new.links.starts

pub invariant_of-self : goal.invariant_of-self
invariant_of-self g c = (relinks g c).holds

pub returns-clause-place : goal.returns-clause-place
returns-clause-place g c = ap (λ (places : List ℕ). slice_get places 0) ((holds_state g.row.SLI c.self.invariant c.self.view_is).lists c.args.class ∙ c.pop_first.ensures.first)

pub returns-clause-change : goal.returns-clause-change
returns-clause-change g c =
    let touches = ap (λ (r : RegionState). r.touches) c.self.view_is in
    let words = ap (λ (r : RegionState). r.words) c.self.view_is in
    record {
      blocks = (relinks g c).same;
      list = list_in-lists_of c.pop_first.new.self.heads c.pop_first.new.words.words c.args.class ∙ c.pop_first.ensures.lists.list
          ∙ ap (without_place c.pop_first.result) (sym ((holds_state g.row.SLI c.self.invariant c.self.view_is).lists c.args.class));
      others = λ other differs. list_in-lists_of c.pop_first.new.self.heads c.pop_first.new.words.words other ∙ c.pop_first.ensures.lists.others other differs ∙ sym ((holds_state g.row.SLI c.self.invariant c.self.view_is).lists other);
      touched = λ k live.
          let state = holds_state g.row.SLI c.self.invariant c.self.view_is in
          c.pop_first.ensures.footprint.touched k (header_apart state.shows (state.free c.args.class c.pop_first.result (subst (λ (places : List ℕ). Contains places c.pop_first.result) (sym c.pop_first.ensures.first) (zero, omega arith, refl))).1 2 (omega arith) k live)
          (λ class other there. header_apart state.shows (state.free class other there).1 2 (omega arith) k live)
          ∙ ap (λ (r : RegionState). times r.touched k) c.self.view_is;
      groups = subst (λ (r : RegionState). InGroups 3 r.touched c.pop_first.new.words.touched) c.self.view_is (more_groups (omega arith) c.pop_first.ensures.footprint.groups);
      edits = record { words = c.pop_first.ensures.links.length ∙ words; shows = (relinks g c).holds.shows; linked = linked_lists g.row.SLI _ _ (relinks g c).holds; bits = marked_lists g.row.SLI _ _ (relinks g c).holds; stays = c.pop_first.ensures.links.stays ∙ ap (λ (r : RegionState). r.extents) c.self.view_is; touches = omega (arith, c.pop_first.ensures.links.touches, touches); rise = omega (arith, c.pop_first.ensures.links.rise, c.pop_first.ensures.links.words_rise, touches) };
    }
