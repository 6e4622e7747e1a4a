-- The free lists with one more place: only links have changed, and the place is that of a free block.
use Rattle.tlsf_heap.proofs.Common.{ℕ, List, ◌∷◌, sym, ap, ◌∙◌, subst, arith, Contains, RegionState, image_of, times, InGroups}
use Rattle.tlsf_heap.proofs.lemmas.words.Says.{shows_state, in_region}
use Rattle.tlsf_heap.proofs.lemmas.words.Links.{linked_lists, marked_lists, Relinks, holds_state, list_in-lists_of, relinked, free_pushed}
use Rattle.tlsf_heap.proofs.lemmas.words.Footprint.{header_apart}
use Rattle.tlsf_heap.proofs.region.Region.push.Given.{Over}
use Rattle.tlsf_heap.proofs.region.Region.push.Goals as goal

pub push-requires : goal.push-requires
push-requires g c = (
  omega arith,
  (
    omega arith,
    (
      c.self.invariant.threaded,
      (
        omega (arith, in_region (shows_state g.row.SLI c.self.invariant c.self.view_is) (c.requires.free.0, c.requires.free.1)),
        λ class listed. c.requires.unlisted class (subst (λ (places : List ℕ). Contains places c.args.at) (sym ((holds_state g.row.SLI c.self.invariant c.self.view_is).lists class)) listed),
      ),
    ),
  ),
)

relinks : (g : Over) (c : goal.After-push g) → Relinks g.row.SLI (image_of c.push.new.words) c.push.new.self c.args.self.now.blocks
relinks g c =
    let new = c.push.ensures in
    let state = holds_state g.row.SLI c.self.invariant c.self.view_is in
    relinked g.row.SLI state new.lists.threaded (free_pushed g.row.SLI state (image_of c.push.new.words) c.push.new.self c.args.class c.args.at new.lists.others c.requires.free new.lists.list) new.lists.words new.links.length new.links.starts

pub invariant_of-self : goal.invariant_of-self
invariant_of-self g c = (relinks g c).holds

pub returns : goal.returns
returns g c =
    let touches = ap (λ (r : RegionState). r.touches) c.self.view_is in
    let words = ap (λ (r : RegionState). r.words) c.self.view_is in
    record {
      blocks = (relinks g c).same;
      list = list_in-lists_of c.push.new.self.heads c.push.new.words.words c.args.class ∙ c.push.ensures.lists.list
          ∙ ap (λ (places : List ℕ). c.args.at ∷ places) (sym ((holds_state g.row.SLI c.self.invariant c.self.view_is).lists c.args.class));
      others = λ other differs. list_in-lists_of c.push.new.self.heads c.push.new.words.words other ∙ c.push.ensures.lists.others other differs ∙ sym ((holds_state g.row.SLI c.self.invariant c.self.view_is).lists other);
      touched = λ k live.
          let state = holds_state g.row.SLI c.self.invariant c.self.view_is in
          c.push.ensures.footprint.touched k (header_apart state.shows c.requires.free.1 2 (omega arith) k live)
          (λ class other there. header_apart state.shows (state.free class other there).1 2 (omega arith) k live)
          ∙ ap (λ (r : RegionState). times r.touched k) c.self.view_is;
      groups = subst (λ (r : RegionState). InGroups 2 r.touched c.push.new.words.touched) c.self.view_is (c.push.ensures.footprint.groups);
      edits = record { words = c.push.ensures.links.length ∙ words; shows = (relinks g c).holds.shows; linked = linked_lists g.row.SLI _ _ (relinks g c).holds; bits = marked_lists g.row.SLI _ _ (relinks g c).holds; stays = c.push.ensures.links.stays ∙ ap (λ (r : RegionState). r.extents) c.self.view_is; touches = omega (arith, c.push.ensures.links.touches, touches); rise = omega (arith, c.push.ensures.links.rise, c.push.ensures.links.words_rise, touches) };
    }
