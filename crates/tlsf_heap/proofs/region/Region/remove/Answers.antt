-- The free lists with one place less: only links have changed.
use Rattle.tlsf_heap.proofs.Common.{ℕ, List, sym, ap, ◌∙◌, subst, arith, Contains, class_of, without_place, RegionState, image_of, times, InGroups}
use Rattle.tlsf_heap.proofs.lemmas.words.Links.{linked_lists, marked_lists, Relinks, holds_state, list_in-lists_of, relinked, free_removed}
use Rattle.tlsf_heap.proofs.lemmas.words.Footprint.{header_apart}
use Rattle.tlsf_heap.proofs.region.Region.remove.Given.{Over}
use Rattle.tlsf_heap.proofs.region.Region.remove.Goals as goal

pub unlink-requires : goal.unlink-requires
unlink-requires g c = (
  omega arith,
  (
    c.requires.level,
    (
      c.requires.least,
      (
        c.requires.most,
        (
          c.self.invariant.threaded,
          subst (λ (places : List ℕ). Contains places c.args.at) ((holds_state g.row.SLI c.self.invariant c.self.view_is).lists (class_of g.row.SLI c.args.size)) c.requires.listed,
        ),
      ),
    ),
  ),
)

relinks : (g : Over) (c : goal.After-unlink g) → Relinks g.row.SLI (image_of c.unlink.new.words) c.unlink.new.self c.args.self.now.blocks
relinks g c =
    let new = c.unlink.ensures in
    let state = holds_state g.row.SLI c.self.invariant c.self.view_is in
    relinked g.row.SLI state new.lists.threaded (free_removed g.row.SLI state (image_of c.unlink.new.words) c.unlink.new.self (class_of g.row.SLI c.args.size) c.args.at new.lists.others new.lists.list) new.lists.words new.links.length new.links.starts

pub invariant_of-self : goal.invariant_of-self
invariant_of-self g c = (relinks g c).holds

pub returns : goal.returns
returns g c =
    let touches = ap (λ (r : RegionState). r.touches) c.self.view_is in
    let words = ap (λ (r : RegionState). r.words) c.self.view_is in
    record {
      blocks = (relinks g c).same;
      list = list_in-lists_of c.unlink.new.self.heads c.unlink.new.words.words (class_of g.row.SLI c.args.size) ∙ c.unlink.ensures.lists.list
          ∙ ap (without_place c.args.at) (sym ((holds_state g.row.SLI c.self.invariant c.self.view_is).lists (class_of g.row.SLI c.args.size)));
      others = λ other differs. list_in-lists_of c.unlink.new.self.heads c.unlink.new.words.words other ∙ c.unlink.ensures.lists.others other differs ∙ sym ((holds_state g.row.SLI c.self.invariant c.self.view_is).lists other);
      touched = λ k live.
          let state = holds_state g.row.SLI c.self.invariant c.self.view_is in
          c.unlink.ensures.footprint.touched k (header_apart state.shows (state.free (class_of g.row.SLI c.args.size) c.args.at (subst (λ (places : List ℕ). Contains places c.args.at) (state.lists (class_of g.row.SLI c.args.size)) c.requires.listed)).1 2 (omega arith) k live)
          (λ class other there. header_apart state.shows (state.free class other there).1 2 (omega arith) k live)
          ∙ ap (λ (r : RegionState). times r.touched k) c.self.view_is;
      groups = subst (λ (r : RegionState). InGroups 3 r.touched c.unlink.new.words.touched) c.self.view_is (c.unlink.ensures.footprint.groups);
      edits = record { words = c.unlink.ensures.links.length ∙ words; shows = (relinks g c).holds.shows; linked = linked_lists g.row.SLI _ _ (relinks g c).holds; bits = marked_lists g.row.SLI _ _ (relinks g c).holds; stays = c.unlink.ensures.links.stays ∙ ap (λ (r : RegionState). r.extents) c.self.view_is; touches = omega (arith, c.unlink.ensures.links.touches, touches); rise = omega (arith, c.unlink.ensures.links.rise, c.unlink.ensures.links.words_rise, touches) };
    }
