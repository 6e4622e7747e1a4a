-- A merge of the words is one of the blocks, and leaves the lists.
use Rattle.tlsf_heap.proofs.Common.{ℕ, length, sym, ap, ◌∙◌, subst, arith, ◌+◌, ◌-◌, coalesced, StandsAt, site_at, RegionState, AreNeighbours, image_of, times, InGroups}
use Rattle.tlsf_heap.proofs.lemmas.words.Says.{shows_state, at_index}
use Rattle.tlsf_heap.proofs.lemmas.words.Free.{merged}
use Rattle.tlsf_heap.proofs.lemmas.words.Merge.{merge_within, merge_last, merge_before, merge_after}
use Rattle.tlsf_heap.proofs.lemmas.words.Links.{linked_lists, marked_lists, Reshapes, holds_state}
use Rattle.tlsf_heap.proofs.lemmas.words.Footprint.{front_apart, end_apart}
use Rattle.tlsf_words.proofs.Touching.{three_words}
use Rattle.tlsf_heap.proofs.region.Region.merge.Given.{Over}
use Rattle.tlsf_heap.proofs.region.Region.merge.Goals as goal

neighbours : (g : Over) (c : goal.After-merge_headers-arg-1 g) → (i : ℕ) → StandsAt c.args.self.now.blocks c.args.at i → AreNeighbours (length c.self.inside.words.words) (site_at c.args.self.now.blocks i) c.args.before c.args.after c.args.tag
neighbours g c i stands =
    subst (λ (n : ℕ). AreNeighbours n (site_at c.args.self.now.blocks i) c.args.before c.args.after c.args.tag) (sym (ap (λ (r : RegionState). r.words) c.self.view_is))
    (at_index (shows_state g.row.SLI c.self.invariant c.self.view_is) (λ i. AreNeighbours c.args.self.now.words (site_at c.args.self.now.blocks i) c.args.before c.args.after c.args.tag) c.requires.around stands)

pub merge_headers-requires : goal.merge_headers-requires
merge_headers-requires g c =
    let shows = shows_state g.row.SLI c.self.invariant c.self.view_is in
    let stands = c.requires.around.1 in
    let is = neighbours g c c.requires.around.0 stands in
    record { previous = c.requires.previous; no_previous = c.requires.no_previous; next = c.requires.next; no_next = c.requires.no_next; free = is.free; before = merge_before shows stands is; after = merge_after shows stands is; within = merge_within shows stands is; last = merge_last shows stands is; small = shows.small }

reshapes : (g : Over) (c : goal.After-merge_headers g) → (i : ℕ) → StandsAt c.args.self.now.blocks c.args.at i
    → Reshapes g.row.SLI (image_of c.merge_headers.new.words) c.self.inside.lists (coalesced c.args.stamp (site_at c.args.self.now.blocks i)) c.args.self.now.lists
reshapes g c i stands = merged g.row.SLI (holds_state g.row.SLI c.self.invariant c.self.view_is) stands (neighbours g c.before i stands) c.merge_headers.ensures.change c.requires.unlisted

pub invariant_of-self : goal.invariant_of-self
invariant_of-self g c = (reshapes g c c.requires.around.0 c.requires.around.1).holds

pub returns-clause-change : goal.returns-clause-change
returns-clause-change g c i stands =
    let left = reshapes g c i stands in
    let touches = ap (λ (r : RegionState). r.touches) c.self.view_is in
    let words = ap (λ (r : RegionState). r.words) c.self.view_is in
    record {
      blocks = left.blocks;
      lists = left.same;
      edits = record { words = c.merge_headers.ensures.change.only.length ∙ words; shows = left.holds.shows; linked = linked_lists g.row.SLI _ _ left.holds; bits = marked_lists g.row.SLI _ _ left.holds; stays = c.merge_headers.ensures.stays ∙ ap (λ (r : RegionState). r.extents) c.self.view_is; touches = omega (arith, c.merge_headers.ensures.touches.within, touches); rise = omega (arith, c.merge_headers.ensures.touches.rise, touches) };
    }

pub returns-clause-touched : goal.returns-clause-touched
returns-clause-touched g c k live =
    let shows = shows_state g.row.SLI c.self.invariant c.self.view_is in
    let stands = c.requires.around.1 in
    let is = c.requires.around.2 in
    let front = front_apart shows stands {before = c.args.before} {tag_size = c.args.tag.size} is.before is.size in
    c.merge_headers.ensures.touched k (λ e. front 0 (omega arith) k live (omega (arith, e))) (front 1 (omega arith) k live) (end_apart shows stands is.before is.size k live)
    ∙ ap (λ (r : RegionState). times r.touched k) c.self.view_is

pub returns-clause-groups : goal.returns-clause-groups
returns-clause-groups g c =
    let place = c.args.at - c.args.before in
    subst (λ (r : RegionState). InGroups 3 r.touched c.merge_headers.new.words.touched) c.self.view_is (three_words place (place + 1) (place + c.args.tag.size) c.merge_headers.ensures.touched)
