use Rattle.tlsf_heap.proofs.Common.{◌≡◌, ℕ, suc, ◌+◌, ◌<◌, ◌++◌, take, drop, length, false, sym, ap, ◌∙◌, subst, arith, inl, inr, StandsAt, is_free, recut, block_at, site_at, IsWhole, RegionState, image_of, times, InGroups}
use Rattle.tlsf_heap.proofs.lemmas.words.Links.{linked_lists, marked_lists, Reshapes, holds_state}
use Rattle.tlsf_heap.proofs.lemmas.words.Says.{shows_state, at_index}
use Rattle.tlsf_heap.proofs.lemmas.words.Recut.{whole_ends, whole_last, whole_least, left_wide}
use Rattle.tlsf_heap.proofs.lemmas.words.Footprint.{past_apart}
use Rattle.tlsf_words.proofs.Touching.{two_words}
use Rattle.tlsf_heap.proofs.region.Region.widen.Given.{Over}
use Rattle.tlsf_heap.proofs.region.Region.widen.Goals as goal

whole_here : (g : Over) (c : goal.After-widen_header-arg-1 g) → (i : ℕ) → StandsAt c.args.self.now.blocks c.args.at i → IsWhole (length c.self.inside.words.words) (site_at c.args.self.now.blocks i) c.args.whole c.args.after
whole_here g c i stands = subst (λ (n : ℕ). IsWhole n (site_at c.args.self.now.blocks i) c.args.whole c.args.after) (sym (ap (λ (r : RegionState). r.words) c.self.view_is)) (c.requires.whole i stands)

pub widen_header-requires : goal.widen_header-requires
widen_header-requires g c =
    let shows = shows_state g.row.SLI c.self.invariant c.self.view_is in
    let live = c.requires.live in
    let is = whole_here g c live.0 live.1 in
    record { free = is.free; some = c.requires.some; after = whole_least shows live.1 is; within = whole_ends shows live.1 is; last = whole_last shows live.1 is; small = shows.small }

wide : (g : Over) (c : goal.After-widen_header g) → (size stamp : ℕ) → c.args.whole.size < size + 4 → (i : ℕ) → StandsAt c.args.self.now.blocks c.args.at i
    → Reshapes g.row.SLI (image_of c.widen_header.new.words) c.self.inside.lists (take i c.args.self.now.blocks ++ recut stamp size (block_at c.args.self.now.blocks i) (drop (suc i) c.args.self.now.blocks)) c.args.self.now.lists
wide g c size stamp none i stands =
    let state = holds_state g.row.SLI c.self.invariant c.self.view_is in
    let live = c.requires.live in
    left_wide g.row.SLI state stands (whole_here g c.before i stands) (at_index state.shows (λ (j : ℕ). is_free (block_at c.args.self.now.blocks j) ≡ false) (live.0, live.1, live.2) stands)
    c.requires.unlisted size stamp c.widen_header.ensures.change none

pub invariant_of-self : goal.invariant_of-self
invariant_of-self g c = (wide g c c.args.whole.size 0 (omega arith) c.requires.live.0 c.requires.live.1).holds

pub returns-clause-change : goal.returns-clause-change
returns-clause-change g c size stamp none i stands =
    let left = wide g c size stamp none i stands in
    let touches = ap (λ (r : RegionState). r.touches) c.self.view_is in
    let words = ap (λ (r : RegionState). r.words) c.self.view_is in
    let rises = c.widen_header.ensures.touches in
    record {
      blocks = left.blocks;
      lists = left.same;
      edits = record { words = c.widen_header.ensures.change.only.length ∙ words; shows = left.holds.shows; linked = linked_lists g.row.SLI _ _ left.holds; bits = marked_lists g.row.SLI _ _ left.holds; stays = c.widen_header.ensures.stays ∙ ap (λ (r : RegionState). r.extents) c.self.view_is; touches = omega (arith, rises.within, touches); rise = omega (arith, rises.rise, touches) };
    }

pub returns-clause-touched : goal.returns-clause-touched
returns-clause-touched g c k o =
    let live = c.requires.live in
    let whole = c.requires.whole live.0 live.1 in
    let lies = past_apart c.args.self.now.blocks c.args.at live.0 k live.1 o in
    c.widen_header.ensures.touched k
    (λ e. elim lies [ inl below ↦ omega (arith, below, e) | inr above ↦ omega (arith, above, e) ])
    (λ e. elim lies [ inl below ↦ omega (arith, below, e) | inr above ↦ omega (arith, above, e, whole.size, whole.after) ])
    ∙ ap (λ (r : RegionState). times r.touched k) c.self.view_is

pub returns-clause-groups : goal.returns-clause-groups
returns-clause-groups g c = subst (λ (r : RegionState). InGroups 2 r.touched c.widen_header.new.words.touched) c.self.view_is (two_words c.args.at (c.args.at + c.args.whole.size) c.widen_header.ensures.touched)
