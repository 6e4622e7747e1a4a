use Rattle.tlsf_heap.proofs.Common.{◌⊎◌, ◌≡◌, ℕ, suc, ◌+◌, ◌++◌, ◌≤◌, ◌<◌, ◌≢◌, take, drop, length, false, sym, ap, ◌∙◌, subst, arith, inl, inr, StandsAt, is_free, bytes_of, words_for, recut, block_at, site_at, IsWhole, RegionState, image_of, times, InGroups}
use Rattle.tlsf_heap.proofs.lemmas.words.Links.{linked_lists, marked_lists, Reshapes, holds_state}
use Rattle.tlsf_heap.proofs.lemmas.words.Says.{shows_state, at_index}
use Rattle.tlsf_heap.proofs.lemmas.words.Recut.{whole_ends, whole_last, whole_least, left_recut}
use Rattle.tlsf_heap.proofs.lemmas.words.Footprint.{past_apart}
use Rattle.tlsf_heap.proofs.lemmas.words.Groups.{rows_and_word}
use Rattle.tlsf_heap.proofs.region.Region.recut.Goals.{After-recut_header}
use Rattle.tlsf_heap.proofs.region.Region.recut.Given.{Over}
use Rattle.tlsf_heap.proofs.region.Region.recut.Goals as goal

whole_here : (g : Over) (c : goal.After-recut_header-arg-1 g) → (i : ℕ) → StandsAt c.args.self.now.blocks c.args.at i → IsWhole (length c.self.inside.words.words) (site_at c.args.self.now.blocks i) c.args.whole c.args.after
whole_here g c i stands = subst (λ (n : ℕ). IsWhole n (site_at c.args.self.now.blocks i) c.args.whole c.args.after) (sym (ap (λ (r : RegionState). r.words) c.self.view_is)) (c.requires.whole i stands)

pub recut_header-requires : goal.recut_header-requires
recut_header-requires g c =
    let shows = shows_state g.row.SLI c.self.invariant c.self.view_is in
    let live = c.requires.live in
    let is = whole_here g c live.0 live.1 in
    record { some = c.requires.merged.0; none = c.requires.merged.1; free = is.free; least = c.requires.least; room = c.requires.room; after = whole_least shows live.1 is; within = whole_ends shows live.1 is; last = whole_last shows live.1 is; small = shows.small }

cut : (g : Over) (c : After-recut_header g) → (i : ℕ) → StandsAt c.args.self.now.blocks c.args.at i
    → Reshapes g.row.SLI (image_of c.recut_header.new.words) c.self.inside.lists (take i c.args.self.now.blocks ++ recut c.args.stamp c.args.size (block_at c.args.self.now.blocks i) (drop (suc i) c.args.self.now.blocks)) c.args.self.now.lists
cut g c i stands =
    let state = holds_state g.row.SLI c.self.invariant c.self.view_is in
    let live = c.requires.live in
    left_recut g.row.SLI state stands (whole_here g c.before i stands) (at_index state.shows (λ (j : ℕ). is_free (block_at c.args.self.now.blocks j) ≡ false) (live.0, live.1, live.2.0) stands)
    c.requires.unlisted c.args.size c.args.stamp c.recut_header.ensures.change c.requires.least c.requires.room
    (at_index state.shows (λ (j : ℕ). words_for (length (bytes_of (block_at c.args.self.now.blocks j))) ≤ c.args.size) (live.0, live.1, live.2.1) stands)

pub invariant_of-self : goal.invariant_of-self
invariant_of-self g c = (cut g c.before c.requires.live.0 c.requires.live.1).holds

pub returns-clause-change : goal.returns-clause-change
returns-clause-change g c i stands =
    let left = cut g c.before i stands in
    let touches = ap (λ (r : RegionState). r.touches) c.self.view_is in
    let words = ap (λ (r : RegionState). r.words) c.self.view_is in
    let rises = c.recut_header.ensures.touches in
    record {
      blocks = left.blocks;
      lists = left.same;
      edits = record { words = c.recut_header.ensures.change.only.length ∙ words; shows = left.holds.shows; linked = linked_lists g.row.SLI _ _ left.holds; bits = marked_lists g.row.SLI _ _ left.holds; stays = c.recut_header.ensures.stays ∙ ap (λ (r : RegionState). r.extents) c.self.view_is; touches = omega (arith, rises.within, touches); rise = omega (arith, rises.rise, touches) };
    }

pub returns-clause-touched : goal.returns-clause-touched
returns-clause-touched g c k o =
    let live = c.requires.live in
    let whole = c.requires.whole live.0 live.1 in
    let room = c.requires.room in
    let lies = past_apart c.args.self.now.blocks c.args.at live.0 k live.1 o in
    c.recut_header.ensures.touched k
    (λ e. elim lies [ inl below ↦ omega (arith, below, e) | inr above ↦ omega (arith, above, e) ])
    (λ e. elim lies [ inl below ↦ omega (arith, below, e) | inr above ↦ omega (arith, above, e, whole.size, whole.after, room) ])
    (λ e. elim lies [ inl below ↦ omega (arith, below, e) | inr above ↦ omega (arith, above, e, whole.size, whole.after, room) ])
    (λ e. elim lies [ inl below ↦ omega (arith, below, e) | inr above ↦ omega (arith, above, e, whole.size, whole.after) ])
    ∙ ap (λ (r : RegionState). times r.touched k) c.self.view_is

pub returns-clause-groups : goal.returns-clause-groups
returns-clause-groups g c =
    let at = c.args.at in
    let place = at + c.args.size in
    let apart : (p n d k : ℕ) → d < n → (k < p) ⊎ (p + n ≤ k) → k ≢ p + d = λ p n d k low out e. elim out [ inl below ↦ omega (arith, below, e) | inr past ↦ omega (arith, past, e, low) ] in
    subst (λ (r : RegionState). InGroups 4 r.touched c.recut_header.new.words.touched) c.self.view_is (rows_and_word at place 1 2 (at + c.args.whole.size)
    (λ k own rest behind. c.recut_header.ensures.touched k (λ e. apart at 1 0 k (omega arith) own (omega (arith, e))) (λ e. apart place 2 0 k (omega arith) rest (omega (arith, e))) (apart place 2 1 k (omega arith) rest) behind))
