-- A block that is made a live one whole: the words show it, and leave the lists.
use Rattle.tlsf_heap.proofs.Common.{◌⊎◌, ℕ, ◌+◌, [], ◌∷◌, ◌++◌, take, drop, suc, ap, ◌∙◌, arith, ◌≡◌, ◌≢◌, ◌<◌, ◌≤◌, true, sym, subst, List, inl, inr, Live, size_of, StandsAt, is_free, block_at, site_at, RegionState, IsTagOf, image_of, times, InGroups}
use Rattle.tlsf_heap.proofs.lemmas.words.Says.{shows_state, says_here, at_index}
use Rattle.tlsf_heap.proofs.lemmas.words.Links.{linked_lists, marked_lists, Reshapes, holds_state}
use Rattle.tlsf_heap.proofs.lemmas.words.Split.{stored_bytes, tag_here, left_whole}
use Rattle.tlsf_words.proofs.Touching.{times_other}
use Rattle.tlsf_heap.proofs.lemmas.words.Footprint.{free_elsewhere, others_apart}
use Rattle.tlsf_heap.proofs.lemmas.words.Groups.{one_row}
use Rattle.tlsf_heap.proofs.region.Region.grant.Given.{Over}
use Rattle.tlsf_heap.proofs.region.Region.grant.Goals as goal

pub live_header-requires-clause-within : goal.live_header-requires-clause-within
live_header-requires-clause-within g c =
    let says = says_here (shows_state g.row.SLI c.self.invariant c.self.view_is) c.requires.own.1 in omega (arith, c.granted-live.ensures.size, c.requires.own.2.size, says.ends)

reshapes : (g : Over) (c : goal.After-size g) → (i : ℕ) → StandsAt c.args.self.now.blocks c.args.at i
    → Reshapes g.row.SLI (image_of c.live_header.new.words) c.self.inside.lists (take i c.args.self.now.blocks ++ (Live (size_of (block_at c.args.self.now.blocks i)) c.args.serial (stored_bytes (image_of c.live_header.new.words) c.args.at c.args.len) ∷ []) ++ drop (suc i) c.args.self.now.blocks) c.args.self.now.lists
reshapes g c i stands =
    let state = holds_state g.row.SLI c.self.invariant c.self.view_is in
    let own = at_index state.shows (λ j. IsTagOf c.args.self.now.words (site_at c.args.self.now.blocks j) c.args.own) c.requires.own stands in
    let live = c.granted-live.ensures in
    left_whole g.row.SLI state stands (tag_here c.granted-live.result stands (ap (λ (r : RegionState). r.words) c.self.view_is) own live.size live.last live.back) 0 c.args.serial c.args.len (c.requires.unlisted i stands)
    c.live_header.ensures.change (omega (arith, c.requires.payload, live.size))

pub invariant_of-self : goal.invariant_of-self
invariant_of-self g c = (reshapes g c c.requires.own.0 c.requires.own.1).holds

pub returns-clause-change : goal.returns-clause-change
returns-clause-change g c i stands =
    let left = reshapes g c i stands in
    let touches = ap (λ (r : RegionState). r.touches) c.self.view_is in
    let words = ap (λ (r : RegionState). r.words) c.self.view_is in
    record {
      blocks = left.blocks;
      lists = left.same;
      edits = record {
        words = c.live_header.ensures.change.only.length ∙ words;
        shows = left.holds.shows;
        linked = linked_lists g.row.SLI _ _ left.holds;
        bits = marked_lists g.row.SLI _ _ left.holds;
        stays = c.live_header.ensures.stays ∙ ap (λ (r : RegionState). r.extents) c.self.view_is;
        touches = omega (arith, c.live_header.ensures.touches, touches);
        rise = omega (arith, c.live_header.ensures.touches, touches);
      };
    }

-- a header is touched, and nothing else
headed : (at k : ℕ) (old : List ℕ) → ((d : ℕ) → d < 3 → k ≢ at + d) → {new : List ℕ} → new ≡ (at + 2) ∷ (at + 1) ∷ at ∷ old → times new k ≡ times old k
headed at k old apart is =
    ap (λ (l : List ℕ). times l k) is
    ∙ times_other (at + 2) k ((at + 1) ∷ at ∷ old) (apart 2 (omega arith))
    ∙ times_other (at + 1) k (at ∷ old) (apart 1 (omega arith))
    ∙ times_other at k old (λ e. apart 0 (omega arith) (omega (arith, e)))

pub returns-clause-touched : goal.returns-clause-touched
returns-clause-touched g c k live =
    let bs = c.args.self.now.blocks in
    let own = c.requires.own in
    let least = (says_here (shows_state g.row.SLI c.self.invariant c.self.view_is) own.1).least in
    let free : is_free (block_at bs own.0) ≡ true = sym own.2.free ∙ c.requires.free in
    let apart : (d : ℕ) → d < 3 → k ≢ c.args.at + d = λ d low e. elim (others_apart bs c.args.at own.0 k own.1 (free_elsewhere bs c.args.at own.0 k own.1 free (omega (arith, least)) live)) [
      | inl below ↦ omega (arith, below, e)
      | inr above ↦ omega (arith, above, e, low, least)
    ] in
    headed c.args.at k c.self.inside.words.touched apart c.live_header.ensures.touched
    ∙ ap (λ (r : RegionState). times r.touched k) c.self.view_is

pub returns-clause-groups : goal.returns-clause-groups
returns-clause-groups g c =
    let at = c.args.at in
    let old = c.self.inside.words.touched in
    let only : (k : ℕ) → (k < at) ⊎ (at + 3 ≤ k) → times c.live_header.new.words.touched k ≡ times old k = λ k apart.
    let differ : (d : ℕ) → d < 3 → k ≢ at + d = λ d low e. elim apart [ inl below ↦ omega (arith, below, e) | inr past ↦ omega (arith, past, e, low) ] in
    headed at k old differ c.live_header.ensures.touched in
    subst (λ (r : RegionState). InGroups 2 r.touched c.live_header.new.words.touched) c.self.view_is (one_row at 3 (λ k below. only k (inl below)) (λ k past. only k (inr past)))
