-- A block that is split into a live one and a free rest: the words show them, and leave the lists.
use Rattle.tlsf_heap.proofs.Common.{◌⊎◌, ℕ, ◌+◌, ◌-◌, eqb, [], ◌∷◌, ◌++◌, take, drop, length, suc, sym, ap, ◌∙◌, refl, arith, ◌≡◌, ◌≢◌, ◌<◌, ◌≤◌, true, subst, inl, inr, Live, Free, size_of, StandsAt, is_free, block_at, site_at, RegionState, IsTagOf, image_of, times, InGroups}
use Rattle.tlsf_heap.proofs.lemmas.words.Says.{shows_state, says_here, at_index}
use Rattle.tlsf_heap.proofs.lemmas.words.Links.{linked_lists, marked_lists, Reshapes, holds_state}
use Rattle.tlsf_heap.proofs.lemmas.words.Split.{stored_bytes, tag_here, left_split}
use Rattle.tlsf_heap.proofs.lemmas.words.Footprint.{free_elsewhere, others_apart}
use Rattle.tlsf_heap.proofs.lemmas.words.Groups.{rows_and_word}
use Rattle.tlsf_heap.proofs.region.Region.split.Given.{Over}
use Rattle.tlsf_heap.proofs.region.Region.split.Goals as goal

pub split_header-requires : goal.split_header-requires
split_header-requires g c =
    let shows = shows_state g.row.SLI c.self.invariant c.self.view_is in
    let own = c.requires.own.2 in
    let is = tag_here {m = image_of c.self.inside.words} c.args.own c.requires.own.1 (ap (λ (r : RegionState). r.words) c.self.view_is) own refl refl refl in
    record {
      free = c.requires.free;
      rest = c.requires.rest;
      least = omega (arith, c.requires.payload);
      room = c.requires.room;
      within = omega (arith, own.size, (says_here shows c.requires.own.1).ends);
      last = is.last ∙ ap (λ (n : ℕ). eqb (c.args.at + n) (length c.self.inside.words.words)) (sym is.size);
      small = shows.small;
    }

reshapes : (g : Over) (c : goal.After-split_header g) → (i : ℕ) → StandsAt c.args.self.now.blocks c.args.at i
    → Reshapes g.row.SLI (image_of c.split_header.new.words) c.self.inside.lists (take i c.args.self.now.blocks ++ (Live c.args.size c.args.serial (stored_bytes (image_of c.split_header.new.words) c.args.at c.args.len) ∷ Free (size_of (block_at c.args.self.now.blocks i) - c.args.size) c.args.serial ∷ []) ++ drop (suc i) c.args.self.now.blocks) c.args.self.now.lists
reshapes g c i stands =
    let state = holds_state g.row.SLI c.self.invariant c.self.view_is in
    let own = at_index state.shows (λ j. IsTagOf c.args.self.now.words (site_at c.args.self.now.blocks j) c.args.own) c.requires.own stands in
    left_split g.row.SLI state stands (tag_here c.args.own stands (ap (λ (r : RegionState). r.words) c.self.view_is) own refl refl refl) c.args.size c.args.serial c.args.len (c.requires.unlisted i stands)
    c.split_header.ensures.change (omega (arith, c.requires.payload)) c.requires.room (omega (arith, c.requires.payload))

pub invariant_of-self : goal.invariant_of-self
invariant_of-self g c = (reshapes g c c.requires.own.0 c.requires.own.1).holds

pub returns-clause-change : goal.returns-clause-change
returns-clause-change g c i stands =
    let left = reshapes g c i stands in
    let touches = ap (λ (r : RegionState). r.touches) c.self.view_is in
    let words = ap (λ (r : RegionState). r.words) c.self.view_is in
    record {
      blocks = left.blocks;
      lists = left.same;
      edits = record {
        words = c.split_header.ensures.change.only.length ∙ words;
        shows = left.holds.shows;
        linked = linked_lists g.row.SLI _ _ left.holds;
        bits = marked_lists g.row.SLI _ _ left.holds;
        stays = c.split_header.ensures.stays ∙ ap (λ (r : RegionState). r.extents) c.self.view_is;
        touches = omega (arith, c.split_header.ensures.touches.within, touches);
        rise = omega (arith, c.split_header.ensures.touches.rise, touches);
      };
    }

pub returns-clause-touched : goal.returns-clause-touched
returns-clause-touched g c k live =
    let bs = c.args.self.now.blocks in
    let own = c.requires.own in
    let free : is_free (block_at bs own.0) ≡ true = sym own.2.free ∙ c.requires.free in
    let lies = others_apart bs c.args.at own.0 k own.1 (free_elsewhere bs c.args.at own.0 k own.1 free (omega (arith, (says_here (shows_state g.row.SLI c.self.invariant c.self.view_is) own.1).least)) live) in
    let apart : (d : ℕ) → d ≤ c.args.own.size → k ≢ c.args.at + d = λ d low e. elim lies [ inl below ↦ omega (arith, below, e) | inr above ↦ omega (arith, above, e, low, own.2.size) ] in
    c.split_header.ensures.touched k (λ e. apart 0 (omega arith) (omega (arith, e))) (apart 1 (omega (arith, c.requires.room))) (apart 2 (omega (arith, c.requires.room)))
    (apart c.args.size (omega (arith, c.requires.room))) (λ e. apart (c.args.size + 1) (omega (arith, c.requires.room)) (omega (arith, e))) (apart c.args.own.size (omega arith))
    ∙ ap (λ (r : RegionState). times r.touched k) c.self.view_is

pub returns-clause-groups : goal.returns-clause-groups
returns-clause-groups g c =
    let at = c.args.at in
    let place = at + c.args.size in
    let apart : (p n d k : ℕ) → d < n → (k < p) ⊎ (p + n ≤ k) → k ≢ p + d = λ p n d k low out e. elim out [ inl below ↦ omega (arith, below, e) | inr past ↦ omega (arith, past, e, low) ] in
    subst (λ (r : RegionState). InGroups 5 r.touched c.split_header.new.words.touched) c.self.view_is (rows_and_word at place 3 2 (at + c.args.own.size)
    (λ k own rest behind. c.split_header.ensures.touched k (λ e. apart at 3 0 k (omega arith) own (omega (arith, e))) (apart at 3 1 k (omega arith) own) (apart at 3 2 k (omega arith) own)
    (λ e. apart place 2 0 k (omega arith) rest (omega (arith, e))) (apart place 2 1 k (omega arith) rest) behind))
