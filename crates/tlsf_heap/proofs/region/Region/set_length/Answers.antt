use Rattle.tlsf_heap.proofs.Common.{◌≡◌, ◌≢◌, ◌+◌, ◌<◌, List, ℕ, length, get_or, ap, ◌∙◌, subst, arith, refl, length-set, get_or-set_other, get_or-set_same, length_word, OnlyFrom, RegionState, image_of, times, InGroups}
use Rattle.tlsf_heap.proofs.lemmas.words.NewLength.{SetsLength, length_leaves, length_relists}
use Rattle.tlsf_heap.proofs.lemmas.words.Links.{linked_lists, marked_lists, Relists, holds_state}
use Rattle.tlsf_heap.proofs.lemmas.words.Says.{shows_state, says_here}
use Rattle.tlsf_heap.proofs.lemmas.blocks.Stands.{behind_one}
use Rattle.tlsf_heap.proofs.lemmas.words.Footprint.{reads_header}
use Rattle.tlsf_words.proofs.Touching.{one_touch}
use Rattle.tlsf_heap.proofs.region.Region.set_length.Given.{Over}
use Rattle.tlsf_heap.proofs.region.Region.set_length.Goals as goal

pub set_length-requires : goal.set_length-requires
set_length-requires g c = let says = says_here (shows_state g.row.SLI c.self.invariant c.self.view_is) c.requires.1 in omega (arith, says.least, says.ends)

sets : (g : Over) (c : goal.After-set_length g) → SetsLength (image_of c.self.inside.words) (image_of c.set_length.new.self) c.args.at c.args.len
sets g c =
    let says = says_here (shows_state g.row.SLI c.self.invariant c.self.view_is) c.requires.1 in
    let new = c.set_length.ensures in
    let old = c.self.inside.words.words in
    let place = c.args.at + 2 in
    let word = length_word c.args.len in
    let inside : place < length old = omega (arith, says.least, says.ends) in
    let other : (k : ℕ) → k ≢ place → get_or c.set_length.new.self.words k 0 ≡ get_or old k 0 = λ k ne. ap (λ (ws : List ℕ). get_or ws k 0) new.writes.words ∙ get_or-set_other old place k word 0 ne in
    record {
      length = ap (λ (ws : List ℕ). get_or ws place 0) new.writes.words ∙ get_or-set_same old place word 0 inside;
      only = record {
        before = λ k h. other k (λ e. omega (arith, h, e));
        behind = λ k h. other k (λ e. omega (arith, h, e));
        length = ap length new.writes.words ∙ length-set old place word;
      };
      starts = new.writes.starts;
    }

relists : (g : Over) (c : goal.After-set_length g) → Relists g.row.SLI (image_of c.set_length.new.self) c.self.inside.lists c.args.self.now.lists
relists g c = length_relists g.row.SLI (holds_state g.row.SLI c.self.invariant c.self.view_is) c.requires (sets g c)

pub invariant_of-self : goal.invariant_of-self
invariant_of-self g c = (relists g c).holds

pub returns-clause-change : goal.returns-clause-change
returns-clause-change g c i stands =
    let new = c.set_length.ensures in
    let only = (sets g c).only in
    let left = length_leaves (shows_state g.row.SLI c.self.invariant c.self.view_is) c.requires (sets g c) in
    let touches = ap (λ (r : RegionState). r.touches) c.self.view_is in
    let words = ap (λ (r : RegionState). r.words) c.self.view_is in
    record {
      blocks = left.blocks i stands ∙ behind_one i _ c.args.self.now.blocks;
      lists = (relists g c).same;
      edits = record { words = only.length ∙ words; shows = (relists g c).holds.shows; linked = linked_lists g.row.SLI _ _ (relists g c).holds; bits = marked_lists g.row.SLI _ _ (relists g c).holds; stays = c.set_length.ensures.writes.stays ∙ ap (λ (r : RegionState). r.extents) c.self.view_is; touches = omega (arith, new.writes.touches, touches); rise = omega (arith, new.writes.touches, touches) };
    }

pub returns-clause-only : goal.returns-clause-only
returns-clause-only g c = subst (λ (r : RegionState). OnlyFrom r.stored.words c.set_length.new.self.words (c.args.at + 2) (c.args.at + 3)) c.self.view_is (sets g c).only

pub returns-clause-touched : goal.returns-clause-touched
returns-clause-touched g c k live =
    reads_header (shows_state g.row.SLI c.self.invariant c.self.view_is) c.requires.1 2 (c.args.at + 2) (omega arith) refl c.self.inside.words.touched c.set_length.new.self.touched c.set_length.ensures.writes.touched k live
    ∙ ap (λ (r : RegionState). times r.touched k) c.self.view_is

pub returns-clause-groups : goal.returns-clause-groups
returns-clause-groups g c = subst (λ (r : RegionState). InGroups 1 r.touched c.set_length.new.self.touched) c.self.view_is (one_touch (c.args.at + 2) c.set_length.ensures.writes.touched)
