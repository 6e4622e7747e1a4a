-- All blocks and lists are given up, and then one block fills the region.
use Rattle.tlsf_heap.proofs.Common.{ℕ, false, List, length, replicate, sym, ap, ◌∙◌, subst, arith, RegionState, times}
use Rattle.tlsf_heap.specs.Regions.{IsAlone, region_of}
use Rattle.tlsf_heap.proofs.region.Region.reset.Given.{Over}
use Rattle.tlsf_heap.proofs.region.Region.reset.Goals as goal
use Rattle.tlsf_heap.proofs.region.Region.reset.Goals.{After-fill}

pub fill-requires : goal.fill-requires
fill-requires g c = (
  omega arith,
  (
    c.requires.level,
    (
      omega (arith, c.requires.most, ap (length {A = ℕ}) c.clear_starts.ensures.writes.words, ap (λ (r : RegionState). r.words) c.self.view_is),
      (
        c.clear_starts.ensures.writes.starts ∙ ap (λ (l : List ℕ). replicate (length l) false) (sym c.clear_starts.ensures.writes.words),
        (c.clear.ensures.empty, c.clear.ensures.threaded),
      ),
    ),
  ),
)

-- as many words as before
alone : (g : Over) (c : After-fill g) → IsAlone g.row.SLI c.args.self.now.words c.args.stamp (region_of c.fill.new.words c.fill.new.lists)
alone g c =
    let words = ap (length {A = ℕ}) c.clear_starts.ensures.writes.words ∙ ap (λ (r : RegionState). r.words) c.self.view_is in
    subst (λ (n : ℕ). IsAlone g.row.SLI n c.args.stamp (region_of c.fill.new.words c.fill.new.lists)) words c.fill.ensures.alone

pub invariant_of-self : goal.invariant_of-self
invariant_of-self g c = c.fill.ensures.holds

pub returns-clause-alone : goal.returns-clause-alone
returns-clause-alone g c = alone g c

pub returns-clause-edits : goal.returns-clause-edits
returns-clause-edits g c =
    let touches = ap (λ (r : RegionState). r.touches) c.self.view_is in
    let words = ap (λ (r : RegionState). r.words) c.self.view_is in
    record {
      words = (alone g c).words;
      shows = (alone g c).shows;
      linked = (alone g c).linked;
      bits = (alone g c).bits;
      stays = c.fill.ensures.stays ∙ c.clear_starts.ensures.writes.stays ∙ ap (λ (r : RegionState). r.extents) c.self.view_is;
      touches = omega (arith, c.fill.ensures.touches, c.clear.ensures.touches, c.clear_starts.ensures.writes.touches, touches, words);
      rise = omega (arith, c.fill.ensures.rise, c.clear.ensures.touches, c.clear_starts.ensures.writes.touches, touches);
    }

pub returns-clause-touched : goal.returns-clause-touched
returns-clause-touched g c k past = c.fill.ensures.touched k past ∙ ap (λ (l : List ℕ). times l k) c.clear_starts.ensures.writes.touched ∙ ap (λ (r : RegionState). times r.touched k) c.self.view_is
