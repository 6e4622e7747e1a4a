-- The one list is given up, and then one block fills the words that there are now.
use Rattle.tlsf_heap.proofs.Common.{ℕ, false, replicate, sym, ap, ◌∙◌, subst, arith, first_of, list_in, RegionState}
use Rattle.tlsf_class.proofs.TwoLevels.{words_any}
use Rattle.tlsf_words.proofs.Threads.{head-list_of}
use Rattle.tlsf_heap.specs.Regions.{IsAlone, region_of}
use Rattle.tlsf_heap.proofs.lemmas.words.Links.{list_in-lists_of}
use Rattle.tlsf_heap.proofs.region.Region.lengthen.Goals as goal

pub lengthen-requires : goal.lengthen-requires
lengthen-requires g c =
    let words = ap (λ (r : RegionState). r.words) c.self.view_is in
    record {
      least = omega (arith, c.requires.least, words);
      most = words_any g.row.SLI c.args.words c.requires.most;
      words_room = omega (arith, c.requires.words_room, ap (λ (r : RegionState). r.extents.words.capacity) c.self.view_is);
      starts_room = omega (arith, c.requires.starts_room, ap (λ (r : RegionState). r.extents.starts.capacity) c.self.view_is);
    }

-- a list without places begins nowhere
pub leave_least-requires : goal.leave_least-requires
leave_least-requires g c = (
  omega arith,
  (
    c.requires.level,
    λ class other.
        let lists = c.self.inside.lists in
        let words = c.self.inside.words.words in
        head-list_of lists.heads words class
        ∙ ap first_of (sym (list_in-lists_of lists.heads words class) ∙ ap (λ (r : RegionState). list_in r.lists class) c.self.view_is ∙ c.requires.others class other),
  ),
)

pub fill-requires : goal.fill-requires
fill-requires g c = (
  omega arith,
  (
    c.requires.level,
    (
      omega (arith, c.requires.most, c.lengthen.ensures.words),
      (c.lengthen.ensures.starts ∙ ap (λ (n : ℕ). replicate n false) (sym c.lengthen.ensures.words), (c.leave_least.ensures.empty, c.leave_least.ensures.threaded)),
    ),
  ),
)

pub invariant_of-self : goal.invariant_of-self
invariant_of-self g c = c.fill.ensures.holds

pub returns-clause-alone : goal.returns-clause-alone
returns-clause-alone g c = subst (λ (n : ℕ). IsAlone g.row.SLI n c.args.stamp (region_of c.fill.new.words c.fill.new.lists)) c.lengthen.ensures.words c.fill.ensures.alone

pub returns-clause-touches : goal.returns-clause-touches
returns-clause-touches g c = omega (arith, c.fill.ensures.touches, c.lengthen.ensures.touches, c.leave_least.ensures.touches)
