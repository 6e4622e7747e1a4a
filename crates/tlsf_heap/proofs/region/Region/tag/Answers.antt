use Rattle.tlsf_heap.proofs.Common.{ℕ, List, refl, ap, ◌∙◌, arith, subst, RegionState, times, InGroups}
use Rattle.tlsf_heap.proofs.lemmas.words.Says.{shows_state, holds_read, in_region, says_here}
use Rattle.tlsf_heap.proofs.lemmas.words.Footprint.{reads_header}
use Rattle.tlsf_words.proofs.Touching.{one_touch, times_other}
use Rattle.tlsf_heap.proofs.region.Region.tag.Goals as goal

pub tag-requires : goal.tag-requires
tag-requires g c = omega (arith, in_region (shows_state g.row.SLI c.self.invariant c.self.view_is) c.requires)

pub invariant_of-self : goal.invariant_of-self
invariant_of-self g c = holds_read g.row.SLI c.tag.ensures.reads.words c.tag.ensures.reads.starts c.self.invariant

pub returns-clause-value : goal.returns-clause-value
returns-clause-value g c i stands =
    let says = says_here (shows_state g.row.SLI c.self.invariant c.self.view_is) stands in
    let tag = c.tag.ensures in
    record {
      size = tag.size ∙ says.size;
      free = tag.free ∙ says.free;
      last = tag.last ∙ says.last ∙ rw (stands.place, ap (λ (r : RegionState). r.words) c.self.view_is) refl;
      back = tag.back ∙ says.before;
    }

pub returns-clause-touched : goal.returns-clause-touched
returns-clause-touched g c k live =
    reads_header (shows_state g.row.SLI c.self.invariant c.self.view_is) c.requires.1 0 c.args.at (omega arith) (omega arith) c.self.inside.words.touched c.tag.new.self.touched c.tag.ensures.reads.touched k live
    ∙ ap (λ (r : RegionState). times r.touched k) c.self.view_is

pub returns-clause-groups : goal.returns-clause-groups
returns-clause-groups g c = subst (λ (r : RegionState). InGroups 1 r.touched c.tag.new.self.touched) c.self.view_is (one_touch c.args.at c.tag.ensures.reads.touched)

pub returns-clause-only : goal.returns-clause-only
returns-clause-only g c k tag serial =
    ap (λ (l : List ℕ). times l k) c.tag.ensures.reads.touched ∙ times_other c.args.at k c.self.inside.words.touched tag ∙ ap (λ (r : RegionState). times r.touched k) c.self.view_is
