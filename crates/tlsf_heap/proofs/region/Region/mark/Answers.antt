use Rattle.tlsf_heap.proofs.Common.{ℕ, List, ◌∙◌, arith, ◌+◌, refl, ap, subst, times, InGroups, RegionState}
use Rattle.tlsf_heap.proofs.lemmas.words.Says.{shows_state, holds_read, in_region, says_here}
use Rattle.tlsf_heap.proofs.lemmas.words.Footprint.{reads_header}
use Rattle.tlsf_words.proofs.Touching.{one_touch, times_other}
use Rattle.tlsf_heap.proofs.region.Region.mark.Goals as goal

pub mark-requires : goal.mark-requires
mark-requires g c = omega (arith, in_region (shows_state g.row.SLI c.self.invariant c.self.view_is) c.requires)

pub invariant_of-self : goal.invariant_of-self
invariant_of-self g c = holds_read g.row.SLI c.mark.ensures.reads.words c.mark.ensures.reads.starts c.self.invariant

pub returns-clause-value : goal.returns-clause-value
returns-clause-value g c i stands = c.mark.ensures.value ∙ (says_here (shows_state g.row.SLI c.self.invariant c.self.view_is) stands).mark

pub returns-clause-touched : goal.returns-clause-touched
returns-clause-touched g c k live =
    reads_header (shows_state g.row.SLI c.self.invariant c.self.view_is) c.requires.1 1 (c.args.at + 1) (omega arith) refl c.self.inside.words.touched c.mark.new.self.touched c.mark.ensures.reads.touched k live
    ∙ ap (λ (r : RegionState). times r.touched k) c.self.view_is

pub returns-clause-groups : goal.returns-clause-groups
returns-clause-groups g c = subst (λ (r : RegionState). InGroups 1 r.touched c.mark.new.self.touched) c.self.view_is (one_touch (c.args.at + 1) c.mark.ensures.reads.touched)

pub returns-clause-only : goal.returns-clause-only
returns-clause-only g c k tag serial =
    ap (λ (l : List ℕ). times l k) c.mark.ensures.reads.touched ∙ times_other (c.args.at + 1) k c.self.inside.words.touched serial ∙ ap (λ (r : RegionState). times r.touched k) c.self.view_is
