use Rattle.tlsf_heap.proofs.Common.{◌∙◌, arith, ◌+◌, refl, ap, subst, times, RegionState, InGroups}
use Rattle.tlsf_heap.proofs.lemmas.words.Says.{shows_state, holds_read, in_region}
use Rattle.tlsf_heap.proofs.lemmas.words.Bytes.{length_read}
use Rattle.tlsf_heap.proofs.lemmas.words.Footprint.{reads_header}
use Rattle.tlsf_words.proofs.Touching.{one_touch}
use Rattle.tlsf_heap.proofs.region.Region.length.Goals as goal

pub length-requires : goal.length-requires
length-requires g c = omega (arith, in_region (shows_state g.row.SLI c.self.invariant c.self.view_is) (c.requires.0, c.requires.1))

pub invariant_of-self : goal.invariant_of-self
invariant_of-self g c = holds_read g.row.SLI c.length.ensures.reads.words c.length.ensures.reads.starts c.self.invariant

pub returns-clause-value : goal.returns-clause-value
returns-clause-value g c i stands = c.length.ensures.value ∙ length_read (shows_state g.row.SLI c.self.invariant c.self.view_is) stands c.requires

pub returns-clause-touched : goal.returns-clause-touched
returns-clause-touched g c k live =
    reads_header (shows_state g.row.SLI c.self.invariant c.self.view_is) c.requires.1 2 (c.args.at + 2) (omega arith) refl c.self.inside.words.touched c.length.new.self.touched c.length.ensures.reads.touched k live
    ∙ ap (λ (r : RegionState). times r.touched k) c.self.view_is

pub returns-clause-groups : goal.returns-clause-groups
returns-clause-groups g c = subst (λ (r : RegionState). InGroups 1 r.touched c.length.new.self.touched) c.self.view_is (one_touch (c.args.at + 2) c.length.ensures.reads.touched)
