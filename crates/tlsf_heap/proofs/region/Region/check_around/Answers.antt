use Rattle.tlsf_heap.proofs.Common.{ap, ◌∙◌, times, RegionState}
use Rattle.tlsf_heap.proofs.lemmas.words.Says.{shows_state, holds_read}
use Rattle.tlsf_heap.proofs.lemmas.words.Undamaged.{headers_leave}
use Rattle.tlsf_heap.proofs.region.Region.check_around.Goals as goal

pub invariant_of-self : goal.invariant_of-self
invariant_of-self g c = holds_read g.row.SLI c.check_around.ensures.looks.words c.check_around.ensures.looks.starts c.self.invariant

pub returns-clause-touched : goal.returns-clause-touched
returns-clause-touched g c k live =
    headers_leave (shows_state g.row.SLI c.self.invariant c.self.view_is) c.self.inside.words.touched c.check_around.new.words.touched c.check_around.ensures.touched k live
    ∙ ap (λ (r : RegionState). times r.touched k) c.self.view_is
