use Rattle.tlsf_heap.proofs.Common.{ap, ◌∙◌, subst, IsPlace, Shown}
use Rattle.tlsf_heap.proofs.lemmas.calls.Frames.{found_read}
use Rattle.tlsf_heap.proofs.heap.Heap.check_place.Goals as goal

pub returns-clause-frame : goal.returns-clause-frame
returns-clause-frame g c =
    found_read g.row.SLI c.self.inside c.self.view_is c.self.invariant _ c.live_at.ensures.reads c.live_at.ensures.touched c.live_at.ensures.groups

pub returns-in_default-clause-frame : goal.returns-in_default-clause-frame
returns-in_default-clause-frame g c =
    found_read g.row.SLI c.self.inside c.self.view_is c.self.invariant _ c.live_at.ensures.reads c.live_at.ensures.touched c.live_at.ensures.groups

pub returns-in_default-clause-unread : goal.returns-in_default-clause-unread
returns-in_default-clause-unread g c none = c.live_at.ensures.unread (λ place. none (subst (λ (s : Shown). IsPlace s.heap.blocks c.args.at) c.self.view_is place)) ∙ ap (λ (s : Shown). s.touched) c.self.view_is

pub returns-clause-unread : goal.returns-clause-unread
returns-clause-unread g c none = absurd (none (subst (λ (s : Shown). IsPlace s.heap.blocks c.args.at) c.self.view_is (c.in-Some.ensures.answer.0, c.in-Some.ensures.answer.1.stands)))
