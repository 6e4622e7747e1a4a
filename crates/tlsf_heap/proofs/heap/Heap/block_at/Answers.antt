use Rattle.tlsf_heap.proofs.Common.{ap, ◌∙◌, subst, IsPlace, Shown}
use Rattle.tlsf_heap.proofs.lemmas.calls.Frames.{nothing_read}
use Rattle.tlsf_heap.proofs.heap.Heap.block_at.Goals as goal

pub returns-clause-frame : goal.returns-clause-frame
returns-clause-frame g c = nothing_read g.row.SLI c.self.inside c.self.view_is c.self.invariant _ c.block_at.ensures.reads

pub returns-clause-unread : goal.returns-clause-unread
returns-clause-unread g c none = c.block_at.ensures.unread (λ place. none (subst (λ (s : Shown). IsPlace s.heap.blocks c.args.at) c.self.view_is place)) ∙ ap (λ (s : Shown). s.touched) c.self.view_is
