use Rattle.tlsf_heap.proofs.Common.{ℕ, List, sym, ap, ◌∙◌, slice_get}
use Rattle.tlsf_heap.proofs.lemmas.words.Says.{lists_read}
use Rattle.tlsf_heap.proofs.lemmas.words.Links.{holds_state}
use Rattle.tlsf_heap.proofs.region.Region.head.Goals as goal

pub returns-clause-place : goal.returns-clause-place
returns-clause-place g c =
    let state = holds_state g.row.SLI c.self.invariant c.self.view_is in
    c.first.ensures.place c.self.inside.words.words state.threaded ∙ ap (λ (places : List ℕ). slice_get places 0) (sym (state.lists c.args.class))

pub invariant_of-self : goal.invariant_of-self
invariant_of-self g c = lists_read g.row.SLI c.first.ensures.heads c.first.ensures.members c.self.invariant
