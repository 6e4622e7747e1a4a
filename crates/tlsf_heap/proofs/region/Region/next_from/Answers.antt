use Rattle.tlsf_heap.proofs.Common.{ℕ, List, not, eqb, length, sym, ap, ◌∙◌, filter_agree, classes, list_of, list_in}
use Rattle.tlsf_class.specs.Members.{next_member}
use Rattle.tlsf_heap.proofs.lemmas.words.Says.{lists_read}
use Rattle.tlsf_heap.proofs.lemmas.words.Links.{holds_state}
use Rattle.tlsf_heap.proofs.region.Region.next_from.Goals as goal

-- the classes whose bits are set are those whose lists aren't empty
pub returns-clause-least : goal.returns-clause-least
returns-clause-least g c =
    let state = holds_state g.row.SLI c.self.invariant c.self.view_is in
    c.next_from.ensures.least
    ∙ ap (λ (members : List ℕ). next_member members c.args.class)
    (state.threaded.marked
    ∙ filter_agree (λ class. not (eqb (length (list_of c.self.inside.lists.heads c.self.inside.words.words class)) 0)) (λ class. not (eqb (length (list_in c.args.self.now.lists class)) 0))
    (λ class. ap (λ (places : List ℕ). not (eqb (length places) 0)) (sym (state.lists class))) (classes g.row.SLI))

pub invariant_of-self : goal.invariant_of-self
invariant_of-self g c = lists_read g.row.SLI c.next_from.ensures.heads c.next_from.ensures.members c.self.invariant
