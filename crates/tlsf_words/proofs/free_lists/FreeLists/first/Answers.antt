use Rattle.tlsf_words.proofs.Common.{◌≡◌, ◌≢◌, ℕ, List, [], ◌∷◌, Some, sym, ap, ◌∙◌, get_or, slice_get, ListHeads, nowhere, list_of, first_of}
use Rattle.tlsf_words.proofs.Threads.{head-list_of, list_of-nowhere}
use Rattle.tlsf_words.proofs.free_lists.FreeLists.first.Goals as goal
use Rattle.tlsf_words.proofs.free_lists.FreeLists.first.Goals.{then-at, else-at}

-- what places begin with, where that is a place
first_got : (places : List ℕ) (at : ℕ) → at ≡ first_of places → at ≢ nowhere → slice_get places 0 ≡ Some at
first_got [] at e some = absurd (some e)
first_got (p ∷ places) at e some = ap Some (sym e)

pub returns-clause-place : goal.returns-clause-place
returns-clause-place g c = λ words t.
    let head : c.place-at.result ≡ get_or c.args.self.now.heads c.args.class nowhere = c.place-at.ensures.value ∙ ap (λ (f : ListHeads). get_or f.heads c.args.class nowhere) c.self.view_is in
    elim c.if-at.branch [
      | then-at w ↦ w.result-is ∙ ap (λ (ps : List ℕ). slice_get ps 0) (sym (list_of-nowhere c.args.self.now.heads words c.args.class (sym head ∙ w.if-at.true)))
      | else-at w ↦ w.result-is ∙ sym (first_got (list_of c.args.self.now.heads words c.args.class) c.place-at.result (head ∙ head-list_of c.args.self.now.heads words c.args.class) w.if-at.false)
    ]
