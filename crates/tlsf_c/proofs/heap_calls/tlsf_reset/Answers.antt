use Rattle.tlsf_c.proofs.Common.{◌≡◌, sym, ap, ◌∙◌, refl, arith, HeapState, words_in_use, HeapCounts}
use Rattle.tlsf_heap.specs.Calls.{reset}
use Rattle.tlsf_heap.proofs.lemmas.calls.Outcomes.{by_reset}
use Rattle.tlsf_c.specs.Refusals.{status_of}
use Rattle.tlsf_c.proofs.heap_calls.tlsf_reset.Goals as goal

-- a reset that is accepted leaves no word in use
unused : (h : HeapState) → status_of (reset h).answer ≡ 0 → words_in_use (reset h).heap ≡ 0
unused h = by_reset (λ o. status_of o.answer ≡ 0 → words_in_use o.heap ≡ 0) h (λ late bad. absurd (omega (arith, bad))) (λ fresh ok. refl)

pub returns-clause-words : goal.returns-clause-words
returns-clause-words c serves zero =
    let e = c.reset.ensures in
    ap (λ (t : HeapCounts). t.words) e.goes_on.counts ∙ ap words_in_use e.resets.heap ∙ unused _ (sym (ap status_of e.resets.answer_is) ∙ sym c.status-answer.ensures ∙ zero)
