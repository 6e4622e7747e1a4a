-- Report lines of heaps, one heap after another.
use Rattle.tlsf_trace.proofs.Common.{◌≡◌, ℕ, ◌+◌, ◌<◌, List, ◌∷◌, ◌++◌, length, get_or, drop, sym, ap, ◌∙◌, append_assoc, at_drop_more, HeapState, report_line, report_text_from}
use Rattle.tlsf_heap.specs.Reports.{report_of}

-- the line of this heap, and then those of the heaps after it
pub goes_on : (sli : ℕ) (text whole : List ℕ) (heaps : List HeapState) (i : ℕ) (d heap : HeapState) → i < length heaps → get_or heaps i d ≡ heap
    → text ++ report_text_from sli i (drop i heaps) ≡ whole
    → (text ++ report_line i (report_of sli heap)) ++ report_text_from sli (i + 1) (drop (i + 1) heaps) ≡ whole
goes_on sli text whole heaps i d heap lt is so_far =
    append_assoc text (report_line i (report_of sli heap)) _
    ∙ (ap (λ (h : HeapState). text ++ report_text_from sli i (h ∷ drop (i + 1) heaps)) (sym is)
    ∙ (sym (at_drop_more (λ (l : List HeapState). text ++ report_text_from sli i l) heaps i d lt) ∙ so_far))
