-- The report lines of heaps.
use Rattle.std.specs.Prelude.{ℕ, ◌+◌, List, [], ◌∷◌, ◌++◌, codes}
use Rattle.std.specs.Fmt.{decimal}
use Rattle.tlsf_heap.specs.Blocks.{HeapState}
use Rattle.tlsf_heap.specs.Reports.{report_of}
use Rattle.tlsf_heap.specs.declared.report.Report.{Report}

-- the live blocks, words and bytes of a heap, and its free blocks and words. Then come the greatest free block, the greatest request
-- that is served, and how far the free words are scattered. Last come the words that no payload fills, and how long words are free.
-- The line is `heap H live B W Y free B W largest M grant G fragmentation Q waste Z age T`
abbrev pub report_line : ℕ → Report → List ℕ
report_line heap report =
    codes "heap " ++ (decimal heap
    ++ (codes " live " ++ (decimal report.live_blocks ++ (codes " " ++ (decimal report.live_words ++ (codes " " ++ (decimal report.live_bytes
    ++ (codes " free " ++ (decimal report.free_blocks ++ (codes " " ++ (decimal report.free_words
    ++ (codes " largest " ++ (decimal report.largest ++ (codes " grant " ++ (decimal report.grant
    ++ (codes " fragmentation " ++ (decimal report.fragmentation
    ++ (codes " waste " ++ (decimal report.waste ++ (codes " age " ++ (decimal report.age ++ codes "\n")))))))))))))))))))))

-- the lines of heaps of a level, from this number on
abbrev pub report_text_from : ℕ → ℕ → List HeapState → List ℕ
report_text_from sli number [] = []
report_text_from sli number (heap ∷ heaps) = report_line number (report_of sli heap) ++ report_text_from sli (number + 1) heaps

abbrev pub report_text : ℕ → List HeapState → List ℕ
report_text sli heaps = report_text_from sli 0 heaps
