-- The points of a heap, one line after another.
use Rattle.tlsf_picture.proofs.Common.{◌≡◌, ℕ, suc, ◌+◌, ◌-◌, List, [], ◌∷◌, ◌++◌, Option, None, length, map, drop, refl, sym, ap, ◌∙◌, arith, slice_index, slice_index_or, report_of, heap_in, Trace, asked_at, asked_in, has_refusal, point_at, point_of, request_of, told_at, words_asked, words_by, Point}
use Rattle.std.proofs.Math.ListN.{get_or-map}
use Rattle.std.proofs.Math.Seq.{drop-append_seam}
use Rattle.tlsf_calls.specs.declared.entry.Entry.{Entry}
use Rattle.tlsf_heap.specs.declared.report.Report.{Report}
use Rattle.tlsf_lines.specs.Lines.{request_in}
use Rattle.tlsf_lines.specs.declared.line.Line.{Line}
use Rattle.tlsf_lines.specs.declared.request.Request.{Request}
use Rattle.tlsf_trace.specs.Moments.{moment_at}

-- what is made of the requests of lines is what is made of the lines
pub of_lines : (f : Option Request → ℕ) (lines : List Line) → map f (map request_in lines) ≡ map (λ line. f (request_in line)) lines
of_lines f [] = refl
of_lines f (line ∷ lines) = ap (λ (ns : List ℕ). f (request_in line) ∷ ns) (of_lines f lines)

-- the words that the request of a line asks for
pub asked_is : (worker : ℕ) (requests : List (Option Request)) (i number : ℕ) (request : Option Request) → number ≡ suc i → request ≡ slice_index_or requests i None
    → words_asked (request_of worker request) ≡ asked_in worker requests number
asked_is worker requests i number request is found = rw (is, found) (sym (get_or-map (λ r. words_asked (request_of worker r)) requests i None))

-- what was answered by a line, where these entries came after those before
told_is : (sli number : ℕ) (trace : Trace) (entries : List Entry) → (moment_at sli (number + 1) trace).entries ≡ (moment_at sli number trace).entries ++ entries
    → entries ≡ told_at sli (number + 1) trace
told_is sli number trace entries told =
    let back : number + 1 - 1 ≡ number = omega arith in
    let before = (moment_at sli number trace).entries in
    sym (ap (λ (k : ℕ). drop (length (moment_at sli k trace).entries) (moment_at sli (number + 1) trace).entries) back
    ∙ (ap (λ (es : List Entry). drop (length before) es) told ∙ drop-append_seam before entries))

-- the point after a line
pub point_is : (sli j number asked : ℕ) (trace : Trace) (requests : List (Option Request)) (entries : List Entry) (report : Report) (point : Point)
    → (moment_at sli (number + 1) trace).entries ≡ (moment_at sli number trace).entries ++ entries → requests ≡ map request_in trace.lines → asked ≡ asked_in j requests number
    → report ≡ report_of sli (heap_in (moment_at sli (number + 1) trace).world j) → point ≡ point_of report asked (has_refusal j entries)
    → point ≡ point_at sli trace j (number + 1)
point_is sli j number asked trace requests entries report point told requests_are asked_is report_is is =
    let back : number + 1 - 1 ≡ number = omega arith in
    let lines : asked ≡ asked_at j (number + 1) trace =
    asked_is ∙ (ap (λ (rs : List (Option Request)). asked_in j rs number) requests_are
    ∙ (ap (λ (ns : List ℕ). slice_index (0 ∷ ns) number) (of_lines (λ request. words_asked (request_of j request)) trace.lines)
    ∙ sym (ap (λ (k : ℕ). slice_index (0 ∷ map (words_by j) trace.lines) k) back))) in
    is ∙ (ap (λ (r : Report). point_of r asked (has_refusal j entries)) report_is
    ∙ (ap (λ (n : ℕ). point_of (report_of sli (heap_in (moment_at sli (number + 1) trace).world j)) n (has_refusal j entries)) lines
    ∙ ap (λ (es : List Entry). point_of (report_of sli (heap_in (moment_at sli (number + 1) trace).world j)) (asked_at j (number + 1) trace) (has_refusal j es)) (told_is sli number trace entries told)))
