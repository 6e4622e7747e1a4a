-- The points of a heap: how it stands after each line of its trace.
use Rattle.std.specs.Prelude.{ℕ, ◌+◌, ◌-◌, ◌^◌, Bool, false, ◌==◌, ◌&&◌, ◌||◌, nat_lt, not, is_ok, max, min, List, ◌∷◌, length, map, drop, slice_index, count_by, fold, Option, Some, None, if◌then◌else◌}
use Rattle.std.specs.List.{range_with_len}
use Rattle.tlsf_calls.specs.declared.entry.Entry.{Entry}
use Rattle.tlsf_calls.specs.declared.reply.Reply.{Reply}
use Rattle.tlsf_calls.specs.declared.reply.Reply.TheVariants.{Took, Refused}
use Rattle.tlsf_crew.specs.model.World.{heap_in}
use Rattle.tlsf_heap.specs.Blocks.{want}
use Rattle.tlsf_heap.specs.Reports.{report_of}
use Rattle.tlsf_heap.specs.declared.report.Report.{Report}
use Rattle.tlsf_lines.specs.Lines.{request_in}
use Rattle.tlsf_lines.specs.Trace.{Trace}
use Rattle.tlsf_lines.specs.declared.line.Line.{Line}
use Rattle.tlsf_lines.specs.declared.request.Request.{Request}
use Rattle.tlsf_picture.specs.declared.plots.point.Point.{Point}
use Rattle.tlsf_trace.specs.Moments.{moment_at}

-- ---- a line

-- whether a call was refused: a post that was taken, by what the heap answered to its release
abbrev pub is_refused : Reply → Bool
is_refused (Took took) = not (is_ok took.answer)
is_refused (Refused why) = not false
is_refused reply = false

-- whether it is a call of this worker, and was refused
abbrev pub is_refused_of : ℕ → Entry → Bool
is_refused_of worker entry = entry.worker == worker && is_refused entry.reply

-- whether these entries tell that a call of this worker was refused
abbrev pub has_refusal : ℕ → List Entry → Bool
has_refusal worker entries = nat_lt 0 (count_by (is_refused_of worker) entries)

-- the bytes of a request, none where it isn't this worker's
abbrev pub request_of : ℕ → Option Request → Option ℕ
request_of worker None = None
request_of worker (Some request) = if request.worker == worker then Some request.len else None

-- the bytes that this worker asks for by a line, none where it asks for no block
abbrev pub request_by : ℕ → Line → Option ℕ
request_by worker line = request_of worker (request_in line)

-- these bytes, 0 for none
abbrev pub bytes_asked : Option ℕ → ℕ
bytes_asked None = 0
bytes_asked (Some len) = len

abbrev pub bytes_by : ℕ → Line → ℕ
bytes_by worker line = bytes_asked (request_by worker line)

-- the words that they want, 0 for none
abbrev pub words_asked : Option ℕ → ℕ
words_asked None = 0
words_asked (Some len) = want len

abbrev pub words_by : ℕ → Line → ℕ
words_by worker line = words_asked (request_by worker line)

-- the words that this worker asks for by the line of a number. It goes by the request of each line after the header, whose number
-- is 0
abbrev pub asked_in : ℕ → List (Option Request) → ℕ → ℕ
asked_in worker requests number = slice_index (0 ∷ map (λ request. words_asked (request_of worker request)) requests) number

-- the bytes of the longest request of this worker among some lines
abbrev pub longest_of : ℕ → List Line → ℕ
longest_of worker lines = fold max 0 (map (bytes_by worker) lines)

-- the bytes of the longest of some requests that is of this worker
abbrev pub longest_among : ℕ → List (Option Request) → ℕ
longest_among worker requests = fold max 0 (map (λ request. bytes_asked (request_of worker request)) requests)

-- ---- a point

-- the numbers of a report, after a line that asks for this many words
abbrev pub point_of : Report → ℕ → Bool → Point
point_of report asked refused = record {
  live = report.live_words;
  free = report.free_words;
  largest = report.largest;
  grant = report.grant;
  fragmentation = report.fragmentation;
  asked = asked;
  refused = refused;
}

-- the answers to the events of a line of the text, whose header is line 1. After the last line come the drains at the end
abbrev pub told_at : ℕ → ℕ → Trace → List Entry
told_at sli line trace = drop (length (moment_at sli (line - 1) trace).entries) (moment_at sli line trace).entries

-- the words that worker j asks for by a line of the text
abbrev pub asked_at : ℕ → ℕ → Trace → ℕ
asked_at j line trace = slice_index (0 ∷ map (words_by j) trace.lines) (line - 1)

-- the point of heap j after a line: the report on the heap as it stands then, at a level
abbrev pub point_at : ℕ → Trace → ℕ → ℕ → Point
point_at sli trace j line =
    point_of (report_of sli (heap_in (moment_at sli line trace).world j)) (asked_at j line trace) (has_refusal j (told_at sli line trace))

-- after each line of the text, and after the end, which counts as one line more
abbrev pub points_of : ℕ → Trace → ℕ → List Point
points_of sli trace j = map (point_at sli trace j) (range_with_len 1 (length trace.lines + 2))

-- ---- the worst of some

-- a heap of this many words in which all is free: no point is better
abbrev pub untouched : ℕ → Point
untouched words = record { live = 0; free = words; largest = words; grant = 2 ^ 32 - 1; fragmentation = 0; asked = 0; refused = false }

-- the worse of two in each number: most live words, fewest free, the smallest of the greatest free blocks, and most fragmentation.
-- Also most words asked for, and whether a call was refused
abbrev pub worse : Point → Point → Point
worse a b = record {
  live = max a.live b.live;
  free = min a.free b.free;
  largest = min a.largest b.largest;
  grant = min a.grant b.grant;
  fragmentation = max a.fragmentation b.fragmentation;
  asked = max a.asked b.asked;
  refused = a.refused || b.refused;
}

-- whether a request of this many bytes finds no room here
abbrev pub lacks : ℕ → Point → Bool
lacks len point = point.free == 0 || nat_lt point.grant len
