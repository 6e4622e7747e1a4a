-- The reply lines of entries.
use Rattle.std.specs.Prelude.{ℕ, List, [], ◌∷◌, ◌++◌, Bool, true, false, if◌then◌else◌, codes, drop, slice_index_or, Option, Some, None, Result, Ok, Err}
use Rattle.std.specs.Fmt.{decimal}
use Rattle.hex.specs.Hex.{encode_lower}
use Rattle.tlsf_heap.specs.Numbers as heap
use Rattle.tlsf_heap.specs.declared.name.Name.{Name}
use Rattle.tlsf_heap.specs.declared.refusal.Refusal.{Refusal}
use Rattle.tlsf_calls.specs.Bytes.{bytes_of}
use Rattle.tlsf_calls.specs.Numbers as crew
use Rattle.tlsf_calls.specs.declared.call.Call.{Call}
use Rattle.tlsf_calls.specs.declared.call.Call.TheVariants.{Allocate, Release, Write, Read, Resize, Take, Drain}
use Rattle.tlsf_calls.specs.declared.reply.Reply.{Reply}
use Rattle.tlsf_calls.specs.declared.reply.Reply.TheVariants.{Made, Freed, Posted, Wrote, Got, Resized, Took, Empty, Drained, Refused}
use Rattle.tlsf_calls.specs.declared.entry.Entry.{Entry}

-- the keyword of a call, as a line has it
abbrev pub call_part : Call → List ℕ
call_part (Allocate len) = codes " a"
call_part (Release target) = codes " f"
call_part (Write target at bytes) = codes " p"
call_part (Read target at n) = codes " g"
call_part (Resize target len) = codes " r"
call_part (Take from) = codes " take " ++ decimal from
call_part (Drain most) = codes " d"

-- the label, where the call has one
abbrev pub label_part : Option ℕ → List ℕ
label_part None = []
label_part (Some label) = codes " " ++ decimal label

-- the place and the serial of a block
abbrev pub place_part : Name → List ℕ
place_part name = codes " at " ++ decimal name.at ++ codes " serial " ++ decimal name.serial

-- what became of a block whose post was taken
abbrev pub release_part : Result (Unit {0}) Refusal → List ℕ
release_part (Ok done) = codes " freed"
release_part (Err why) = codes " refused " ++ decimal (heap.number_of why)

-- what the worker was answered
abbrev pub answer_part : Reply → List ℕ
answer_part (Made name) = place_part name
answer_part Freed = codes " freed"
answer_part Posted = codes " posted"
answer_part (Wrote n) = codes " wrote " ++ decimal n
answer_part (Got bytes) = codes " got " ++ encode_lower (bytes_of bytes)
answer_part Resized = codes " resized"
answer_part (Took t) = place_part t.name ++ release_part t.answer
answer_part Empty = codes " empty"
answer_part (Drained n) = codes " drained " ++ decimal n
answer_part (Refused why) = codes " refused " ++ decimal (crew.number_of why)

-- w a L, w f L, w p L, w g L, w r L, w take I or w d, and then the answer
abbrev pub reply_line : Entry → Option ℕ → List ℕ
reply_line entry label = decimal entry.worker ++ call_part entry.call ++ label_part label ++ answer_part entry.reply ++ codes "\n"

-- a post that a drain takes has no event, and so no label
abbrev pub is_taken : Call → Bool
is_taken (Take from) = true
is_taken _ = false

-- the lines of entries, with the labels of the events
abbrev pub reply_text : List Entry → List (Option ℕ) → List ℕ
reply_text [] labels = []
reply_text (entry ∷ entries) labels =
    if is_taken entry.call
    then reply_line entry None ++ reply_text entries labels
    else reply_line entry (slice_index_or labels 0 None) ++ reply_text entries (drop 1 labels)

-- the labels that entries leave to those after them
abbrev pub labels_left : List Entry → List (Option ℕ) → List (Option ℕ)
labels_left [] labels = labels
labels_left (entry ∷ entries) labels =
    if is_taken entry.call
    then labels_left entries labels
    else labels_left entries (drop 1 labels)
