-- The lines of the records of a phase that was raced.
use Rattle.std.specs.Prelude.{zero, suc, ℕ, List, [], ◌++◌, map}
use Rattle.tlsf_calls.specs.Entries.{record_of}
use Rattle.tlsf_calls.specs.declared.entry.Entry.{Entry}
use Rattle.tlsf_lines.specs.declared.line.Line.{Line}
use Rattle.tlsf_lines.specs.Lines.{label_in}
use Rattle.tlsf_lines.specs.Phases.{own_lines}
use Rattle.tlsf_lines.specs.ReplyLines.{reply_text}

-- the lines of worker w's record of a phase
abbrev pub record_text : List Line → List (List Entry) → ℕ → List ℕ
record_text phase records w = reply_text (record_of records w) (map label_in (own_lines w phase))

-- the lines of the records of the workers below a number, worker after worker
abbrev pub records_text : List Line → List (List Entry) → ℕ → List ℕ
records_text phase records zero = []
records_text phase records (suc w) = records_text phase records w ++ record_text phase records w
