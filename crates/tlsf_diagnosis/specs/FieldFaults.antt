-- The field in which a fault is found. Fields are counted from 1.
use Rattle.std.specs.Prelude.{◌≡◌, ◌≢◌, ◌⊎◌, ℕ, ◌+◌, ◌-◌, ◌<◌, Bool, IsTrue, is_some, List, ◌++◌, drop, length, slice_get, take, MatchBool, MatchOption, Some, Err}
use Rattle.tlsf_lines.specs.CutFields.{fields_of}
use Rattle.tlsf_lines.specs.Fields.{◌>>=◌, field, fields_in, values_in}
use Rattle.tlsf_lines.specs.Header.{header_of}
use Rattle.tlsf_lines.specs.Lines.{kinds_of, line_from, keyword_of, keywords}
use Rattle.tlsf_lines.specs.Pieces.{pieces_of}
use Rattle.tlsf_lines.specs.Trace.{trace_of}
use Rattle.tlsf_lines.specs.TraceFaults.{fault_in}
use Rattle.tlsf_lines.specs.Values.{Value, BadNumber}
use Rattle.tlsf_lines.specs.declared.line_fault.LineFault.{LineFault}
use Rattle.tlsf_lines.specs.declared.line_fault.LineFault.TheVariants as line
use Rattle.tlsf_lines.specs.declared.trace_fault.TraceFault.{TraceFault}
use Rattle.tlsf_lines.specs.declared.keyword.Keyword.{Keyword}
use Rattle.tlsf_diagnosis.specs.Kinds.{workers_in}

-- ---- the first field by which fields go astray

-- whether these fields are a header; whether they have the shape of a line; and whether they are one, with each number in its range
abbrev pub is_header : List (List ℕ) → Bool
is_header fields = is_some (header_of fields)

abbrev pub is_shaped : ℕ → List (List ℕ) → Bool
is_shaped workers fields = is_some (keyword_of keywords (field fields 0) >>= λ keyword. values_in workers (kinds_of keyword) (drop 1 fields))

abbrev pub is_line : ℕ → List (List ℕ) → Bool
is_line workers fields = is_some (keyword_of keywords (field fields 0) >>= λ keyword. (values_in workers (kinds_of keyword) (drop 1 fields) >>= λ values. line_from keyword values))

-- others may follow these fields, so that they are whole
abbrev pub CanBegin : (List (List ℕ) → Bool) → List (List ℕ) → Type 0
CanBegin is_whole front = (more : List (List ℕ)) × IsTrue (is_whole (front ++ more))

-- the fields before field n can begin a whole line. With it they can't, or it is missing
pub record GoAstrayAt (is_whole : List (List ℕ) → Bool) (fields : List (List ℕ)) (n : ℕ) : Type 0 where
  pub before : CanBegin is_whole (take (n - 1) fields)
  pub here : ¬ (CanBegin is_whole (take n fields)) ⊎ (n ≡ length fields + 1)

-- ---- the first bad number

-- value i is a bad number, and none before it
pub record IsFirstBad (values : List Value) (i : ℕ) : Type 0 where
  pub here : slice_get values i ≡ Some BadNumber
  pub before : (k : ℕ) → k < i → slice_get values k ≢ Some BadNumber

-- the fields after the keyword have its shape, and that of field n is the first bad number
pub record HasFirstBadNumberAt (workers : ℕ) (fields : List (List ℕ)) (n : ℕ) : Type 0 where
  pub keyword : Keyword
  pub values : List Value
  pub keyword_is : keyword_of keywords (field fields 0) ≡ Some keyword
  pub say : values_in workers (kinds_of keyword) (drop 1 fields) ≡ Some values
  pub first : IsFirstBad values (n - 2)

-- ---- a line without its line feed

-- the first wrong field of a line: that by which it goes astray, or where it has its shape that of the first bad number
abbrev pub IsFirstWrong : ℕ → List (List ℕ) → ℕ → Type 0
IsFirstWrong workers fields n = MatchBool (is_shaped workers fields) (HasFirstBadNumberAt workers fields n) (GoAstrayAt (is_shaped workers) fields n)

-- the field of a line that lacks its line feed: where nothing else is wrong it is the last, and otherwise the first wrong one
abbrev pub IsWrongOrLast : (List (List ℕ) → Bool) → (List (List ℕ) → ℕ → Type 0) → List (List ℕ) → ℕ → Type 0
IsWrongOrLast is_whole IsWrong fields n = MatchBool (is_whole fields) (n ≡ length fields) (IsWrong fields n)

-- ---- the field of a fault

-- the field of a line's fault, where there are this many workers; that of a label is the third in each line that has one
abbrev pub IsFieldOf : ℕ → LineFault → List ℕ → ℕ → Type 0
IsFieldOf workers line.BadHeader piece n =
    MatchOption (fields_in piece) (IsWrongOrLast is_header (GoAstrayAt is_header) (fields_of piece) n) (λ fields. GoAstrayAt is_header fields n)
IsFieldOf workers line.BadLine piece n =
    MatchOption (fields_in piece) (IsWrongOrLast (is_line workers) (IsFirstWrong workers) (fields_of piece) n) (λ fields. GoAstrayAt (is_shaped workers) fields n)
IsFieldOf workers line.BadNumber piece n = MatchOption (fields_in piece) ⊥ (λ fields. HasFirstBadNumberAt workers fields n)
IsFieldOf workers line.LabelOrder piece n = n ≡ 3

-- the fault is that of the text, and found in field n of its line
pub record IsFoundIn (text : List ℕ) (fault : TraceFault) (n : ℕ) : Type 0 where
  pub why : LineFault
  pub at : ℕ
  pub fault_is : fault ≡ fault_in why at
  pub refused : trace_of text ≡ Err (why, at)
  pub field_is : IsFieldOf (workers_in text) why (field (pieces_of text) (at - 1)) n
