-- The lines of a trace after its header: the table of keywords, and what the fields of a line say.
use Rattle.std.specs.Prelude.{ℕ, Bool, true, false, if◌then◌else◌, List, [], ◌∷◌, codes, Option, Some, None}
use Rattle.std.specs.Str.{bytes_eq}
use Rattle.tlsf_lines.specs.declared.kind.Kind.{Kind}
use Rattle.tlsf_lines.specs.declared.kind.Kind.TheVariants.{Worker, Label, Length, Offset, Payload, Count, Most}
use Rattle.tlsf_lines.specs.declared.line.Line.{Line}
use Rattle.tlsf_lines.specs.declared.line.Line.TheVariants.{Allocate, Release, Write, Read, Resize, Drain, Phase}
use Rattle.tlsf_lines.specs.declared.request.Request.{Request}
use Rattle.tlsf_lines.specs.declared.keyword.Keyword.{Keyword}
use Rattle.tlsf_lines.specs.declared.keyword.Keyword.TheVariants as keyword
use Rattle.tlsf_lines.specs.Values.{Value, Number, Bytes}

-- each keyword, after the first field that spells it
abbrev pub keywords : List (List ℕ × Keyword)
keywords =
    (codes "a", keyword.Allocate) ∷ (codes "f", keyword.Release) ∷ (codes "p", keyword.Write)
    ∷ (codes "g", keyword.Read) ∷ (codes "d", keyword.Drain) ∷ (codes "phase", keyword.Phase) ∷ (codes "r", keyword.Resize) ∷ []

-- the keyword that a first field spells, of these
abbrev pub keyword_of : List (List ℕ × Keyword) → List ℕ → Option Keyword
keyword_of [] field = None
keyword_of (row ∷ rows) field = if bytes_eq field row.0 then Some row.1 else keyword_of rows field

-- the kinds of the fields after the keyword
abbrev pub kinds_of : Keyword → List Kind
kinds_of keyword.Allocate = Worker ∷ Label ∷ Length ∷ []
kinds_of keyword.Release = Worker ∷ Label ∷ []
kinds_of keyword.Write = Worker ∷ Label ∷ Offset ∷ Payload ∷ []
kinds_of keyword.Read = Worker ∷ Label ∷ Offset ∷ Count ∷ []
kinds_of keyword.Resize = Worker ∷ Label ∷ Length ∷ []
kinds_of keyword.Drain = Worker ∷ Most ∷ []
kinds_of keyword.Phase = []

-- the line that a keyword and the values after it say, unless a number is bad
unfoldable pub line_from : Keyword → List Value → Option Line
line_from keyword.Allocate (Number worker ∷ Number label ∷ Number length ∷ []) = Some (Allocate worker label length)
line_from keyword.Release (Number worker ∷ Number label ∷ []) = Some (Release worker label)
line_from keyword.Write (Number worker ∷ Number label ∷ Number at ∷ Bytes bytes ∷ []) = Some (Write worker label at bytes)
line_from keyword.Read (Number worker ∷ Number label ∷ Number at ∷ Number n ∷ []) = Some (Read worker label at n)
line_from keyword.Resize (Number worker ∷ Number label ∷ Number length ∷ []) = Some (Resize worker label length)
line_from keyword.Drain (Number worker ∷ Number most ∷ []) = Some (Drain worker most)
line_from keyword.Phase [] = Some Phase
line_from _ _ = None

-- whether a line is a call of a worker
abbrev pub is_call : Line → Bool
is_call Phase = false
is_call _ = true

-- the block that a line asks for
abbrev pub request_in : Line → Option Request
request_in (Allocate worker label len) = Some (record { worker = worker; len = len })
request_in _ = None

-- the label of a line, which a drain has not
abbrev pub label_in : Line → Option ℕ
label_in (Allocate worker label len) = Some label
label_in (Release worker label) = Some label
label_in (Write worker label at bytes) = Some label
label_in (Read worker label at n) = Some label
label_in (Resize worker label len) = Some label
label_in _ = None
