-- When a note has the tip on numbers.
use Rattle.std.specs.Prelude.{ℕ, ◌-◌, ◌&&◌, ◌||◌, Bool, false, not, nat_le, nat_lt, if◌then◌else◌, List, [], codes, slice_get, take, Option, Some, None}
use Rattle.std.specs.List.{list_all}
use Rattle.std.specs.Str.{bytes_eq}
use Rattle.tlsf_lines.specs.CutFields.{fields_of}
use Rattle.tlsf_lines.specs.Fields.{field, is_digits, is_number}
use Rattle.tlsf_lines.specs.Lines.{keyword_of, keywords, kinds_of}
use Rattle.tlsf_lines.specs.Pieces.{pieces_of}
use Rattle.tlsf_lines.specs.declared.keyword.Keyword.{Keyword}
use Rattle.tlsf_lines.specs.declared.kind.Kind.{Kind}
use Rattle.tlsf_diagnosis.specs.Shown.{is_printable, without_feed}
use Rattle.tlsf_diagnosis.specs.declared.findings.Wanted.{Wanted}
use Rattle.tlsf_diagnosis.specs.declared.findings.Wanted.TheVariants.{Value}

-- ---- where a number is wanted

-- the kinds of the fields after a keyword, and none where there is no keyword
abbrev pub kinds_after : Option Keyword → List Kind
kinds_after (Some keyword) = kinds_of keyword
kinds_after None = []

-- whether there is a kind, and it is that of a number
abbrev pub is_number_kind : Option Kind → Bool
is_number_kind (Some kind) = is_number kind
is_number_kind None = false

-- the header takes a number in fields 3 to 5
abbrev pub takes_number_in_header : ℕ → Bool
takes_number_in_header n = nat_le 3 n && nat_le n 5

-- another line takes one in each field after its keyword, but for payload bytes
abbrev pub takes_number_in_line : List (List ℕ) → ℕ → Bool
takes_number_in_line fields n = nat_le 2 n && is_number_kind (slice_get (kinds_after (keyword_of keywords (field fields 0))) (n - 2))

-- whether field n of a line is to be a number. The header is line 1
abbrev pub takes_number : ℕ → List (List ℕ) → ℕ → Bool
takes_number line fields n = if nat_lt line 2 then takes_number_in_header n else takes_number_in_line fields n

-- the same of the content that is wanted. This serves the contracts of private functions alone
abbrev pub is_number_wanted : Wanted → Bool
is_number_wanted (Value kind) = is_number kind
is_number_wanted _ = false

-- ---- what stands there

-- it begins with a digit, and has more in it than digits, as 64KiB and 1,000
abbrev pub is_marked_number : List ℕ → Bool
is_marked_number field = is_digits (take 1 field) && not (is_digits field)

-- it begins as a hexadecimal number
abbrev pub is_hexadecimal : List ℕ → Bool
is_hexadecimal field = bytes_eq (take 2 field) (codes "0x") || bytes_eq (take 2 field) (codes "0X")

-- the tip helps who wrote it: a marked number in printable ASCII, and not a hexadecimal one
abbrev pub is_tipped : List ℕ → Bool
is_tipped field = is_marked_number field && list_all is_printable field && not (is_hexadecimal field)

-- ---- the tip

-- such a number stands in field n of line number `line` of a text, where a number is wanted
abbrev pub wants_tip : List ℕ → ℕ → ℕ → Bool
wants_tip text line n =
    let fields = fields_of (without_feed (field (pieces_of text) (line - 1))) in
    is_tipped (field fields (n - 1)) && takes_number line fields n
