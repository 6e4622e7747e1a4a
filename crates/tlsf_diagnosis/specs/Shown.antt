-- A line as it is shown, and a mark below it.
use Rattle.std.specs.Prelude.{◌≡◌, ◌⊎◌, ℕ, ◌+◌, ◌-◌, ◌^◌, ◌<◌, ◌≤◌, ◌==◌, ◌&&◌, Bool, false, nat_le, List, [], ◌∷◌, ◌++◌, Option, Some, None, codes, count_by, drop, take, length, replicate, slice_index, if◌then◌else◌}
use Rattle.std.specs.Borrow.{Bor}
use Rattle.std.specs.Fmt.{digits, format_spec, padded_integral}
use Rattle.std.specs.List.{flat_map}
use Rattle.tlsf_lines.specs.CutFields.{fields_of}
use Rattle.tlsf_lines.specs.Fields.{field, fields_in}
use Rattle.tlsf_lines.specs.Pieces.{pieces_of}

-- whether a byte is printable ASCII
abbrev pub is_printable : ℕ → Bool
is_printable byte = nat_le 32 byte && nat_le byte 126

-- a byte as it is shown: itself where it is printable, and else a tab, a carriage return, or its two hexadecimal digits
abbrev pub shown_byte : ℕ → List ℕ
shown_byte byte =
    if is_printable byte then byte ∷ []
    else (if byte == 9 then codes "\\t"
    else (if byte == 13 then codes "\\r"
    else codes "\\x" ++ padded_integral (format_spec 32 0 4 2 (2 ^ 64 - 1)) false [] (digits 16 false byte)))

-- the columns in which bytes are shown
abbrev pub columns_in : List ℕ → ℕ
columns_in bytes = length (flat_map shown_byte bytes)

-- the dots that stand for bytes that are left out, where there are any
abbrev pub dots_for : ℕ → List ℕ
dots_for left_out = if left_out == 0 then [] else codes ".."

-- two rows: bytes of a line as they are shown, and a mark under the first of those that stand behind
unfoldable pub rows_text : (first before behind last : List ℕ) → List ℕ
rows_text first before behind last =
    codes "  " ++ (first ++ (flat_map shown_byte before ++ (flat_map shown_byte behind ++ (last ++ codes "\n  "))))
    ++ replicate (length first) 32 ++ replicate (length (flat_map shown_byte before)) 32 ++ codes "^\n"

-- the rows show a line around the byte at this place, and mark that byte, or the end of the line. Before it they show as many bytes
-- as have room in 40 columns, and from it on as many as have room in 32
pub record ShowsAt (line : List ℕ) (at : ℕ) (rows : List ℕ) : Type 0 where
  pub from : ℕ
  pub count : ℕ
  pub within : from ≤ at
  pub few : at + count ≤ length line
  pub before_fits : columns_in (drop from (take at line)) ≤ 40
  pub before_is_most : 0 < from → 40 < columns_in (drop (from - 1) (take at line))
  pub behind_fits : columns_in (take count (drop at line)) ≤ 32
  pub behind_is_most : at + count < length line → 32 < columns_in (take (count + 1) (drop at line))
  pub rows_are : rows ≡ rows_text (dots_for from) (drop from (take at line)) (take count (drop at line)) (dots_for (length (drop at line) - count))

-- a line as it stands, without its line feed
abbrev pub without_feed : List ℕ → List ℕ
without_feed piece = if slice_index piece (length piece - 1) == 10 then take (length piece - 1) piece else piece

abbrev pub spaces_in : List ℕ → ℕ
spaces_in bytes = count_by (λ byte. byte == 32) bytes

-- the bytes of a field, and none where it is missing
abbrev pub bytes_of : Option (Bor (List ℕ)) → List ℕ
bytes_of None = []
bytes_of (Some field) = field.now

-- this many spaces stand before the rest of a line
pub record HasBefore (line rest : List ℕ) (count : ℕ) : Type 0 where
  pub front : List ℕ
  pub line_is : line ≡ front ++ rest
  pub spaces : spaces_in front ≡ count

-- field n of a line begins at this place
pub record IsFieldAt (line : List ℕ) (n start : ℕ) (field : List ℕ) : Type 0 where
  pub front : List ℕ
  pub more : List ℕ
  pub line_is : line ≡ front ++ field ++ more
  pub start_is : length front ≡ start
  pub spaces : spaces_in front ≡ n - 1
  pub none : spaces_in field ≡ 0

-- the byte at this place is one of field n, or the one right after it. It is the end of the line, where that field or the line feed
-- is missing
abbrev pub MarksField : (piece : List ℕ) (n at : ℕ) → Type 0
MarksField piece n at =
    (spaces_in (take at (without_feed piece)) ≡ n - 1)
    ⊎ ((at ≡ length (without_feed piece)) × ((length (fields_of (without_feed piece)) ≤ n - 1) ⊎ (fields_in piece ≡ None)))

-- the rows show line number `line` of a text, and mark its field n
pub record ShowsField (text : List ℕ) (line n : ℕ) (rows : List ℕ) : Type 0 where
  pub at : ℕ
  pub marks : MarksField (field (pieces_of text) (line - 1)) n at
  pub shows : ShowsAt (without_feed (field (pieces_of text) (line - 1))) at rows
