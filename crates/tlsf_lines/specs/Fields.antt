-- The fields of a line, and what a field says.
use Rattle.std.specs.Prelude.{ℕ, ◌-◌, Bool, true, false, ◌&&◌, ◌||◌, not, nat_le, nat_lt, ◌==◌, if◌then◌else◌, List, [], ◌∷◌, length, take, slice_index, slice_index_or, Option, Some, None, option_and_then, option_map}
use Rattle.std.specs.List.{slice_split}
use Rattle.std.specs.Str.{all_ascii_digits}
use Rattle.std.specs.Str.Parse.{digits_value}
use Rattle.tlsf_lines.specs.declared.kind.Kind.{Kind}
use Rattle.tlsf_lines.specs.declared.kind.Kind.TheVariants.{Worker, Label, Length, Offset, Payload, Count, Most, Workers, Words, Capacity}
use Rattle.tlsf_lines.specs.Values.{Value, Number, BadNumber, Bytes}
use Rattle.tlsf_lines.specs.Payloads.{chunk_in}
use Rattle.tlsf_lines.specs.Versions.{most_words_of}

-- the fields of a piece that has its line feed: what stands between spaces
abbrev pub fields_in : List ℕ → Option (List (List ℕ))
fields_in piece =
    if slice_index piece (length piece - 1) == 10
    then Some (slice_split (λ byte. byte == 32) (take (length piece - 1) piece))
    else None

-- field number i, from 0
abbrev pub field : List (List ℕ) → ℕ → List ℕ
field fields i = slice_index_or fields i []

-- one or more digits
abbrev pub is_digits : List ℕ → Bool
is_digits field = nat_lt 0 (length field) && all_ascii_digits field

-- no leading zero but in 0 itself
abbrev pub is_plain : List ℕ → Bool
is_plain field = length field == 1 || not (slice_index field 0 == 48)

-- the number of digits that are plain, if it is in the range
abbrev pub number_within : ℕ × ℕ → List ℕ → Value
number_within range digits =
    let number = digits_value 10 digits in
    if is_plain digits && nat_le range.0 number && nat_le number range.1 then Number number else BadNumber

-- what a field of digits says
abbrev pub digits_in : ℕ × ℕ → List ℕ → Option Value
digits_in range field = if is_digits field then Some (number_within range field) else None

-- the least and the greatest number of a kind, where there are this many workers
abbrev pub range_of : ℕ → Kind → ℕ × ℕ
range_of workers Worker = (0, workers - 1)
range_of workers Label = (0, 65535)
range_of workers Length = (0, 4294967295)
range_of workers Offset = (0, 4294967295)
range_of workers Payload = (0, 0)  -- no number
range_of workers Count = (1, 64)
range_of workers Most = (1, 8192)
range_of workers Workers = (1, 8)
range_of workers (Words version) = (4, most_words_of version)
range_of workers Capacity = (1, 1024)

-- whether a field of this kind is a number, and not payload bytes
abbrev pub is_number : Kind → Bool
is_number Payload = false
is_number kind = true

-- what a field says, if it has the shape of its kind
abbrev pub value_in : ℕ → Kind → List ℕ → Option Value
value_in workers Payload field = option_map (λ chunk. Bytes chunk) (chunk_in field)
value_in workers kind field = digits_in (range_of workers kind) field

-- go on with what was found
infixl 10 ◌>>=◌
abbrev pub ◌>>=◌ : {A B : Type 0} → Option A → (A → Option B) → Option B
found >>= next = option_and_then next found

-- what the fields say, if there is one for each kind, in its shape
abbrev pub values_in : ℕ → List Kind → List (List ℕ) → Option (List Value)
values_in workers [] [] = Some []
values_in workers (kind ∷ kinds) (field ∷ fields) = do
  value ← value_in workers kind field
  values ← values_in workers kinds fields
  Some (value ∷ values)
values_in workers _ _ = None
