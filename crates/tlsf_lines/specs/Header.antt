-- The header: the first line of a trace.
use Rattle.std.specs.Prelude.{ℕ, ◌&&◌, ◌==◌, if◌then◌else◌, List, codes, length, Option, Some, None}
use Rattle.std.specs.Str.{bytes_eq}
use Rattle.tlsf_lines.specs.declared.header.Header.{Header}
use Rattle.tlsf_lines.specs.declared.version.Version.{Version}
use Rattle.tlsf_lines.specs.Values.{Value, Number, BadNumber, Bytes}
use Rattle.tlsf_lines.specs.Fields.{◌>>=◌, digits_in, field, fields_in}
use Rattle.tlsf_lines.specs.Versions.{most_words_of, version_in}

-- the number that a value is, if it is one
abbrev pub number_of_value : Value → Option ℕ
number_of_value (Number number) = Some number
number_of_value BadNumber = None
number_of_value (Bytes bytes) = None

-- the number that a field spells, if it is in the range
abbrev pub number_in : ℕ × ℕ → List ℕ → Option ℕ
number_in range field = digits_in range field >>= number_of_value

-- the workers, the words of a heap and the capacity of a lane
unfoldable pub header_from : Version → List ℕ → List ℕ → List ℕ → Option Header
header_from version workers words capacity = do
  workers ← number_in (1, 8) workers
  words ← number_in (4, most_words_of version) words
  capacity ← number_in (1, 1024) capacity
  Some (record { version = version; workers = workers; words = words; capacity = capacity })

-- five fields: tlsf, the version, and three numbers
abbrev pub header_of : List (List ℕ) → Option Header
header_of fields =
    if length fields == 5 && bytes_eq (field fields 0) (codes "tlsf")
    then version_in (field fields 1) >>= (λ version. header_from version (field fields 2) (field fields 3) (field fields 4))
    else None

-- the header that a piece says
unfoldable pub header_in : List ℕ → Option Header
header_in piece = fields_in piece >>= header_of
