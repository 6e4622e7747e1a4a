-- Fields that pass as those of their kinds. This serves the contracts of private functions alone, but for the workers.
use Rattle.std.specs.Prelude.{ℕ, Bool, if◌then◌else◌, is_some, List, [], ◌∷◌, Option, Some, None}
use Rattle.tlsf_lines.specs.Fields.{field, is_digits, is_number, range_of}
use Rattle.tlsf_lines.specs.Header.{header_in, number_in}
use Rattle.tlsf_lines.specs.Payloads.{chunk_in}
use Rattle.tlsf_lines.specs.Pieces.{pieces_of}
use Rattle.tlsf_lines.specs.declared.header.Header.{Header}
use Rattle.tlsf_lines.specs.declared.version.Version.{Version}
use Rattle.tlsf_lines.specs.declared.kind.Kind.{Kind}
use Rattle.tlsf_lines.specs.declared.kind.Kind.TheVariants.{Workers, Words, Capacity}
use Rattle.tlsf_diagnosis.specs.declared.judge.Judge.{Judge}
use Rattle.tlsf_diagnosis.specs.declared.judge.Judge.TheVariants.{Shape, Number}

-- the workers that a header names, and none where there is no header
abbrev pub workers_by : Option Header → ℕ
workers_by (Some header) = header.workers
workers_by None = 0

abbrev pub workers_in : List ℕ → ℕ
workers_in text = workers_by (header_in (field (pieces_of text) 0))

-- the kinds of the fields after the version
abbrev pub header_kinds : Version → List Kind
header_kinds version = Workers ∷ Words version ∷ Capacity ∷ []

-- whether a number passes: by its shape alone, or by its range too
abbrev pub number_passes : Judge → Kind → List ℕ → Bool
number_passes Shape kind field = is_digits field
number_passes (Number workers) kind field = is_some (number_in (range_of workers kind) field)

-- whether a field passes as one of its kind
abbrev pub passes : Judge → Kind → List ℕ → Bool
passes judge kind field = if is_number kind then number_passes judge kind field else is_some (chunk_in field)
