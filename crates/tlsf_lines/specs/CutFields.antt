-- The fields of a line as they are cut off, one after another.
use Rattle.std.specs.Prelude.{ℕ, ◌==◌, List, [], ◌∷◌, Option, Some, None, option_map}
use Rattle.std.specs.Borrow.{Bor}
use Rattle.std.specs.List.{slice_split}
use Rattle.tlsf_lines.specs.Fields.{values_in}
use Rattle.tlsf_lines.specs.Lines.{kinds_of, line_from}
use Rattle.tlsf_lines.specs.Values.{Value, Number, BadNumber}
use Rattle.tlsf_lines.specs.declared.line.Line.{Line}
use Rattle.tlsf_lines.specs.declared.keyword.Keyword.{Keyword}
use Rattle.tlsf_lines.specs.declared.kind.Kind.{Kind}

-- a number, or none where it is a bad one
abbrev pub value_of : Option ℕ → Value
value_of None = BadNumber
value_of (Some number) = Number number

-- what stands between the spaces of a line
abbrev pub fields_of : List ℕ → List (List ℕ)
fields_of line = slice_split (λ byte. byte == 32) line

-- the fields that are left: those after a space, or none where there was none
abbrev pub fields_left : Option (Bor (List ℕ)) → List (List ℕ)
fields_left None = []
fields_left (Some rest) = fields_of rest.now

abbrev pub with_rest : Value → List (List ℕ) → Value × List (List ℕ)
with_rest value fields = (value, fields)

-- the value of the first field, and the fields after it
abbrev pub first_by : (List ℕ → Option Value) → List (List ℕ) → Option (Value × List (List ℕ))
first_by say [] = None
first_by say (field ∷ fields) = option_map (λ value. with_rest value fields) (say field)

-- what the one field says; nothing where there is another
abbrev pub only_by : (List ℕ → Option Value) → List (List ℕ) → Option Value
only_by say [] = None
only_by say (field ∷ []) = say field
only_by say (field ∷ next ∷ fields) = None

-- what the fields after a keyword say: nothing where they have not its shape, and no line where a number is bad
abbrev pub line_behind : ℕ → Keyword → List (List ℕ) → Option (Option Line)
line_behind workers keyword fields = option_map (λ values. line_from keyword values) (values_in workers (kinds_of keyword) fields)

-- the same after a worker and a label, where fields of these kinds are left. They have the same numbers for all workers
abbrev pub line_behind_block : Keyword → List Kind → (worker label : Option ℕ) → List (List ℕ) → Option (Option Line)
line_behind_block keyword kinds worker label fields =
    option_map (λ values. line_from keyword (value_of worker ∷ value_of label ∷ values)) (values_in 0 kinds fields)
