-- The words that are given to a command, by the ids of its arguments.
use Rattle.std.specs.Prelude.{ℕ, Bool, false, List, [], ◌∷◌, codes, option_map, unwrap_or, if◌then◌else◌}
use Rattle.std.specs.Str.{bytes_eq}
use Rattle.std.specs.Str.Parse.{digits_value, without_leading_plus}
use Rattle.clap.specs.ValueTests.{is_unsigned_in}
use Rattle.clap.specs.Words.{Row, Text, all_of, found_of, matched_of, raw_values}
use Rattle.clap.specs.declared.parser.matches.ArgMatches.{ArgMatches}

-- the texts that are given under each id, in their order
abbrev pub Arguments : Type 0
Arguments = Text → List Text

-- those that matches have, and those of rows
abbrev pub texts_of : ArgMatches → Arguments
texts_of matches id = unwrap_or (option_map raw_values (matched_of (found_of matches) id)) []

abbrev pub texts_in : List Row → Arguments
texts_in rows id = unwrap_or (all_of id rows) []

-- the number of 32 bits that the text spells, behind a plus sign if there is one; 0 where it spells none
abbrev pub number_of : Text → ℕ
number_of text = if is_unsigned_in 0 4294967295 text then digits_value 10 (without_leading_plus text) else 0

-- the number that the first text spells, and another one where there is no text
abbrev pub first_number : ℕ → List Text → ℕ
first_number none [] = none
first_number none (text ∷ texts) = number_of text

-- whether the first text says that a flag is given
abbrev pub is_set : List Text → Bool
is_set [] = false
is_set (text ∷ texts) = bytes_eq text (codes "true")
