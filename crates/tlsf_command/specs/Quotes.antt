-- How a name is written so that a shell reads it as one word.
use Rattle.std.specs.Prelude.{ℕ, Bool, ◌==◌, ◌&&◌, ◌||◌, List, [], ◌∷◌, ◌++◌, codes, flat_map, length, nat_lt, if◌then◌else◌}
use Rattle.std.specs.List.{list_all, list_any}
use Rattle.std.specs.Char.{is_ascii_alphanumeric}

-- a byte that stands for itself: a letter, a digit, or one of these marks
abbrev pub is_plain : ℕ → Bool
is_plain byte = is_ascii_alphanumeric byte || list_any (λ mark. mark == byte) (codes "%+,-./:=@_")

-- one such byte or more
abbrev pub is_word : List ℕ → Bool
is_word name = nat_lt 0 (length name) && list_all is_plain name

-- a byte between single quotes: a quote closes them, stands behind a backslash, and opens them again
abbrev pub within_quotes : ℕ → List ℕ
within_quotes byte = if byte == 39 then codes "'\\''" else byte ∷ []

-- the name itself, or between single quotes
abbrev pub quoted : List ℕ → List ℕ
quoted name = if is_word name then name else codes "'" ++ (flat_map within_quotes name ++ codes "'")
