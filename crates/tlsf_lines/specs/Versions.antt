-- The versions of a trace: which header names which, and the second level that it stands for.
use Rattle.std.specs.Prelude.{ℕ, if◌then◌else◌, List, codes, Option, Some, None}
use Rattle.std.specs.Str.{bytes_eq}
use Rattle.tlsf_lines.specs.declared.version.Version.{Version}
use Rattle.tlsf_lines.specs.declared.version.Version.TheVariants.{One, Two}

-- the second level of the heaps
abbrev pub level_of : Version → ℕ
level_of One = 4
level_of Two = 5

-- the most words of a heap
abbrev pub most_words_of : Version → ℕ
most_words_of One = 1048576
most_words_of Two = 16777216

-- the version that a field spells
abbrev pub version_in : List ℕ → Option Version
version_in field =
    if bytes_eq field (codes "1") then Some One
    else if bytes_eq field (codes "2") then Some Two
    else None
