-- The line that `tlsf classes` writes on a size.
use Rattle.std.specs.Prelude.{ℕ, ◌≤◌, List, [], ◌++◌, codes}
use Rattle.std.specs.Fmt.{decimal}
use Rattle.std.specs.Option.{option_map_or}
use Rattle.tlsf_class.specs.Classes.{IsLevel, class_of, low, most_words, search_of}

-- a class and its least size, as `92 low 448`
abbrev pub class_text : ℕ → ℕ → List ℕ
class_text sli class = decimal class ++ (codes " low " ++ decimal (low sli class))

-- the class of n words and their search class, as `class 92 low 448 search 93 low 464` at level 4
abbrev pub class_line : ℕ → ℕ → List ℕ
class_line sli n = codes "class " ++ (class_text sli (class_of sli n)
    ++ (codes " search " ++ (option_map_or (class_text sli) (search_of sli n) [] ++ codes "\n")))

-- the refusal of a size that no class of its level has
abbrev pub no_class_line : List ℕ
no_class_line = codes "tlsf: a size has 4 to 1048576 words, and up to 16777216 with --level 5\n"

-- a level that heaps have has a class of this size
pub record IsSize (sli words : ℕ) : Type 0 where
  pub level : IsLevel sli
  pub least : 4 ≤ words
  pub most : words ≤ most_words sli
