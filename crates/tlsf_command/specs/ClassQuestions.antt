-- The question that `tlsf classes` is asked, by the texts that give the size and that follow `--level`.
use Rattle.std.specs.Prelude.{◌≡◌, ◌≤◌, ⊤, ℕ, codes}
use Rattle.tlsf_class.specs.Classes.{IsLevel, most_words}
use Rattle.tlsf_command.specs.Arguments.{Arguments, first_number}
use Rattle.tlsf_command.specs.declared.class_question.ClassQuestion.{ClassQuestion}
use Rattle.tlsf_command.specs.declared.class_question.ClassQuestion.TheVariants.{Coarse, Fine, NoClass}

-- this many words have a class at this level
abbrev pub HasClassAt : (level words : ℕ) → Type 0
HasClassAt level words = IsLevel level × (4 ≤ words) × (words ≤ most_words level)

-- the question about this many words at a level
abbrev pub IsOfNumbers : (words level : ℕ) → ClassQuestion → Type 0
IsOfNumbers words level (Coarse n) = (level ≡ 4) × (n ≡ words) × HasClassAt 4 n
IsOfNumbers words level (Fine n) = (level ≡ 5) × (n ≡ words) × HasClassAt 5 n
IsOfNumbers words level NoClass = ¬ (HasClassAt level words)

-- the question about the size and the level that are given, 4 where there is none
abbrev pub IsClassQuestion : Arguments → ClassQuestion → Type 0
IsClassQuestion given = IsOfNumbers (first_number 0 (given (codes "N"))) (first_number 4 (given (codes "level")))

-- its size, if it has one, has a class
abbrev pub HasClasses : ClassQuestion → Type 0
HasClasses (Coarse n) = HasClassAt 4 n
HasClasses (Fine n) = HasClassAt 5 n
HasClasses NoClass = ⊤
