-- The question that `tlsf size` is asked. It is a table of kinds of request, of the texts after `--blocks` and `--bytes`, at the
-- level after `--level`. It is for one heap or, by `--split`, for several.
use Rattle.std.specs.Prelude.{◌≡◌, ◌≢◌, ◌≤◌, ◌<◌, ⊤, ℕ, Bool, false, true, List, [], ◌∷◌, codes, length}
use Rattle.clap.specs.Words.{Text}
use Rattle.tlsf_pool.specs.declared.kind.Kind.{Kind}
use Rattle.tlsf_command.specs.Arguments.{Arguments, first_number, is_set, number_of}
use Rattle.tlsf_command.specs.declared.size_question.SizeQuestion.{SizeQuestion}
use Rattle.tlsf_command.specs.declared.size_question.SizeQuestion.TheVariants.{Table, FineTable, Split, FineSplit, Unpaired}

-- a kind for each pair: the first number of blocks with the first number of bytes, and so on
abbrev pub kinds_in : (blocks bytes : List Text) → List Kind
kinds_in [] bytes = []
kinds_in (most ∷ blocks) [] = []
kinds_in (most ∷ blocks) (len ∷ bytes) = record { most = number_of most; len = number_of len } ∷ kinds_in blocks bytes

-- these numbers of blocks and of bytes make a table: equally many of each, 1 to 64
abbrev pub MakesTable : (blocks bytes : ℕ) → Type 0
MakesTable blocks bytes = (blocks ≡ bytes) × (1 ≤ blocks) × (blocks ≤ 64)

-- the kinds of these pairs of texts
abbrev pub AreOfTexts : (blocks bytes : List Text) → List Kind → Type 0
AreOfTexts blocks bytes kinds = MakesTable (length blocks) (length bytes) × (kinds ≡ kinds_in blocks bytes)

-- the question about the pairs of these texts at a level, for one heap or for several. It is about their table at level 5 or at
-- another, which is 4 since `clap` refuses the rest, or about none
abbrev pub IsOfTexts : (blocks bytes : List Text) → ℕ → Bool → SizeQuestion → Type 0
IsOfTexts blocks bytes level split (Table kinds) = AreOfTexts blocks bytes kinds.items × (level ≢ 5) × (split ≡ false)
IsOfTexts blocks bytes level split (FineTable kinds) = AreOfTexts blocks bytes kinds.items × (level ≡ 5) × (split ≡ false)
IsOfTexts blocks bytes level split (Split kinds) = AreOfTexts blocks bytes kinds.items × (level ≢ 5) × (split ≡ true)
IsOfTexts blocks bytes level split (FineSplit kinds) = AreOfTexts blocks bytes kinds.items × (level ≡ 5) × (split ≡ true)
IsOfTexts blocks bytes level split (Unpaired m n) = ¬ (MakesTable (length blocks) (length bytes)) × (m ≡ length blocks) × (n ≡ length bytes)

-- the question that is given, at level 4 where none is named
abbrev pub IsQuestion : Arguments → SizeQuestion → Type 0
IsQuestion given = IsOfTexts (given (codes "B")) (given (codes "N")) (first_number 4 (given (codes "level"))) (is_set (given (codes "split")))

-- 1 to 64 kinds
abbrev pub HasKinds : List Kind → Type 0
HasKinds kinds = (0 < length kinds) × (length kinds ≤ 64)

-- its table, if it has one, has that many
abbrev pub HasTable : SizeQuestion → Type 0
HasTable (Table kinds) = HasKinds kinds.items
HasTable (FineTable kinds) = HasKinds kinds.items
HasTable (Split kinds) = HasKinds kinds.items
HasTable (FineSplit kinds) = HasKinds kinds.items
HasTable (Unpaired m n) = ⊤
