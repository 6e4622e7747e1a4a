-- A text as pieces, each up to a line feed.
use Rattle.std.specs.Prelude.{⊤, ◌⊎◌, ℕ, ◌≡◌, ◌<◌, ◌==◌, if◌then◌else◌, List, [], ◌∷◌, ◌++◌, count_by, length}
use Rattle.std.specs.List.{concat, onto_first}

-- the text, cut behind each line feed; a rest behind the last one is a piece too
abbrev pub pieces_of : List ℕ → List (List ℕ)
pieces_of [] = []
pieces_of (byte ∷ bytes) = if byte == 10 then (byte ∷ []) ∷ pieces_of bytes else onto_first byte (pieces_of bytes)

-- how many line feeds there are
abbrev pub feeds_in : List ℕ → ℕ
feeds_in bytes = count_by (λ byte. byte == 10) bytes

-- one line feed, at the end
abbrev pub IsWhole : List ℕ → Type 0
IsWhole piece = (line : List ℕ) × (piece ≡ line ++ 10 ∷ []) × (feeds_in line ≡ 0)

-- some bytes, and no line feed
abbrev pub IsRest : List ℕ → Type 0
IsRest piece = (0 < length piece) × (feeds_in piece ≡ 0)

-- each is whole, but the last may be a rest
abbrev pub AreCut : List (List ℕ) → Type 0
AreCut [] = ⊤
AreCut (piece ∷ []) = IsWhole piece ⊎ IsRest piece
AreCut (piece ∷ next ∷ pieces) = IsWhole piece × AreCut (next ∷ pieces)

-- the pieces of a text are the text in order, cut behind each line feed and nowhere else
pub record ArePieces (text : List ℕ) (pieces : List (List ℕ)) : Type 0 where
  pub joined : concat pieces ≡ text
  pub cut : AreCut pieces
