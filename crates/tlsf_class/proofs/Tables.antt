-- The definitions against known values.
use Rattle.tlsf_class.proofs.Common.{◌≡◌, ℕ, Some, refl, List, [], ◌∷◌, map, low, classes, class_of, search_of, IsLevel}
use Rattle.tlsf_class.proofs.TwoLevels.{by_level}

-- the least sizes of the first and the last class of first levels 0, 1, 2, 3 and 16, and of the last class
lows_of_first_levels : map (low 4) (4 ∷ 15 ∷ 16 ∷ 31 ∷ 32 ∷ 47 ∷ 48 ∷ 63 ∷ 256 ∷ 271 ∷ 272 ∷ []) ≡ 4 ∷ 15 ∷ 16 ∷ 31 ∷ 32 ∷ 62 ∷ 64 ∷ 124 ∷ 524288 ∷ 1015808 ∷ 1048576 ∷ []
unfolding low
lows_of_first_levels = refl

-- and at level 5 of first levels 0, 1, 2 and 19, and of the last class
fine_lows_of_first_levels : map (low 5) (4 ∷ 31 ∷ 32 ∷ 63 ∷ 64 ∷ 95 ∷ 608 ∷ 639 ∷ 640 ∷ []) ≡ 4 ∷ 31 ∷ 32 ∷ 63 ∷ 64 ∷ 126 ∷ 8388608 ∷ 16515072 ∷ 16777216 ∷ []
unfolding low
fine_lows_of_first_levels = refl

-- sizes at and about the edges of first levels and classes
abbrev sizes : List ℕ
sizes = 4 ∷ 15 ∷ 16 ∷ 31 ∷ 32 ∷ 33 ∷ 44 ∷ 60 ∷ 63 ∷ 460 ∷ 1048575 ∷ 1048576 ∷ []

-- their classes, and the least sizes of these
class_numbers : map (class_of 4) sizes ≡ 4 ∷ 15 ∷ 16 ∷ 31 ∷ 32 ∷ 32 ∷ 38 ∷ 46 ∷ 47 ∷ 92 ∷ 271 ∷ 272 ∷ []
unfolding low classes class_of
class_numbers = refl

class_lows : map (λ size. low 4 (class_of 4 size)) sizes ≡ 4 ∷ 15 ∷ 16 ∷ 31 ∷ 32 ∷ 32 ∷ 44 ∷ 60 ∷ 62 ∷ 448 ∷ 1015808 ∷ 1048576 ∷ []
unfolding low classes class_of
class_lows = refl

-- their search classes, and the least sizes of these
search_numbers : map (search_of 4) sizes ≡ map Some (4 ∷ 15 ∷ 16 ∷ 31 ∷ 32 ∷ 33 ∷ 38 ∷ 46 ∷ 48 ∷ 93 ∷ 272 ∷ 272 ∷ [])
unfolding low classes search_of
search_numbers = refl

search_lows : map (low 4) (4 ∷ 15 ∷ 16 ∷ 31 ∷ 32 ∷ 33 ∷ 38 ∷ 46 ∷ 48 ∷ 93 ∷ 272 ∷ 272 ∷ []) ≡ 4 ∷ 15 ∷ 16 ∷ 31 ∷ 32 ∷ 34 ∷ 44 ∷ 60 ∷ 64 ∷ 464 ∷ 1048576 ∷ 1048576 ∷ []
unfolding low
search_lows = refl

-- the same at level 5
abbrev fine_sizes : List ℕ
fine_sizes = 4 ∷ 31 ∷ 32 ∷ 63 ∷ 64 ∷ 65 ∷ 460 ∷ 1048576 ∷ 16777215 ∷ 16777216 ∷ []

fine_class_numbers : map (class_of 5) fine_sizes ≡ 4 ∷ 31 ∷ 32 ∷ 63 ∷ 64 ∷ 64 ∷ 153 ∷ 512 ∷ 639 ∷ 640 ∷ []
unfolding low classes class_of
fine_class_numbers = refl

fine_search_numbers : map (search_of 5) fine_sizes ≡ map Some (4 ∷ 31 ∷ 32 ∷ 63 ∷ 64 ∷ 65 ∷ 154 ∷ 512 ∷ 640 ∷ 640 ∷ [])
unfolding low classes search_of
fine_search_numbers = refl

-- a block of 4 words is of the first class
pub class_of-first : (sli : ℕ) → IsLevel sli → class_of sli 4 ≡ 4
unfolding low classes class_of
class_of-first = by_level (λ sli. class_of sli 4 ≡ 4) refl refl
