-- The words of two levels of bitmaps. One word has a bit for each first level. For each first level a word has a bit for each of
-- its classes, at the class's second level.
use Rattle.std.specs.Prelude.{◌≡◌, ℕ, ◌+◌, ◌*◌, ◌/◌, ◌%◌, ◌<◌, ◌≤◌, List, Bool, ◌==◌, ◌&&◌, length, slice_index, min, filter}
use Rattle.std.specs.Int.{bit_at}
use Rattle.tlsf_class.specs.Classes.{IsLevel, level_classes, last_class, classes}

-- whether the bit of a class is set in the word of its first level
abbrev pub is_set : ℕ → List ℕ → ℕ → Bool
is_set sli second class = bit_at (slice_index second (class / level_classes sli)) (class % level_classes sli) == 1

-- the classes whose bits are set in the words of their first levels, rising
unfoldable pub members_of : ℕ → List ℕ → List ℕ
members_of sli second = filter (is_set sli second) (classes sli)

-- the classes whose bits are set in both levels, rising
unfoldable pub marked_in : ℕ → ℕ → List ℕ → List ℕ
marked_in sli first second = filter (λ class. is_set sli second class && bit_at first (class / level_classes sli) == 1) (classes sli)

-- the bit of a first level is set exactly where its word isn't zero, and only classes in use have bits
pub record AreLevels (sli first : ℕ) (second : List ℕ) : Type 0 where
  pub level : IsLevel sli
  pub first_levels : length second ≡ 21
  pub first_bits : (first_level : ℕ) → bit_at first first_level ≡ min 1 (slice_index second first_level)
  pub in_use : (first_level second_level : ℕ) → bit_at (slice_index second first_level) second_level ≡ 1 → (second_level < level_classes sli) × (4 ≤ level_classes sli * first_level + second_level) × (level_classes sli * first_level + second_level ≤ last_class sli)
