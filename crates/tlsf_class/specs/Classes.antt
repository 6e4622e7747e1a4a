-- Size classes of two levels. A class is named by its number: its first level is the number by `level_classes`, its second level
-- what is left. `low` is its least size in words. Each definition takes the level of a heap, 4 or 5: how many bits of a size
-- tell the second level of its class.
use Rattle.std.specs.Prelude.{ℕ, ◌+◌, ◌*◌, ◌/◌, ◌-◌, ◌%◌, ◌^◌, ◌≤◌, ◌==◌, List, Option, Bool, false, max, nat_lt, nat_le, if◌then◌else◌, fold, filter, find}
use Rattle.std.specs.List.{range_with_len}
use Rattle.std.specs.Option.{option_map_or}

-- 4 or 5
pub record IsLevel (sli : ℕ) : Type 0 where
  pub least : 4 ≤ sli
  pub most : sli ≤ 5

-- how many classes a first level has: 16 or 32
abbrev pub level_classes : ℕ → ℕ
level_classes sli = 2 ^ sli

-- the number of the greatest class
abbrev pub last_class : ℕ → ℕ
last_class sli = if sli == 4 then 272 else 640

-- the words of the largest region, the least size of the greatest class
abbrev pub most_words : ℕ → ℕ
most_words sli = if sli == 4 then 2 ^ 20 else 2 ^ 24

-- the least size of a class. First level 0 has one class for each size, and first level f has its classes over the sizes from 2^(f
-- + sli - 1) on
unfoldable pub low : ℕ → ℕ → ℕ
low sli class = if nat_lt class (level_classes sli) then class else 2 ^ (class / level_classes sli + sli - 1) + class % level_classes sli * 2 ^ (class / level_classes sli - 1)

-- the classes in use, rising: no size of a region is above the least size of the last
unfoldable pub classes : ℕ → List ℕ
classes sli = range_with_len 4 (last_class sli - 3)

-- the class of a size: the greatest class whose least size is at most n
unfoldable pub class_of : ℕ → ℕ → ℕ
class_of sli n = fold max 0 (filter (λ class. nat_le (low sli class) n) (classes sli))

-- the search class of a size: the least class whose least size is at least n, if there is one
unfoldable pub search_of : ℕ → ℕ → Option ℕ
search_of sli n = find (λ class. nat_le n (low sli class)) (classes sli)

-- whether blocks of this class may serve a request of n words
abbrev pub serves : ℕ → ℕ → ℕ → Bool
serves sli class n = option_map_or (λ least. nat_le least class) (search_of sli n) false
