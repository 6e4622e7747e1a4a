-- The views of the private types, a class in use, the lowest bit of a word, and the step from one class to the next. No public clause
-- cites this file.
use Rattle.std.specs.Prelude.{◌≡◌, ℕ, List, ◌+◌, ◌*◌, ◌^◌, ◌<◌, ◌≤◌}
use Rattle.std.specs.Int.{bit_at}
use Rattle.tlsf_class.specs.Classes.{level_classes, last_class, IsLevel}

-- the words of the two levels of bitmaps, and the number of touches: reads and writes of one of them
pub record CountedLevels : Type 0 where
  pub first : ℕ
  pub second : List ℕ
  pub touches : ℕ

-- a class in use, of a level
pub record IsInUse (sli class : ℕ) : Type 0 where
  pub level : IsLevel sli
  pub least : 4 ≤ class
  pub most : class ≤ last_class sli

-- the lowest bit of a word that is set, from one bit on
pub record IsLowestFrom (word from bit : ℕ) : Type 0 where
  pub least : from ≤ bit
  pub set : bit_at word bit ≡ 1
  pub lowest : (k : ℕ) → from ≤ k → k < bit → bit_at word k ≡ 0

-- the greatest exponent of a step: 16 or 19
abbrev pub last_step : ℕ → ℕ
last_step sli = 3 * sli + 4

-- a size has as many steps of 2^step words as a first level has classes, up to twice that number. It has fewer where a step is one
-- word
pub record IsStep (sli n step : ℕ) : Type 0 where
  pub most : step ≤ last_step sli
  pub reached : 0 < step → level_classes sli * 2 ^ step ≤ n
  pub passed : n < 2 * level_classes sli * 2 ^ step
