-- The words of a character, the cells of a row, and what is drawn of them.
use Rattle.std.specs.Prelude.{ℕ, ◌≤◌, ◌^◌}

-- a character has up to 16,384 words
pub record IsScale (scale : ℕ) : Type 0 where
  pub some : 1 ≤ scale
  pub few : scale ≤ 2 ^ 14

-- a row has up to 262,144 cells
pub record IsRow (row : ℕ) : Type 0 where
  pub some : 1 ≤ row
  pub most : row ≤ 2 ^ 18

-- some words of a heap: where they begin, and how many they are
pub record AreWords (at words : ℕ) : Type 0 where
  pub place : at ≤ 2 ^ 33
  pub few : words ≤ 2 ^ 33

-- some characters of this number of words each: the number of the first, and one more than that of the last
pub record AreColumns (words from end : ℕ) : Type 0 where
  pub scale : IsScale words
  pub first : from ≤ 2 ^ 35
  pub last : end ≤ 2 ^ 35
