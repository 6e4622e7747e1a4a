-- The first word of a header, and its meaning for its block.
use Rattle.std.specs.Prelude.{◌≡◌, ℕ, Bool}
use Rattle.tlsf_words.specs.Fields.{size_in, last_in, free_in, back_in}

-- a boundary tag: its word, the block's words, whether it is free and whether it is the last, and the place of the block before
pub record BoundaryTag : Type 0 where
  pub word : ℕ
  pub size : ℕ
  pub free : Bool
  pub last : Bool
  pub back : ℕ

-- the one that a word is
abbrev pub tag_in : ℕ → BoundaryTag
tag_in word = record { word = word; size = size_in word; free = free_in word; last = last_in word; back = back_in word }

-- a tag says this of its block
pub record HasFields (size_is : ℕ) (free_is last_is : Bool) (back_is : ℕ) (tag : BoundaryTag) : Type 0 where
  pub size : tag.size ≡ size_is
  pub free : tag.free ≡ free_is
  pub last : tag.last ≡ last_is
  pub back : tag.back ≡ back_is
