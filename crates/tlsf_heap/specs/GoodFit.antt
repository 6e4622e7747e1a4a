-- Good fit: which free block serves a request.
use Rattle.std.specs.Prelude.{ℕ, suc, List, [], ◌∷◌, ◌++◌, Option, Bool, ◌&&◌, ◌||◌, ◌==◌, nat_lt, nat_le, filter, find, slice_index_or, take, drop}
use Rattle.std.specs.List.{list_all}
use Rattle.tlsf_class.specs.Classes.{class_of, serves}
use Rattle.tlsf_heap.specs.Blocks.{Block, Free, size_of, words_in, is_free, stamp_of}

-- a block where it stands: the blocks before it, the block, and those after it
pub record Site : Type 0 where
  pub before : List Block
  pub block : Block
  pub after : List Block

-- the blocks of a list where they stand, behind the blocks `before`
abbrev pub sites_behind : List Block → List Block → List Site
sites_behind before [] = []
sites_behind before (block ∷ after) = record { before = before; block = block; after = after } ∷ sites_behind (before ++ block ∷ []) after

abbrev pub sites : List Block → List Site
sites blocks = sites_behind [] blocks

-- the place at which a block begins: the words of the blocks before it
abbrev pub place_of : Site → ℕ
place_of s = words_in s.before

-- a free block of a class at or above the search class of n words
abbrev pub is_fit : ℕ → ℕ → Block → Bool
is_fit sli n block = is_free block && serves sli (class_of sli (size_of block)) n

-- the free blocks that may serve a request of n words
abbrev pub fits : ℕ → ℕ → List Block → List Site
fits sli n blocks = filter (λ s. is_fit sli n s.block) (sites blocks)

-- its class is lower, or it is the same and it became free no earlier
abbrev pub is_as_good : ℕ → Block → Block → Bool
is_as_good sli a b =
    nat_lt (class_of sli (size_of a)) (class_of sli (size_of b)) || (class_of sli (size_of a) == class_of sli (size_of b) && nat_le (stamp_of b) (stamp_of a))

-- of the blocks that may serve n words, one of the least class, and of these the one that became free last
abbrev pub choice : ℕ → ℕ → List Block → Option Site
choice sli n blocks = find (λ s. list_all (λ t. is_as_good sli s.block t.block) (fits sli n blocks)) (fits sli n blocks)

-- the block at index i of a list
abbrev pub block_at : List Block → ℕ → Block
block_at blocks i = slice_index_or blocks i (Free 0 0)

-- the block at index i where it stands
abbrev pub site_at : List Block → ℕ → Site
site_at blocks i = record { before = take i blocks; block = block_at blocks i; after = drop (suc i) blocks }
