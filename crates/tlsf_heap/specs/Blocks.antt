-- A heap as its blocks, in the order of their places. Sizes are in words of 64 bits.
use Rattle.std.specs.Prelude.{◌≡◌, ℕ, ◌+◌, ◌-◌, ◌/◌, ◌<◌, List, [], ◌∷◌, Bool, true, false, length, max, take}

-- a block: its size, then the serial and the payload bytes of a live one, or the stamp of a free one
pub data Block : Type 0 where
  Live : ℕ → ℕ → List ℕ → Block
  Free : ℕ → ℕ → Block

-- the sequential heap: its number, the words of its region, the tick that the next change gets, and its blocks
pub record HeapState : Type 0 where
  pub id : ℕ
  pub words : ℕ
  pub tick : ℕ
  pub blocks : List Block

abbrev pub size_of : Block → ℕ
size_of (Live size serial bytes) = size
size_of (Free size stamp) = size

-- the words of a block behind the three of its header
abbrev pub payload_words : Block → ℕ
payload_words block = size_of block - 3

-- the words of all the blocks
abbrev pub words_in : List Block → ℕ
words_in [] = 0
words_in (block ∷ blocks) = size_of block + words_in blocks

abbrev pub is_free : Block → Bool
is_free (Live size serial bytes) = false
is_free (Free size stamp) = true

-- block i begins at this place
pub record StandsAt (blocks : List Block) (at i : ℕ) : Type 0 where
  pub within : i < length blocks
  pub place : words_in (take i blocks) ≡ at

-- a block begins at this place
abbrev pub IsPlace : List Block → ℕ → Type 0
IsPlace blocks at = (i : ℕ) × StandsAt blocks at i

-- the tick at which a free block became free
abbrev pub stamp_of : Block → ℕ
stamp_of (Live size serial bytes) = 0
stamp_of (Free size stamp) = stamp

-- the payload bytes of a live block
abbrev pub bytes_of : Block → List ℕ
bytes_of (Live size serial bytes) = bytes
bytes_of (Free size stamp) = []

-- the serials of the live blocks
abbrev pub serials : List Block → List ℕ
serials [] = []
serials (Live size serial bytes ∷ blocks) = serial ∷ serials blocks
serials (Free size stamp ∷ blocks) = serials blocks

-- the stamps of the free blocks
abbrev pub stamps : List Block → List ℕ
stamps [] = []
stamps (Live size serial bytes ∷ blocks) = stamps blocks
stamps (Free size stamp ∷ blocks) = stamp ∷ stamps blocks

-- the words that `len` bytes of payload take: a header of three, and one for each eight bytes or part of them
abbrev pub words_for : ℕ → ℕ
words_for len = 3 + (len + 7) / 8

-- the words wanted for a request of `len` bytes: the least block has four
abbrev pub want : ℕ → ℕ
want len = max 4 (words_for len)
