-- Where the blocks of a list lie.
use Rattle.tlsf_heap.proofs.Common.{ℕ, zero, suc, ◌+◌, ◌<◌, ◌≤◌, List, [], ◌∷◌, length, take, arith, Block, HeapState, size_of, words_in, block_at, IsLawful, LieApart, LieInRegion}

-- a block ends among the words up to it
ends_within : (bs : List Block) (i : ℕ) → i < length bs → words_in (take i bs) + size_of (block_at bs i) ≤ words_in bs
ends_within [] i h = absurd (omega (arith, h))
ends_within (b ∷ bs) zero h = omega arith
ends_within (b ∷ bs) (suc i) h = let e = ends_within bs i (omega arith) in omega arith

-- and before each later one begins
pub ends_before : (bs : List Block) (i j : ℕ) → i < j → j < length bs → words_in (take i bs) + size_of (block_at bs i) ≤ words_in (take j bs)
ends_before [] i j l h = absurd (omega (arith, h))
ends_before (b ∷ bs) i zero l h = absurd (omega (arith, l))
ends_before (b ∷ bs) zero (suc j) l h = omega arith
ends_before (b ∷ bs) (suc i) (suc j) l h = let e = ends_before bs i j (omega arith) (omega arith) in omega arith

pub apart : (h : HeapState) → IsLawful h → (i j : ℕ) → i < j → j < length h.blocks → LieApart h i j
apart h lawful i j l within = ends_before h.blocks i j l within

pub inside : (h : HeapState) → IsLawful h → (i : ℕ) → i < length h.blocks → LieInRegion h i
inside h lawful i within = let e = ends_within h.blocks i within in omega (arith, e, lawful.whole)
