-- Blocks where they stand in a list: the one behind, where it begins, and the list around them.
use Rattle.tlsf_heap.proofs.Common.{◌≡◌, ℕ, suc, ◌+◌, ◌<◌, List, [], ◌∷◌, ◌++◌, length, take, drop, sym, ap, ◌∙◌, arith, append_assoc, add_assoc, add-zero, zero-add, take_more, Block, Free, size_of, words_in, StandsAt, block_at, nowhere, back_behind}
use Rattle.tlsf_heap.proofs.lemmas.blocks.Lawful.{words_in-append}
use Rattle.tlsf_heap.proofs.lemmas.words.Image.{parted}

-- a block between those before it and those behind it
pub around : (bs : List Block) (i : ℕ) → i < length bs → take i bs ++ (block_at bs i ∷ []) ++ drop (i + 1) bs ≡ bs
around bs i within = append_assoc (take i bs) (block_at bs i ∷ []) (drop (i + 1) bs) ∙ parted bs i within

-- the last of some blocks begins behind the others
pub back_behind-last : (at back : ℕ) (xs : List Block) (b : Block) → back_behind at back (xs ++ b ∷ []) ≡ at + words_in xs
back_behind-last at back [] b = sym (add-zero at)
back_behind-last at back (x ∷ xs) b = back_behind-last (at + size_of x) at xs b ∙ add_assoc at (size_of x) (words_in xs)

module _ {bs : List Block} {at i : ℕ} (stands : StandsAt bs at i) where
  -- the words of the blocks up to it
  pub words_up_to : words_in (take (i + 1) bs) ≡ at + size_of (block_at bs i)
  words_up_to =
      ap words_in (take_more bs i (Free 0 0) stands.within) ∙ words_in-append (take i bs) (block_at bs i ∷ []) ∙ omega (arith, stands.place)

  -- the block behind it begins where it ends
  pub stands_next : i + 1 < length bs → StandsAt bs (at + size_of (block_at bs i)) (i + 1)
  stands_next more = record { within = more; place = words_up_to }

  -- and has it before
  pub back_next : back_behind 0 nowhere (take (i + 1) bs) ≡ at
  back_next =
      ap (back_behind 0 nowhere) (take_more bs i (Free 0 0) stands.within) ∙ back_behind-last 0 nowhere (take i bs) (block_at bs i) ∙ zero-add (words_in (take i bs)) ∙ stands.place

-- the blocks behind one, by the number of those up to it
pub behind_one : (i : ℕ) (ahead bs : List Block) → ahead ++ drop (i + 1) bs ≡ ahead ++ drop (suc i) bs
behind_one i ahead bs = let same : i + 1 ≡ suc i = omega arith in ap (λ (k : ℕ). ahead ++ drop k bs) same
