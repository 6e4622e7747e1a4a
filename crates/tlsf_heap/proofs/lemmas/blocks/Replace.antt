-- Edits of the list of blocks.
use Rattle.tlsf_heap.proofs.Common.{◌≡◌, ℕ, ◌+◌, ◌-◌, Bool, true, false, cond, nat_le, replicate, ◌<◌, ◌≤◌, List, [], ◌∷◌, take, drop, ap, arith, take-append-drop, carved, first_free, nat_tests, Block, Live, Free, words_in}
use Rattle.tlsf_heap.proofs.lemmas.blocks.Lawful.{words_in-append}

pub words_in-take : (bs : List Block) (j : ℕ) → words_in (take j bs) ≤ words_in bs
words_in-take bs j = let e = ap words_in (take-append-drop j bs) in let f = words_in-append (take j bs) (drop j bs) in omega arith

pub carved_small : (size n tick len : ℕ) → size < n + 4 → carved size n tick len ≡ Live size tick (replicate len 0) ∷ []
carved_small size n tick len h =
    let t : nat_le (n + 4) size ≡ false = grind (arith, nat_tests) in
    ap (λ (b : Bool). cond b (Live n tick (replicate len 0) ∷ Free (size - n) tick ∷ []) (Live size tick (replicate len 0) ∷ [])) t

pub carved_large : (size n tick len : ℕ) → n + 4 ≤ size → carved size n tick len ≡ Live n tick (replicate len 0) ∷ Free (size - n) tick ∷ []
carved_large size n tick len h =
    let t : nat_le (n + 4) size ≡ true = grind (arith, nat_tests) in
    ap (λ (b : Bool). cond b (Live n tick (replicate len 0) ∷ Free (size - n) tick ∷ []) (Live size tick (replicate len 0) ∷ [])) t

-- the free block that a list begins with is one of its words
pub first_free-words : (bs : List Block) → first_free bs ≤ words_in bs
first_free-words [] = omega arith
first_free-words (Live m s xs ∷ bs) = omega arith
first_free-words (Free m s ∷ bs) = omega arith
