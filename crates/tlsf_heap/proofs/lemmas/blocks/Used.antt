-- The words in use of some blocks, where some of them become others.
use Rattle.tlsf_heap.proofs.Common.{◌≡◌, ℕ, suc, ◌+◌, ◌<◌, ◌≤◌, List, [], ◌∷◌, ◌++◌, take, drop, true, false, refl, sym, ap, ◌∙◌, arith, filter-append, false≢true, Block, Live, Free, StandsAt, size_of, is_free, first_free, past_free, before_free, coalesced, recut, with_bytes, block_at, live_among, words_in, last_free, ◌^◌, Image, Shows}
use Rattle.tlsf_heap.specs.Calls.{cut}
use Rattle.tlsf_heap.specs.WordsInUse.{words_used}
use Rattle.tlsf_heap.proofs.lemmas.blocks.Around.{around}
use Rattle.tlsf_heap.proofs.lemmas.blocks.Coalesce.{by_last}
use Rattle.tlsf_heap.proofs.lemmas.blocks.Lawful.{words_in-append}
use Rattle.tlsf_heap.proofs.lemmas.blocks.Sums.{words_apart}
use Rattle.tlsf_heap.proofs.lemmas.words.Recut.{cut_small, cut_large}

pub used-append : (xs ys : List Block) → words_used (xs ++ ys) ≡ words_used xs + words_used ys
used-append xs ys = ap words_in (filter-append _ xs ys) ∙ words_in-append (live_among xs) (live_among ys)

-- a free block isn't in use, at either end of a list
pub past_used : (bs : List Block) → words_used (past_free bs) ≡ words_used bs
past_used [] = refl
past_used (Live m s xs ∷ bs) = refl
past_used (Free m s ∷ bs) = refl

pub before_used : (bs : List Block) → words_used (before_free bs) ≡ words_used bs
before_used bs = by_last (λ all k left. words_used left ≡ words_used all) bs refl (λ all m s xs. refl) (λ all m s. omega (arith, used-append all (Free m s ∷ [])))

-- no more than a region may have
pub used_small : {m : Image} {bs : List Block} → Shows m bs → words_used bs ≤ 2 ^ 24
used_small {bs = bs} shows = let whole = shows.whole in let small = shows.small in omega (arith, words_apart bs, whole, small)

-- one block
pub free_used : (b : Block) → is_free b ≡ true → words_used (b ∷ []) ≡ 0
free_used (Live m s xs) free = absurd (false≢true free)
free_used (Free m s) free = refl

pub live_used : (b : Block) → is_free b ≡ false → words_used (b ∷ []) ≡ size_of b
live_used (Live m s xs) live = omega arith
live_used (Free m s) live = absurd (false≢true (sym live))

pub used_bytes : (b : Block) (new : List ℕ) → words_used (with_bytes b new ∷ []) ≡ words_used (b ∷ [])
used_bytes (Live m s xs) new = refl
used_bytes (Free m s) new = refl

-- by the blocks around one
pub around_used : (bs front back : List Block) (b : Block) → bs ≡ front ++ b ∷ back → words_used bs ≡ words_used front + words_used (b ∷ []) + words_used back
around_used bs front back b is = ap words_used is ∙ omega (arith, used-append front (b ∷ back), used-append (b ∷ []) back)

-- where other blocks come in place of one
pub used_site : (bs new : List Block) {at i : ℕ} → StandsAt bs at i → (middle : List Block) → new ≡ take i bs ++ middle ++ drop (suc i) bs → words_used new + words_used (block_at bs i ∷ []) ≡ words_used bs + words_used middle
used_site bs new {at = at} {i = i} stands middle is =
    let front = take i bs in
    let back = drop (suc i) bs in
    omega (arith, ap words_used is, used-append (front ++ middle) back, used-append front middle, around_used bs front back (block_at bs i) (around bs at i stands).is)

-- other payload bytes change nothing of it
pub used_rebytes : (bs new : List Block) {at i : ℕ} → StandsAt bs at i → (xs : List ℕ) → new ≡ take i bs ++ (with_bytes (block_at bs i) xs ∷ []) ++ drop (suc i) bs → words_used new ≡ words_used bs
used_rebytes bs new {at = at} {i = i} stands xs is = omega (arith, used_site bs new stands (with_bytes (block_at bs i) xs ∷ []) is, used_bytes (block_at bs i) xs)

-- ---- a live block of n words, and a free rest of four or more

pub cut_used_small : (room n tick serial : ℕ) (bytes : List ℕ) → room < n + 4 → words_used (cut room n tick serial bytes) ≡ room
cut_used_small room n tick serial bytes small = ap words_used (cut_small room n tick serial bytes small) ∙ omega arith

pub cut_used_large : (room n tick serial : ℕ) (bytes : List ℕ) → n + 4 ≤ room → words_used (cut room n tick serial bytes) ≡ n
cut_used_large room n tick serial bytes large = ap words_used (cut_large room n tick serial bytes large) ∙ omega arith

-- ---- a live block and its free neighbours become one free block

pub coalesced_used : (bs : List Block) {at i : ℕ} (tick : ℕ) → StandsAt bs at i → is_free (block_at bs i) ≡ false
    → words_used bs ≡ words_used (coalesced tick (record { before = take i bs; block = block_at bs i; after = drop (suc i) bs })) + size_of (block_at bs i)
coalesced_used bs {at = at} {i = i} tick stands live =
    let front = take i bs in
    let back = drop (suc i) bs in
    let b = block_at bs i in
    let middle : Block = Free (last_free front + size_of b + first_free back) tick in
    omega (arith, around_used bs front back b (around bs at i stands).is, live_used b live, used-append (before_free front) (middle ∷ past_free back), used-append (middle ∷ []) (past_free back), before_used front, past_used back)

-- ---- a live block takes the free block behind it in, and is cut

recut_front : (front back : List Block) (room n tick m s : ℕ) (xs : List ℕ) (words : ℕ) → words_used (cut room n tick s xs) ≡ words → words_used (front ++ (cut room n tick s xs ++ past_free back)) + m ≡ words_used (front ++ Live m s xs ∷ back) + words
recut_front front back room n tick m s xs words is =
    omega (arith, is, used-append front (cut room n tick s xs ++ past_free back), used-append (cut room n tick s xs) (past_free back), past_used back, around_used (front ++ Live m s xs ∷ back) front back (Live m s xs) refl)

pub recut_used_small : (front back : List Block) (b : Block) (n tick : ℕ) → is_free b ≡ false → size_of b + first_free back < n + 4 → words_used (front ++ recut tick n b back) + size_of b ≡ words_used (front ++ b ∷ back) + (size_of b + first_free back)
recut_used_small front back (Free m s) n tick live small = absurd (false≢true (sym live))
recut_used_small front back (Live m s xs) n tick live small = recut_front front back (m + first_free back) n tick m s xs (m + first_free back) (cut_used_small (m + first_free back) n tick s xs small)

pub recut_used_large : (front back : List Block) (b : Block) (n tick : ℕ) → is_free b ≡ false → n + 4 ≤ size_of b + first_free back → words_used (front ++ recut tick n b back) + size_of b ≡ words_used (front ++ b ∷ back) + n
recut_used_large front back (Free m s) n tick live large = absurd (false≢true (sym live))
recut_used_large front back (Live m s xs) n tick live large = recut_front front back (m + first_free back) n tick m s xs n (cut_used_large (m + first_free back) n tick s xs large)
