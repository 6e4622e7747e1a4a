-- The sums over the blocks of a list, and over one block more.
use Rattle.tlsf_heap.proofs.Common.{◌≡◌, ℕ, zero, suc, ◌+◌, ◌*◌, ◌<◌, ◌≤◌, ◌⊎◌, inl, inr, max, min, true, List, [], ◌∷◌, ◌++◌, length, map, fold, refl, ap, ◌∙◌, arith, length-append, AllByRecursion, append-nil, map-append, filter-append, false≢true, cases_lt, Block, Live, Free, size_of, words_in, is_free, stamps, HasRoom, block_at, live_among, free_among, payload_in, largest_of, tally_of, Tally}
use Rattle.std.proofs.lemmas.List.Sums.{fold-append}
use Rattle.tlsf_heap.proofs.lemmas.blocks.Lawful.{words_in-append, stamps-append}

payload_in-append : (xs ys : List Block) → payload_in (xs ++ ys) ≡ payload_in xs + payload_in ys
payload_in-append [] ys = omega arith
payload_in-append (x ∷ xs) ys = let e = payload_in-append xs ys in omega arith

-- ---- one block more

-- the sums with a live block more
abbrev pub with_live : Tally → ℕ → ℕ → Tally
with_live t size held = record t { live_blocks = t.live_blocks + 1; live_words = t.live_words + size; live_bytes = t.live_bytes + held }

-- the sums with a free block more
abbrev pub with_free : Tally → ℕ → ℕ → Tally
with_free t size stamp = record t { free_blocks = t.free_blocks + 1; free_words = t.free_words + size; largest = max t.largest size; oldest = min t.oldest stamp }

pub tally-live : (tick : ℕ) (bs : List Block) (size serial : ℕ) (bytes : List ℕ) → tally_of tick (bs ++ Live size serial bytes ∷ []) ≡ with_live (tally_of tick bs) size (length bytes)
tally-live tick bs size serial bytes =
    let b : Block = Live size serial bytes in
    let live : live_among (bs ++ b ∷ []) ≡ live_among bs ++ b ∷ [] = filter-append _ bs (b ∷ []) in
    let free : free_among (bs ++ b ∷ []) ≡ free_among bs = filter-append is_free bs (b ∷ []) ∙ append-nil (free_among bs) in
    let stamped : stamps (bs ++ b ∷ []) ≡ stamps bs = stamps-append bs (b ∷ []) ∙ append-nil (stamps bs) in
    let count : length (live_among bs ++ b ∷ []) ≡ length (live_among bs) + 1 = length-append (live_among bs) (b ∷ []) in
    let words : words_in (live_among bs ++ b ∷ []) ≡ words_in (live_among bs) + size = words_in-append (live_among bs) (b ∷ []) ∙ omega arith in
    let held : payload_in (live_among bs ++ b ∷ []) ≡ payload_in (live_among bs) + length bytes = payload_in-append (live_among bs) (b ∷ []) ∙ omega arith in
    rw (live, free, stamped, count, words, held) refl

pub tally-free : (tick : ℕ) (bs : List Block) (size stamp : ℕ) → tally_of tick (bs ++ Free size stamp ∷ []) ≡ with_free (tally_of tick bs) size stamp
tally-free tick bs size stamp =
    let b : Block = Free size stamp in
    let live : live_among (bs ++ b ∷ []) ≡ live_among bs = filter-append _ bs (b ∷ []) ∙ append-nil (live_among bs) in
    let free : free_among (bs ++ b ∷ []) ≡ free_among bs ++ b ∷ [] = filter-append is_free bs (b ∷ []) in
    let stamped : fold min tick (stamps (bs ++ b ∷ [])) ≡ min (fold min tick (stamps bs)) stamp = ap (fold min tick) (stamps-append bs (b ∷ [])) ∙ fold-append min tick (stamps bs) (stamp ∷ []) in
    let count : length (free_among bs ++ b ∷ []) ≡ length (free_among bs) + 1 = length-append (free_among bs) (b ∷ []) in
    let words : words_in (free_among bs ++ b ∷ []) ≡ words_in (free_among bs) + size = words_in-append (free_among bs) (b ∷ []) ∙ omega arith in
    let greatest : largest_of (free_among bs ++ b ∷ []) ≡ max (largest_of (free_among bs)) size =
    ap (fold max 0) (map-append size_of (free_among bs) (b ∷ [])) ∙ fold-append max 0 (map size_of (free_among bs)) (size ∷ []) in
    rw (live, free, stamped, count, words, greatest) refl

-- ---- how great they are

pub words_apart : (bs : List Block) → words_in (live_among bs) + words_in (free_among bs) ≡ words_in bs
words_apart [] = refl
words_apart (Live size serial bytes ∷ bs) = let e = words_apart bs in omega arith
words_apart (Free size stamp ∷ bs) = let e = words_apart bs in omega arith

pub counts_apart : (bs : List Block) → length (live_among bs) + length (free_among bs) ≡ length bs
counts_apart [] = refl
counts_apart (Live size serial bytes ∷ bs) = let e = counts_apart bs in omega arith
counts_apart (Free size stamp ∷ bs) = let e = counts_apart bs in omega arith

-- no block has fewer than four words
pub four_each : (bs : List Block) → AllByRecursion HasRoom bs → 4 * length bs ≤ words_in bs
four_each [] rooms = omega arith
four_each (Live size serial bytes ∷ bs) rooms = let e = four_each bs rooms.1 in omega (arith, rooms.0.0)
four_each (Free size stamp ∷ bs) rooms = let e = four_each bs rooms.1 in omega (arith, rooms.0)

pub payload_small : (bs : List Block) → AllByRecursion HasRoom bs → payload_in (live_among bs) ≤ 8 * words_in (live_among bs)
payload_small [] rooms = omega arith
payload_small (Live size serial bytes ∷ bs) rooms = let e = payload_small bs rooms.1 in omega (arith, rooms.0.1)
payload_small (Free size stamp ∷ bs) rooms = payload_small bs rooms.1

pub oldest_small : (tick : ℕ) (stamps : List ℕ) → fold min tick stamps ≤ tick
oldest_small tick [] = omega arith
oldest_small tick (stamp ∷ stamps) = let e = oldest_small (min tick stamp) stamps in omega arith

-- ---- the greatest free block

-- the greatest of a number and the sizes of the free blocks
abbrev greatest : ℕ → List Block → ℕ
greatest best bs = fold max best (map size_of (free_among bs))

pub greatest_least : (best : ℕ) (bs : List Block) → best ≤ greatest best bs
greatest_least best [] = omega arith
greatest_least best (Live size serial bytes ∷ bs) = greatest_least best bs
greatest_least best (Free size stamp ∷ bs) = let e = greatest_least (max best size) bs in omega arith

pub greatest_above : (best : ℕ) (bs : List Block) (i : ℕ) → i < length bs → is_free (block_at bs i) ≡ true → size_of (block_at bs i) ≤ greatest best bs
greatest_above best [] i within free = absurd (omega (arith, within))
greatest_above best (Live size serial bytes ∷ bs) zero within free = absurd (false≢true free)
greatest_above best (Live size serial bytes ∷ bs) (suc i) within free = greatest_above best bs i (omega arith) free
greatest_above best (Free size stamp ∷ bs) zero within free = let e = greatest_least (max best size) bs in omega arith
greatest_above best (Free size stamp ∷ bs) (suc i) within free = greatest_above (max best size) bs i (omega arith) free

-- it is the size of a free block, or the number itself
pub greatest_reached : (best : ℕ) (bs : List Block) → (greatest best bs ≡ best) ⊎ ((i : ℕ) × (i < length bs) × (is_free (block_at bs i) ≡ true) × (size_of (block_at bs i) ≡ greatest best bs))
greatest_reached best [] = inl refl
greatest_reached best (Live size serial bytes ∷ bs) = elim (greatest_reached best bs) [
  | inl none ↦ inl none
  | inr some ↦ inr (suc some.0, omega (arith, some.1), some.2, some.3)
]
greatest_reached best (Free size stamp ∷ bs) = elim (greatest_reached (max best size) bs) [
  | inl none ↦ elim (cases_lt best size) [
    | inl more ↦ inr (0, omega arith, refl, omega (arith, none))
    | inr fine ↦ inl (omega (arith, none))
  ]
  | inr some ↦ inr (suc some.0, omega (arith, some.1), some.2, some.3)
]

-- it is no more than their words
pub greatest_part : (best : ℕ) (bs : List Block) → greatest best bs ≤ best + words_in (free_among bs)
greatest_part best [] = omega arith
greatest_part best (Live size serial bytes ∷ bs) = greatest_part best bs
greatest_part best (Free size stamp ∷ bs) = let e = greatest_part (max best size) bs in omega arith
