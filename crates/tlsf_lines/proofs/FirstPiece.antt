-- A text begins with its first piece.
use Rattle.tlsf_lines.proofs.Common.{◌≡◌, ℕ, zero, suc, ◌+◌, ◌<◌, false, eqb, List, [], ◌∷◌, length, get_or, take, drop, refl, arith, add-one, false_from_ne_true, pieces_of}
use Rattle.memchr.specs.Find.{Nowhere, Passes, is_byte}

-- no line feed among the first n
abbrev pub NoFeeds : List ℕ → ℕ → Type 0
NoFeeds text n = (k : ℕ) → k < n → eqb (get_or text k 0) 10 ≡ false

-- where no feed stands before place n, and one at n
pub first_piece : (text : List ℕ) (n : ℕ) → NoFeeds text n → n < length text → get_or text n 0 ≡ 10
    → pieces_of text ≡ take (suc n) text ∷ pieces_of (drop (suc n) text)
first_piece [] n free lt at = absurd (omega arith)
first_piece (x ∷ xs) zero free lt at = rw at refl
first_piece (x ∷ xs) (suc n) free lt at =
    let here : eqb x 10 ≡ false = free 0 (omega arith) in
    let rest = first_piece xs n (λ k below. free (suc k) (omega arith)) (omega arith) at in
    rw (here, rest) refl

-- where no feed stands at all
pub only_piece : (x : ℕ) (xs : List ℕ) → NoFeeds (x ∷ xs) (length (x ∷ xs)) → pieces_of (x ∷ xs) ≡ (x ∷ xs) ∷ []
only_piece x [] free = let here : eqb x 10 ≡ false = free 0 (omega arith) in rw here refl
only_piece x (y ∷ ys) free =
    let here : eqb x 10 ≡ false = free 0 (omega arith) in
    let rest = only_piece y ys (λ k below. free (suc k) (omega arith)) in
    rw (here, rest) refl

pub cut_at : (text : List ℕ) (n : ℕ) → NoFeeds text n → n < length text → get_or text n 0 ≡ 10
    → pieces_of text ≡ take (n + 1) text ∷ pieces_of (drop (n + 1) text)
cut_at text n free lt at = rw add-one (first_piece text n free lt at)

pub not_cut : (text : List ℕ) → 0 < length text → NoFeeds text (length text) → pieces_of text ≡ text ∷ []
not_cut [] some free = absurd (omega arith)
not_cut (x ∷ xs) some free = only_piece x xs free

-- no line feed was found below place n
pub free_before : (text : List ℕ) (n : ℕ) → Nowhere (Passes (is_byte 10) text) 0 n → NoFeeds text n
free_before text n none k below = false_from_ne_true (eqb (get_or text k 0) 10) (none k (omega arith) below)
