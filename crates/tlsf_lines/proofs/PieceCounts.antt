-- How many pieces a text has: its line feeds, and one more where the last byte is no line feed.
use Rattle.tlsf_lines.proofs.Common.{◌≡◌, ℕ, suc, ◌+◌, ◌-◌, ◌<◌, ◌≤◌, Bool, true, false, cond, eqb, List, [], ◌∷◌, ◌++◌, length, get_or, count_by, refl, sym, ap, ◌∙◌, arith, length-append, append-nil, onto_first, get_or-append_right, sum_by-cons, sum_by-append, pieces_of}
use Rattle.tlsf_lines.specs.OpenLines.{open_count}

-- whether the byte is a line feed
abbrev is_feed : ℕ → Bool
is_feed b = eqb b 10

-- a byte in prefix of the first piece makes no piece more
length-onto_first : (x : ℕ) (ps : List (List ℕ)) → 0 < length ps → length (onto_first x ps) ≡ length ps
length-onto_first x [] h = absurd (omega arith)
length-onto_first x (p ∷ ps) h = refl

-- a byte in prefix of a text that has pieces: a line feed makes one more
first : (b : Bool) (x : ℕ) (ps : List (List ℕ)) → 0 < length ps → length (cond b ((x ∷ []) ∷ ps) (onto_first x ps)) ≡ cond b 1 0 + length ps
first true x ps h = omega arith
first false x ps h = omega (arith, length-onto_first x ps h)

-- the line feeds of a text with one byte more in prefix
count-cons : (x : ℕ) (xs : List ℕ) → count_by is_feed (x ∷ xs) ≡ cond (eqb x 10) 1 0 + count_by is_feed xs
count-cons x xs = sum_by-cons (λ b. cond (eqb b 10) 1 0) x xs

-- the pieces of a text of two bytes or more, by those behind its first byte
two : (x y : ℕ) (ys : List ℕ) → 0 < length (pieces_of (y ∷ ys)) → length (pieces_of (x ∷ y ∷ ys)) ≡ cond (eqb x 10) 1 0 + length (pieces_of (y ∷ ys))
two x y ys h = first (eqb x 10) x (pieces_of (y ∷ ys)) h

-- one byte is one piece, whatever it is
single : (x : ℕ) (b : Bool) → length (cond b ((x ∷ []) ∷ []) ((x ∷ []) ∷ [])) ≡ 1
single x true = refl
single x false = refl

-- a text of one byte has one piece
one : (x : ℕ) → length (pieces_of (x ∷ [])) ≡ 1
one x = single x (eqb x 10)

-- a text with a byte has a piece
pieces_nonempty : (x : ℕ) (xs : List ℕ) → 0 < length (pieces_of (x ∷ xs))
pieces_nonempty x [] = omega (arith, one x)
pieces_nonempty x (y ∷ ys) = let h = pieces_nonempty y ys in omega (arith, two x y ys h, h)

-- the last byte of a text of two bytes or more stands behind its first byte
last_of : (x y : ℕ) (ys : List ℕ) → get_or (x ∷ y ∷ ys) (length (x ∷ y ∷ ys) - 1) 10 ≡ get_or (y ∷ ys) (length (y ∷ ys) - 1) 10
last_of x y ys = let e : length (x ∷ y ∷ ys) - 1 ≡ suc (length (y ∷ ys) - 1) = omega arith in ap (λ k. get_or (x ∷ y ∷ ys) k 10) e

-- whether the last line is open stands behind the first byte
open_count-cons : (x y : ℕ) (ys : List ℕ) → open_count (x ∷ y ∷ ys) ≡ open_count (y ∷ ys)
open_count-cons x y ys = ap (λ (k : ℕ). cond (eqb k 10) 0 1) (last_of x y ys)

-- of a test and its opposite one counts
either : (b : Bool) → cond b 1 0 + cond b 0 1 ≡ 1
either true = refl
either false = refl

-- a test counts at most one
one_at_most : (b : Bool) → cond b 0 1 ≤ 1
one_at_most true = omega arith
one_at_most false = omega arith

-- the open lines of one byte
open_count-one : (x : ℕ) → open_count (x ∷ []) ≡ cond (eqb x 10) 0 1
open_count-one x = refl

-- the pieces of a text are its line feeds, and a line that is open
pub length-pieces_of : (bytes : List ℕ) → length (pieces_of bytes) ≡ count_by is_feed bytes + open_count bytes
length-pieces_of [] = refl
length-pieces_of (x ∷ []) =
    let counted : count_by is_feed (x ∷ []) ≡ cond (eqb x 10) 1 0 + 0 = count-cons x [] in
    omega (arith, one x, counted, open_count-one x, either (eqb x 10))
length-pieces_of (x ∷ y ∷ ys) =
    omega (arith, two x y ys (pieces_nonempty y ys), length-pieces_of (y ∷ ys), count-cons x (y ∷ ys), open_count-cons x y ys)

-- the line feeds of two texts
pub feeds_of_both : (old new : List ℕ) → count_by is_feed (old ++ new) ≡ count_by is_feed old + count_by is_feed new
feeds_of_both old new = sum_by-append (λ b. cond (eqb b 10) 1 0) old new

-- the number of pieces once more bytes have come
pub length-pieces_of-append : (old new : List ℕ) → 0 < length new
    → length (pieces_of (old ++ new)) ≡ count_by is_feed old + count_by is_feed new + open_count new
length-pieces_of-append old new some =
    let len = length-append old new in
    let place : length (old ++ new) - 1 - length old ≡ length new - 1 = omega (arith, len) in
    let last : get_or (old ++ new) (length (old ++ new) - 1) 10 ≡ get_or new (length new - 1) 10 =
    get_or-append_right old new (length old) (length (old ++ new) - 1) 10 refl (omega (arith, len)) ∙ ap (λ k. get_or new k 10) place in
    let same : open_count (old ++ new) ≡ open_count new = ap (λ (k : ℕ). cond (eqb k 10) 0 1) last in
    omega (arith, length-pieces_of (old ++ new), feeds_of_both old new, same)

-- at most one line is open
open_count-le : (bytes : List ℕ) → open_count bytes ≤ 1
open_count-le bytes = one_at_most (eqb (get_or bytes (length bytes - 1) 10) 10)

-- a prefix of a text has no more pieces than the text
pub length-pieces_of-prefix : (prefix rest : List ℕ) → length (pieces_of prefix) ≤ length (pieces_of (prefix ++ rest))
length-pieces_of-prefix prefix [] = omega (arith, ap (λ text. length (pieces_of text)) (sym (append-nil prefix)))
length-pieces_of-prefix prefix (x ∷ xs) =
    omega (
      arith,
      length-pieces_of prefix,
      open_count-le prefix,
      length-pieces_of (x ∷ xs),
      pieces_nonempty x xs,
      length-pieces_of-append prefix (x ∷ xs) (omega arith),
    )
