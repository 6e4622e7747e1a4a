-- The words after the writes of a header.
use Rattle.tlsf_heap.proofs.Common.{◌≡◌, Bool, false, eqb, ℕ, ◌+◌, ◌<◌, ◌≤◌, ◌^◌, List, ◌++◌, length, get_or, take, drop, replicate, ◌∙◌, sym, arith, length-take-le, length-append, get_or-take, eqb-false, get_or_append_left, size_in, low_half}

-- a header says a size below 2^30
pub size_in_below : (word : ℕ) → size_in word < 2 ^ 30
unfolding size_in low_half
size_in_below word = omega arith

-- a block that isn't the last ends before the words do
pub inner_below : (at n : ℕ) (last : Bool) → last ≡ eqb at n → at ≤ n → last ≡ false → at < n
inner_below at n last is within inner = omega (arith, within, eqb-false at n (sym is ∙ inner))

-- words before those that are made zero stay
pub zeroed_before : (words : List ℕ) (at n k : ℕ) → k < at → at ≤ length words → get_or (take at words ++ replicate n 0 ++ drop (at + n) words) k 0 ≡ get_or words k 0
zeroed_before words at n k before inside =
    let l = length-take-le at words inside in
    get_or_append_left (take at words ++ replicate n 0) (drop (at + n) words) 0 k (omega (arith, length-append (take at words) (replicate n 0)))
    ∙ get_or_append_left (take at words) (replicate n 0) 0 k (omega arith) ∙ get_or-take at words k 0 before
