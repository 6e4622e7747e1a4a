-- A payload of another length: the bytes that stay, and the zeros behind them.
use Rattle.tlsf_heap.proofs.Common.{◌≡◌, ◌≢◌, ℕ, ◌+◌, ◌-◌, ◌*◌, ◌/◌, ◌<◌, ◌≤◌, List, length, get_or, set, take, replicate, inl, inr, sym, ◌∙◌, arith, length-append, length-take, get_or-take, ext_get_or, refl, cases_lt, places, length-replicate, get_or-set_other, byte_in, bytes_in, fitted}
use Rattle.tlsf_heap.proofs.lemmas.words.Bytes.{length-bytes_in, get_or-bytes_in}
use Rattle.tlsf_heap.proofs.lemmas.words.Zeros.{same_byte}

pub length-fitted : (bytes : List ℕ) (len : ℕ) → length (fitted bytes len) ≡ len
length-fitted bytes len = omega (arith, length-append (take len bytes) (replicate (len - length bytes) 0), length-take len bytes, length-replicate {A = ℕ} (len - length bytes) 0)

fitted_kept : (bytes : List ℕ) (len i : ℕ) → i < len → i < length bytes → get_or (fitted bytes len) i 0 ≡ get_or bytes i 0
fitted_kept bytes len i h g = grind (arith, places)

fitted_new : (bytes : List ℕ) (len i : ℕ) → i < len → length bytes ≤ i → get_or (fitted bytes len) i 0 ≡ 0
fitted_new bytes len i h g = grind (arith, places)

-- of a payload that has more bytes the first are those of one that has fewer
pub fitted_less : (bytes : List ℕ) (len n : ℕ) → n ≤ len → n ≤ length bytes → take n (fitted bytes len) ≡ fitted bytes n
fitted_less bytes len n fewer held = ext_get_or 0 (take n (fitted bytes len)) (fitted bytes n) (omega (arith, length-take n (fitted bytes len), length-fitted bytes len, length-fitted bytes n)) (λ i h.
    let inside : i < n = omega (arith, length-take n (fitted bytes len)) in
    get_or-take n (fitted bytes len) i 0 inside ∙ fitted_kept bytes len i (omega arith) (omega arith) ∙ sym (fitted_kept bytes n i inside (omega arith)))

-- bytes of which the first stay, and the others are zero
pub bytes_fitted : (xs ys : List ℕ) (from old len : ℕ) → ((k : ℕ) → from ≤ k → k < from + old → k < from + len → byte_in ys k ≡ byte_in xs k)
    → ((k : ℕ) → from + old ≤ k → k < from + len → byte_in ys k ≡ 0) → bytes_in ys from len ≡ fitted (bytes_in xs from old) len
bytes_fitted xs ys from old len stay zero =
    let bytes = bytes_in xs from old in
    let many = length-bytes_in xs from old in
    ext_get_or 0 (bytes_in ys from len) (fitted bytes len) (length-bytes_in ys from len ∙ sym (length-fitted bytes len)) (λ i h.
    let inside : i < len = omega (arith, length-bytes_in ys from len) in
    let here = get_or-bytes_in ys from len i (from + i) inside refl in
    elim (cases_lt i old) [
      | inl low ↦ here ∙ stay (from + i) (omega arith) (omega arith) (omega arith) ∙ sym (get_or-bytes_in xs from old i (from + i) low refl) ∙ sym (fitted_kept bytes len i inside (omega arith))
      | inr past ↦ here ∙ zero (from + i) (omega arith) (omega arith) ∙ sym (fitted_new bytes len i inside (omega arith))
    ])

-- a word written before some bytes leaves them
pub bytes_behind : (words : List ℕ) (at word k : ℕ) → 8 * (at + 1) ≤ k → byte_in (set words at word) k ≡ byte_in words k
bytes_behind words at word k h = let other : k / 8 ≢ at = omega arith in same_byte words (set words at word) k (get_or-set_other words at (k / 8) word 0 other)
