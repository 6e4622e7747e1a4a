-- The bytes of a word that is put together from two, and of one that loses its low bytes.
use Rattle.tlsf_words.proofs.Common.{◌≡◌, ℕ, zero, suc, ◌+◌, ◌-◌, ◌*◌, ◌/◌, ◌%◌, ◌^◌, ◌<◌, ◌≤◌, ◌++◌, get_or, length, take, drop, w64, refl, sym, ap, ◌∙◌, inl, inr, arith, length-append, length-drop, length-take-le, to_le_bytes, cases_lt, ext_get_or, get_or-take, get_or-drop, get_or_append_left, get_or-append_right, pow-add, pow_pos, mod-pow-add, div-mul-add, mod-mul-add}
use Rattle.std.proofs.Math.Nat.{div-div-eq-div-mul, mod-eq_of_lt, mod-lt, mul-le-mul_right}
use Rattle.std.proofs.Math.Pow.{mod-mod-pow, pow-lt}

-- byte j of a word is entry j of its bytes
byte_at : (word j : ℕ) → j < 8 → get_or (to_le_bytes w64 word) j 0 ≡ word / 2 ^ (8 * j) % 2 ^ 8
byte_at word zero h = omega arith
byte_at word (suc zero) h = refl
byte_at word (suc (suc zero)) h = refl
byte_at word (suc (suc (suc zero))) h = refl
byte_at word (suc (suc (suc (suc zero)))) h = refl
byte_at word (suc (suc (suc (suc (suc zero))))) h = refl
byte_at word (suc (suc (suc (suc (suc (suc zero)))))) h = refl
byte_at word (suc (suc (suc (suc (suc (suc (suc zero))))))) h = refl
byte_at word (suc (suc (suc (suc (suc (suc (suc (suc j)))))))) h = absurd (omega arith)

-- 8 bits of a number, by the bits up to the last of them
bits_by_mod : (x a : ℕ) → x / 2 ^ a % 2 ^ 8 ≡ x % 2 ^ (8 + a) / 2 ^ a
bits_by_mod x a = sym (ap (λ n. n / 2 ^ a) (mod-pow-add x 8 a) ∙ div-mul-add (x / 2 ^ a % 2 ^ 8) (2 ^ a) (x % 2 ^ a) (mod-lt x (pow_pos a)))

-- numbers whose low k bits are the same have the same 8 bits below them
same_bits : (x y k a : ℕ) → x % 2 ^ k ≡ y % 2 ^ k → 8 + a ≤ k → x / 2 ^ a % 2 ^ 8 ≡ y / 2 ^ a % 2 ^ 8
same_bits x y k a same h =
    let split : k - (8 + a) + (8 + a) ≡ k = omega arith in
    let low : (n : ℕ) → n % 2 ^ k % 2 ^ (8 + a) ≡ n % 2 ^ (8 + a) = λ n. ap (λ e. n % 2 ^ e % 2 ^ (8 + a)) (sym split) ∙ mod-mod-pow n (k - (8 + a)) (8 + a) in
    bits_by_mod x a ∙ ap (λ n. n / 2 ^ a) (sym (low x) ∙ ap (λ n. n % 2 ^ (8 + a)) same ∙ low y) ∙ sym (bits_by_mod y a)

-- 8 bits above the low k
bits_above : (x k a b : ℕ) → b ≡ k + a → x / 2 ^ b % 2 ^ 8 ≡ x / 2 ^ k / 2 ^ a % 2 ^ 8
bits_above x k a b e = ap (λ n. x / n % 2 ^ 8) (ap (λ n. 2 ^ n) e ∙ pow-add 2 k a) ∙ ap (λ n. n % 2 ^ 8) (sym (div-div-eq-div-mul x (2 ^ k) (2 ^ a)))

-- what a shift to the left leaves of a number
shifted : (x k : ℕ) → k ≤ 64 → x * 2 ^ k % 2 ^ 64 ≡ x % 2 ^ (64 - k) * 2 ^ k
shifted x k h =
    let split : 64 - k + k ≡ 64 = omega arith in
    let whole : (x * 2 ^ k + 0) / 2 ^ k ≡ x = div-mul-add x (2 ^ k) 0 (pow_pos k) in
    let none : (x * 2 ^ k + 0) % 2 ^ k ≡ 0 = mod-mul-add x (2 ^ k) 0 (pow_pos k) in
    let plus : x * 2 ^ k + 0 ≡ x * 2 ^ k = omega arith in
    let sum : (x * 2 ^ k + 0) % 2 ^ (64 - k + k) ≡ x % 2 ^ (64 - k) * 2 ^ k + 0 = mod-pow-add (x * 2 ^ k + 0) (64 - k) k ∙ rw (whole, none) refl in
    ap (λ n. n % 2 ^ 64) (sym plus) ∙ ap (λ e. (x * 2 ^ k + 0) % 2 ^ e) (sym split) ∙ sum ∙ omega arith

-- a number above k bits, and the number in them
joined : (low high k : ℕ) → k ≤ 64 → (low % 2 ^ k + high * 2 ^ k % 2 ^ 64) ≡ high % 2 ^ (64 - k) * 2 ^ k + low % 2 ^ k
joined low high k h = ap (λ n. low % 2 ^ k + n) (shifted high k h) ∙ omega arith

joined_low : (low high k : ℕ) → k ≤ 64 → (low % 2 ^ k + high * 2 ^ k % 2 ^ 64) % 2 ^ k ≡ low % 2 ^ k
joined_low low high k h = ap (λ n. n % 2 ^ k) (joined low high k h) ∙ mod-mul-add (high % 2 ^ (64 - k)) (2 ^ k) (low % 2 ^ k) (mod-lt low (pow_pos k))

joined_high : (low high k : ℕ) → k ≤ 64 → (low % 2 ^ k + high * 2 ^ k % 2 ^ 64) / 2 ^ k ≡ high % 2 ^ (64 - k)
joined_high low high k h = ap (λ n. n / 2 ^ k) (joined low high k h) ∙ div-mul-add (high % 2 ^ (64 - k)) (2 ^ k) (low % 2 ^ k) (mod-lt low (pow_pos k))

mod_again : (x k : ℕ) → x % 2 ^ k % 2 ^ k ≡ x % 2 ^ k
mod_again x k = mod-eq_of_lt (mod-lt x (pow_pos k))

joined_small : (low high k : ℕ) → k ≤ 64 → low % 2 ^ k + high * 2 ^ k % 2 ^ 64 < 2 ^ 64
joined_small low high k h =
    let split : 64 - k + k ≡ 64 = omega arith in
    let one_more : high % 2 ^ (64 - k) + 1 ≤ 2 ^ (64 - k) = omega (arith, mod-lt high (pow_pos (64 - k))) in
    let top : (high % 2 ^ (64 - k) + 1) * 2 ^ k ≤ 2 ^ (64 - k) * 2 ^ k = mul-le-mul_right (2 ^ k) one_more in
    let all : 2 ^ (64 - k) * 2 ^ k ≡ 2 ^ 64 = sym (pow-add 2 (64 - k) k) ∙ ap (λ e. 2 ^ e) split in
    let below : low % 2 ^ k < 2 ^ k = mod-lt low (pow_pos k) in
    rw (joined low high k h) (omega (arith, top, all, below))

-- a bit below the 64th, shifted there
one_at : (k : ℕ) → k < 64 → 1 * 2 ^ k % 2 ^ 64 ≡ 2 ^ k
one_at k h =
    let below : 1 * 2 ^ k < 2 ^ 64 = omega (arith, pow-lt h) in
    mod-eq_of_lt below ∙ omega arith

-- it fits a word
pub joined_fits : (low high n : ℕ) → n < 8 → low % (1 * 2 ^ (8 * n) % 2 ^ 64) + high * 2 ^ (8 * n) % 2 ^ 64 < 2 ^ 64
joined_fits low high n h =
    let one = one_at (8 * n) (omega arith) in
    rw one (joined_small low high (8 * n) (omega arith))

joined_are : (low high n : ℕ) → n < 8
    → to_le_bytes w64 (low % 2 ^ (8 * n) + high * 2 ^ (8 * n) % 2 ^ 64) ≡ take n (to_le_bytes w64 low) ++ take (8 - n) (to_le_bytes w64 high)
joined_are low high n h =
    let k = 8 * n in
    let word = low % 2 ^ k + high * 2 ^ k % 2 ^ 64 in
    let front = take n (to_le_bytes w64 low) in
    let back = take (8 - n) (to_le_bytes w64 high) in
    let long_front : length front ≡ n = length-take-le n (to_le_bytes w64 low) (omega arith) in
    let long_back : length back ≡ 8 - n = length-take-le (8 - n) (to_le_bytes w64 high) (omega arith) in
    ext_get_or 0 (to_le_bytes w64 word) (front ++ back) (simp (length-append) (omega (arith, long_front, long_back)))
    (λ j below. byte_at word j below ∙ elim (cases_lt j n) [
      | inl first ↦
          same_bits word low k (8 * j) (joined_low low high k (omega arith)) (omega arith)
          ∙ sym (get_or_append_left front back 0 j (omega (arith, long_front)) ∙ get_or-take n (to_le_bytes w64 low) j 0 first ∙ byte_at low j below)
      | inr from ↦
          bits_above word k (8 * (j - n)) (8 * j) (omega arith)
          ∙ ap (λ x. x / 2 ^ (8 * (j - n)) % 2 ^ 8) (joined_high low high k (omega arith))
          ∙ same_bits (high % 2 ^ (64 - k)) high (64 - k) (8 * (j - n)) (mod_again high (64 - k)) (omega arith)
          ∙ sym (get_or-append_right front back n j 0 long_front from ∙ get_or-take (8 - n) (to_le_bytes w64 high) (j - n) 0 (omega arith) ∙ byte_at high (j - n) (omega arith))
    ])

-- its bytes
pub joined_bytes : (low high n : ℕ) → n < 8
    → to_le_bytes w64 (low % (1 * 2 ^ (8 * n) % 2 ^ 64) + high * 2 ^ (8 * n) % 2 ^ 64) ≡ take n (to_le_bytes w64 low) ++ take (8 - n) (to_le_bytes w64 high)
joined_bytes low high n h = ap (λ m. to_le_bytes w64 (low % m + high * 2 ^ (8 * n) % 2 ^ 64)) (one_at (8 * n) (omega arith)) ∙ joined_are low high n h

-- the bytes of a word above the low n
pub dropped_bytes : (word n : ℕ) → n < 8 → take (8 - n) (to_le_bytes w64 (word / 2 ^ (8 * n))) ≡ drop n (to_le_bytes w64 word)
dropped_bytes word n h =
    let rest = to_le_bytes w64 (word / 2 ^ (8 * n)) in
    let long : length (take (8 - n) rest) ≡ 8 - n = length-take-le (8 - n) rest (omega arith) in
    ext_get_or 0 (take (8 - n) rest) (drop n (to_le_bytes w64 word)) (omega (arith, long, length-drop n (to_le_bytes w64 word)))
    (λ j below.
    get_or-take (8 - n) rest j 0 (omega (arith, long))
    ∙ byte_at (word / 2 ^ (8 * n)) j (omega (arith, long))
    ∙ sym (bits_above word (8 * n) (8 * j) (8 * (n + j)) (omega arith))
    ∙ sym (get_or-drop n (to_le_bytes w64 word) j 0 ∙ byte_at word (n + j) (omega (arith, long))))
