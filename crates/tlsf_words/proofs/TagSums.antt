-- The meaning of sums and differences of tags as words.
use Rattle.tlsf_words.specs.Tags.{HasFields, tag_in}
use Rattle.tlsf_words.proofs.Common.{◌≡◌, ℕ, ◌+◌, ◌-◌, ◌*◌, ◌/◌, ◌%◌, ◌^◌, ◌<◌, ◌≤◌, inl, inr, Bool, true, false, eqb, ap, ◌∙◌, sym, arith, eq-eqb, false≢true, cases_eq, eqb-true, ne_eqb, low_half, high_half, size_in, last_in, free_in, back_in}

-- what a word says as a tag
abbrev pub Says : ℕ → ℕ → Bool → Bool → ℕ → Type 0
Says word n is_free is_last at = HasFields n is_free is_last at (tag_in word)

-- a bit that isn't set, or is, or is as another
clear_bit : (n : ℕ) → n < 2 → eqb n 1 ≡ false → n ≡ 0
clear_bit n h e = elim (cases_eq n 1) [
  | inl one ↦ absurd (false≢true (sym e ∙ eq-eqb n 1 one))
  | inr other ↦ omega (arith, h, other)
]

same_bit : (n k : ℕ) → n < 2 → k < 2 → eqb n 1 ≡ eqb k 1 → n ≡ k
same_bit n k h l e = elim (cases_eq k 1) [
  | inl one ↦ eqb-true n 1 (e ∙ eq-eqb k 1 one) ∙ sym one
  | inr other ↦ let zero = clear_bit n h (e ∙ ne_eqb k 1 other) in omega (arith, zero, l, other)
]

-- the flags of a word as bits
live_bit : (w : ℕ) → free_in w ≡ false → w % 2 ^ 32 % 2 ≡ 0
unfolding free_in low_half
live_bit w e = clear_bit (w % 2 ^ 32 % 2) (omega arith) e

free_bit : (w : ℕ) → free_in w ≡ true → w % 2 ^ 32 % 2 ≡ 1
unfolding free_in low_half
free_bit w e = eqb-true (w % 2 ^ 32 % 2) 1 e

inner_bit : (w : ℕ) → last_in w ≡ false → w % 2 ^ 32 / 2 % 2 ≡ 0
unfolding last_in low_half
inner_bit w e = clear_bit (w % 2 ^ 32 / 2 % 2) (omega arith) e

same_free : (w k : ℕ) → free_in w ≡ free_in k → w % 2 ^ 32 % 2 ≡ k % 2 ^ 32 % 2
unfolding free_in low_half
same_free w k e = same_bit (w % 2 ^ 32 % 2) (k % 2 ^ 32 % 2) (omega arith) (omega arith) e

same_last : (w k : ℕ) → last_in w ≡ last_in k → w % 2 ^ 32 / 2 % 2 ≡ k % 2 ^ 32 / 2 % 2
unfolding last_in low_half
same_last w k e = same_bit (w % 2 ^ 32 / 2 % 2) (k % 2 ^ 32 / 2 % 2) (omega arith) (omega arith) e

-- ---- what the words say

pub says_free : (w : ℕ) → Says (w - w % 2 + 1) (size_in w) true (last_in w) (back_in w)
unfolding size_in last_in free_in back_in low_half high_half
says_free w = record {
  size = omega arith;
  free = eq-eqb ((w - w % 2 + 1) % 2 ^ 32 % 2) 1 (omega arith);
  last = ap (λ n. eqb n 1) (let bit : (w - w % 2 + 1) % 2 ^ 32 / 2 % 2 ≡ w % 2 ^ 32 / 2 % 2 = omega arith in bit);
  back = omega arith;
}

pub says_live : (w : ℕ) → Says (w - w % 2) (size_in w) false (last_in w) (back_in w)
unfolding size_in last_in free_in back_in low_half high_half
says_live w = record {
  size = omega arith;
  free = ne_eqb ((w - w % 2) % 2 ^ 32 % 2) 1 (λ e. omega (arith, e));
  last = ap (λ n. eqb n 1) (let bit : (w - w % 2) % 2 ^ 32 / 2 % 2 ≡ w % 2 ^ 32 / 2 % 2 = omega arith in bit);
  back = omega arith;
}

pub says_granted : (w : ℕ) → free_in w ≡ true → Says (w - 1) (size_in w) false (last_in w) (back_in w)
says_granted w free = let same : w - w % 2 ≡ w - 1 = omega (arith, free_bit w free) in rw same at (says_live w)

pub says_back : (w back : ℕ) → Says (low_half w + back * 2 ^ 32) (size_in w) (free_in w) (last_in w) back
unfolding size_in last_in free_in back_in low_half high_half
says_back w back = record {
  size = omega arith;
  free = ap (λ n. eqb n 1) (let bit : (w % 2 ^ 32 + back * 2 ^ 32) % 2 ^ 32 % 2 ≡ w % 2 ^ 32 % 2 = omega arith in bit);
  last = ap (λ n. eqb n 1) (let bit : (w % 2 ^ 32 + back * 2 ^ 32) % 2 ^ 32 / 2 % 2 ≡ w % 2 ^ 32 / 2 % 2 = omega arith in bit);
  back = omega arith;
}

pub says_next : (w n : ℕ) → free_in w ≡ false → last_in w ≡ false → free_in n ≡ true → size_in w + size_in n < 2 ^ 30
    → Says (w + low_half n) (size_in w + size_in n) true (last_in n) (back_in w)
unfolding size_in last_in free_in back_in low_half high_half
says_next w n live inner free fits = sums (live_bit w live) (inner_bit w inner) (free_bit n free) fits
  where
    sums : w % 2 ^ 32 % 2 ≡ 0 → w % 2 ^ 32 / 2 % 2 ≡ 0 → n % 2 ^ 32 % 2 ≡ 1 → size_in w + size_in n < 2 ^ 30 → Says (w + low_half n) (size_in w + size_in n) true (last_in n) (back_in w)
    sums a b c h = record {
      size = omega (arith, a, b, c, h);
      free = eq-eqb ((w + n % 2 ^ 32) % 2 ^ 32 % 2) 1 (omega (arith, a, b, c, h));
      last = ap (λ n. eqb n 1) (let bit : (w + n % 2 ^ 32) % 2 ^ 32 / 2 % 2 ≡ n % 2 ^ 32 / 2 % 2 = omega (arith, a, b, c, h) in bit);
      back = omega (arith, a, b, c, h);
    }

pub says_previous : (w p : ℕ) → free_in w ≡ true → free_in p ≡ true → last_in p ≡ false → size_in p + size_in w < 2 ^ 30
    → Says (p - 1 + low_half w) (size_in p + size_in w) true (last_in w) (back_in p)
unfolding size_in last_in free_in back_in low_half high_half
says_previous w p free before inner fits = sums (free_bit w free) (free_bit p before) (inner_bit p inner) fits
  where
    sums : w % 2 ^ 32 % 2 ≡ 1 → p % 2 ^ 32 % 2 ≡ 1 → p % 2 ^ 32 / 2 % 2 ≡ 0 → size_in p + size_in w < 2 ^ 30 → Says (p - 1 + low_half w) (size_in p + size_in w) true (last_in w) (back_in p)
    sums a b c h = record {
      size = omega (arith, a, b, c, h);
      free = eq-eqb ((p - 1 + w % 2 ^ 32) % 2 ^ 32 % 2) 1 (omega (arith, a, b, c, h));
      last = ap (λ n. eqb n 1) (let bit : (p - 1 + w % 2 ^ 32) % 2 ^ 32 / 2 % 2 ≡ w % 2 ^ 32 / 2 % 2 = omega (arith, a, b, c, h) in bit);
      back = omega (arith, a, b, c, h);
    }

pub says_rest : (w size at : ℕ) → size ≤ size_in w → Says (low_half w - 4 * size + at * 2 ^ 32) (size_in w - size) (free_in w) (last_in w) at
unfolding size_in last_in free_in back_in low_half high_half
says_rest w size at h = record {
  size = omega (arith, h);
  free = ap (λ n. eqb n 1) (let bit : (w % 2 ^ 32 - 4 * size + at * 2 ^ 32) % 2 ^ 32 % 2 ≡ w % 2 ^ 32 % 2 = omega (arith, h) in bit);
  last = ap (λ n. eqb n 1) (let bit : (w % 2 ^ 32 - 4 * size + at * 2 ^ 32) % 2 ^ 32 / 2 % 2 ≡ w % 2 ^ 32 / 2 % 2 = omega (arith, h) in bit);
  back = omega (arith, h);
}

pub rest_fits : (w size : ℕ) → size ≤ size_in w → 4 * size ≤ low_half w
unfolding size_in low_half
rest_fits w size h = omega (arith, h)

pub says_without : (w r : ℕ) → size_in r ≤ size_in w → free_in r ≡ free_in w → last_in r ≡ last_in w → Says (w - low_half r) (size_in w - size_in r) false false (back_in w)
unfolding size_in last_in free_in back_in low_half high_half
says_without w r h free last = cut h (same_free r w free) (same_last r w last)
  where
    cut : size_in r ≤ size_in w → r % 2 ^ 32 % 2 ≡ w % 2 ^ 32 % 2 → r % 2 ^ 32 / 2 % 2 ≡ w % 2 ^ 32 / 2 % 2 → Says (w - low_half r) (size_in w - size_in r) false false (back_in w)
    cut h a b = record {
      size = omega (arith, h, a, b);
      free = ne_eqb ((w - r % 2 ^ 32) % 2 ^ 32 % 2) 1 (λ e. omega (arith, h, a, b, e));
      last = ne_eqb ((w - r % 2 ^ 32) % 2 ^ 32 / 2 % 2) 1 (λ e. omega (arith, h, a, b, e));
      back = omega (arith, h, a, b);
    }

pub without_fits : (w r : ℕ) → size_in r ≤ size_in w → free_in r ≡ free_in w → last_in r ≡ last_in w → low_half r ≤ w
unfolding size_in low_half
without_fits w r h free last = cut h (same_free r w free) (same_last r w last)
  where
    cut : size_in r ≤ size_in w → r % 2 ^ 32 % 2 ≡ w % 2 ^ 32 % 2 → r % 2 ^ 32 / 2 % 2 ≡ w % 2 ^ 32 / 2 % 2 → low_half r ≤ w
    cut h a b = omega (arith, h, a, b)

-- ---- and that they are words

pub next_fits : (w n : ℕ) → w < 2 ^ 64 → free_in w ≡ false → last_in w ≡ false → free_in n ≡ true → size_in w + size_in n < 2 ^ 30 → w + low_half n < 2 ^ 64
unfolding size_in low_half
next_fits w n word live inner free fits = let a = live_bit w live in let b = inner_bit w inner in let c = free_bit n free in omega (arith, word, a, b, c, fits)

pub free_least : (w : ℕ) → free_in w ≡ true → 1 ≤ w
free_least w free = omega (arith, free_bit w free)

pub previous_fits : (w p : ℕ) → p < 2 ^ 64 → free_in w ≡ true → free_in p ≡ true → last_in p ≡ false → size_in p + size_in w < 2 ^ 30 → p - 1 + low_half w < 2 ^ 64
unfolding size_in low_half
previous_fits w p word free before inner fits = let a = free_bit w free in let b = free_bit p before in let c = inner_bit p inner in omega (arith, word, a, b, c, fits)
