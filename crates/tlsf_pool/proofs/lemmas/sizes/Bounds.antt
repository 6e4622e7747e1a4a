-- How far the greatest region goes.
use Rattle.tlsf_pool.proofs.Common.{◌≡◌, ℕ, zero, suc, ◌+◌, ◌-◌, ◌*◌, ◌/◌, ◌<◌, ◌≤◌, max, arith, inl, inr, le_trans, cases_lt, want, sure, mixed_words, IsLevel, most_words}
use Rattle.tlsf_pool.proofs.lemmas.laws.FreeRoom.{sure_enough, sure_rises, wants, less}
use Rattle.tlsf_pool.proofs.lemmas.laws.ModestCalls.{mixed_of_fours, mixed_of_more}
use Rattle.tlsf_pool.proofs.lemmas.sizes.Sizes.{products, some_words}

sums : (a b c d : ℕ) → a ≤ b → c ≤ d → a + c + 1 ≤ b + d + 1
sums a b c d f g = omega (arith, f, g)

three : (a b : ℕ) → a ≤ b → a + 3 ≤ b + 3
three a b f = omega (arith, f)

same : (a : ℕ) → a ≤ a
same a = omega arith

upto : (a b c d : ℕ) → a ≡ max 4 c → b ≡ max 4 d → c ≤ d → a ≤ b
upto a b c d e f g = omega (arith, e, f, g)

first_upto : (a b c d : ℕ) → c ≤ b → c ≤ a + b + d
first_upto a b c d h = omega (arith, h)

-- longer requests ask for no fewer words
pub words_rise : (sli : ℕ) → IsLevel sli → (most a b : ℕ) → a ≤ b → want b ≤ most_words sli → mixed_words sli most a ≤ mixed_words sli most b
words_rise sli level most a b f class =
    let w : want a ≤ want b = wants a b f in
    let lost : ℕ → ℕ = λ len. sure sli (want len) - 1 in
    let sum : ℕ → ℕ = λ len. (most - 1) * (want len + 3) + most * lost len + 1 in
    elim (cases_lt 8 a) [
      | inl more ↦ upto (mixed_words sli most a) (mixed_words sli most b) (sum a) (sum b) (mixed_of_more sli most a more) (mixed_of_more sli most b (omega (arith, more, f)))
          (sums ((most - 1) * (want a + 3)) ((most - 1) * (want b + 3)) (most * lost a) (most * lost b)
          (products (most - 1) (most - 1) (want a + 3) (want b + 3) (same (most - 1)) (three (want a) (want b) w))
          (products most most (lost a) (lost b) (same most) (less (sure sli (want a)) (sure sli (want b)) (sure_rises sli level (want a) (want b) w class))))
      | inr four ↦ elim (cases_lt 8 b) [
        | inl more ↦ upto (mixed_words sli most a) (mixed_words sli most b) (most * 4) (sum b) (mixed_of_fours sli most a four) (mixed_of_more sli most b more)
            (first_upto ((most - 1) * (want b + 3)) (most * lost b) (most * 4) 1 (products most most 4 (lost b) (same most) (omega (arith, more, sure_enough sli level (want b) class))))
        | inr short ↦ upto (mixed_words sli most a) (mixed_words sli most b) (most * 4) (most * 4) (mixed_of_fours sli most a four) (mixed_of_fours sli most b short) (same (most * 4))
      ]
    ]

-- a length above the first that doesn't fit doesn't fit
pub none_longer : (sli : ℕ) → IsLevel sli → (most longest above len : ℕ) → above ≤ longest + 1 → (above < 8 * (most_words sli - 3) + 1 → ¬ (mixed_words sli most above ≤ most_words sli)) → want len ≤ most_words sli → mixed_words sli most len ≤ most_words sli → len ≤ longest
none_longer sli level most longest above len next passed class fits = elim (cases_lt longest len) [
  | inl l ↦
      let under : above ≤ len = omega (arith, next, l) in
      let short : above < 8 * (most_words sli - 3) + 1 = omega (arith, under, class) in
      absurd (passed short (le_trans (words_rise sli level most above len under class) fits))
  | inr g ↦ g
]

-- ---- by one product

-- the words of one block or more, and those that the block that is asked for would have
one_product : (m w t : ℕ) → m * (w + 3) + suc m * t + 1 + (w + 3) ≡ suc m * (w + 3 + t) + 1
one_product m w t = omega arith

reached_by : (q w t x : ℕ) → q * (w + 3 + t) ≤ x + w + 2 → 1 ≤ x → (q - 1) * (w + 3) + q * t + 1 ≤ x
reached_by zero w t x h some = omega (arith, some)
reached_by (suc m) w t x h some =
    let less : suc m - 1 ≡ m = omega arith in
    rw less (omega (arith, one_product m w t, h))

passed_by : (q w t x : ℕ) → (q - 1) * (w + 3) + q * t + 1 ≤ x → q * (w + 3 + t) ≤ x + w + 2
passed_by zero w t x h = omega arith
passed_by (suc m) w t x h =
    let less : suc m - 1 ≡ m = omega arith in
    let same_words = rw less at h in
    omega (arith, one_product m w t, same_words)

divided : (x d : ℕ) → 0 < d → (x / d) * d ≤ x
divided x d some = omega arith

undivided : (x d m : ℕ) → 0 < d → m * d ≤ x → m ≤ x / d
undivided x d m some h = elim (cases_lt (x / d) m) [
  | inl l ↦ let more : (x / d + 1) * d ≤ m * d = products (x / d + 1) m d d (omega (arith, l)) (same d) in absurd (omega (arith, more, h))
  | inr g ↦ g
]

-- the least size of the search class but one, and the header's three words and the rest's, by the divisor
divisor : (w s : ℕ) → 1 ≤ s → w + 2 + s ≡ w + 3 + (s - 1)
divisor w s some = omega (arith, some)

most_of : (a b w : ℕ) → a ≡ max 4 b → 4 ≤ w → b ≤ w → a ≤ w
most_of a b w e f g = omega (arith, e, f, g)

rest_of : (a b w : ℕ) → a ≡ max 4 b → a ≤ w → b ≤ w
rest_of a b w e g = omega (arith, e, g)

module _ (sli : ℕ) (level : IsLevel sli) (len : ℕ) (class : want len ≤ most_words sli) where
  -- blocks of four words
  pub fours_reached : len ≤ 8 → mixed_words sli (most_words sli / 4) len ≤ most_words sli
  fours_reached four =
      most_of (mixed_words sli (most_words sli / 4) len) (most_words sli / 4 * 4) (most_words sli) (mixed_of_fours sli (most_words sli / 4) len four) (some_words sli level) (omega arith)

  pub fours_passed : len ≤ 8 → (most : ℕ) → mixed_words sli most len ≤ most_words sli → most ≤ most_words sli / 4
  fours_passed four most fits = let few = rest_of (mixed_words sli most len) (most * 4) (most_words sli) (mixed_of_fours sli most len four) fits in omega (arith, few)

  some_sure : 1 ≤ sure sli (want len)
  some_sure = omega (arith, sure_enough sli level (want len) class)

  pub most_reached : 8 < len → mixed_words sli ((most_words sli + want len + 2) / (want len + 2 + sure sli (want len))) len ≤ most_words sli
  most_reached more =
      let most : ℕ = (most_words sli + want len + 2) / (want len + 2 + sure sli (want len)) in
      most_of (mixed_words sli most len) ((most - 1) * (want len + 3) + most * (sure sli (want len) - 1) + 1) (most_words sli) (mixed_of_more sli most len more) (some_words sli level)
      (rw (divisor (want len) (sure sli (want len)) some_sure)
      (reached_by ((most_words sli + want len + 2) / (want len + 3 + (sure sli (want len) - 1))) (want len) (sure sli (want len) - 1) (most_words sli)
      (divided (most_words sli + want len + 2) (want len + 3 + (sure sli (want len) - 1)) (omega arith)) (omega (arith, some_words sli level))))

  pub most_passed : 8 < len → (most : ℕ) → mixed_words sli most len ≤ most_words sli → most ≤ (most_words sli + want len + 2) / (want len + 2 + sure sli (want len))
  most_passed more most fits =
      let few = rest_of (mixed_words sli most len) ((most - 1) * (want len + 3) + most * (sure sli (want len) - 1) + 1) (most_words sli) (mixed_of_more sli most len more) fits in
      rw (divisor (want len) (sure sli (want len)) some_sure)
      (undivided (most_words sli + want len + 2) (want len + 3 + (sure sli (want len) - 1)) most (omega arith) (passed_by most (want len) (sure sli (want len) - 1) (most_words sli) few))
