-- A search by halves: which units stay in question, and in how many steps one is left.
use Rattle.tlsf_arena.proofs.Common.{◌≡◌, ℕ, ◌+◌, ◌-◌, ◌*◌, ◌/◌, ◌^◌, ◌<◌, ◌≤◌, Bool, false, sym, ap, subst, ◌∙◌, arith, mul_assoc, mul-le-mul_left, pow_mono, inl, inr, Decides, cases_lt, false≢true, IsUnit}
use Rattle.std.proofs.lemmas.Grind.{pow_more}
use Rattle.tlsf_arena.proofs.UnitCases.{by_unit}

-- ---- units are in the order of their bytes

unit_below : (u j k : ℕ) → IsUnit u → u * j < u * k → j < k
unit_below u j k is = by_unit (λ u. u * j < u * k → j < k) (λ e. omega (arith, e)) (λ e. omega (arith, e)) (λ e. omega (arith, e)) u is

unit_least : (u j k : ℕ) → IsUnit u → u * j ≤ u * k → j ≤ k
unit_least u j k is = by_unit (λ u. u * j ≤ u * k → j ≤ k) (λ e. omega (arith, e)) (λ e. omega (arith, e)) (λ e. omega (arith, e)) u is

-- what does not lie before a place lies at it or behind it
pub not_before : (r : Bool) (p q : ℕ) → Decides r (p < q) → r ≡ false → q ≤ p
not_before r p q tells off = elim (cases_lt p q) [ inl lt ↦ absurd (false≢true (sym off ∙ tells.1 lt)) | inr le ↦ le ]

-- a unit that begins at p lies before unit m exactly where p does. Unit m begins with grain g of the memory at b
module _ (u b p g m j : ℕ) (unit : IsUnit u) (starts : 16 * g ≡ u * m) (here : p ≡ b + u * j) where
  pub ahead : p < b + 16 * g → j < m
  ahead lt = unit_below u j m unit (omega (arith, starts, here, lt))

  pub behind : b + 16 * g ≤ p → m ≤ j
  behind le = unit_least u m j unit (omega (arith, starts, here, le))

-- ---- steps: `start` comparisons were counted before the search

-- none was made yet
pub none_left : (start m : ℕ) → 0 < m → 2 ^ (start - start) * (m - 1) < m
none_left start m some = let none : start - start ≡ 0 = omega arith in subst (λ (k : ℕ). 2 ^ k * (m - 1) < m) (sym none) (omega (arith, some))

-- those that were made left c of m; one more leaves d, half of them
module _ (start now next c d m : ℕ) (begun : start ≤ now) (one : next ≡ now + 1) (lt : 2 ^ (now - start) * c < m) where
  more : next - start ≡ (now - start) + 1
  more = omega (arith, begun, one)

  pub next_left : 2 * d ≤ c → 2 ^ (next - start) * d < m
  next_left half =
      let P : ℕ = 2 ^ (now - start) in
      let same : 2 ^ (next - start) * d ≡ P * (2 * d) = ap (λ (k : ℕ). 2 ^ k * d) more ∙ ap (λ (x : ℕ). x * d) (pow_more 2 (now - start)) ∙ mul_assoc P 2 d in
      let least : P * (2 * d) ≤ P * c = mul-le-mul_left P half in
      omega (arith, same, least, lt)

  pub next_made : 1 ≤ c → 2 ^ (next - start) < 2 * m
  next_made some =
      let P : ℕ = 2 ^ (now - start) in
      let same : 2 ^ (next - start) ≡ P * 2 = ap (λ (k : ℕ). 2 ^ k) more ∙ pow_more 2 (now - start) in
      let least : P * 1 ≤ P * c = mul-le-mul_left P some in
      omega (arith, same, least, lt)

-- ---- what a search by halves keeps: of `units` units of u bytes, from the address b on, the `count` from number `at` on are in question

pub record Halves (start now units u b p at count : ℕ) : Type 0 where
  pub some : 0 < count
  pub inside : at + count ≤ units
  pub holds : (j : ℕ) → j < units → p ≡ b + u * j → (at ≤ j) × (j < at + count)
  pub begun : start ≤ now
  pub left : 2 ^ (now - start) * (count - 1) < units
  pub made : 2 ^ (now - start) < 2 * units

module _ (start now next units u b p at count g : ℕ) (kept : Halves start now units u b p at count) (many : 1 < count) (one : next ≡ now + 1) (unit : IsUnit u)
    (starts : 16 * g ≡ u * (at + count / 2)) where
  fewer : 2 ^ (next - start) * (count - count / 2 - 1) < units
  fewer = next_left start now next (count - 1) (count - count / 2 - 1) units kept.begun one kept.left (omega (arith, many))

  once_more : 2 ^ (next - start) < 2 * units
  once_more = next_made start now next (count - 1) 0 units kept.begun one kept.left (omega (arith, many))

  pub lower : p < b + 16 * g → Halves start next units u b p at (count - count / 2)
  lower lt = record {
    some = omega (arith, many);
    inside = omega (arith, many, kept.inside);
    holds = λ j small here. let before : j < at + count / 2 = ahead u b p g (at + count / 2) j unit starts here lt in let old = kept.holds j small here in (old.0, omega (arith, before, many));
    begun = omega (arith, kept.begun, one);
    left = fewer;
    made = once_more;
  }

  pub higher : b + 16 * g ≤ p → Halves start next units u b p (at + count / 2) (count - count / 2)
  higher le = record {
    some = omega (arith, many);
    inside = omega (arith, many, kept.inside);
    holds = λ j small here. let past : at + count / 2 ≤ j = behind u b p g (at + count / 2) j unit starts here le in let old = kept.holds j small here in (past, omega (arith, old.1, many));
    begun = omega (arith, kept.begun, one);
    left = fewer;
    made = once_more;
  }

-- ---- so many comparisons in all

-- fewer steps need no more units
pub fewer_steps : (i k m : ℕ) → i ≤ k → 2 ^ k < m → 2 ^ i < m
fewer_steps i k m le lt = let far : 2 ^ i ≤ 2 ^ k = pow_mono le in omega (arith, far, lt)

-- with 2 ^ 24 units at most there are 24 steps at most
pub few_steps : (k units : ℕ) → units ≤ 2 ^ 24 → 2 ^ k < 2 * units → k ≤ 24
few_steps k units most lt = elim (cases_lt 24 k) [
  | inl more ↦ let far : 2 ^ 25 ≤ 2 ^ k = pow_mono more in absurd (omega (arith, far, lt, most))
  | inr fine ↦ fine
]

-- two guesses, a search and a last look
pub in_all : (old one two three four m : ℕ) → one ≤ old + 1 → two ≤ one + 1 → two ≤ three → 2 ^ (three - two) < 2 * m → four ≤ three + 1 → 2 ^ (four - (old + 3)) < 2 * m
in_all old one two three four m first second rises lt last = fewer_steps (four - (old + 3)) (three - two) (2 * m) (omega (arith, first, second, rises, last)) lt

pub few_in_all : (old new units : ℕ) → units ≤ 2 ^ 24 → 2 ^ (new - (old + 3)) < 2 * units → new ≤ old + 27
few_in_all old new units most lt = let few : new - (old + 3) ≤ 24 = few_steps (new - (old + 3)) units most lt in omega (arith, few)
