-- A fact of a unit of 16, of 32 and of 64 bytes is one of each unit.
use Rattle.tlsf_arena.proofs.Common.{◌≡◌, ℕ, ◌+◌, ◌-◌, ◌*◌, ◌/◌, ◌%◌, ◌≤◌, eqb, ◌||◌, inl, inr, sym, subst, arith, eqb-true, or_cases, IsUnit, piece_size}

pub by_unit : (P : ℕ → Type 0) → P 16 → P 32 → P 64 → (u : ℕ) → IsUnit u → P u
by_unit P a b c u is = elim (or_cases (eqb u 16) (eqb u 32 || eqb u 64) is) [
  | inl e ↦ subst P (sym (eqb-true u 16 e)) a
  | inr es ↦ elim (or_cases (eqb u 32) (eqb u 64) es) [ inl e ↦ subst P (sym (eqb-true u 32 e)) b | inr e ↦ subst P (sym (eqb-true u 64 e)) c ]
]

-- this many units are this many grains
pub grains_of : (u k : ℕ) → IsUnit u → u * k ≡ 16 * (u / 16 * k)
grains_of u k is = by_unit (λ u. u * k ≡ 16 * (u / 16 * k)) (omega arith) (omega arith) (omega arith) u is

-- a request fits the piece that it gets
pub piece_holds : (u n : ℕ) → IsUnit u → n ≤ piece_size u n
piece_holds u n is = by_unit (λ u. n ≤ piece_size u n) (omega arith) (omega arith) (omega arith) u is

-- and is whole grains, one at least
pub piece_grains : (u n : ℕ) → IsUnit u → piece_size u n % 16 ≡ 0
piece_grains u n is = by_unit (λ u. piece_size u n % 16 ≡ 0) (omega arith) (omega arith) (omega arith) u is

pub least_piece : (u n : ℕ) → IsUnit u → 16 ≤ piece_size u n
least_piece u n is = by_unit (λ u. 16 ≤ piece_size u n) (omega arith) (omega arith) (omega arith) u is

pub units_apart : (u j k : ℕ) → IsUnit u → u * j ≡ u * k → j ≡ k
units_apart u j k is = by_unit (λ u. u * j ≡ u * k → j ≡ k) (λ e. omega (arith, e)) (λ e. omega (arith, e)) (λ e. omega (arith, e)) u is

-- the grain at which a unit begins
pub first_grain : (u start at unit : ℕ) → IsUnit u → at ≡ start + u * unit → (at - start) / 16 ≡ u / 16 * unit
first_grain u start at unit is place = omega (arith, place, grains_of u unit is)
