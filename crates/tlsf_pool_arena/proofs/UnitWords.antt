-- Units, and the words that requests for them want.
use Rattle.tlsf_pool_arena.proofs.Common.{◌≡◌, ℕ, ◌*◌, ◌≤◌, arith, want, IsUnit, lacking, units_for}
use Rattle.tlsf_arena.proofs.UnitCases.{by_unit}
use Rattle.tlsf_pool_arena.specs.MixedUnits.{length_for}
use Rattle.tlsf_pool.proofs.lemmas.laws.TightRuns.{wants}

pub least_units : (u n : ℕ) → 4 ≤ units_for u n
least_units u n = omega arith

pub wants_units : (u n : ℕ) → want (length_for u n) ≡ units_for u n
wants_units u n = wants (units_for u n) (least_units u n)

pub units_rise : (u a b : ℕ) → IsUnit u → a ≤ b → units_for u a ≤ units_for u b
units_rise u a b unit h = by_unit (λ u. units_for u a ≤ units_for u b) (omega (arith, h)) (omega (arith, h)) (omega (arith, h)) u unit

pub lengths_rise : (u a b : ℕ) → IsUnit u → a ≤ b → length_for u a ≤ length_for u b
lengths_rise u a b unit h = omega (arith, units_rise u a b unit h)

pub lacks_few : (k : ℕ) → 4 ≤ k → want (lacking k) ≤ k
lacks_few k least = omega (arith, least)

-- the bytes of k units get just k
pub units_again : (u k : ℕ) → IsUnit u → 4 ≤ k → units_for u (u * k) ≡ k
units_again u k unit least = by_unit (λ u. units_for u (u * k) ≡ k) (omega (arith, least)) (omega (arith, least)) (omega (arith, least)) u unit
