-- Tables whose rows rise.
use Rattle.tlsf_pool.proofs.Common.{◌≡◌, ℕ, zero, suc, ◌+◌, ◌<◌, List, length, subst, inl, inr, arith, cases_lt, Kind, Rises, len_at}

-- each row before another is shorter
pub shorter_before : (kinds : List Kind) → Rises kinds → (row k : ℕ) → k < row → row < length kinds → len_at kinds k < len_at kinds row
shorter_before kinds rises zero k before within = absurd (omega (arith, before))
shorter_before kinds rises (suc row) k before within =
    let next : row + 1 ≡ suc row = omega arith in
    let step : len_at kinds row < len_at kinds (suc row) = subst (λ (r : ℕ). len_at kinds row < len_at kinds r) next (rises row (omega (arith, within))) in
    elim (cases_lt k row) [
      | inl less ↦ omega (arith, step, shorter_before kinds rises row k less (omega (arith, within)))
      | inr above ↦ let same : row ≡ k = omega (arith, before, above) in subst (λ (r : ℕ). len_at kinds r < len_at kinds (suc row)) same step
    ]
