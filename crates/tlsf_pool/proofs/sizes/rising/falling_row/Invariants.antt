use Rattle.tlsf_pool.proofs.Common.{ℕ, ◌+◌, ◌<◌, ◌≤◌, len_at}
use Rattle.tlsf_pool.proofs.sizes.rising.falling_row.Given as goal

-- the rows so far rise
abbrev pub invariant-loop-row : goal.invariant-loop-row
invariant-loop-row l = record { least : 1 ≤ l.row; rise : (k : ℕ) → k + 1 < l.row → len_at l.kinds k < len_at l.kinds (k + 1) }
