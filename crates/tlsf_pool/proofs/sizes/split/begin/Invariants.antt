use Rattle.std.proofs.Common.{◌≡◌, ℕ, ◌+◌, ◌<◌, length, get_or, None}
use Rattle.tlsf_pool.proofs.sizes.split.begin.Given as goal

-- there is none so far
abbrev pub invariant-loop-at : goal.invariant-loop-at
invariant-loop-at g l = record { long : length l.row ≡ length l.kinds + 1; none : (k : ℕ) → k < l.at → get_or l.row k None ≡ None }
