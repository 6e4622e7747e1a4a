use Rattle.std.proofs.Common.{◌≡◌, ℕ, ◌<◌, length, get_or}
use Rattle.tlsf_pool.proofs.sizes.split.Cell.split.Given as goal

-- the numbers of kinds before a place are copied
abbrev pub invariant-loop-at : goal.invariant-loop-at
invariant-loop-at l = record { long : length l.lens ≡ 8; same : (k : ℕ) → k < l.at → get_or l.lens k 0 ≡ get_or l.self-inside.lens k 0 }
