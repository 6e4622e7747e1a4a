-- One read more of an input.
use Rattle.std.proofs.Common.{◌≡◌, ℕ, zero, suc, ◌<◌, arith, refl}
use Rattle.tlsf_lines.specs.ReadCounts.{shown_by}
use Rattle.tlsf_lines.specs.declared.last_read.LastRead.TheVariants.{Open}

-- a read that gave bytes leaves the input open
pub gave_bytes : (n : ℕ) → 0 < n → shown_by n ≡ Open
gave_bytes zero some = absurd (omega (arith, some))
gave_bytes (suc n) some = refl
