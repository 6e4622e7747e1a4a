-- Whole rows of words.
use Rattle.std.proofs.Common.{ℕ, ◌*◌, ◌/◌, ◌≤◌}
use Rattle.std.proofs.Math.Nat.{div-mul-le_self}

pub div_mul_most : (n row : ℕ) → n / row * row ≤ n
div_mul_most n row = div-mul-le_self n row
