-- The lengths that C gives.
use Rattle.std.specs.Prelude.{ℕ, ◌-◌, ◌^◌, min}

-- the bytes that a heap is asked for: all those that 32 bits hold, which no region has, stand for more
abbrev pub saturated : ℕ → ℕ
saturated len = min len (2 ^ 32 - 1)
