-- The values of a field.
use Rattle.std.specs.Prelude.{ℕ}
use Rattle.tlsf_calls.specs.declared.chunk.Chunk.{Chunk}

-- what a field says that has the shape of its kind
pub data Value : Type 0 where
  Number : ℕ → Value  -- in its range, without a leading zero
  BadNumber : Value  -- digits that are no such number
  Bytes : Chunk → Value  -- payload bytes, 1 to 64 of them
