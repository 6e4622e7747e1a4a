-- The bytes that a chunk holds.
use Rattle.std.specs.Prelude.{ℕ, ◌-◌, List, ◌++◌, length, min, take, replicate}
use Rattle.tlsf_calls.specs.declared.chunk.Chunk.{Chunk}

abbrev pub bytes_of : Chunk → List ℕ
bytes_of chunk = take (min chunk.len 64) chunk.held

-- the chunk of up to 64 bytes
abbrev pub chunk_of : List ℕ → Chunk
chunk_of bytes = record { held = bytes ++ replicate (64 - length bytes) 0; len = length bytes }
