-- Payload bytes, as hexadecimal digits spell them.
use Rattle.std.specs.Prelude.{ℕ, ◌&&◌, nat_le, if◌then◌else◌, List, length, Option, None, option_map}
use Rattle.std.specs.Result.{result_ok}
use Rattle.hex.specs.Hex.{decode_of}
use Rattle.tlsf_calls.specs.Bytes.{chunk_of}
use Rattle.tlsf_calls.specs.declared.chunk.Chunk.{Chunk}

-- the bytes that 2 to 128 hexadecimal digits of either case spell, an even number of them
abbrev pub bytes_in : List ℕ → Option (List ℕ)
bytes_in field = if nat_le 2 (length field) && nat_le (length field) 128 then result_ok (decode_of field) else None

-- the same as a chunk
abbrev pub chunk_in : List ℕ → Option Chunk
chunk_in field = option_map chunk_of (bytes_in field)
