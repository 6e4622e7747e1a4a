-- How long an input may be.
use Rattle.std.specs.Prelude.{ℕ, List, Option, ◌≡◌, ◌⊎◌, ◌<◌, ◌≤◌, ◌^◌, IfSome, length}
use Rattle.std.specs.Io.KnownBytes.{Consumes, IsAtEnd}
use Rattle.tlsf_lines.specs.Pieces.{pieces_of}
use Rattle.tlsf_lines.specs.declared.limit.Limit.{Limit}
use Rattle.tlsf_lines.specs.declared.limit.Limit.TheVariants.{Bytes, Lines, Reads}

-- an input of no more bytes and lines than the program takes
pub record IsWithinLimits (text : List ℕ) : Type 0 where
  pub bytes : length text ≤ 2 ^ 20
  pub lines : length (pieces_of text) ≤ 32768

-- the text that a reader had left was read, to its end and within the limits
pub record IsReadWhole (left left' : Option (List ℕ)) (text : List ℕ) : Type 0 where
  pub whole : IfSome left (λ all. text ≡ all)
  pub consumed : Consumes left left' text
  pub end : IsAtEnd left'
  pub limits : IsWithinLimits text

-- an input that may be refused for its length. It has too many lines, or so much text that its end need not show in 65,536 reads
abbrev pub IsTooLong : List ℕ → Type 0
IsTooLong text = (32768 < length (pieces_of text)) ⊎ (2 ^ 16 ≤ length text)

-- an input passes a limit: it has more bytes or lines than that, or a byte for each of that number of reads
abbrev pub Passes : Limit → List ℕ → Type 0
Passes Bytes text = 2 ^ 20 < length text
Passes Lines text = 32768 < length (pieces_of text)
Passes Reads text = 65536 ≤ length text
