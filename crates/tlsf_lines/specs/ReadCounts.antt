-- How the reads of an input go, and which input is refused for its length.
use Rattle.std.specs.Prelude.{◌≡◌, ℕ, zero, suc, ◌-◌, ◌<◌, ◌^◌, List, length, Result, Ok, Err}
use Rattle.tlsf_lines.specs.Pieces.{pieces_of}
use Rattle.tlsf_lines.specs.declared.last_read.LastRead.{LastRead}
use Rattle.tlsf_lines.specs.declared.last_read.LastRead.TheVariants.{Open, Ended, Failed}
use Rattle.tlsf_lines.specs.declared.limit.Limit.{Limit}
use Rattle.tlsf_lines.specs.declared.limit.Limit.TheVariants.{Bytes, Lines, Reads}
use Rattle.tlsf_lines.specs.declared.read_error.ReadError.{ReadError}
use Rattle.tlsf_lines.specs.declared.read_error.ReadError.TheVariants.{NoMemory, TooLong, Read}

-- how many reads are left to an input, and what the last one showed
pub record ReadsSoFar : Type 0 where
  pub left : ℕ
  pub last : LastRead

-- before the first read
abbrev pub no_reads : ReadsSoFar
no_reads = record { left = 65536; last = Open }

-- the count that a read shows which gave this many bytes
abbrev pub shown_by : ℕ → LastRead
shown_by zero = Ended
shown_by (suc n) = Open

-- one read was made, and showed this
pub record IsRead (shown : LastRead) (old new : ReadsSoFar) : Type 0 where
  pub was_left : 0 < old.left
  pub left : new.left ≡ old.left - 1
  pub last : new.last ≡ shown

-- one read was made, and gave bytes, showed the end or failed; or none was left
abbrev pub IsNextRead : Result ℕ ReadError → ReadsSoFar → ReadsSoFar → Type 0
IsNextRead (Ok n) old new = IsRead (shown_by n) old new
IsNextRead (Err Read) old new = IsRead Failed old new
IsNextRead (Err (TooLong limit)) old new = (limit ≡ Reads) × (old.left ≡ 0) × (new ≡ old)
IsNextRead (Err NoMemory) old new = ⊥

-- the text that reads gave is over a limit. It has too many bytes or lines, or its end did not show in all reads that there are
abbrev pub IsOver : Limit → ReadsSoFar → List ℕ → Type 0
IsOver Bytes reads given = 2 ^ 20 < length given
IsOver Lines reads given = 32768 < length (pieces_of given)
IsOver Reads reads given = (reads.left ≡ 0) × (reads.last ≡ Open)
