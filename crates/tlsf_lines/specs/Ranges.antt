-- The ranges of the header of a trace that was read: for the functions that open its yard.
use Rattle.std.specs.Prelude.{◌≤◌}
use Rattle.tlsf_lines.specs.declared.header.Header.{Header}
use Rattle.tlsf_lines.specs.Versions.{most_words_of}

-- each number of a header is in its range, that of the words by its version
pub record IsHeaderInRange (header : Header) : Type 0 where
  pub workers : (1 ≤ header.workers) × (header.workers ≤ 8)
  pub words : (4 ≤ header.words) × (header.words ≤ most_words_of header.version)
  pub capacity : (1 ≤ header.capacity) × (header.capacity ≤ 1024)
