use Rattle.tlsf_lines.proofs.Common.{◌≡◌, ◌++◌, List, length, map, string_bytes, range_with_len, known_below, known_in, own_lines, Line}
use Rattle.tlsf_lines.specs.Records.{records_text}
use Rattle.tlsf_lines.proofs.records.write_phase.Given as goal

-- the records of the workers so far were told, and their labels are known
abbrev pub invariant-loop-worker : goal.invariant-loop-worker
invariant-loop-worker l = record {
  text : (phase : List Line) → map (λ l. l.items) l.lines ≡ map (λ w. own_lines w phase) (range_with_len 0 (length l.lines))
      → string_bytes l.text ≡ string_bytes l.fn.text ++ records_text phase (map (λ r. r.items) l.records) l.worker;
  known : (phase : List Line) → map (λ l. l.items) l.lines ≡ map (λ w. own_lines w phase) (range_with_len 0 (length l.lines))
      → known_in l.names ≡ known_below (known_in l.fn.names) phase (map (λ r. r.items) l.records) l.worker;
}
