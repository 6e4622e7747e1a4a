use Rattle.tlsf_lines.proofs.Common.{◌≡◌, ◌==◌, ◌≤◌, ◌+◌, length, count_by, Consumes}
use Rattle.tlsf_lines.specs.Limits.{IsWithinLimits}
use Rattle.tlsf_lines.specs.declared.last_read.LastRead.TheVariants.{Open}
use Rattle.tlsf_lines.proofs.input.read_counted.Given as goal

abbrev pub invariant-loop-text : goal.invariant-loop-text
invariant-loop-text g l = record {
  consumed : Consumes (g.R.Read.remaining l.fn.reader) (g.R.Read.remaining l.reader) l.text.items;
  feeds : l.line_feeds ≡ count_by (λ b. b == 10) l.text.items;
  limits : IsWithinLimits l.text.items;
  buffer : length l.buffer ≡ 4096;
  reads : 65536 ≤ l.count.left + length l.text.items;
  going : l.count.last ≡ Open;
}

abbrev pub decreases-loop-text : goal.decreases-loop-text
decreases-loop-text g l = l.count.left
