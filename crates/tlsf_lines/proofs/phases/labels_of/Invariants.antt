use Rattle.tlsf_lines.proofs.Common.{◌≡◌, ◌++◌, drop, map, label_in}
use Rattle.tlsf_lines.proofs.phases.labels_of.Given as goal

-- the labels so far and those of what is left are all
abbrev pub invariant-loop-line : goal.invariant-loop-line
invariant-loop-line l = record { so_far : l.labels.items ++ map label_in (drop l.line-index l.lines) ≡ map label_in l.lines }
