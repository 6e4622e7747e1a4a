use Rattle.tlsf_picture.proofs.Common.{◌≡◌, AllZip, range_with_len, Trace, IsScript, IsNoted, level_in}
use Rattle.tlsf_picture.proofs.naming.named_lines.Given as goal

-- the heaps below this number have their lines
abbrev pub invariant-loop-heap : goal.invariant-loop-heap
invariant-loop-heap g l = (trace : Trace) → level_in trace.header ≡ g.row.SLI → IsScript l.script trace → AllZip (IsNoted trace) (range_with_len 0 l.heap) l.named.items
