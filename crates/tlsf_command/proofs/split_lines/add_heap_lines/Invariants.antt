use Rattle.tlsf_command.proofs.Common.{◌≡◌, ◌+◌, ◌-◌, ◌++◌, length, heap_lines, cut_by, parts_of}
use Rattle.tlsf_command.proofs.SplitParts.{AreLeft}
use Rattle.tlsf_command.proofs.split_lines.add_heap_lines.Given as goal

-- the lines so far and those on the heaps that are left are all
abbrev pub invariant-loop-heap : goal.invariant-loop-heap
invariant-loop-heap g l = record {
  text : l.lines.bytes ++ heap_lines g.row.SLI l.heap l.before (cut_by (l.split.heaps - l.heap) l.split.lens l.left)
      ≡ l.fn.lines.bytes ++ heap_lines g.row.SLI 0 0 (parts_of l.split l.kinds);
  left : AreLeft g.row.SLI l.split l.heap l.left;
  whole : l.before + length l.left ≡ length l.kinds;
}
