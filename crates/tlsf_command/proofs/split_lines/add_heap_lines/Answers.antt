use Rattle.tlsf_command.proofs.Common.{◌≡◌, ◌-◌, ◌++◌, ℕ, ap, arith, heap_lines, cut_by}
use Rattle.tlsf_command.proofs.SplitParts.{all_left, all_written, left_of, next_text, part_of, servable_of, split_heaps}
use Rattle.tlsf_command.proofs.split_lines.add_heap_lines.Goals as goal

pub offset_bounds-split-split : goal.offset_bounds-split-split
offset_bounds-split-split g c = omega (arith, split_heaps g.row.SLI c.args.kinds.now c.args.split.now c.requires.cheapest)

pub bounds-split-split : goal.bounds-split-split
bounds-split-split g c = omega (arith, split_heaps g.row.SLI c.args.kinds.now c.args.split.now c.requires.cheapest, c.loop-heap-test.true)

pub add_heap_line-requires-clause-is : goal.add_heap_line-requires-clause-is
add_heap_line-requires-clause-is g c =
    part_of g.row.SLI c.args.split.now c.loop-heap.heap c.loop-heap.left.now c.min-len.result c.loop-heap.invariant.left c.loop-heap-test.true c.min-len.ensures
    c.split_at.result.0.now c.split_at.ensures.front

pub add_heap_line-requires-clause-servable : goal.add_heap_line-requires-clause-servable
add_heap_line-requires-clause-servable g c =
    servable_of g.row.SLI c.args.split.now c.loop-heap.heap c.loop-heap.left.now c.min-len.result c.loop-heap.invariant.left c.loop-heap-test.true c.min-len.ensures
    c.split_at.result.0.now c.split_at.ensures.front

pub loop-heap-init : goal.loop-heap-init
loop-heap-init g c =
    let all : c.args.split.now.heaps - 0 ≡ c.args.split.now.heaps = omega arith in record {
      text = ap (λ (n : ℕ). c.args.lines.now.bytes ++ heap_lines g.row.SLI 0 0 (cut_by n c.args.split.now.lens c.args.kinds.now)) all;
      left = all_left g.row.SLI c.args.kinds.now c.args.split.now c.requires.cheapest;
      whole = omega arith;
    }

pub loop-heap-preserved : goal.loop-heap-preserved
loop-heap-preserved g c = record {
  text = next_text g.row.SLI c.args.split.now c.loop-heap.heap c.loop-heap.left.now c.min-len.result c.loop-heap.invariant.left c.loop-heap-test.true c.min-len.ensures
      c.loop-heap.before c.loop-heap.lines.bytes c.add_heap_line.new.lines.bytes _ c.split_at.result.0.now c.split_at.result.1.now c.split_at.ensures.front c.split_at.ensures.back
      c.in_ok-add_heap_line.ensures c.loop-heap.invariant.text;
  left = left_of g.row.SLI c.args.split.now c.loop-heap.heap c.loop-heap.left.now c.min-len.result c.loop-heap.invariant.left c.loop-heap-test.true c.min-len.ensures
      c.split_at.result.1.now c.split_at.ensures.back;
  whole = omega (arith, c.split_at.ensures.back_len, c.loop-heap.invariant.whole);
}

pub returns : goal.returns
returns g c =
    all_written g.row.SLI c.args.split.now c.loop-heap.heap c.loop-heap.before c.loop-heap.left.now c.loop-heap.lines.bytes _ c.loop-heap-test.false c.loop-heap.invariant.text
