use Rattle.tlsf_picture.proofs.Common.{◌≡◌, ℕ, ◌+◌, ◌∷◌, ◌++◌, [], List, length, map, sym, ap, ◌∙◌, arith, range_with_len, map-range_with_len_more, point_at, Point}
use Rattle.tlsf_lines.proofs.ScriptSteps.{ends_count}
use Rattle.tlsf_picture.proofs.plots.points.points_of.Goals as goal

pub loop-number-init : goal.loop-number-init
loop-number-init g c = record {
  yard = c.in_ok-player.ensures.yard;
  heap = omega (arith, c.in_ok-player.ensures.count, c.requires.heap);
  count = omega (arith, c.in_ok-points.ensures.len);
  so_far = λ trace is. (c.in_ok-player.ensures.stands trace is, c.in_ok-points.ensures.items);
}

pub loop-number-preserved : goal.loop-number-preserved
loop-number-preserved g c =
    let inv = c.loop-number.invariant in
    let number = c.loop-number.number in
    record {
      yard = c.next_point.ensures.yard;
      heap = omega (arith, inv.heap, c.next_point.ensures.count);
      count = omega (arith, c.in_ok-push.ensures.len, inv.count);
      so_far = λ trace is.
          let before = inv.so_far trace is in
          let f = point_at g.row.SLI trace c.args.heap in (
            c.in_ok-next_point.ensures.stands trace is before.0,
            c.in_ok-push.ensures.items ∙ (ap (λ (ps : List Point). ps ++ c.in_ok-next_point.field-0 ∷ []) before.1
                ∙ (ap (λ (p : Point). map f (range_with_len 1 number) ++ p ∷ []) (c.in_ok-next_point.ensures.point trace is before.0)
                ∙ sym (map-range_with_len_more f 1 number (number + 1) (omega arith)))),
          );
    }

pub returns-clause-points : goal.returns-clause-points
returns-clause-points g c = λ trace is.
    let many = ap (λ (l : List ℕ). length l) is.ends ∙ ends_count trace.header.workers 0 trace.lines in
    let all : c.loop-number.number ≡ length trace.lines + 2 = omega (arith, many, c.len-count.ensures, c.loop-number-test.false, c.loop-number.auto.number-end) in
    (c.loop-number.invariant.so_far trace is).1 ∙ ap (λ (n : ℕ). map (point_at g.row.SLI trace c.args.heap) (range_with_len 1 n)) all
