use Rattle.tlsf_picture.proofs.Common.{◌≡◌, ◌+◌, List, length, refl, ap, ◌∙◌, arith, Header, curve_of, stride_for, heap_points, Point}
use Rattle.tlsf_picture.proofs.Charts.{look_is, many_points, points_are}
use Rattle.tlsf_picture.proofs.Standings.{peak_is}
use Rattle.tlsf_picture.proofs.plots.plotting.chart_of.Goals as goal

pub returns : goal.returns
returns g c = λ trace level is.
    let heap = c.args.heap in
    let stride = c.stride_for-stride.result in
    let are = points_are trace g.row.SLI heap c.in_ok-points.points.items level (c.in_ok-points.ensures.points trace is) in
    let count = ap (λ (ps : List Point). length ps) are ∙ many_points trace heap in
    let many : c.len-lines.result ≡ length trace.lines + 2 = omega (arith, c.len-lines.ensures, count) in
    record {
      heap = refl;
      words = ap (λ (h : Header). h.words) is.header;
      lines = many;
      stride = c.stride_for-stride.ensures.stride ∙ ap (stride_for c.args.most) many;
      longest = c.longest_of-longest.ensures trace is;
      look = look_is trace heap c.longest_of-longest.result c.in_ok-points.points.items c.worst_line-look.result are (rw c.deref.ensures.value at c.worst_line-look.ensures);
      peak = peak_is trace heap c.in_ok-points.points.items c.peak_of-peak.result are (rw c.deref-2.ensures.value at c.peak_of-peak.ensures);
      curve = (rw c.deref-3.ensures.value at c.in_ok-curve.ensures)
          ∙ (ap (λ (ps : List Point). curve_of c.args.script.now.header.words stride ps) are ∙ ap (λ (h : Header). curve_of h.words stride (heap_points trace heap)) is.header);
    }
