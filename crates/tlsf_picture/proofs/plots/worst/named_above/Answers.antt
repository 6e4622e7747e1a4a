use Rattle.tlsf_picture.proofs.Charts.{named_is, points_are}
use Rattle.tlsf_picture.proofs.plots.worst.named_above.Goals as goal

pub returns : goal.returns
returns g c = λ trace level is.
    let heap = c.args.heap in
    let are = points_are trace g.row.SLI heap c.in_ok-points.points.items level (c.in_ok-points.ensures.points trace is) in
    named_is trace heap c.longest_of-longest.result c.in_ok-points.points.items c.worst_line.result are (c.longest_of-longest.ensures trace is) (rw c.deref.ensures.value at c.worst_line.ensures)
