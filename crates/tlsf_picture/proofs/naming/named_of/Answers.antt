use Rattle.tlsf_picture.proofs.Common.{refl}
use Rattle.tlsf_picture.proofs.Charts.{named_is, points_are}
use Rattle.tlsf_picture.proofs.Standings.{peak_is}
use Rattle.tlsf_picture.proofs.naming.named_of.Goals as goal

pub returns : goal.returns
returns g c = λ trace level is.
    let heap = c.args.heap in
    let are = points_are trace g.row.SLI heap c.in_ok-points.points.items level (c.in_ok-points.ensures.points trace is) in
    record {
      longest = c.longest_of-longest.ensures trace is;
      look = c.worst_line-look.result;
      look_is = named_is trace heap c.longest_of-longest.result c.in_ok-points.points.items c.worst_line-look.result are (c.longest_of-longest.ensures trace is) (rw c.deref.ensures.value at c.worst_line-look.ensures);
      look_line = refl;
      peak = c.peak_of-peak.result;
      peak_is = peak_is trace heap c.in_ok-points.points.items c.peak_of-peak.result are (rw c.deref-2.ensures.value at c.peak_of-peak.ensures);
      peak_line = refl;
    }
