use Rattle.tlsf_map.proofs.Telling.{adds_on, adds_text, adds_then}
use Rattle.tlsf_picture.proofs.Telling.{adds_after}
use Rattle.tlsf_picture.proofs.plots.svg.write_svg.Goals as goal

pub returns : goal.returns
returns c =
    let told = adds_then _ _ _ _ _ (adds_text _ _ _ c.in_ok-push_str-2.ensures.bytes) c.in_ok-write_charts.ensures in
    let whole = adds_after _ _ _ _ _ c.in_ok-write.ensures.bytes (adds_after _ _ _ _ _ c.in_ok-push_str.ensures.bytes told) in
    rw c.in_ok-push_str-3.ensures.bytes (adds_on _ _ _ _ whole)
