use Rattle.tlsf_map.proofs.Telling.{adds_on, adds_then}
use Rattle.tlsf_map.proofs.page.write_svg.Goals as goal

pub returns : goal.returns
returns c =
    let told = adds_then _ _ _ _ _ c.in_ok-write_head.ensures c.in_ok-write_heaps.ensures in
    rw c.in_ok-push_str.ensures.bytes (adds_on _ _ _ _ told)
