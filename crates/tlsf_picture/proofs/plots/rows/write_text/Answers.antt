use Rattle.tlsf_map.proofs.Telling.{adds_text, adds_then}
use Rattle.tlsf_picture.proofs.plots.rows.write_text.Goals as goal

pub returns : goal.returns
returns c = let told = adds_then _ _ _ _ _ (adds_text _ _ _ c.in_ok-push_str.ensures.bytes) c.in_ok-write_charts.ensures in told
