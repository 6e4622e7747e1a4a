use Rattle.tlsf_map.proofs.Telling.{adds_before, adds_one}
use Rattle.tlsf_map.proofs.page.write_head.Goals as goal

pub returns : goal.returns
returns c =
    rw (c.in_ok-push_str-2.ensures.bytes, c.in_ok-push_str.ensures.bytes, c.in_ok-write.ensures.bytes) (adds_before _ _ _ _ (adds_before _ _ _ _ (adds_one _ _)))
