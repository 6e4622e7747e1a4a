use Rattle.tlsf_picture.proofs.Telling.{adds_four}
use Rattle.tlsf_picture.proofs.plots.told.write_told.Goals as goal

pub returns : goal.returns
returns c =
    rw (
      c.in_ok-push_str-5.ensures.bytes,
      c.in_ok-write-4.ensures.bytes,
      c.in_ok-push_str-4.ensures.bytes,
      c.in_ok-write-3.ensures.bytes,
      c.in_ok-push_str-3.ensures.bytes,
      c.in_ok-write-2.ensures.bytes,
      c.in_ok-push_str-2.ensures.bytes,
      c.in_ok-write.ensures.bytes,
      c.in_ok-push_str.ensures.bytes,
      c.words-seen.ensures,
    )
    (adds_four _ _ _ _ _ _ _ _ _ _)
