use Rattle.tlsf_map.proofs.Telling.{adds_between, adds_on}
use Rattle.tlsf_map.proofs.html.write_page_foot.Goals as goal

pub returns : goal.returns
returns c =
    rw (
      c.in_ok-push_str-6.ensures.bytes,
      c.in_ok-push_str-5.ensures.bytes,
      c.in_ok-push_str-4.ensures.bytes,
      c.in_ok-push_str-3.ensures.bytes,
      c.in_ok-push_str-2.ensures.bytes,
      c.in_ok-write_named_items.ensures,
      c.in_ok-push_str.ensures.bytes,
    )
    (adds_on _ _ _ _ (adds_on _ _ _ _ (adds_on _ _ _ _ (adds_on _ _ _ _ (adds_between _ _ _ _)))))
