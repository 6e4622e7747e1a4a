use Rattle.std.proofs.Common.{string_bytes}
use Rattle.tlsf_picture.proofs.Onward.{none_shown, page_shown}
use Rattle.tlsf_picture.proofs.page_drawing.PagePlays.output.Goals as goal

pub returns : goal.returns
returns g c = λ trace level is.
    let head = none_shown trace (string_bytes c.write_page_head.new.text) (rw c.new-text.ensures.bytes at c.in_ok-write_page_head.ensures) in
    let shown = rw c.deref.ensures.value at c.in_ok-add_moments.ensures in
    let foot = rw c.deref-2.ensures.value at c.in_ok-write_page_foot.ensures in
    page_shown trace c.in_ok-named.named.items (string_bytes c.add_moments.new.text) (string_bytes c.write_page_foot.new.text)
    (c.in_ok-named.ensures trace level is) (shown trace level is (c.in_ok-player.ensures.stands trace is) head) foot
