use Rattle.tlsf_picture.proofs.Common.{refl, subst, string_bytes, on_ok_weaker, Header, Adds, Moment, moment_told}
use Rattle.tlsf_picture.proofs.Maps.{maps_behind}
use Rattle.tlsf_picture.proofs.page_drawing.add_moment.Goals as goal

pub returns-clause-added : goal.returns-clause-added
returns-clause-added g c = λ trace level is stands.
    let mapped = rw (c.deref.ensures.value, c.deref-2.ensures.value, c.deref_mut.ensures.value) at c.in_ok-maps.ensures.maps in
    let moment : Moment = record { line = c.args.line; heaps = c.in_ok-maps.maps.items } in
    let wrote = rw c.deref-3.ensures.value at c.write_moment.ensures in
    on_ok_weaker c.write_moment.result (λ added. record {
      moment = moment;
      is = record { line_is = refl; mapped = maps_behind c.args.line trace c.args.script.now c.args.player.now c.in_ok-maps.maps.items level is stands mapped };
      added = subst (λ (header : Header). Adds (moment_told header.words moment) (string_bytes c.args.text.now) (string_bytes c.write_moment.new.text)) is.header added;
    }) wrote
