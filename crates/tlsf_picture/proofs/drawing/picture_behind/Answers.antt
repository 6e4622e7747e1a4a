use Rattle.tlsf_picture.proofs.Common.{[], length, map, ap, subst, arith, string_bytes, length-map, heap_of, Adds, IsMap, picture_told, Header}
use Rattle.tlsf_map.proofs.Telling.{tells_whole}
use Rattle.tlsf_picture.proofs.Maps.{as_many, maps_behind}
use Rattle.tlsf_trace.proofs.Onward.{plays_on}
use Rattle.tlsf_picture.proofs.drawing.picture_behind.Goals as goal

pub write-requires : goal.write-requires
write-requires g c =
    let player = c.step_to.new.self in
    let workers = player.workers.items in
    let mapped = rw (c.deref.ensures.value, c.deref-2.ensures.value, c.deref_mut.ensures.value) at c.in_ok-maps.ensures.maps in
    let many = as_many (IsMap g.row.SLI player.made.items c.args.script.now.labels.items) (map heap_of workers) c.in_ok-maps.maps.items mapped in
    let heaps = length-map workers heap_of in
    let shown = ap length c.deref-3.ensures.value in
    omega (arith, many, heaps, shown, c.step_to.ensures.yard.few)

pub returns : goal.returns
returns g c = λ trace level is.
    let mapped = rw (c.deref.ensures.value, c.deref-2.ensures.value, c.deref_mut.ensures.value) at c.in_ok-maps.ensures.maps in
    let plays = plays_on (omega arith) (c.in_ok-step_to.ensures.plays 0 trace is (c.in_ok-player.ensures.stands trace is)) in
    record {
      maps = c.in_ok-maps.maps.items;
      mapped = maps_behind c.args.line trace c.args.script.now c.step_to.new.self c.in_ok-maps.maps.items level is plays.stands mapped;
      drawn = tells_whole _ _ (subst (λ (header : Header). Adds (picture_told c.args.form header.words c.in_ok-maps.maps.items) [] (string_bytes c.write.new.text)) is.header
          (rw (c.deref-3.ensures.value, c.new-text.ensures.bytes) at c.in_ok-write.ensures));
    }
