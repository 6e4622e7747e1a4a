use Rattle.tlsf_crew.proofs.Common.{◌≡◌, ◌∙◌, Some, None, sym, ap, slice_get-get_or, slice_get_past, slot_of, lane_from, count_of}
use Rattle.tlsf_crew.proofs.scripts.room.count_from.Goals as goal

pub returns-in-Some-Some : goal.returns-in-Some-Some
returns-in-Some-Some c =
    let l = c.in-Some-Some.ensures.lookup in
    let end : lane_from c.args.lanes.now c.args.i ≡ Some c.in-Some-Some.end
    = rw (← c.deref.ensures.value) (ap slot_of (slice_get-get_or c.deref.result.now c.args.i c.in-Some-Some.field-0.now l.3.0 ∙ ap Some (sym l.1 ∙ c.in-Some-Some.field-0-is))) in
    c.count_ready.ensures ∙ sym (ap count_of end)

pub returns-in-Some-None : goal.returns-in-Some-None
returns-in-Some-None c =
    let l = c.in-Some-None.ensures.lookup in
    let end : lane_from c.args.lanes.now c.args.i ≡ None
    = rw (← c.deref.ensures.value) (ap slot_of (slice_get-get_or c.deref.result.now c.args.i c.in-Some-None.field-0.now l.3.0 ∙ ap Some (sym l.1 ∙ c.in-Some-None.field-0-is))) in
    sym (ap count_of end)

pub returns-in-None : goal.returns-in-None
returns-in-None c =
    let l = c.in-None.ensures.lookup in
    let end : lane_from c.args.lanes.now c.args.i ≡ None = rw (← c.deref.ensures.value) (ap slot_of (slice_get_past c.deref.result.now c.args.i l.3)) in
    sym (ap count_of end)
