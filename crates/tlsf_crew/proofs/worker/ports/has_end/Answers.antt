use Rattle.tlsf_crew.proofs.Common.{◌≡◌, ◌∙◌, Some, None, sym, ap, slice_get, slice_get-get_or, slice_get_past, slot_of}
use Rattle.tlsf_crew.proofs.worker.ports.has_end.Goals as goal

pub returns-in-Some-Some-clause-yes : goal.returns-in-Some-Some-clause-yes
returns-in-Some-Some-clause-yes g c =
    λ _.
    let l = c.in-Some-Some.ensures.lookup in
    (c.in-Some-Some.field-0-0, (ap slot_of (slice_get-get_or c.args.ends.now c.args.at c.in-Some-Some.field-0.now l.3.0 ∙ ap Some (sym l.1 ∙ c.in-Some-Some.field-0-is))))

pub returns-in-Some-None-clause-no : goal.returns-in-Some-None-clause-no
returns-in-Some-None-clause-no g c =
    λ _ h.
    let l = c.in-Some-None.ensures.lookup in
    let a : slice_get c.args.ends.now c.args.at ≡ Some None = slice_get-get_or c.args.ends.now c.args.at c.in-Some-None.field-0.now l.3.0 ∙ ap Some (sym l.1 ∙ c.in-Some-None.field-0-is) in
    let b : slot_of (slice_get c.args.ends.now c.args.at) ≡ Some h.0 = h.1 in
    let e = sym (ap slot_of a) ∙ b in
    absurd (cc)

pub returns-in-None-clause-no : goal.returns-in-None-clause-no
returns-in-None-clause-no g c =
    λ _ h.
    let l = c.in-None.ensures.lookup in
    let a : slice_get c.args.ends.now c.args.at ≡ None = slice_get_past c.args.ends.now c.args.at l.3 in
    let b : slot_of (slice_get c.args.ends.now c.args.at) ≡ Some h.0 = h.1 in
    let e = sym (ap slot_of a) ∙ b in
    absurd (cc)
