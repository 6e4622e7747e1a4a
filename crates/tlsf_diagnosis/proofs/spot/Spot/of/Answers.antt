use Rattle.tlsf_diagnosis.proofs.Common.{◌-◌, ◌∙◌, ap, arith, rules, sym, field, fields_left, fields_of, HasBefore}
use Rattle.tlsf_diagnosis.proofs.FieldSteps.{field_at, rest_within}
use Rattle.tlsf_diagnosis.proofs.PieceSteps.{beyond, first_left}
use Rattle.tlsf_diagnosis.proofs.spot.Spot.of.Goals as goal

pub returns-in-None-clause-bytes : goal.returns-in-None-clause-bytes
returns-in-None-clause-bytes c =
    sym (beyond (fields_of c.line_in-is_ended.result.0.now) c.saturating_sub.result (c.args.n - 1) (sym c.in-None.ensures.left) (omega arith))

pub returns-in-Some-clause-place : goal.returns-in-Some-clause-place
returns-in-Some-clause-place c =
    let has : HasBefore c.line_in-is_ended.result.0.now c.in-Some.rest.now (c.args.n - 1) = search rules in
    field_at c.line_in-is_ended.result.0.now c.in-Some.rest.now c.cut_field.result.0.now c.cut_field.result.1 c.args.n _ has c.cut_field.ensures
    (omega (arith, rest_within c.line_in-is_ended.result.0.now c.in-Some.rest.now (c.args.n - 1) has))

pub returns-in-Some-clause-bytes : goal.returns-in-Some-clause-bytes
returns-in-Some-clause-bytes c =
    first_left (fields_of c.line_in-is_ended.result.0.now) c.saturating_sub.result c.cut_field.result.0.now (fields_left c.cut_field.result.1)
    (sym c.in-Some.ensures.left ∙ c.cut_field.ensures) ∙ ap (λ k. field (fields_of c.line_in-is_ended.result.0.now) k) c.saturating_sub.ensures
