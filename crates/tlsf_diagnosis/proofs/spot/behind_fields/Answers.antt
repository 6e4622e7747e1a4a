use Rattle.tlsf_diagnosis.proofs.Common.{◌∷◌, ◌∙◌, sym, ap, arith, fields_left, fields_of}
use Rattle.tlsf_diagnosis.proofs.FieldSteps.{no_more, one_more}
use Rattle.tlsf_diagnosis.proofs.PassingSteps.{drop_all}
use Rattle.tlsf_diagnosis.proofs.PieceSteps.{next_left}
use Rattle.tlsf_diagnosis.proofs.spot.behind_fields.Goals as goal

pub returns-in-None-clause-place : goal.returns-in-None-clause-place
returns-in-None-clause-place c =
    no_more c.args.line.now c.loop-i.rest.now c.cut_field.result.0.now c.loop-i._i c.args.count c.loop-i.invariant.before
    (c.cut_field.ensures ∙ ap (λ rest. c.cut_field.result.0.now ∷ fields_left rest) c.in-None.is) (omega arith)

pub returns-in-None-clause-left : goal.returns-in-None-clause-left
returns-in-None-clause-left c =
    sym (drop_all (fields_of c.args.line.now) c.args.count
    (no_more c.args.line.now c.loop-i.rest.now c.cut_field.result.0.now c.loop-i._i c.args.count c.loop-i.invariant.before
    (c.cut_field.ensures ∙ ap (λ rest. c.cut_field.result.0.now ∷ fields_left rest) c.in-None.is) (omega arith)))

pub loop-i-preserved : goal.loop-i-preserved
loop-i-preserved c =
    let cut = c.cut_field.ensures ∙ ap (λ rest. c.cut_field.result.0.now ∷ fields_left rest) c.in-Some.is in
    record {
      before = one_more c.args.line.now c.loop-i.rest.now c.in-Some.behind.now c.cut_field.result.0.now c.loop-i._i c.loop-i.invariant.before cut;
      left = next_left (fields_of c.args.line.now) c.loop-i._i c.cut_field.result.0.now (fields_of c.in-Some.behind.now) (c.loop-i.invariant.left ∙ cut);
    }
