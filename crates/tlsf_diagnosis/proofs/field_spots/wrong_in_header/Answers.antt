use Rattle.tlsf_diagnosis.proofs.Common.{◌≡◌, ◌+◌, ◌∷◌, ℕ, List, Option, Some, None, ap, sym, subst, ◌∙◌, GoAstrayAt, is_header, FindsWrong, fields_left}
use Rattle.tlsf_diagnosis.proofs.HeaderSpots.{bad_name, bad_number, bad_version, no_version, no_wrong}
use Rattle.tlsf_diagnosis.proofs.field_spots.wrong_in_header.Goals as goal

-- what was found in the fields of a first line
in_fields : (cut fields : List (List ℕ)) (found : Option ℕ) → cut ≡ fields → FindsWrong is_header (GoAstrayAt is_header) fields found → FindsWrong is_header (GoAstrayAt is_header) cut found
in_fields cut fields found same finds = subst (λ (fs : List (List ℕ)). FindsWrong is_header (GoAstrayAt is_header) fs found) (sym same) finds

pub returns-then-not-is_name : goal.returns-then-not-is_name
returns-then-not-is_name c =
    in_fields _ _ (Some 1) c.cut_field.ensures
    (bad_name c.cut_field.result.0.now (fields_left c.cut_field.result.1) (sym c.is_name.ensures ∙ c.if-not-is_name.true))

pub returns-in_default : goal.returns-in_default
returns-in_default c =
    in_fields _ _ (Some 2) (c.cut_field.ensures ∙ ap (λ rest. c.cut_field.result.0.now ∷ fields_left rest) c.in_default.is)
    (no_version c.cut_field.result.0.now (sym c.is_name.ensures ∙ c.if-not-is_name.false))

pub returns-in_default-spelled_by : goal.returns-in_default-spelled_by
returns-in_default-spelled_by c =
    let are = c.cut_field.ensures ∙ (ap (λ rest. c.cut_field.result.0.now ∷ fields_left rest) c.in-Some.is ∙ ap (λ fields. c.cut_field.result.0.now ∷ fields) c.cut_field-2.ensures) in
    in_fields _ _ (Some 2) are
    (bad_version c.cut_field.result.0.now c.cut_field-2.result.0.now (fields_left c.cut_field-2.result.1) (sym c.is_name.ensures ∙ c.if-not-is_name.false)
    (sym c.spelled_by.ensures ∙ c.in_default-spelled_by.is))

pub returns-in-Some-version_failing : goal.returns-in-Some-version_failing
returns-in-Some-version_failing c =
    let are = c.cut_field.ensures ∙ (ap (λ rest. c.cut_field.result.0.now ∷ fields_left rest) c.in-Some.is ∙ ap (λ fields. c.cut_field.result.0.now ∷ fields) c.cut_field-2.ensures) in
    in_fields _ _ (Some (c.in-Some-version_failing.passed + 3)) are
    (bad_number c.cut_field.result.0.now c.cut_field-2.result.0.now c.in-Some-spelled_by.version (fields_left c.cut_field-2.result.1) (sym c.is_name.ensures ∙ c.if-not-is_name.false)
    (sym c.spelled_by.ensures ∙ c.in-Some-spelled_by.is) c.in-Some-version_failing.passed c.in-Some-version_failing.ensures.first)

pub returns-in-None : goal.returns-in-None
returns-in-None c =
    let are = c.cut_field.ensures ∙ (ap (λ rest. c.cut_field.result.0.now ∷ fields_left rest) c.in-Some.is ∙ ap (λ fields. c.cut_field.result.0.now ∷ fields) c.cut_field-2.ensures) in
    in_fields _ _ None are
    (no_wrong c.cut_field.result.0.now c.cut_field-2.result.0.now c.in-Some-spelled_by.version (fields_left c.cut_field-2.result.1) (sym c.is_name.ensures ∙ c.if-not-is_name.false)
    (sym c.spelled_by.ensures ∙ c.in-Some-spelled_by.is) c.in-None.ensures.first)
