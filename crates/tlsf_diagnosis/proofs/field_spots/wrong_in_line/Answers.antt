use Rattle.tlsf_diagnosis.proofs.Common.{◌≡◌, ◌+◌, ℕ, List, Option, Some, None, sym, subst, ◌∙◌, IsFirstWrong, is_line, passes, FindsWrong, IsFirstFailing, Kind, fields_left}
use Rattle.tlsf_diagnosis.specs.declared.judge.Judge.TheVariants as judge
use Rattle.tlsf_diagnosis.proofs.LineSpots.{bad_number, no_shape, no_keyword, no_wrong}
use Rattle.tlsf_diagnosis.proofs.field_spots.wrong_in_line.Goals as goal

-- what was found in the fields of a line
in_fields : (workers : ℕ) (cut fields : List (List ℕ)) (found : Option ℕ) → cut ≡ fields → FindsWrong (is_line workers) (IsFirstWrong workers) fields found
    → FindsWrong (is_line workers) (IsFirstWrong workers) cut found
in_fields workers cut fields found same finds = subst (λ (fs : List (List ℕ)). FindsWrong (is_line workers) (IsFirstWrong workers) fs found) (sym same) finds

pub returns-in_default : goal.returns-in_default
returns-in_default c =
    in_fields c.args.workers _ _ (Some 1) c.cut_field.ensures
    (no_keyword c.args.workers c.cut_field.result.0.now (fields_left c.cut_field.result.1) (sym c.keyword_of.ensures ∙ c.in_default.is))

pub returns-in-Some-first_failing : goal.returns-in-Some-first_failing
returns-in-Some-first_failing c =
    in_fields c.args.workers _ _ (Some (c.in-Some-first_failing.passed + 2)) c.cut_field.ensures
    (no_shape c.args.workers c.cut_field.result.0.now (fields_left c.cut_field.result.1) c.in-Some.keyword (sym c.keyword_of.ensures ∙ c.in-Some.is) c.in-Some-first_failing.passed
    (subst (λ (kinds : List Kind). IsFirstFailing (λ k f. passes judge.Shape k f) kinds (fields_left c.cut_field.result.1) (Some c.in-Some-first_failing.passed))
    c.kinds_behind-kinds.ensures c.in-Some-first_failing.ensures.first))

pub returns-in-Some-first_failing-2 : goal.returns-in-Some-first_failing-2
returns-in-Some-first_failing-2 c =
    in_fields c.args.workers _ _ (Some (c.in-Some-first_failing-2.passed + 2)) c.cut_field.ensures
    (bad_number c.args.workers c.cut_field.result.0.now (fields_left c.cut_field.result.1) c.in-Some.keyword (sym c.keyword_of.ensures ∙ c.in-Some.is)
    (subst (λ (kinds : List Kind). IsFirstFailing (λ k f. passes judge.Shape k f) kinds (fields_left c.cut_field.result.1) None)
    c.kinds_behind-kinds.ensures c.in_default-first_failing.ensures.first)
    c.in-Some-first_failing-2.passed
    (subst (λ (kinds : List Kind). IsFirstFailing (λ k f. passes (judge.Number c.args.workers) k f) kinds (fields_left c.cut_field.result.1) (Some c.in-Some-first_failing-2.passed))
    c.kinds_behind-kinds.ensures c.in-Some-first_failing-2.ensures.first))

pub returns-in-None : goal.returns-in-None
returns-in-None c =
    in_fields c.args.workers _ _ None c.cut_field.ensures
    (no_wrong c.args.workers c.cut_field.result.0.now (fields_left c.cut_field.result.1) c.in-Some.keyword (sym c.keyword_of.ensures ∙ c.in-Some.is)
    (subst (λ (kinds : List Kind). IsFirstFailing (λ k f. passes judge.Shape k f) kinds (fields_left c.cut_field.result.1) None)
    c.kinds_behind-kinds.ensures c.in_default-first_failing.ensures.first)
    (subst (λ (kinds : List Kind). IsFirstFailing (λ k f. passes (judge.Number c.args.workers) k f) kinds (fields_left c.cut_field.result.1) None)
    c.kinds_behind-kinds.ensures c.in-None.ensures.first))
