use Rattle.tlsf_diagnosis.proofs.Common.{◌≡◌, ◌+◌, ◌-◌, List, ℕ, inl, rules, subst, take, spaces_in}
use Rattle.tlsf_diagnosis.proofs.FieldSteps.{before_mark}
use Rattle.tlsf_diagnosis.proofs.notes.marked.Goals as goal

pub returns-in-Some-clause-marks : goal.returns-in-Some-clause-marks
returns-in-Some-clause-marks c =
    inl (subst (λ (line : List ℕ). spaces_in (take (c.of-spot.result.start + c.mark_in.result) line) ≡ c.args.field - 1) c.of-spot.ensures.line
    (before_mark c.of-spot.result.line.now c.in-Some.found.now c.args.field c.of-spot.result.start c.mark_in.result (search rules) c.mark_in.ensures))
