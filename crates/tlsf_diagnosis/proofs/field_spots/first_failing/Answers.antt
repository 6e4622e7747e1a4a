use Rattle.tlsf_diagnosis.proofs.Common.{◌≡◌, ◌<◌, ℕ, List, [], length, drop, Option, Bor, ap, ◌∙◌, arith, length-drop, passes, all_pass, passing_count, fields_left, fields_of}
use Rattle.tlsf_lines.proofs.CutSteps.{fields_count}
use Rattle.tlsf_diagnosis.proofs.PassingSteps.{drop_all, left_over, none_for, none_left}
use Rattle.tlsf_diagnosis.proofs.field_spots.first_failing.Goals as goal

pub returns-in_default-clause-first : goal.returns-in_default-clause-first
returns-in_default-clause-first c =
    let kinds = drop c.loop-i.i c.args.kinds.now in
    let some : 0 < length kinds = omega (arith, length-drop c.loop-i.i c.args.kinds.now) in
    let none = ap (λ left. passing_count (λ k f. passes c.args.judge k f) kinds (fields_left left)) c.in_default.is
    ∙ none_left (λ k f. passes c.args.judge k f) kinds in
    let fails = ap (λ left. all_pass (λ k f. passes c.args.judge k f) kinds (fields_left left)) c.in_default.is
    ∙ none_for (λ k f. passes c.args.judge k f) kinds some in
    (c.loop-i.invariant.all ∙ fails, omega (arith, c.loop-i.invariant.count, none))

pub returns-in-Some-left-clause-first : goal.returns-in-Some-left-clause-first
returns-in-Some-left-clause-first c =
    let rest = fields_of c.in-Some-left.field-0.now in
    let some : 0 < length rest = omega (arith, fields_count c.in-Some-left.field-0.now) in
    let all : drop c.loop-i.i c.args.kinds.now ≡ [] = drop_all c.args.kinds.now c.loop-i.i c.loop-i-test.false in
    let left = ap (λ (l : Option (Bor (List ℕ))). fields_left l) c.in-Some-left.is in
    let fails = ap (λ ks. all_pass (λ k f. passes c.args.judge k f) ks (fields_left c.loop-i.left)) all
    ∙ (ap (λ fs. all_pass (λ k f. passes c.args.judge k f) [] fs) left ∙ left_over (λ k f. passes c.args.judge k f) rest some) in
    let none = ap (λ ks. passing_count (λ k f. passes c.args.judge k f) ks (fields_left c.loop-i.left)) all in
    (c.loop-i.invariant.all ∙ fails, omega (arith, c.loop-i.invariant.count, none, c.loop-i.auto.i-end, c.loop-i-test.false))
