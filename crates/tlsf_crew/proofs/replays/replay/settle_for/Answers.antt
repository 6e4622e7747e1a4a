use Rattle.tlsf_crew.proofs.Common.{ℕ, ◌≡◌, ◌∙◌, ap, sym, subst, arith, refl, List, [], Option, Some, slice_get, slice_index, replicate, get_or-replicate, slice_get-get_or, Name, Call, Release, Take, Drain, Target, target_name, ConcernsCall}
use Rattle.tlsf_crew.specs.replays.ReplaySteps.{MayTake}
use Rattle.tlsf_crew.proofs.lemmas.replays.Exact.{limits_are, zero_limits}
use Rattle.tlsf_crew.proofs.replays.replay.settle_for.Goals as goal

-- a call of another kind concerns no lane, and takes nothing
concerns_none : (made : List (Option Name)) (at : ℕ) (call : Call) → ((target : Target) → call ≡ Release target → ⊥) → ((from : ℕ) → call ≡ Take from → ⊥)
    → ((most : ℕ) → call ≡ Drain most → ⊥) → ((i j : ℕ) → ConcernsCall made at call i j → ⊥) × (MayTake call → ⊥)
concerns_none made at (Release target) a b c = absurd (a target refl)
concerns_none made at (Take from) a b c = absurd (b from refl)
concerns_none made at (Drain most) a b c = absurd (c most refl)
concerns_none made at other a b c = (λ i j none. none, λ none. none)

pub returns-in-Release-clause-settled : goal.returns-in-Release-clause-settled
returns-in-Release-clause-settled g c = λ made known i j a b ne k.
    let meant = subst (λ x. target_name made x ≡ c.args.name) c.in-Release.is known in
    let m = subst (λ x. ConcernsCall made c.args.event.now.worker x i j) c.in-Release.is k in
    let ie : i ≡ c.args.event.now.worker = m.0 in
    let je : j ≡ m.1.heap = m.3 in
    let p = c.requires.inside in
    rw (ie, je) (c.settle_named.ensures.settled m.1 (sym meant ∙ m.2) (omega arith) (λ q. ne (ie ∙ (q ∙ sym je))))

pub returns-in-Take-clause-limits : goal.returns-in-Take-clause-limits
returns-in-Take-clause-limits g c =
    let vs = c.settle_column.new.workers in
    let a = c.index-workers-at.result in
    let at = c.args.event.now.worker in
    let n = c.settle_column.ensures.keeps.count in
    let p = c.requires.inside in
    let is : slice_get vs at ≡ Some a = slice_get-get_or vs at a (omega arith) ∙ ap Some (sym c.index-workers-at.is) in
    limits_are c.args.workers.now vs c.args.event.now c.limits.result a c.settle_column.ensures.keeps.yard c.settle_column.ensures.keeps.count is c.settle_column.ensures.settled.done
    (λ i lt. let none : slice_index (replicate 8 0) i ≡ 0 = get_or-replicate 8 i 0 0 lt in let l = (rw (sym c.index-workers-at.is) at c.limits.ensures.limited) g.row.SLI i lt in omega (arith, l, none))

pub returns-in-Release-clause-limits : goal.returns-in-Release-clause-limits
returns-in-Release-clause-limits g c = zero_limits _ c.args.event.now (λ m. subst MayTake c.in-Release.is m)

pub returns-in_default-clause-settled : goal.returns-in_default-clause-settled
returns-in_default-clause-settled g c = λ made known i j a b ne k.
    let e = c.args.event.now in
    absurd ((concerns_none made e.worker e.call c.in_default.not-Release c.in_default.not-Take c.in_default.not-Drain).0 i j k)

pub returns-in_default-clause-limits : goal.returns-in_default-clause-limits
returns-in_default-clause-limits g c =
    let e = c.args.event.now in
    zero_limits _ e (concerns_none [] 0 e.call c.in_default.not-Release c.in_default.not-Take c.in_default.not-Drain).1
