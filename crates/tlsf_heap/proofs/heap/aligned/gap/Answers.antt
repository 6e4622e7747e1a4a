-- How far a place is past a multiple of the step tells how far four words more are past one.
use Rattle.tlsf_heap.proofs.Common.{◌≡◌, ◌≢◌, ℕ, ◌+◌, ◌-◌, ◌*◌, ◌%◌, ◌/◌, ◌<◌, ◌≤◌, cond, Bool, sym, ap, ◌∙◌, inl, inr, arith, cases_lt, eq-eqb, ne_eqb, gap_of}
use Rattle.std.proofs.Math.Nat.{add-mod-mod, mod-add-mod, add-mul-mod_self_left, div-add-mod, mul-add, mul-le-mul_left}
use Rattle.tlsf_heap.proofs.heap.aligned.gap.Goals as goal

-- how far the next multiple is, from four words further on
to_next : (step past : ℕ) → past < step → (5 * step - 4 - past) % step ≡ (step - (past + 4) % step) % step
to_next step past small =
    let q = (past + 4) / step in
    let split : step * q + (past + 4) % step ≡ past + 4 = div-add-mod (past + 4) step in
    let few : q ≤ 4 = elim (cases_lt 4 q) [
      | inl more ↦ let five : 5 ≤ q = omega arith in absurd (omega (arith, split, mul-le-mul_left step five, small))
      | inr fine ↦ fine
    ] in
    let whole : step * q + step * (4 - q) ≡ step * 4 = sym (mul-add step q (4 - q)) ∙ ap (λ (n : ℕ). step * n) (omega (arith, few)) in
    let rest : (past + 4) % step < step = omega arith in
    let far : 5 * step - 4 - past ≡ step - (past + 4) % step + step * (4 - q) = omega (arith, split, whole, rest, small) in
    ap (λ (n : ℕ). n % step) far ∙ add-mul-mod_self_left (step - (past + 4) % step) step (4 - q)

-- what the place is past the last multiple, and four words more than it
past_is : (at step skew : ℕ) → (at + 3 + skew % step) % step ≡ (at + 3 + skew) % step
past_is at step skew = add-mod-mod (at + 3) skew step

further : (at step skew : ℕ) → ((at + 3 + skew % step) % step + 4) % step ≡ (at + 7 + skew) % step
further at step skew =
    ap (λ (n : ℕ). (n + 4) % step) (past_is at step skew) ∙ mod-add-mod (at + 3 + skew) step 4 ∙ ap (λ (n : ℕ). n % step) (omega arith)

aligned : (at step skew : ℕ) → (at + 3 + skew % step) % step ≡ 0 → 0 ≡ gap_of at step skew
aligned at step skew none =
    sym (ap (λ (b : Bool). cond b 0 (4 + (step - (at + 7 + skew) % step) % step)) (eq-eqb ((at + 3 + skew) % step) 0 (sym (past_is at step skew) ∙ none)))

moved : (at step skew : ℕ) → 0 < step → (at + 3 + skew % step) % step ≢ 0 → 4 + (5 * step - 4 - (at + 3 + skew % step) % step) % step ≡ gap_of at step skew
moved at step skew some past =
    let small : (at + 3 + skew % step) % step < step = omega arith in
    ap (λ (n : ℕ). 4 + n) (to_next step ((at + 3 + skew % step) % step) small ∙ ap (λ (n : ℕ). (step - n) % step) (further at step skew))
    ∙ sym (ap (λ (b : Bool). cond b 0 (4 + (step - (at + 7 + skew) % step) % step)) (ne_eqb ((at + 3 + skew) % step) 0 (λ e. past (past_is at step skew ∙ e))))

pub returns-then-past-eq0 : goal.returns-then-past-eq0
returns-then-past-eq0 c = aligned c.args.at c.args.step c.args.skew c.if-past-eq0.true

pub returns : goal.returns
returns c = moved c.args.at c.args.step c.args.skew c.requires.some c.if-past-eq0.false
