use Rattle.tlsf_held.proofs.Common.{◌≡◌, ◌+◌, ◌-◌, ◌∙◌, ◌++◌, ℕ, List, [], ◌∷◌, ap, sym, subst, append_assoc, get_or, length, arith, lens_in, rows_by, Divide, Row, Step}
use Rattle.tlsf_held.proofs.Divided.{lens_step}
use Rattle.tlsf_held.proofs.merging.rows_of.Goals as goal

pub loop-left-preserved : goal.loop-left-preserved
loop-left-preserved c =
    let steps : List Step = c.args.steps.now in
    let table : List Row = c.args.table.now in
    let lens : List ℕ = c.args.split.lens in
    let left : ℕ = c.loop-left.left in
    let at : ℕ = c.loop-left.at in
    let n : ℕ = get_or lens (left - 1) 0 in
    let rows : List Row = c.loop-left.rows.items in
    let rest : List Row = rows_by steps table (at + n) (lens_in (left - 1) lens) in
    let step : lens_in left lens ≡ n ∷ lens_in (left - 1) lens = lens_step left lens (omega (arith, c.loop-left-test.true)) in
    let divide = subst (Divide (length table) at) step c.loop-left.invariant.divide in
    record {
      upto = omega (arith, c.loop-left.invariant.upto);
      divide = divide.2;
      so_far = ap (λ (items : List Row). items ++ rest) c.in_ok-push.ensures.items
          ∙ (append_assoc rows (c.merged_row.result ∷ []) rest
          ∙ (ap (λ (row : Row). rows ++ row ∷ rest) c.merged_row.ensures
          ∙ (ap (λ (ls : List ℕ). rows ++ rows_by steps table at ls) (sym step) ∙ c.loop-left.invariant.so_far)));
    }
