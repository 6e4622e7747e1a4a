use Rattle.tlsf_held.proofs.Common.{◌≡◌, ◌+◌, ◌-◌, ◌∙◌, ℕ, List, [], ap, sym, subst, get_or, length, arith, cheaper, cost_in, no_split, HasFirst, IsBestAmong, Split}
use Rattle.tlsf_held.proofs.Divided.{first_more}
use Rattle.tlsf_held.proofs.divisions.best_of.Goals as goal

pub loop-last-preserved : goal.loop-last-preserved
loop-last-preserved c =
    let costs : List (List ℕ) = c.args.costs.now in
    let row : List Split = c.args.row.now in
    let at : ℕ = c.args.at in
    let heaps : ℕ = c.args.heaps in
    let last : ℕ = c.loop-last.last in
    let best : Split = c.loop-last.best in
    let place : last ≡ last + 1 - 1 = omega arith in
    record {
      from = omega (arith, c.loop-last.invariant.from);
      best = subst (λ (s : Split). IsBestAmong (cost_in costs) (length costs) (heaps + 1) at (HasFirst heaps at (last + 1)) s)
          (sym (c.cheaper-best.ensures ∙ ap (λ (s : Split). cheaper best s) c.with_first-split.ensures))
          (first_more (cost_in costs) (length costs) heaps at last (get_or (get_or costs at []) last 0) best (get_or row (last + 1) no_split)
          c.loop-last.invariant.from c.loop-last-test.true c.requires.heaps c.loop-last.invariant.best
          (c.requires.best (last + 1) (omega (arith, c.loop-last.invariant.from)) (omega (arith, c.loop-last-test.true)))
          (ap (λ (k : ℕ). get_or (get_or costs at []) k 0) place) (c.requires.cells.costs_are.small at (last + 1 - 1)));
    }
