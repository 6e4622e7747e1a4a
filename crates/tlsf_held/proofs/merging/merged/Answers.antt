use Rattle.tlsf_held.proofs.Common.{ℕ, List, length, subst, cost_in, IsBest}
use Rattle.std.proofs.lemmas.Result.{IfOk-weaker}
use Rattle.tlsf_held.proofs.Costs.{cheapest_told}
use Rattle.tlsf_held.proofs.merging.merged.Goals as goal

pub returns : goal.returns
returns g c =
    let best = subst (λ (costs : List (List ℕ)). IsBest (cost_in costs) (length costs) c.args.most 0 c.cheapest.result) c.deref.ensures.value c.cheapest.ensures in
    IfOk-weaker c.rows_of.result _ _
    (λ rows is. cheapest_told g.row.SLI c.args.steps.now c.args.table.now c.in_ok-costs.costs.items c.in_ok-costs.ensures c.args.most c.cheapest.result rows.items best is) c.rows_of.ensures
