use Rattle.tlsf_held.proofs.Common.{◌∙◌, ◌-◌, [], get_or, length, length-set, refl, arith, cost_in}
use Rattle.tlsf_held.proofs.Divided.{one_best, row_more}
use Rattle.tlsf_held.proofs.divisions.begin.Goals as goal

pub loop-at-preserved : goal.loop-at-preserved
loop-at-preserved c =
    let costs = c.args.costs.now in
    let at = c.loop-at.at in
    record {
      long = length-set c.loop-at.row at _ ∙ c.loop-at.invariant.long;
      one = row_more (cost_in costs) (length costs) 1 at c.loop-at.row c.with_first.result (omega (arith, c.loop-at.invariant.long, c.loop-at-test.true))
          (rw c.with_first.ensures (one_best (cost_in costs) (length costs) at (get_or (get_or costs at []) (length costs - 1) 0) c.loop-at-test.true refl (c.requires.costs_are.small at (length costs - 1)))) c.loop-at.invariant.one;
    }
