use Rattle.tlsf_arena.proofs.Searching.{in_all}
use Rattle.tlsf_arena.proofs.search.unit_at.Goals as goal

pub returns-then-is_unit_at-3-clause-steps : goal.returns-then-is_unit_at-3-clause-steps
returns-then-is_unit_at-3-clause-steps c =
    in_all c.args.compared.now.count c.is_unit_at.new.compared.count c.is_unit_at-2.new.compared.count c.sought-at.new.compared.count c.is_unit_at-3.new.compared.count c.args.units c.is_unit_at.ensures.steps c.is_unit_at-2.ensures.steps c.sought-at.ensures.counted
    c.sought-at.ensures.steps c.is_unit_at-3.ensures.steps

pub returns-clause-steps : goal.returns-clause-steps
returns-clause-steps c =
    in_all c.args.compared.now.count c.is_unit_at.new.compared.count c.is_unit_at-2.new.compared.count c.sought-at.new.compared.count c.is_unit_at-3.new.compared.count c.args.units c.is_unit_at.ensures.steps c.is_unit_at-2.ensures.steps c.sought-at.ensures.counted
    c.sought-at.ensures.steps c.is_unit_at-3.ensures.steps
