use Rattle.tlsf_pool.proofs.Common.{◌≡◌, ◌≤◌, List, sym, ◌∙◌, subst, arith, rules, last_tick, Kind, AreAllReached, parts_of}
use Rattle.tlsf_pool.proofs.lemmas.pools.Opened.{new_pools}
use Rattle.tlsf_pool.proofs.lemmas.pools.WholeTable.{all_reached, new_rows}
use Rattle.tlsf_pool.proofs.pools.pools.Pools.open.Goals as goal
use Rattle.tlsf_pool.proofs.lemmas.sizes.Cuts.{many_parts}

pub open_parts-requires : goal.open_parts-requires
open_parts-requires g c =
    let split = c.in-Some.split in
    let least = c.in-Some.ensures.least in
    let few : split.heaps ≤ 8 = omega (arith, least.sought, many_parts split.heaps split.lens c.args.kinds.now) in
    let fresh : ¬ (c.args.first ≡ last_tick) = search rules in
    (omega arith, (omega arith, (c.requires.rows, (c.requires.numbers, (few, (least.cut.1, fresh))))))

pub invariant_of-result : goal.invariant_of-result
invariant_of-result g c = new_pools g.row.SLI c.args.id c.args.first c.args.kinds.now c.in-Some.split c.in_ok-parts.parts.items _ c.in-Some.ensures.least c.in_ok-parts.ensures.new c.in_ok-parts.ensures.tables

pub returns-clause-table : goal.returns-clause-table
returns-clause-table g c =
    new_rows g.row.SLI c.args.id c.args.first (parts_of c.in-Some.split c.args.kinds.now) c.in_ok-parts.parts.items c.in_ok-parts.ensures.new ∙ c.in-Some.ensures.least.cut.0

pub returns-clause-reached : goal.returns-clause-reached
returns-clause-reached g c = subst (λ (kinds : List Kind). AreAllReached kinds) (sym (returns-clause-table g c)) (all_reached c.args.kinds.now c.in-Some.ensures.rises)
