use Rattle.tlsf_pool.proofs.Common.{◌≡◌, ◌-◌, get_or, length, take, min, rules, arith, ap, ◌∙◌, length-take, parts_of}
use Rattle.tlsf_pool.specs.sizes.Limits.{AreRows}
use Rattle.tlsf_pool.proofs.lemmas.pools.Opened.{length_more, opened_step, part_words}
use Rattle.tlsf_pool.proofs.pools.opening.open_parts.Goals as goal
use Rattle.std.proofs.lemmas.List.{take_rest}

pub open_part-requires : goal.open_part-requires
open_part-requires g c =
    let least : c.min-len.result ≡ min (get_or c.args.split.now.lens (c.args.split.now.heaps - 1 - c.loop-at.at) 0) (length c.loop-at.rest.now) = search rules in
    let rows : AreRows g.row.SLI (take c.min-len.result c.loop-at.rest.now) = record { level = c.requires.rows.level; few = omega (arith, length-take c.min-len.result c.loop-at.rest.now, c.loop-at.invariant.so_far.few) } in
    let words = part_words g.row.SLI c.args.id c.args.first (parts_of c.args.split.now c.args.kinds.now) c.args.split.now.lens c.loop-at.rest.now c.loop-at.parts.items c.args.split.now.heaps c.loop-at.at c.min-len.result
    c.loop-at-test.true c.loop-at.invariant.so_far least in
    (omega arith, (omega arith, (rows, (words, c.requires.fresh))))

pub loop-at-preserved : goal.loop-at-preserved
loop-at-preserved g c =
    let least : c.min-len.result ≡ min (get_or c.args.split.now.lens (c.args.split.now.heaps - 1 - c.loop-at.at) 0) (length c.loop-at.rest.now) = search rules in
    let e = c.in_ok-open_part.ensures.new in
    record {
      so_far = opened_step g.row.SLI c.args.id c.args.first (parts_of c.args.split.now c.args.kinds.now) c.args.split.now.lens c.loop-at.rest.now c.loop-at.parts.items c.args.split.now.heaps c.loop-at.at c.min-len.result
          c.loop-at-test.true c.loop-at.invariant.so_far least e.pool _ _ c.loop-at.invariant.as_many e.is.heap e.is.kinds e.is.held e.tabled (take_rest c.loop-at.rest.now c.min-len.result) e.items;
      as_many = ap length e.items ∙ length_more c.loop-at.parts.items e.pool c.loop-at.at c.loop-at.invariant.as_many;
    }
