use Rattle.tlsf_pool.proofs.Common.{◌≡◌, ◌<◌, length, sym, ap, ◌∙◌, true, arith, is_some, TableRows, row_of}
use Rattle.tlsf_pool.proofs.lemmas.pools.Heaps.{found_at, found_none, has_at}
use Rattle.tlsf_pool.proofs.pools.pools.part_of.Goals as goal

pub returns-then-serves : goal.returns-then-serves
returns-then-serves g c =
    let within : c.loop-at.at < length c.args.parts.now = omega (arith, c.loop-at-test.true) in
    sym (found_at c.args.parts.now c.args.len c.loop-at.at within c.loop-at.invariant.before
    (has_at c.args.parts.now c.args.len c.loop-at.at c.index-parts-at.result true within c.index-parts-at.is (ap (λ (t : TableRows). is_some (row_of t.kinds c.args.len)) (sym c.ledger.ensures.ledger) ∙ (sym c.serves.ensures ∙ c.if-serves.true))))

pub returns : goal.returns
returns g c =
    let end : c.loop-at.at ≡ length c.args.parts.now = omega (arith, c.loop-at.invariant.within, c.loop-at-test.false) in
    sym (found_none c.args.parts.now c.args.len c.loop-at.at end c.loop-at.invariant.before)
