use Rattle.tlsf_pool.proofs.Common.{◌≡◌, ◌<◌, length, get_or, ap, ◌∙◌, arith, no_part, TableRows, TableState}
use Rattle.std.proofs.lemmas.List.{get_or_default}
use Rattle.tlsf_pool.proofs.lemmas.pools.WholeTable.{rows_passed}
use Rattle.tlsf_pool.proofs.pools.pools.counts.part_with.Goals as goal

pub loop-at-preserved : goal.loop-at-preserved
loop-at-preserved g c =
    let within : c.loop-at.at < length c.args.parts.now = omega (arith, c.loop-at-test.true) in
    let part = c.index-parts-at.is ∙ get_or_default c.args.parts.now c.loop-at.at c.index-parts-at.result no_part within in
    let rows : c.rows-rows.result ≡ length (get_or c.args.parts.now c.loop-at.at no_part).ledger.kinds =
    c.rows-rows.ensures ∙ (ap (λ (t : TableRows). length t.kinds) c.ledger.ensures.ledger ∙ ap (λ (t : TableState). length t.ledger.kinds) part) in
    record {
      within = omega (arith, within);
      row_is = omega (arith, rows, rows_passed c.args.parts.now c.loop-at.at within, c.loop-at.invariant.row_is, c.if-own-rows.false);
    }
