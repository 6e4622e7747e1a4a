use Rattle.tlsf_pool.proofs.Common.{◌+◌, take, None, arith}
use Rattle.std.proofs.lemmas.List.{get_or_read}
use Rattle.tlsf_pool.proofs.lemmas.sizes.Cuts.{are_words, both_longer}
use Rattle.tlsf_pool.proofs.sizes.split.best_of.Goals as goal

pub loop-index-preserved : goal.loop-index-preserved
loop-index-preserved g c =
    let are = are_words g.row.SLI (take (c.loop-index.index + 1) c.args.kinds.now) c.region_words-words.result c.region_words-words.ensures.some c.region_words-words.ensures.none in
    let both = both_longer g.row.SLI c.args.heaps c.loop-index.index c.requires.rows.level c.args.kinds.now c.args.rests.now c.loop-index.best c.region_words-words.result
    c.requires.heaps (omega (arith, c.requires.behind, c.loop-index-test.true)) c.loop-index-test.true are c.requires.best c.loop-index.invariant.best c.loop-index.invariant.small in
    let read = get_or_read c.args.rests.now c.loop-index.index c.index-rests-index.result (omega (arith, c.loop-index-test.true)) c.index-rests-index.is None in
    rw (c.cheaper-best.ensures, c.with_first.ensures.value, read) (record { best = both.0; small = both.1 })
