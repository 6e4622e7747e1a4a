use Rattle.std.proofs.Common.{arith, rules}
use Rattle.tlsf_heap.specs.Blocks.{want}
use Rattle.tlsf_heap.proofs.lemmas.laws.NoFit.{no_fit, ok_words}
use Rattle.tlsf_heap.proofs.LiveBlocks.{written_stays}
use Rattle.tlsf_heap.proofs.ledger.counts.CountsLedger.laws.Goals as goal

pub returns-clause-tells : goal.returns-clause-tells
returns-clause-tells g c = λ sli h ledger len is. record { no_fit = search (rules, no_fit sli h len); ok = ok_words sli h (want len) len }

pub returns-clause-reports : goal.returns-clause-reports
returns-clause-reports g c = λ sli h ledger is grant. is.live

pub returns-clause-written : goal.returns-clause-written
returns-clause-written g c = λ sli h ledger name at bytes is.
    let stays = written_stays h name at bytes in
    record { live = omega (arith, stays.0, is.live); below = omega (arith, stays.1, is.below) }
