use Rattle.tlsf_heap.proofs.Common.{◌≡◌, ap, arith, sym, allocated, GrantCount, accepted}
use Rattle.tlsf_heap.proofs.LiveBlocks.{allocated_grows}
use Rattle.tlsf_heap.proofs.ledger.counts.CountsLedger.give.Goals as goal

pub returns-clause-holds : goal.returns-clause-holds
returns-clause-holds g c = λ sli h name is answer.
    let one : accepted (allocated sli h c.args._len).answer ≡ 1 = ap accepted (sym answer) in
    let grows = allocated_grows sli h c.args._len in
    let grants = ap (λ (x : GrantCount). x.grants) c.self.view_is in
    let returns = ap (λ (x : GrantCount). x.returns) c.self.view_is in
    record { live = omega (arith, one, grows.0, is.live, grants, returns); below = omega (arith, one, grows.1, is.below, grants, returns) }
