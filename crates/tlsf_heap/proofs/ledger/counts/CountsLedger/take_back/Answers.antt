use Rattle.tlsf_heap.proofs.Common.{rules, ◌≡◌, ◌+◌, ◌≤◌, ap, arith, sym, released, GrantCount, accepted}
use Rattle.tlsf_heap.proofs.LiveBlocks.{released_shrinks}
use Rattle.tlsf_heap.proofs.ledger.counts.CountsLedger.take_back.Goals as goal

pub overflow_add-self : goal.overflow_add-self
overflow_add-self g c =
    let r = c.requires in
    let one : accepted (released r.1 r.2).answer ≡ 1 = ap accepted (sym r.5) in
    let some : c.args.self.now.returns + 1 ≤ c.args.self.now.grants = omega (arith, one, (released_shrinks r.1 r.2).0, r.3.live) in
    search (rules, some)

pub returns-clause-holds : goal.returns-clause-holds
returns-clause-holds g c = λ sli h name is seen answer.
    let one : accepted (released h name).answer ≡ 1 = ap accepted (sym answer) in
    let shrinks = released_shrinks h name in
    let grants = ap (λ (x : GrantCount). x.grants) c.self.view_is in
    let returns = ap (λ (x : GrantCount). x.returns) c.self.view_is in
    record { live = omega (arith, one, shrinks.0, is.live, grants, returns); below = omega (arith, one, shrinks.1, is.below, grants, returns) }
