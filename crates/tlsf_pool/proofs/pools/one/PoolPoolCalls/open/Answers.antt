use Rattle.tlsf_pool.proofs.Common.{◌≡◌, ℕ, ap, arith, ◌∙◌, opened, IsLedgered, fixed_words, IsPool}
use Rattle.tlsf_pool.proofs.lemmas.pools.PoolKept.{new_pool}
use Rattle.tlsf_pool.proofs.pools.one.PoolPoolCalls.open.Goals as goal

pub new-requires : goal.new-requires
new-requires g c =
    let some = c.in-Some.ensures.some in
    let heap : c.in_ok-heap.heap.heap ≡ opened c.args.id (fixed_words g.row.SLI c.args.most c.args.longest) c.args.first = c.in_ok-heap.ensures.heap ∙ ap (λ (n : ℕ). opened c.args.id n c.args.first) some.1 in
    let is : IsLedgered (IsPool g.row.SLI) (record { heap = c.in_ok-heap.heap.heap; stored = c.in_ok-heap.heap.stored; ledger = record { most = c.args.most; longest = c.args.longest; held = 0 }; extents = c.in_ok-heap.heap.extents; touches = c.in_ok-heap.heap.touches; touched = c.in_ok-heap.heap.touched }) =
    record { lawful = c.in_ok-heap.ensures.lawful; holds = new_pool g.row.SLI c.args.id c.args.most c.args.longest c.args.first c.in_ok-heap.heap.heap c.requires some.0.0 heap } in
    (omega arith, (omega arith, is))
