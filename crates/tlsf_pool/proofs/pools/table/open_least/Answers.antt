use Rattle.tlsf_pool.proofs.Common.{arith, IsLedgered, IsTable}
use Rattle.tlsf_pool.proofs.lemmas.pools.TableKept.{least_table}
use Rattle.tlsf_pool.proofs.pools.table.open_least.Goals as goal

pub new-requires : goal.new-requires
new-requires g c =
    let heap = c.in_ok-heap.heap in
    let e = c.in_ok-heap.ensures in
    let holds = least_table g.row.SLI c.args.id c.args.first heap.heap c.none.result c.requires c.none.ensures.kinds c.none.ensures.held e.lawful e.heap in
    let is : IsLedgered (IsTable g.row.SLI) (record { heap = heap.heap; stored = heap.stored; ledger = c.none.result; extents = heap.extents; touches = heap.touches; touched = heap.touched }) = record { lawful = e.lawful; holds = holds } in
    (omega arith, (omega arith, is))
