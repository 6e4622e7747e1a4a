use Rattle.tlsf_pool.proofs.Common.{ℕ, List, sym, ap, ◌∙◌, subst, arith, rules, IsRegion, opened, Kind, Rises, HasWords, AreAllReached, TableRows}
use Rattle.tlsf_heap.proofs.lemmas.calls.Alone.{opened_again, opened_before}
use Rattle.tlsf_pool.proofs.lemmas.pools.TableKept.{begun_table}
use Rattle.tlsf_pool.proofs.lemmas.pools.WholeTable.{all_reached}
use Rattle.tlsf_pool.proofs.pools.table.TablePoolTablePoolCalls.open.Goals as goal

pub returns-in_err-pool-clause-bad_size : goal.returns-in_err-pool-clause-bad_size
returns-in_err-pool-clause-bad_size g c =
    let some = c.in-Some.ensures.some in
    let region : IsRegion g.row.SLI c.in-Some.words = (omega (arith, some.1), omega (arith, some.1, some.0.1)) in
    let into : HasWords g.row.SLI c.args.kinds.now → IsRegion g.row.SLI c.in-Some.words = λ _. region in
    let back : IsRegion g.row.SLI c.in-Some.words → HasWords g.row.SLI c.args.kinds.now = λ _. some.0 in
    let refused = c.in_err-pool.ensures.bad_size in
    search (rules, into, back, refused.0, refused.1)

pub returns-in_err-pool-clause-worn : goal.returns-in_err-pool-clause-worn
returns-in_err-pool-clause-worn g c =
    let some = c.in-Some.ensures.some in
    let region : IsRegion g.row.SLI c.in-Some.words = (omega (arith, some.1), omega (arith, some.1, some.0.1)) in
    let worn = c.in_err-pool.ensures.worn region in
    λ _. search (rules, worn.0, worn.1)

pub begin-requires : goal.begin-requires
begin-requires g c =
    let e = c.in_ok-pool.ensures in
    let holds = begun_table g.row.SLI c.args.id c.args.first c.in-Some.words c.args.kinds.now c.in_ok-pool.pool.heap c.in_ok-table.table c.requires.rows.level c.in-Some.ensures.some c.requires.rows.few
    c.in_ok-table.ensures.kinds c.in_ok-table.ensures.held e.heap in
    (omega arith, (opened_before _ c.args.id 4 c.args.first e.heap, (e.region, (e.words_room, (e.starts_room, holds)))))

pub returns-clause-heap : goal.returns-clause-heap
returns-clause-heap g c =
    c.begin.ensures.heap ∙ opened_again _ c.args.id 4 c.in-Some.words c.args.first c.in_ok-pool.ensures.heap ∙ ap (λ (n : ℕ). opened c.args.id n c.args.first) c.in-Some.ensures.some.1

pub returns-clause-kinds : goal.returns-clause-kinds
returns-clause-kinds g c = ap (λ (t : TableRows). t.kinds) c.begin.ensures.ledger ∙ c.in_ok-table.ensures.kinds

pub returns-clause-none : goal.returns-clause-none
returns-clause-none g c = ap (λ (t : TableRows). t.held) c.begin.ensures.ledger ∙ c.in_ok-table.ensures.held

pub returns-clause-table : goal.returns-clause-table
returns-clause-table g c = c.begin.ensures.is

pub returns-clause-reached : goal.returns-clause-reached
returns-clause-reached g c =
    let rises : Rises c.args.kinds.now = search rules in
    subst (λ (ks : List Kind). AreAllReached ks) (sym (returns-clause-kinds g c)) (all_reached c.args.kinds.now rises)
