use Rattle.tlsf_pool.proofs.Common.{◌≡◌, ℕ, List, Some, get_or, ap, ap₂, ◌∙◌, subst, IsRowOf, PoolsState, TableRows, TableState, counts_at, most_at, part_at}
use Rattle.tlsf_pool.proofs.lemmas.pools.Heaps.{is_part}
use Rattle.tlsf_pool.proofs.lemmas.pools.RowTotals.{none}
use Rattle.tlsf_pool.proofs.lemmas.pools.WholeTable.{counts, counts_there}
use Rattle.tlsf_pool.proofs.pools.pools.Pools.counts.Goals as goal

pub returns-clause-counts : goal.returns-clause-counts
returns-clause-counts g c =
    let p : PoolsState = record { id = c.self.inside.id; parts = c.self.inside.parts.items; extent = record { address = c.self.inside.parts.ptr; capacity = c.self.inside.parts.cap } } in
    let found : IsRowOf p.parts c.args.row c.in-Some.part c.in-Some.own = subst (λ (parts : List TableState). IsRowOf parts c.args.row c.in-Some.part c.in-Some.own) c.deref.ensures.value c.in-Some.ensures.some in
    let held : c.held-held.result ≡ get_or (part_at p c.in-Some.part).ledger.held c.in-Some.own 0 =
    c.held-held.ensures.held ∙ ap (λ (t : TableState). get_or t.ledger.held c.in-Some.own 0) (is_part p c.in-Some.part c.index.result.now found.part c.index.ensures) in
    let most : c.most-most.result ≡ (get_or (part_at p c.in-Some.part).ledger.kinds c.in-Some.own none).most =
    c.most-most.ensures
    ∙ (ap (λ (t : TableRows). most_at t.kinds c.in-Some.own) c.ledger.ensures.ledger
    ∙ ap (λ (t : TableState). most_at t.ledger.kinds c.in-Some.own) (is_part p c.in-Some.part c.index-2.result.now found.part c.index-2.ensures)) in
    subst (λ (q : PoolsState). Some (counts c.held-held.result c.most-most.result) ≡ counts_at q c.args.row) c.self.view_is
    (ap₂ (λ (h m : ℕ). Some (counts h m)) held most ∙ counts_there g.row.SLI p c.args.row c.in-Some.part c.in-Some.own c.self.invariant found)
