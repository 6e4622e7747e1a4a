use Rattle.tlsf_pool.proofs.Common.{◌≡◌, List, Some, None, sym, ap, ◌∙◌, subst, PoolsState, TableRows, TableState, part_in, row_len, table_of}
use Rattle.tlsf_pool.proofs.lemmas.pools.Heaps.{is_part, part_has}
use Rattle.tlsf_pool.proofs.lemmas.pools.WholeTable.{no_row_len, whole_row_len}
use Rattle.tlsf_pool.proofs.pools.pools.Pools.row_len.Goals as goal

pub returns-in_default : goal.returns-in_default
returns-in_default g c =
    let p : PoolsState = record { id = c.self.inside.id; parts = c.self.inside.parts.items; extent = record { address = c.self.inside.parts.ptr; capacity = c.self.inside.parts.cap } } in
    let none : part_in p.parts c.args.len ≡ None = sym (c.part_of.ensures ∙ ap (λ (parts : List TableState). part_in parts c.args.len) c.deref.ensures.value) ∙ c.in_default.is in
    subst (λ (q : PoolsState). None ≡ row_len (table_of q) c.args.len) c.self.view_is (sym (no_row_len c.args.len p.parts none))

pub returns : goal.returns
returns g c =
    let p : PoolsState = record { id = c.self.inside.id; parts = c.self.inside.parts.items; extent = record { address = c.self.inside.parts.ptr; capacity = c.self.inside.parts.cap } } in
    let found : part_in p.parts c.args.len ≡ Some c.in-Some.part = sym (c.in-Some.ensures ∙ ap (λ (parts : List TableState). part_in parts c.args.len) c.deref.ensures.value) in
    let own = is_part p c.in-Some.part c.index.result.now (part_has p.parts c.args.len c.in-Some.part found).0 c.index.ensures in
    subst (λ (q : PoolsState). c.row_len.result ≡ row_len (table_of q) c.args.len) c.self.view_is
    (c.row_len.ensures
    ∙ (ap (λ (t : TableRows). row_len t.kinds c.args.len) c.ledger.ensures.ledger
    ∙ (ap (λ (t : TableState). row_len t.ledger.kinds c.args.len) own ∙ whole_row_len c.args.len p.parts c.in-Some.part found)))
