use Rattle.tlsf_pool.proofs.Common.{◌≡◌, ◌≢◌, ◌↔◌, List, None, Err, set, refl, sym, ap, ◌∙◌, subst, IfOk, IsErrOf, IsSomeAnd, OnOk, last_tick, NoFit, TooLong, Allocates, HasRow, PoolsState, held_by, held_in, part_in, part_named, part_of, table_of, HasPlace, HoldsOneMore, IsFull, TableState, row_of, table_allocated}
use Rattle.tlsf_pool.proofs.lemmas.pools.Heaps.{is_part, left_given, not_none, on_ok, part_has}
use Rattle.tlsf_pool.proofs.lemmas.pools.OnParts.{found_in, keeps_given, long_part, on_part, told_by}
use Rattle.tlsf_pool.proofs.lemmas.pools.WholeTable.{held_given, long_row, no_whole_row, row_given}
use Rattle.tlsf_pool.proofs.pools.pools.Pools.allocate.Goals as goal

pub returns : goal.returns
returns g c =
    let p : PoolsState = record { id = c.self.inside.id; parts = c.self.inside.parts.items; extent = record { address = c.self.inside.parts.ptr; capacity = c.self.inside.parts.cap } } in
    let which = long_part p.parts _ c.args.len c.in-Some.part c.in-Some.ensures c.deref.ensures.value in
    let e = c.allocate.ensures in
    let heap = on_ok _ c.allocate.result e.tells.ok (λ admits. (e.allocates admits).heap) in
    let has = part_has p.parts c.args.len c.in-Some.part which.0 in
    let row : row_of c.index_mut.result.now.ledger.kinds c.args.len ≢ None =
    subst (λ (t : TableState). row_of t.ledger.kinds c.args.len ≢ None) (sym (is_part p c.in-Some.part c.index_mut.result.now has.0 c.index_mut.ensures.value)) has.1 in
    record {
      ok = told_by c.in-Some.part c.self.invariant c.index_mut.ensures.value which.1 c.args.self.now c.self.view_is (λ q. part_of q c.args.len) which.0 (λ t. HasPlace t.ledger c.args.len × ¬ (t.heap.tick ≡ last_tick)) e.tells.ok;
      too_long = subst (λ (q : PoolsState). IsErrOf c.allocate.result TooLong ↔ (part_of q c.args.len ≡ None)) c.self.view_is
          (λ long. absurd (row (e.tells.too_long.0 long)), λ none. absurd (not_none (part_of p c.args.len) c.in-Some.part which.0 none));
      full = told_by c.in-Some.part c.self.invariant c.index_mut.ensures.value which.1 c.args.self.now c.self.view_is (λ q. part_of q c.args.len) which.0 (λ t. IsFull t.ledger c.args.len) e.tells.full;
      room = found_in c.in-Some.part c.self.invariant c.index_mut.ensures.value which.1 c.args.self.now c.self.view_is (λ q. part_of q c.args.len) which.0
          (λ t. HasPlace t.ledger c.args.len → (table_allocated g.row.SLI t.heap t.ledger c.args.len).answer ≢ Err NoFit) e.tells.room;
      allocates = on_part c.in-Some.part c.self.invariant c.index_mut.ensures.value which.1 (keeps_given c.args.len c.allocate.result e.frame.keeps.is e.frame.keeps.stays heap e.frame.err e.frame.limits)
          c.args.self.now c.self.view_is (λ q. part_of q c.args.len) which.0 (λ old new. Allocates g.row.SLI old new c.args.len c.allocate.result) (record {
            answer_is = e.tells.name;
            allocates = on_ok _ c.allocate.result e.tells.ok e.allocates;
            counts = e.given;
            err = e.frame.err;
            kinds = e.frame.limits.kinds;
            touches = e.few;
            given = left_given _ _ _ c.allocate.result heap e.tells.given;
            rise = e.frame.keeps.touches_rise;
            leaves = e.leaves;
          });
      none = λ none. absurd (not_none (part_of p c.args.len) c.in-Some.part which.0 (ap (λ (q : PoolsState). part_of q c.args.len) c.self.view_is ∙ none));
      no_row = subst (λ (q : PoolsState). IsErrOf c.allocate.result TooLong ↔ (row_of (table_of q) c.args.len ≡ None)) c.self.view_is
          (long_row p c.args.len c.in-Some.part c.index_mut.result.now which.0 which.1 c.index_mut.ensures.value e.tells.too_long);
      row = subst (λ (q : PoolsState). IfOk c.allocate.result (λ name. IsSomeAnd (row_of (table_of q) c.args.len) (λ row. IsSomeAnd (part_named q name) (HasRow q row)))) c.self.view_is
          (row_given g.row.SLI p c.args.len c.in-Some.part c.index_mut.result.now c.allocate.new.self c.self.invariant which.0 which.1 c.index_mut.ensures.value c.allocate.result e.tells.name e.given);
      held = subst (λ (q : PoolsState). OnOk c.allocate.result (HoldsOneMore (table_of q) c.args.len (held_by q) (held_in (set p.parts c.in-Some.part c.allocate.new.self)))) c.self.view_is
          (held_given g.row.SLI p c.args.len c.in-Some.part c.index_mut.result.now c.allocate.new.self c.self.invariant which.0 which.1 c.index_mut.ensures.value c.allocate.result e.given);
    }

pub invariant_of-self : goal.invariant_of-self
invariant_of-self g c = (returns g c).allocates.pools

pub returns-in_default-clause-no_row : goal.returns-in_default-clause-no_row
returns-in_default-clause-no_row g c =
    let p : PoolsState = record { id = c.self.inside.id; parts = c.self.inside.parts.items; extent = record { address = c.self.inside.parts.ptr; capacity = c.self.inside.parts.cap } } in
    let none : part_in p.parts c.args.len ≡ None = sym (c.part_of.ensures ∙ ap (λ (parts : List TableState). part_in parts c.args.len) c.deref.ensures.value) ∙ c.in_default.is in
    (λ _. subst (λ (q : PoolsState). row_of (table_of q) c.args.len ≡ None) c.self.view_is (no_whole_row c.args.len p.parts none), λ _. refl)
