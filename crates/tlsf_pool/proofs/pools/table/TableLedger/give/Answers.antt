use Rattle.tlsf_pool.proofs.Common.{◌≡◌, ◌<◌, ◌+◌, ◌∙◌, ℕ, List, Ok, length, set, slice_index, sym, ap, subst, length-set, with_items_is, HeapState, IsTable, TableRows, most_at, row_of, table_allocated}
use Rattle.tlsf_pool.proofs.lemmas.pools.Answering.{given_at, row_held}
use Rattle.tlsf_pool.proofs.pools.table.TableLedger.give.Goals as goal

pub count_up-requires-clause-row : goal.count_up-requires-clause-row
count_up-requires-clause-row g c =
    let r = c.requires.heap in
    let is = subst (IsTable r.0 r.1) (sym c.self.view_is) r.3 in
    let found = ap (λ (t : TableRows). row_of t.kinds c.args._len) c.self.view_is ∙ c.requires.places.0 in
    subst (λ (xs : List ℕ). c.args.row < length xs) (sym c.deref_mut.ensures.value) (row_held r.0 r.1 _ is c.args._len c.args.row found)

moved : (sli : ℕ) (h : HeapState) (len : ℕ) (s t left : TableRows) → s ≡ t → IsTable sli (table_allocated sli h s len).heap left → IsTable sli (table_allocated sli h t len).heap left
moved sli h len s t left same is = subst (λ (x : TableRows). IsTable sli (table_allocated sli h x len).heap left) same is

pub returns-clause-holds : goal.returns-clause-holds
returns-clause-holds g c = λ sli h name is answer.
    let row = c.args.row in
    let old = c.self.inside.held in
    let counts : c.count_up.new.held ≡ set old.items row (slice_index old.items row + 1) =
    subst (λ (xs : List ℕ). c.count_up.new.held ≡ set xs row (slice_index xs row + 1)) c.deref_mut.ensures.value c.count_up.ensures in
    let long : length c.count_up.new.held ≡ old.len = ap length counts ∙ (length-set old.items row (slice_index old.items row + 1) ∙ sym old.ok.0) in
    let found = ap (λ (t : TableRows). row_of t.kinds c.args._len) c.self.view_is ∙ c.requires.places.0 in
    let few = subst (λ (t : TableRows). slice_index t.held row < most_at t.kinds row) (sym c.self.view_is) c.requires.places.1 in
    let own = subst (λ (t : TableRows). Ok name ≡ (table_allocated sli h t c.args._len).answer) (sym c.self.view_is) answer in
    moved sli h c.args._len _ _ _ c.self.view_is
    (given_at sli h _ (subst (IsTable sli h) (sym c.self.view_is) is) row c.args._len name _ found few (with_items_is old c.count_up.new.held long ∙ counts) own)
