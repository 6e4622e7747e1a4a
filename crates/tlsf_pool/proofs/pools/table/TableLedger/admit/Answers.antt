use Rattle.tlsf_pool.proofs.Common.{◌≡◌, ◌<◌, ◌∙◌, ℕ, List, Some, length, sym, ap, subst, Kind, IsTable, row_of}
use Rattle.tlsf_pool.proofs.lemmas.pools.Answering.{row_held}
use Rattle.tlsf_pool.proofs.pools.table.TableLedger.admit.Goals as goal

pub has_place-requires-clause-held : goal.has_place-requires-clause-held
has_place-requires-clause-held g c =
    let found : row_of c.self.inside.kinds.items c.args.len ≡ Some c.in-Some.row = sym (c.in-Some.ensures ∙ ap (λ (ks : List Kind). row_of ks c.args.len) c.deref.ensures.value) in
    let is = subst (IsTable c.requires.0 c.requires.1) (sym c.self.view_is) c.requires.2 in
    subst (λ (xs : List ℕ). c.in-Some.row < length xs) (sym c.deref-3.ensures.value) (row_held c.requires.0 c.requires.1 _ is c.args.len c.in-Some.row found)
