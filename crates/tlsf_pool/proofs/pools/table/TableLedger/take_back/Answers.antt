use Rattle.tlsf_pool.proofs.Common.{◌<◌, ◌∙◌, ℕ, List, length, slice_index, sym, ap, subst, IsSomeAnd, with_items_is, Kind, HoldsOneMore, IsTable, row_of}
use Rattle.tlsf_pool.proofs.lemmas.pools.Answering.{take_one, taken_at}
use Rattle.tlsf_pool.proofs.pools.table.TableLedger.take_back.Goals as goal

pub count_down-requires : goal.count_down-requires
count_down-requires g c =
    let r = c.requires in
    let one = take_one r.0 r.1 _ (subst (IsTable r.0 r.1) (sym c.self.view_is) r.3) r.2 c.args.len r.4 r.5 in
    subst (λ (ks : List Kind). IsSomeAnd (row_of ks c.args.len) (λ (row : ℕ). (row < length c.deref_mut.result.now) × (0 < slice_index c.deref_mut.result.now row))) (sym c.deref.ensures.value)
    (subst (λ (xs : List ℕ). IsSomeAnd (row_of c.self.inside.kinds.items c.args.len) (λ (row : ℕ). (row < length xs) × (0 < slice_index xs row))) (sym c.deref_mut.ensures.value) one)

pub returns-clause-holds : goal.returns-clause-holds
returns-clause-holds g c = λ sli h name is seen answer.
    let old = c.self.inside.held in
    let holds = subst (λ (ks : List Kind). HoldsOneMore ks c.args.len c.count_down.new.held c.deref_mut.result.now) c.deref.ensures.value c.count_down.ensures in
    let own = subst (λ (xs : List ℕ). HoldsOneMore c.self.inside.kinds.items c.args.len c.count_down.new.held xs) c.deref_mut.ensures.value holds in
    let items = with_items_is old c.count_down.new.held (c.count_down.auto.held ∙ (ap length c.deref_mut.ensures.value ∙ sym old.ok.0)) in
    taken_at sli h _ (subst (IsTable sli h) (sym c.self.view_is) is) name c.args.len _ seen (subst (λ (xs : List ℕ). HoldsOneMore c.self.inside.kinds.items c.args.len xs old.items) (sym items) own) answer
