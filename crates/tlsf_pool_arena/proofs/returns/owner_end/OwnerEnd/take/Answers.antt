use Rattle.tlsf_pool_arena.proofs.Common.{◌≡◌, ◌∷◌, length, Some, sym, ap, ◌∙◌, arith, Seated, out_by}
use Rattle.atomic_table.specs.Table.{rest}
use Rattle.tlsf_pool_arena.proofs.SlotSteps.{clears_at, emptied, looks_at}
use Rattle.tlsf_pool_arena.proofs.returns.owner_end.OwnerEnd.take.Goals as goal

pub load-requires : goal.load-requires
load-requires g c =
    let seat = c.args.self.now.seat in
    let words : length (out_by seat.me.0) ≡ c.args.slots.now.table.shared.table_id.words = c.args.self.now.sized.0 ∙ ap (λ z. z.words) c.requires.own in
    let slots : length (out_by seat.me.0) ≡ c.args.slots.now.table.shared.table_id.slots = c.args.self.now.sized.1 ∙ ap (λ z. z.slots) c.requires.own in
    (c.requires.own, omega (arith, c.requires.slot, words), looks_at c.args.slots.now.table.shared.table_id.slots seat.id c.args.at seat.me c.args.self.now.rests (omega (arith, c.requires.slot, slots)))

pub exchange-value-requires : goal.exchange-value-requires
exchange-value-requires g c =
    let found = c.load.ensures.2.0 c.if-load-ne1.false in
    let held = ap (λ (m : Seated g.row.T.Denot). m.1) found.2 in
    (c.load.ensures.0 ∙ c.requires.own, (Some found.0, held ∙ ap (λ l. (c.args.at, Some found.0) ∷ rest l) (sym held)))

pub store-requires : goal.store-requires
store-requires g c =
    let seat = c.args.self.now.seat in
    let found = c.load.ensures.2.0 c.if-load-ne1.false in
    let words : length (out_by seat.me.0) ≡ c.args.slots.now.table.shared.table_id.words = c.args.self.now.sized.0 ∙ ap (λ z. z.words) c.requires.own in
    let known = emptied seat.me c.load.new.seat.me c.exchange-value.new.seat.me c.args.at found.0 c.args.self.now.rests found.2 c.exchange-value.ensures.3 in
    (c.exchange-value.ensures.0 ∙ c.load.ensures.0 ∙ c.requires.own, omega (arith, c.requires.slot, words), clears_at c.args.slots.now.table.shared.table_id.slots c.exchange-value.new.seat.id c.args.at _ _ c.exchange-value.new.seat.me known)
