use Rattle.tlsf_pool_arena.proofs.Common.{◌≡◌, [], length, Some, None, refl, sym, ap, ◌∙◌, arith, Seated, is_away, looks_by, out_by, slot_of, ticket_of, value_of}
use Rattle.tlsf_pool_arena.proofs.SlotSteps.{announces_at, is_slot, owner_sent, rests_as, sends_at, sized_as}
use Rattle.tlsf_pool_arena.proofs.returns.owner_end.OwnerEnd.send_out.Goals as goal

pub compare_exchange_with-requires : goal.compare_exchange_with-requires
compare_exchange_with-requires g c =
    let seat = c.args.self.now.seat in
    let slot = is_slot (out_by seat.me.0) c.args.at None c.requires.idle in
    let words : length (out_by seat.me.0) ≡ c.args.slots.now.table.shared.table_id.words = c.args.self.now.sized.0 ∙ ap (λ z. z.words) c.requires.own in
    (c.requires.own, omega (arith, slot, words), announces_at c.args.slots.now.table.shared.table_id.slots seat.id c.args.at c.args.value seat.me c.args.self.now.rests c.requires.idle)

pub split_seat-seat-requires : goal.split_seat-seat-requires
split_seat-seat-requires g c =
    let seat = c.args.self.now.seat in
    let slot = is_slot (out_by seat.me.0) c.args.at None c.requires.idle in
    let words : length (out_by seat.me.0) ≡ c.args.slots.now.table.shared.table_id.words = c.args.self.now.sized.0 ∙ ap (λ z. z.words) c.requires.own in
    let said = c.compare_exchange_with.ensures.2 c.args.value refl in
    (c.compare_exchange_with.ensures.0 ∙ c.requires.own, omega (arith, slot, words), sends_at c.compare_exchange_with.new.seat.id c.args.at (out_by seat.me.0) (looks_by seat.me.0) c.args.value c.compare_exchange_with.new.seat.me.0 (ap (λ (m : Seated g.row.T.Denot). m.0) said))

pub invariant_of-self : goal.invariant_of-self
invariant_of-self g c =
    let first = c.args.self.now.seat in
    let second = c.compare_exchange_with.new.seat in
    let third = c.split_seat-seat.new.seat in
    let ids = c.split_seat-seat.ensures.0 ∙ c.compare_exchange_with.ensures.0 in
    let went = owner_sent first.me second.me third.me c.args.at c.args.value c.args.self.now.rests (c.compare_exchange_with.ensures.2 c.args.value refl) c.split_seat-seat.ensures.2 in
    let long = sized_as third.me (out_by first.me.0) (looks_by first.me.0) c.args.at (Some c.args.value) went in
    record {
      rests = rests_as third.me _ _ went;
      sized = (long ∙ c.args.self.now.sized.0 ∙ sym (ap (λ z. z.words) ids), long ∙ c.args.self.now.sized.1 ∙ sym (ap (λ z. z.slots) ids));
    }

pub invariant_of-result : goal.invariant_of-result
invariant_of-result g c =
    let first = c.args.self.now.seat in
    let said = c.compare_exchange_with.ensures.2 c.args.value refl in
    let known = c.split_seat-seat.ensures.4 ∙ ap (λ (m : Seated g.row.T.Denot). (ticket_of m.0, [])) said in
    let ids = c.split_seat-seat.ensures.3 ∙ c.compare_exchange_with.ensures.0 in
    let slot = is_slot (out_by first.me.0) c.args.at None c.requires.idle in
    let words : length (out_by first.me.0) ≡ c.split_seat-seat.result.table_id.words = c.args.self.now.sized.0 ∙ sym (ap (λ z. z.words) ids) in
    let slots : length (out_by first.me.0) ≡ c.split_seat-seat.result.table_id.slots = c.args.self.now.sized.1 ∙ sym (ap (λ z. z.slots) ids) in
    record {
      away = (ap (λ (m : Seated g.row.T.Denot). is_away m.0) known, ap (λ (m : Seated g.row.T.Denot). m.1) known, ap (λ (m : Seated g.row.T.Denot). slot_of m.0) known);
      inside = (omega (arith, slot, words), omega (arith, slot, slots));
    }

pub returns-clause-own : goal.returns-clause-own
returns-clause-own g c =
    let first = c.args.self.now.seat in
    let went = owner_sent first.me c.compare_exchange_with.new.seat.me c.split_seat-seat.new.seat.me c.args.at c.args.value c.args.self.now.rests (c.compare_exchange_with.ensures.2 c.args.value refl) c.split_seat-seat.ensures.2 in
    (c.split_seat-seat.ensures.0 ∙ c.compare_exchange_with.ensures.0 ∙ c.requires.own, ap (λ (m : Seated g.row.T.Denot). looks_by m.0) went)

pub returns-clause-ticket : goal.returns-clause-ticket
returns-clause-ticket g c =
    let said = c.compare_exchange_with.ensures.2 c.args.value refl in
    let known = c.split_seat-seat.ensures.4 ∙ ap (λ (m : Seated g.row.T.Denot). (ticket_of m.0, [])) said in
    (c.split_seat-seat.ensures.3 ∙ c.compare_exchange_with.ensures.0 ∙ c.requires.own, ap (λ (m : Seated g.row.T.Denot). value_of m.0) known)

pub returns-clause-away : goal.returns-clause-away
returns-clause-away g c =
    let first = c.args.self.now.seat in
    let went = owner_sent first.me c.compare_exchange_with.new.seat.me c.split_seat-seat.new.seat.me c.args.at c.args.value c.args.self.now.rests (c.compare_exchange_with.ensures.2 c.args.value refl) c.split_seat-seat.ensures.2 in
    ap (λ (m : Seated g.row.T.Denot). out_by m.0) went

pub returns-clause-count : goal.returns-clause-count
returns-clause-count g c =
    let first = c.args.self.now.seat in
    let third = c.split_seat-seat.new.seat in
    let went = owner_sent first.me c.compare_exchange_with.new.seat.me third.me c.args.at c.args.value c.args.self.now.rests (c.compare_exchange_with.ensures.2 c.args.value refl) c.split_seat-seat.ensures.2 in
    sized_as third.me (out_by first.me.0) (looks_by first.me.0) c.args.at (Some c.args.value) went
