-- The ends of the slots, as contracts see them.
use Rattle.std.specs.Prelude.{◌≡◌, ℕ, Bool, List, [], Option, Some}
use Rattle.atomic_table.specs.Seated.{TableId}
use Rattle.tlsf_pool_arena.specs.declared.returns.owner_end.OwnerEnd.{OwnerEnd}
use Rattle.tlsf_pool_arena.specs.declared.returns.slots.Slots.{Slots}
use Rattle.tlsf_pool_arena.specs.declared.returns.receipt.Receipt.{Receipt}
use Rattle.tlsf_pool_arena.specs.declared.returns.ticket.Ticket.{Ticket}
use Rattle.tlsf_pool_arena.specs.declared.returns.role.Role.TheVariants.{Gave}
use Rattle.tlsf_pool_arena.specs.returns.Steps.{out_by, looks_by, value_of}

module _ {T : Type 0} where
  -- the value that is away by each slot, until the owner takes it
  abbrev pub away_by : OwnerEnd T → List (Option T)
  away_by o = out_by o.seat.me.0

  -- the looks that the owner had at slots, in order: the slot, and whether the value was home then
  abbrev pub looks_of : OwnerEnd T → List (ℕ × Bool)
  looks_of o = looks_by o.seat.me.0

  -- what no other slots share with these
  abbrev pub id_of : Slots T → TableId
  id_of slots = slots.table.shared.table_id

  -- of which slots it is the owner's end
  abbrev pub owner_id : OwnerEnd T → TableId
  owner_id o = o.seat.table_id

  -- of which slots it is a ticket, and for which value
  abbrev pub ticket_id : Ticket T → TableId
  ticket_id t = t.seat.table_id

  abbrev pub value_for : Ticket T → Option T
  value_for t = value_of t.seat.me.0

  -- the slot by which its value comes home
  abbrev pub slot_by : Ticket T → ℕ
  slot_by t = t.at

  -- it is the owner's end of these slots
  abbrev pub IsOwnerOf : Slots T → OwnerEnd T → Type 0
  IsOwnerOf slots o = owner_id o ≡ id_of slots

  -- it is the ticket of these slots for a value
  abbrev pub IsTicketFor : Slots T → T → Ticket T → Type 0
  IsTicketFor slots x t = (ticket_id t ≡ id_of slots) × (value_for t ≡ Some x)

  -- it shows that a value was put back by its slot
  abbrev pub IsReceiptFor : Slots T → ℕ → T → Receipt T → Type 0
  IsReceiptFor slots at x r = (r.seat.table_id ≡ id_of slots) × (r.seat.me ≡ (Gave at x, []))
