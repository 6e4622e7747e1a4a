use Rattle.tlsf_pool_arena.proofs.SlotSteps.{reaches_at, puts_at, filled}
use Rattle.std.proofs.Common.{rules}
use Rattle.tlsf_pool_arena.proofs.returns.ticket.Ticket.put.Goals as goal

pub load-requires : goal.load-requires
load-requires g c =
    let n = c.args.slots.now.table.shared.table_id.slots in
    let own = c.args.self.away in
    (search rules, search rules, reaches_at n c.args.self.seat.id c.args.self.at c.args.self.seat.me own.0 own.1 own.2)

pub store-requires : goal.store-requires
store-requires g c =
    let n = c.args.slots.now.table.shared.table_id.slots in
    let own = c.args.self.away in
    let took = c.load.ensures.2 c.args.value c.requires.ticket.1 in
    (search rules, search rules, puts_at n c.exchange.new.seat.id c.args.self.at c.args.value c.exchange.new.seat.me (filled c.args.self.seat.me c.load.new.seat.me c.exchange.new.seat.me c.args.self.at c.args.value took own.1 own.2 c.exchange.ensures.3))
