use Rattle.tlsf_pool_arena.proofs.Common.{sym, ap, ◌∙◌, subst, arith, false≢true, Holds, IsPoolArena, PoolArenaState, fixed_bytes}
use Rattle.tlsf_pool_arena.proofs.Kept.{given, is_long, is_new, room, size_of_each, units_of_each, worn}
use Rattle.tlsf_pool_arena.proofs.pool_arena.PoolArena.allocate.Goals as goal

pub invariant_of-self : goal.invariant_of-self
invariant_of-self g c = (
  given g.row.SLI g.row.UNIT _ c.self.invariant.0 c.self.inside.bytes c.self.invariant.1 c.in-Ok.block.name _ c.allocate.new.self.region c.allocate.new.self.book _ _ _ _ c.if-self.false c.in-Ok.ensures.answer c.in-Ok.ensures.heap,
  c.self.invariant.1,
)

pub returns-in-Ok-clause-room : goal.returns-in-Ok-clause-room
returns-in-Ok-clause-room g c = λ short few. room g.row.SLI g.row.UNIT c.args.self.now (subst (IsPoolArena g.row.SLI g.row.UNIT) c.self.view_is c.self.invariant.0) few

pub returns-in-Ok-clause-block : goal.returns-in-Ok-clause-block
returns-in-Ok-clause-block g c = (
  c.in-Ok.ensures.block.0 ∙ ap (λ (p : PoolArenaState). p.region) c.self.view_is,
  c.in-Ok.ensures.block.1 ∙ ap (λ (p : PoolArenaState). p.book) c.self.view_is,
  c.in-Ok.ensures.block.2 ∙ size_of_each g.row.SLI g.row.UNIT _ c.self.invariant.0 c.self.inside.bytes c.self.invariant.1 ∙ ap (λ (p : PoolArenaState). fixed_bytes g.row.SLI g.row.UNIT p.longest) c.self.view_is,
)

pub returns-in-Ok-clause-given : goal.returns-in-Ok-clause-given
returns-in-Ok-clause-given g c =
    omega (
      arith,
      c.in-Ok.ensures.block.2,
      size_of_each g.row.SLI g.row.UNIT _ c.self.invariant.0 c.self.inside.bytes c.self.invariant.1,
      is_long g.row.SLI g.row.UNIT _ c.self.invariant.0 c.args.len c.if-len-self.false,
    )

pub returns-in-Ok-clause-holds : goal.returns-in-Ok-clause-holds
returns-in-Ok-clause-holds g c =
    subst (Holds c.allocate.new.self.heap c.in-Ok.block.name) (units_of_each g.row.SLI g.row.UNIT c.args.self.now (subst (IsPoolArena g.row.SLI g.row.UNIT) c.self.view_is c.self.invariant.0) c.self.inside.bytes
    (c.self.invariant.1 ∙ ap (λ (p : PoolArenaState). fixed_bytes g.row.SLI g.row.UNIT p.longest) c.self.view_is)) c.in-Ok.ensures.holds

pub returns-in-Ok-clause-new : goal.returns-in-Ok-clause-new
returns-in-Ok-clause-new g c = λ other units holds.
    is_new g.row.SLI g.row.UNIT _ c.self.invariant.0 c.self.inside.bytes c.self.invariant.1 c.in-Ok.block.name other units c.in-Ok.ensures.answer
    (subst (λ (p : PoolArenaState). Holds p.heap other units) (sym c.self.view_is) holds)

pub returns-in-Err-clause-ok : goal.returns-in-Err-clause-ok
returns-in-Err-clause-ok g c = (
  λ e. absurd (false≢true e),
  worn g.row.SLI g.row.UNIT _ c.self.invariant.0 c.self.inside.bytes c.self.invariant.1 c.args.self.now c.args.len (sym c.self.view_is) c.in-Err.ensures.accepted.1,
)

pub returns-in-Err-clause-room : goal.returns-in-Err-clause-room
returns-in-Err-clause-room g c = λ short few. room g.row.SLI g.row.UNIT c.args.self.now (subst (IsPoolArena g.row.SLI g.row.UNIT) c.self.view_is c.self.invariant.0) few
