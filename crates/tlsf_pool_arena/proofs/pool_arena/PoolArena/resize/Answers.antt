use Rattle.tlsf_pool_arena.proofs.Common.{◌↔◌, IfOk, ◌≡◌, ℕ, ◌≤◌, Result, Ok, Err, IsOk, subst, arith, last_tick, PoolArenaState, fixed_bytes}
use Rattle.tlsf_arena.specs.Loans.{units_of}
use Rattle.tlsf_pool_arena.proofs.Kept.{is_long, refit, resize_ok, resize_worn, size_of_each}
use Rattle.tlsf_pool_arena.proofs.pool_arena.PoolArena.resize.Goals as goal

-- of an accepted call more may be known
if_ok : {A E : Type 0} (P Q : A → Type 0) (result : Result A E) → ((a : A) → P a → Q a) → IfOk result P → IfOk result Q
if_ok P Q (Ok a) more is = more a is
if_ok P Q (Err e) more is = is

pub invariant_of-self : goal.invariant_of-self
invariant_of-self g c = (
  refit g.row.SLI g.row.UNIT _ c.self.invariant.0 c.self.inside.bytes c.self.invariant.1 c.args.block.name _ c.resize.new.self.region c.resize.new.self.book _ _ _ _ c.resize.ensures.resizes.heap,
  c.self.invariant.1,
)

pub returns-then-self-len-clause-ok : goal.returns-then-self-len-clause-ok
returns-then-self-len-clause-ok g c =
    let when = resize_ok g.row.SLI g.row.UNIT _ c.self.invariant.0 c.self.inside.bytes c.self.invariant.1 c.resize.result c.args.block.name (units_of c.args.block.right.loan) c.resize.ensures.resizes.on.live c.resize.ensures.resizes.answer_is in
    subst (λ (p : PoolArenaState). IsOk c.resize.result ↔ ((c.args.len ≤ p.longest) × ¬ (p.heap.tick ≡ last_tick))) c.self.view_is ((λ ok. (c.if-self-len.true, when.0 ok)), (λ within. when.1 within.1))

pub returns-then-self-len-clause-worn : goal.returns-then-self-len-clause-worn
returns-then-self-len-clause-worn g c = λ short.
    resize_worn g.row.SLI g.row.UNIT _ c.self.invariant.0 c.self.inside.bytes c.self.invariant.1 c.resize.result c.args.block.name (units_of c.args.block.right.loan) c.resize.ensures.resizes.on.live c.resize.ensures.resizes.answer_is

pub returns-then-self-len-clause-block : goal.returns-then-self-len-clause-block
returns-then-self-len-clause-block g c =
    let size = size_of_each g.row.SLI g.row.UNIT _ c.self.invariant.0 c.self.inside.bytes c.self.invariant.1 in
    subst (λ (p : PoolArenaState). IfOk c.resize.result (λ b. (b.name ≡ c.args.block.name) × (b.piece.region ≡ p.region) × (b.right.book ≡ p.book) × (b.piece.at ≡ c.args.block.piece.at) × (b.piece.size ≡ fixed_bytes g.row.SLI g.row.UNIT p.longest))) c.self.view_is
    (subst (λ (n : ℕ). IfOk c.resize.result (λ b. (b.name ≡ c.args.block.name) × (b.piece.region ≡ c.self.inside.arena.region) × (b.right.book ≡ c.self.inside.arena.book) × (b.piece.at ≡ c.args.block.piece.at) × (b.piece.size ≡ n))) size c.resize.ensures.block)

pub returns-then-self-len-clause-given : goal.returns-then-self-len-clause-given
returns-then-self-len-clause-given g c =
    let size = size_of_each g.row.SLI g.row.UNIT _ c.self.invariant.0 c.self.inside.bytes c.self.invariant.1 in
    let long = is_long g.row.SLI g.row.UNIT _ c.self.invariant.0 c.args.len c.if-self-len.true in
    if_ok _ _ c.resize.result (λ b is. omega (arith, is.4, size, long)) c.resize.ensures.block
