use Rattle.tlsf_pool_arena.proofs.Common.{ℕ, ◌≡◌, ◌-◌, List, [], ◌∷◌, ◌++◌, take, Option, Some, length, length-set, refl, sym, ap, subst, ◌∙◌, arith, Parcel, AreIdle, RemoteState, away_by}
use Rattle.std.proofs.lemmas.Result.{err_from_is_err_and}
use Rattle.tlsf_pool_arena.proofs.Idle.{as_many, full_err, full_is, is_there, kept_slots, lent_from, lent_idle, lent_last, none_lost}
use Rattle.tlsf_pool_arena.proofs.Lent.{lent}
use Rattle.tlsf_pool_arena.proofs.remote_arena.RemoteArena.lend.Goals as goal

pub invariant_of-self-2 : goal.invariant_of-self-2
invariant_of-self-2 g c =
    let a = c.self.inside in
    let e = c.in_ok-block.ensures in
    let parcel : Parcel g.row.UNIT = record { block = c.in_ok-block.block } in
    let now = c.send_out-parcel.ensures.away in
    let at = c.read-at.result in
    let held = c.held.ensures in
    let left = lent_idle a.count c.allocate.new.self.most a.arena.held c.held.result at a.idle.slots (away_by a.owner) c.self.invariant.3 (c.self.invariant.2 ∙ sym e.keeps.plan.most) (held.held ∙ e.held) held.few c.read-at.ensures.slot (away_by c.send_out-parcel.new.self) parcel now in (
      lent a.arena.region c.allocate.new.self.region a.arena.book c.allocate.new.self.book (away_by a.owner) (away_by c.send_out-parcel.new.self) at c.self.invariant.0 e.keeps.plan.region e.keeps.plan.book parcel now (e.block.0, e.block.1),
      c.self.invariant.1 ∙ sym (ap (λ (l : List (Option (Parcel g.row.UNIT))). length l) now ∙ length-set (away_by a.owner) at (Some parcel)),
      c.self.invariant.2 ∙ sym e.keeps.plan.most,
      subst (λ (l : List ℕ). AreIdle g.row.UNIT a.count (a.count - c.allocate.new.self.held) l (away_by c.send_out-parcel.new.self)) (sym c.read-at.ensures.slots)
          (as_many a.count (a.count - c.held.result) (a.count - c.allocate.new.self.held) a.idle.slots (away_by c.send_out-parcel.new.self) (ap (λ (j : ℕ). a.count - j) held.held) left),
      omega (arith, held.held, held.few, e.keeps.plan.most, c.self.invariant.2),
    )

pub send_out-parcel-requires-clause-idle : goal.send_out-parcel-requires-clause-idle
send_out-parcel-requires-clause-idle g c =
    let a = c.self.inside in
    let e = c.in_ok-block.ensures in
    let held = c.held.ensures in
    lent_from a.count c.allocate.new.self.most a.arena.held c.held.result c.read-at.result a.idle.slots (away_by a.owner) c.self.invariant.3 (c.self.invariant.2 ∙ sym e.keeps.plan.most) (held.held ∙ e.held) held.few c.read-at.ensures.slot

pub returns-clause-away : goal.returns-clause-away
returns-clause-away g c =
    let a = c.self.inside in
    let e = c.in_ok-block.ensures in
    let held = c.held.ensures in
    let free = lent_from a.count c.allocate.new.self.most a.arena.held c.held.result c.read-at.result a.idle.slots (away_by a.owner) c.self.invariant.3 (c.self.invariant.2 ∙ sym e.keeps.plan.most) (held.held ∙ e.held) held.few c.read-at.ensures.slot in
    let same : away_by a.owner ≡ c.args.self.now.away = ap (λ (v : RemoteState g.row.UNIT). v.away) c.self.view_is in
    (cc (free, same, c.send_out-parcel.ensures.slot), cc (same, c.send_out-parcel.ensures.away, c.send_out-parcel.ensures.slot, c.send_out-parcel.ensures.value))

pub returns-clause-slot : goal.returns-clause-slot
returns-clause-slot g c =
    let a = c.self.inside in
    let e = c.in_ok-block.ensures in
    let held = c.held.ensures in
    let free = lent_from a.count c.allocate.new.self.most a.arena.held c.held.result c.read-at.result a.idle.slots (away_by a.owner) c.self.invariant.3 (c.self.invariant.2 ∙ sym e.keeps.plan.most) (held.held ∙ e.held) held.few c.read-at.ensures.slot in
    let there = is_there c.read-at.result (away_by a.owner) free in
    omega (arith, there, c.send_out-parcel.ensures.slot, c.self.invariant.1, c.self.invariant.2, e.keeps.plan.most)

pub returns-clause-idle : goal.returns-clause-idle
returns-clause-idle g c =
    let a = c.self.inside in
    let e = c.in_ok-block.ensures in
    let parcel : Parcel g.row.UNIT = record { block = c.in_ok-block.block } in
    let now = c.send_out-parcel.ensures.away in
    let held = c.held.ensures in
    let at = c.read-at.result in
    let left = lent_idle a.count c.allocate.new.self.most a.arena.held c.held.result at a.idle.slots (away_by a.owner) c.self.invariant.3 (c.self.invariant.2 ∙ sym e.keeps.plan.most) (held.held ∙ e.held) held.few c.read-at.ensures.slot (away_by c.send_out-parcel.new.self) parcel now in
    let long = c.self.invariant.1 ∙ sym (ap (λ (l : List (Option (Parcel g.row.UNIT))). length l) now ∙ length-set (away_by a.owner) at (Some parcel)) in
    let kept = kept_slots a.count c.allocate.new.self.most c.held.result a.idle.slots (away_by c.send_out-parcel.new.self) left long (c.self.invariant.2 ∙ sym e.keeps.plan.most) (omega (arith, held.few, e.keeps.plan.most, c.self.invariant.2)) in
    record { all = kept.0; idle = omega (arith, kept.1, held.held) }

pub returns-clause-full : goal.returns-clause-full
returns-clause-full g c =
    let a = c.self.inside in
    let was = none_lost _ _ a.count a.idle.slots c.self.view_is c.self.invariant.3 c.self.invariant.1 c.self.invariant.2 c.self.invariant.4 in
    full_is _ _ a.arena c.args.self.now c.args.len (ap (λ (v : RemoteState g.row.UNIT). v.arena) c.self.view_is) was c.in_ok-block.ensures.full (λ yes. cc) (λ yes. cc)

pub returns-in_err-block-clause-full : goal.returns-in_err-block-clause-full
returns-in_err-block-clause-full g c =
    let a = c.self.inside in
    let was = none_lost _ _ a.count a.idle.slots c.self.view_is c.self.invariant.3 c.self.invariant.1 c.self.invariant.2 c.self.invariant.4 in
    let passed = err_from_is_err_and c.from_residual.result c.from_residual.ensures.1 in
    full_err c.from_residual.result _ passed.0 c.in_err-block.field-0.0 a.arena c.args.self.now c.args.len passed.1 passed.2 (ap (λ (v : RemoteState g.row.UNIT). v.arena) c.self.view_is) was c.in_err-block.ensures.full refl

pub returns-in_err-block-clause-idle : goal.returns-in_err-block-clause-idle
returns-in_err-block-clause-idle g c =
    let a = c.self.inside in
    let kept = kept_slots a.count a.arena.most a.arena.held a.idle.slots (away_by a.owner) c.self.invariant.3 c.self.invariant.1 c.self.invariant.2 c.self.invariant.4 in
    let same = c.in_err-block.ensures.err in
    record { all = kept.0 ∙ sym same.plan.most; idle = omega (arith, kept.1, same.held, same.plan.most) }

pub returns-clause-last : goal.returns-clause-last
returns-clause-last g c =
    let a = c.self.inside in
    let e = c.in_ok-block.ensures in
    let held = c.held.ensures in
    let at = c.read-at.result in
    ap (λ (v : RemoteState g.row.UNIT). v.idle) (sym c.self.view_is)
    ∙ lent_last a.count c.allocate.new.self.most a.arena.held c.held.result at a.idle.slots (away_by a.owner) c.self.invariant.3 (c.self.invariant.2 ∙ sym e.keeps.plan.most) (held.held ∙ e.held) held.few c.read-at.ensures.slot
    ∙ ap (λ (j : ℕ). take (a.count - j) a.idle.slots ++ at ∷ []) held.held
    ∙ ap (λ (l : List ℕ). take (a.count - c.allocate.new.self.held) l ++ at ∷ []) (sym c.read-at.ensures.slots)
    ∙ ap (λ (j : ℕ). take (a.count - c.allocate.new.self.held) c.read-at.new.self.slots ++ j ∷ []) (sym c.send_out-parcel.ensures.slot)
