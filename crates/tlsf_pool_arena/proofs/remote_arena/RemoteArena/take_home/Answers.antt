use Rattle.tlsf_pool_arena.proofs.Common.{◌≡◌, ◌+◌, ◌-◌, ℕ, List, [], ◌∷◌, ◌++◌, take, Option, Some, None, Err, ap, length, length-set, set, slice_get, subst, sym, ◌∙◌, arith, released, Block, away_by, RemoteState, idle_slots, Parcel}
use Rattle.tlsf_pool_arena.proofs.Idle.{as_many, home_idle, home_last, kept_slots, none_lost}
use Rattle.tlsf_arena.proofs.Worn.{worn_is_last}
use Rattle.tlsf_pool_arena.proofs.Lent.{home}
use Rattle.tlsf_pool_arena.proofs.remote_arena.RemoteArena.take_home.Goals as goal

pub returns-clause-home : goal.returns-clause-home
returns-clause-home g c =
    let a = c.self.inside in
    let b = c.in-Some.parcel in
    let some = c.in-Some.ensures.some in
    let e = c.in-Ok.ensures in
    let held = c.held.ensures in
    let mine = as_many a.count (a.count - a.arena.held) (a.count - c.held.result) a.idle.slots (away_by a.owner) (ap (λ (j : ℕ). a.count - j) (sym held.held)) c.self.invariant.3 in
    let last = ap (λ (l : List ℕ). take (a.count - c.release.new.self.held) l) c.write.ensures.slots
    ∙ home_last a.count a.arena.most c.held.result c.release.new.self.held c.args.at a.idle.slots (away_by a.owner) mine c.self.invariant.2 (e.held ∙ sym held.held) held.few
    ∙ ap (λ (j : ℕ). take (a.count - j) a.idle.slots ++ c.args.at ∷ []) held.held in
    let heap = c.in-Ok.ensures.releases.heap ∙ ap (λ (x : Block g.row.UNIT). (released c.self.inside.arena.heap x.name).heap) c.into_block.ensures in
    let all = subst (λ (v : RemoteState g.row.UNIT). (slice_get v.away c.args.at ≡ Some (Some b)) × (away_by c.take.new.self ≡ set v.away c.args.at None)
    × (c.release.new.self.heap ≡ (released v.arena.heap b.block.name).heap) × (c.release.new.self.held + 1 ≡ v.arena.held) × (take (a.count - c.release.new.self.held) c.write.new.self.slots ≡ v.idle ++ c.args.at ∷ [])) c.self.view_is (some.0, some.1, heap, e.held, last) in
    λ yes. (b, all.0, all.1, all.2, all.3, all.4)

pub unreachable-requires : goal.unreachable-requires
unreachable-requires g c =
    let e = c.in-Err.ensures in
    c.if-tick.false (c.tick.ensures.tick ∙ worn_is_last c.self.inside.arena.heap c.into_block.result.name (sym e.releases.answer_is ∙ ap Err e.releases.worn))

pub invariant_of-self-in-Ok : goal.invariant_of-self-in-Ok
invariant_of-self-in-Ok g c =
    let a = c.self.inside in
    let e = c.in-Ok.ensures in
    let away = away_by a.owner in
    let now = away_by c.take.new.self in
    let some = c.in-Some.ensures.some in
    let held = c.held.ensures in (
      home a.arena.region c.release.new.self.region a.arena.book c.release.new.self.book away now c.args.at c.self.invariant.0 e.keeps.plan.region e.keeps.plan.book some.1,
      c.self.invariant.1 ∙ sym (ap (λ (l : List (Option (Parcel g.row.UNIT))). length l) some.1 ∙ length-set away c.args.at None),
      c.self.invariant.2 ∙ sym e.keeps.plan.most,
      home_idle a.count a.arena.most c.held.result c.release.new.self.held c.args.at a.idle.slots c.write.new.self.slots away now c.in-Some.parcel
          (as_many a.count (a.count - a.arena.held) (a.count - c.held.result) a.idle.slots away (ap (λ (j : ℕ). a.count - j) (sym held.held)) c.self.invariant.3) c.self.invariant.2 (e.held ∙ sym held.held) held.few some.0 c.write.ensures.slots some.1,
      omega (arith, e.held, c.self.invariant.4),
    )

pub returns-then-tick-clause-idle : goal.returns-then-tick-clause-idle
returns-then-tick-clause-idle g c =
    let a = c.self.inside in
    none_lost _ _ a.count a.idle.slots c.self.view_is c.self.invariant.3 c.self.invariant.1 c.self.invariant.2 c.self.invariant.4

pub returns-in_default-clause-idle : goal.returns-in_default-clause-idle
returns-in_default-clause-idle g c =
    let a = c.self.inside in
    let kept = kept_slots a.count a.arena.most a.arena.held a.idle.slots (away_by a.owner) c.self.invariant.3 c.self.invariant.1 c.self.invariant.2 c.self.invariant.4 in
    let same = subst (λ (away : List (Option (Parcel g.row.UNIT))). (length away ≡ a.arena.most) × (idle_slots away + a.arena.held ≡ a.arena.most)) (sym c.in_default.ensures.none) kept in
    record { all = same.0; idle = same.1 }

pub returns-clause-idle : goal.returns-clause-idle
returns-clause-idle g c =
    let a = c.self.inside in
    let e = c.in-Ok.ensures in
    let away = away_by a.owner in
    let now = away_by c.take.new.self in
    let some = c.in-Some.ensures.some in
    let held = c.held.ensures in
    let left = home_idle a.count a.arena.most c.held.result c.release.new.self.held c.args.at a.idle.slots c.write.new.self.slots away now c.in-Some.parcel
    (as_many a.count (a.count - a.arena.held) (a.count - c.held.result) a.idle.slots away (ap (λ (j : ℕ). a.count - j) (sym held.held)) c.self.invariant.3) c.self.invariant.2 (e.held ∙ sym held.held) held.few some.0 c.write.ensures.slots some.1 in
    let long = c.self.invariant.1 ∙ sym (ap (λ (l : List (Option (Parcel g.row.UNIT))). length l) some.1 ∙ length-set away c.args.at None) in
    let kept = kept_slots a.count c.release.new.self.most c.release.new.self.held c.write.new.self.slots now left long (c.self.invariant.2 ∙ sym e.keeps.plan.most) (omega (arith, e.held, c.self.invariant.4)) in
    record { all = kept.0; idle = kept.1 }
