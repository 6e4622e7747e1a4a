use Rattle.tlsf_pool_arena.proofs.Common.{◌-◌, List, Option, None, length, sym, ap, subst, ◌∙◌, arith, AreAway, Parcel, away_by}
use Rattle.tlsf_pool_arena.proofs.Idle.{all_idle, kept_slots}
use Rattle.tlsf_pool_arena.proofs.Lent.{fresh}
use Rattle.tlsf_pool_arena.proofs.remote_arena.RemoteArena.open.Goals as goal
use Rattle.std.proofs.lemmas.List.{length-replicate, take_all}

pub invariant_of-result : goal.invariant_of-result
invariant_of-result g c =
    let arena = c.in_ok-arena.arena in
    let most = c.args.most in (
      subst (λ (away : List (Option (Parcel g.row.UNIT))). AreAway g.row.UNIT arena.region arena.book away) (sym c.requires.fresh) (fresh arena.region arena.book most),
      sym (ap (λ (away : List (Option (Parcel g.row.UNIT))). length away) c.requires.fresh ∙ length-replicate most None),
      sym c.in_ok-arena.ensures.most,
      all_idle most (most - arena.held) c.in-Ok.idle.slots (away_by c.args.owner) c.in-Ok.ensures c.requires.fresh (omega (arith, c.in_ok-arena.ensures.none)),
      omega (arith, c.in_ok-arena.ensures.none),
    )

pub returns-clause-idle : goal.returns-clause-idle
returns-clause-idle g c =
    let arena = c.in_ok-arena.arena in
    let most = c.args.most in
    let none = c.in_ok-arena.ensures.none in
    let idle = all_idle most (most - arena.held) c.in-Ok.idle.slots (away_by c.args.owner) c.in-Ok.ensures c.requires.fresh (omega (arith, none)) in
    let long = sym (ap (λ (away : List (Option (Parcel g.row.UNIT))). length away) c.requires.fresh ∙ length-replicate most None) in
    let kept = kept_slots most arena.most arena.held c.in-Ok.idle.slots (away_by c.args.owner) idle long (sym c.in_ok-arena.ensures.most) (omega (arith, none)) in
    (record { all = kept.0; idle = kept.1 }, take_all (most - arena.held) c.in-Ok.idle.slots (let long = idle.long in omega (arith, long, none)) ∙ c.in-Ok.ensures)
