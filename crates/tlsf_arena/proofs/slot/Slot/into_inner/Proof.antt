-- `into_inner` unwraps the arena. Assumes `Logic`.
use Rattle.tlsf_arena.proofs.Walking.{◌^◌, ◌<◌, List, [], ◌∷◌, ◌++◌, refl, Goes-blank, round, and_tt, proved_at, leaves, Fn, Args, a_number, inst_fn, Val, SProp, ftrue, size, Env, WpFn, ◌⊑◌, fact, tables, ‵, raw, ◌⊛◌, prop, ◌$◌, ◌∵◌, !, qed, by, move, drop, split, regoal, fsplit, fjoin, whole, sub, stop, fld, of_opd, returns, enter, alloc_all, pass_all, free_all, look_at, get, get_in, sets, env, owns, number, layout, layouts, types_at, nothing, alive, Stays, stay_dropped, walk_of, slot_at}
use Rattle.tlsf_arena.specs.contracts.slot.Slot as slot
use Rattle.tlsf_arena.proofs.Cell.{Level, Unit_bytes, Held_arena, contents_out}
use Rattle.tlsf_arena.specs.contracts.slot.Slot.into_inner.{ended, clauses}
use Rattle.tlsf_arena.specs.contracts.slot.Slot.into_inner.Key.{name as #self}
use Rattle.tlsf_arena.proofs.slot.Slot.into_inner.Statement.{statement}
use Rattle.tlsf_arena.proofs.slot.Slot.into_inner.Code as compiled

pub into_inner_spec : {M : Type 1} → statement M
into_inner_spec 𝓤 𝓛 𝓜 𝓡 wired S U fS fU =
    let En₀ = ended (number S) (number U) in
    let c = clauses (number S) (number U) 𝓛 𝓜.mem 𝓡.returns in
    let args : Args = layouts (a_number ∷ a_number ∷ []) (number S, (number U, tt)) in
    let fn : Fn = inst_fn args compiled.function in
    let stays : Stays En₀.signature.params En₀.kept = (stay_dropped (slot_at 0 En₀.signature.params) En₀.kept.0, tt) in
    let 𝓣 = tables 𝓤 𝓛.H 𝓜 𝓡 𝓡.env in
    proved_at 𝓛 En₀ stays c 𝓜 𝓡 (Goes-blank 𝓛 2 (slot_at 0 En₀.signature.params) En₀.kept.0 (λ κs x f. tt), tt) (#self args) fn (compiled.unfolded 𝓤 𝓛.H 𝓜 𝓡 wired (number S, (number U, tt))) (λ z are.
    let Post : Val → SProp 𝓤 = (walk_of 𝓛 En₀ stays c).post z in
    let InS : Type 0 = z.0.0.0 ⊑ (number S).lives in
    let InU : Type 0 = z.0.0.1.0 ⊑ (number U).lives in
    let SlotFits : Type 0 = size (layout (slot.the_row (Level S U) (Unit_bytes S U))) < 2 ^ 63 in
    let ArenaFits : Type 0 = size (layout (Held_arena S U)) < 2 ^ 63 in
    qed 𝓛 ((raw (alive 𝓛 En₀.signature z.0.0 z.0.1) ⊛ ‵ (owns (types_at En₀.signature.params z.0.0) z.0.3 z.0.4)) ∷ (raw (fact 𝓤 InS) ⊛ raw (fact 𝓤 InU) ⊛ raw (fact 𝓤 SlotFits) ⊛ raw (fact 𝓤 ArenaFits) ⊛ ‵ ftrue) ∷ []) ∵ move ! (1 ∷ []) $ drop ! $ split ! $ move ! (1 ∷ []) $
    fsplit ! $ move ! (1 ∷ []) $ drop ! $ fsplit ! $ drop ! $ contents_out S U z.0.3.0 ! z.0.4.0 (λ x v over typed told.
    regoal ! (λ (us : List Val). prop (WpFn 𝓤 𝓛.H 𝓣.C 𝓣.Λ fn us Post)) (λ i. told i ++ []) refl $
    enter ! 𝓣.C 𝓣.Λ fn (round v ∷ []) Post $
    alloc_all ! (λ l. pass_all ! refl ((and_tt _ ((typed).0), ((typed).1, tt)), tt) $ let En : Env 𝓤 𝓛.H = env fn.locals l in
    sets ! (of_opd ! (get_in ! (fld ! refl (stop !)) (sub ! 0 refl (whole !)))) refl typed $
    sets ! (of_opd ! (get ! refl)) refl typed $
    returns ! (look_at ! 0 refl) $ free_all ! refl $
    nothing ! $ nothing ! $ nothing ! $ fjoin ! $ move ! (3 ∷ 0 ∷ 2 ∷ 1 ∷ []) $
    by ! (leaves 𝓛 En₀ stays c z (v) (x) (tt, tt) (tt, tt)))))
