-- `new` wraps the arena. Assumes `Logic`.
use Rattle.tlsf_arena.proofs.Walking.{◌^◌, ◌<◌, ◌≡◌, List, [], ◌∷◌, ◌++◌, refl, lit<, Some, Goes-blank, one, round, and_tt, proved_at, leaves, Home, Fn, Args, a_number, inst_fn, Val, vcons, vnil, SProp, emp, ftrue, size, Env, WpFn, fact, fact_i, ◌⊑◌, tables, ‵, raw, ◌⊛◌, prop, ◌$◌, ◌∵◌, !, qed, by, move, drop, use0, use1, split, rewrite, regoal, fsplit, fjoin, fpack, agg, live, lit, of_opd, no_more, and_then, returns, enter, alloc_all, pass_all, free_all, look_at, get, sets, env, rest, yes, owns, number, layout, layouts, types_at, nothing, alive, Stays, stay_dropped, walk_of, Some-of, Typed, slot_at}
use Rattle.tlsf_arena.specs.contracts.slot.Slot as slot
use Rattle.tlsf_arena.proofs.Cell.{Level, Unit_bytes, Held_arena, Held, Fields, contents_in}
use Rattle.tlsf_arena.proofs.boxed.BoxedArena.TheLaws as arena_laws
use Rattle.tlsf_arena.specs.contracts.slot.Slot.new.{ended, clauses}
use Rattle.tlsf_arena.specs.contracts.slot.Slot.new.Key.{name as #self}
use Rattle.tlsf_arena.proofs.slot.Slot.new.Statement.{statement}
use Rattle.tlsf_arena.proofs.slot.Slot.new.Code as compiled

pub new_spec : {M : Type 1} → statement M
new_spec 𝓤 𝓛 𝓜 𝓡 wired S U fS fU =
    let En₀ = ended (number S) (number U) in
    let c = clauses (number S) (number U) 𝓛 𝓜.mem 𝓡.returns in
    let args : Args = layouts (a_number ∷ a_number ∷ []) (number S, (number U, tt)) in
    let fn : Fn = inst_fn args compiled.function in
    let stays : Stays En₀.signature.params En₀.kept = (stay_dropped (slot_at 0 En₀.signature.params) En₀.kept.0, tt) in
    let 𝓣 = tables 𝓤 𝓛.H 𝓜 𝓡 𝓡.env in
    proved_at 𝓛 En₀ stays c 𝓜 𝓡 (Goes-blank 𝓛 2 (slot_at 0 En₀.signature.params) En₀.kept.0 (λ κs x f. tt), tt) (#self args) fn (compiled.unfolded 𝓤 𝓛.H 𝓜 𝓡 wired (number S, (number U, tt))) (λ z are.
    let Post : Val → SProp 𝓤 = (walk_of 𝓛 En₀ stays c).post z in
    let vss = z.0.4 in
    let InS : Type 0 = z.0.0.0 ⊑ (number S).lives in
    let InU : Type 0 = z.0.0.1.0 ⊑ (number U).lives in
    let SlotFits : Type 0 = size (layout (slot.the_row (Level S U) (Unit_bytes S U))) < 2 ^ 63 in
    let ArenaFits : Type 0 = size (layout (Held_arena S U)) < 2 ^ 63 in
    let x = z.0.3.0 in
    let h : Home = (x.region, x.book) in
    let got = one (layout (Held_arena S U)) vss.0 (((arena_laws.the_row_laws (Level S U) (Unit_bytes S U) refl refl).lawful 𝓛).typed x vss.0 are.0) in
    let w : Val = got.0 in
    let good = got.2 in
    let v : Val = live 1 (vcons w vnil) in
    qed 𝓛 ((raw (alive 𝓛 En₀.signature z.0.0 z.0.1) ⊛ ‵ (owns (types_at En₀.signature.params z.0.0) z.0.3 vss)) ∷ (raw (fact 𝓤 InS) ⊛ raw (fact 𝓤 InU) ⊛ raw (fact 𝓤 ArenaFits) ⊛ raw (fact 𝓤 SlotFits) ⊛ ‵ ftrue) ∷ []) ∵ move ! (1 ∷ []) $ drop ! $ split ! $ move ! (1 ∷ []) $
    fsplit ! $ move ! (1 ∷ []) $ drop ! $ rewrite ! 0 (λ (us : List Val). ‵ ((Held_arena S U).own_val x us)) got.1 refl $
    regoal ! (λ (us : List Val). prop (WpFn 𝓤 𝓛.H 𝓣.C 𝓣.Λ fn us Post)) (λ i. got.1 i ++ []) refl $
    enter ! 𝓣.C 𝓣.Λ fn (w ∷ []) Post $
    alloc_all ! (λ l. pass_all ! refl (good, tt) $ let En : Env 𝓤 𝓛.H = env fn.locals l in
    sets ! (of_opd ! (get ! refl)) refl good $
    sets ! (agg ! (and_then ! (lit ! tt) (and_then ! (get ! refl) (no_more !)))) refl (and_tt _ ((good).0), (record { fits = lit< tt }, ((good).1, tt))) $
    sets ! (agg ! (and_then ! (get ! refl) (no_more !))) refl (and_tt _ (and_tt _ ((good).0)), ((record { fits = lit< tt }, ((good).1, tt)), tt)) $
    returns ! (look_at ! 0 refl) $ free_all ! refl $
    use1 𝓛 (‵ ((Held S U).own_val (Some x) (v ∷ []))) (Some-of 𝓛 (Held_arena S U) x w) $ contents_in S U h ! (Some x) v (refl, refl) $ nothing ! $ fpack ! (Typed (Fields S U).mir (round v ∷ [])) (λ _. ftrue) ((and_tt _ (and_tt _ ((good).0)), ((record { fits = lit< tt }, ((good).1, tt)), tt)), tt) $ fjoin ! $ use0 𝓛 (raw (fact 𝓤 (h ≡ h))) (fact_i 𝓤 (h ≡ h) (emp 𝓤) (refl)) $ nothing ! $ nothing ! $ fjoin ! $ move ! (3 ∷ 0 ∷ 2 ∷ 1 ∷ []) $
    by ! (leaves 𝓛 En₀ stays c z (round v) h (rest ((Held_arena S U).exit yes) x, tt) (tt, tt))))
