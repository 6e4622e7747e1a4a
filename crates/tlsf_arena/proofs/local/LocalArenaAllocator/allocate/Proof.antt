-- `allocate` hands out the block as room for the type that was asked, and the way back as the token. Assumes `Logic`.
use Rattle.tlsf_arena.proofs.Walking.{◌^◌, ◌<◌, ◌≡◌, true, false, List, [], ◌∷◌, ◌++◌, refl, subst, lit<, w64, Ok, Err, Answer, answer_val, Answer-Ok, Answer-err, after, head, arm_body, fm, proved_at, leaves, Home, whole_token, Ty, Fn, Args, a_number, inst_fn, Val, vint, vptr, SProp, ent, emp, id⊢, froom, size, align, capped, Env, WpFn, fact, fact_i, ◌⊑◌, tables, ‵, raw, ◌⊛◌, some, later, prop, at_ret, ◌$◌, ◌∵◌, !, qed, by, move, drop, use0, use1, use2, split, split3, join, pick, regoal, fjoin, await, whole, sub, agg, vrt, in_variant, stop, fld, lit, of_opd, no_more, and_then, first, switches_on, exec, returns, enter, alloc_all, pass_all, free_all, look_at, get, get_in, get_tag, sets, sets_last, lands_as, env, owns, Ptr, block_ptr, number, param, layout, layouts, types_at, nothing, heard, alive, triple_of, Lasts, lasts, Stays, stay_dropped, walk_of, Goes-dropped, slot_at, then_runs, Region, calls_from}
use Rattle.tlsf_arena.specs.contracts.local.LocalArena.take as callee
use Rattle.tlsf_arena.specs.contracts.local.LocalArena.take.Key as take_key
use Rattle.tlsf_arena.proofs.local.LocalArena.take.Met.{met as takes}
use Rattle.tlsf_arena.specs.contracts.local.LocalArena as local
use Rattle.tlsf_arena.proofs.Taken.{Taken, Told, taken, hands_out}
use Rattle.tlsf_arena.specs.contracts.local.LocalArenaAllocator.allocate.{ended, clauses}
use Rattle.tlsf_arena.specs.contracts.local.LocalArenaAllocator.allocate.Key.{name as #self}
use Rattle.tlsf_arena.proofs.local.LocalArenaAllocator.allocate.Statement.{statement}
use Rattle.tlsf_arena.proofs.local.LocalArenaAllocator.allocate.Code as compiled

pub allocate_spec : {M : Type 1} → statement M
allocate_spec 𝓤 𝓛 𝓜 𝓡 wired S U fS fU =
    let En₀ = ended (number S) (number U) in
    let c = clauses (number S) (number U) 𝓛 𝓜.mem 𝓡.returns in
    let args : Args = layouts (a_number ∷ a_number ∷ []) (number S, (number U, tt)) in
    let fn : Fn = inst_fn args compiled.function in
    let stays : Stays En₀.signature.params En₀.kept = (stay_dropped (slot_at 0 En₀.signature.params) En₀.kept.0, (stay_dropped (slot_at 1 En₀.signature.params) En₀.kept.1.0, (stay_dropped (slot_at 2 En₀.signature.params) En₀.kept.1.1.0, tt))) in
    let 𝓣 = tables 𝓤 𝓛.H 𝓜 𝓡 𝓡.env in
    proved_at 𝓛 En₀ stays c 𝓜 𝓡 (Goes-dropped 𝓛 3 (slot_at 0 En₀.signature.params) En₀.kept.0 (λ κs x f. refl), (Goes-dropped 𝓛 3 (slot_at 1 En₀.signature.params) En₀.kept.1.0 (λ κs x f. refl), (Goes-dropped 𝓛 3 (slot_at 2 En₀.signature.params) En₀.kept.1.1.0 (λ κs x f. refl), tt))) (#self args) fn (compiled.unfolded 𝓤 𝓛.H 𝓜 𝓡 wired (number S, (number U, tt))) (λ z are.
    let Post : Val → SProp 𝓤 = (walk_of 𝓛 En₀ stays c).post z in
    let a = z.0.3 in
    let InS : Type 0 = z.0.0.1.0 ⊑ (number S).lives in
    let InU : Type 0 = z.0.0.1.1.0 ⊑ (number U).lives in
    let Fits : Type 0 = size (layout (local.the_row (param 0 (number S)) (param 1 (number U)))) < 2 ^ 63 in
    let h : Home = a.0.now.slot in
    let r : Region = h.0 in
    let τ : Ty = z.1 in
    let n = a.1.0 in
    let al = a.1.1.0 in
    let k = triple_of 𝓛 (callee.signature (number S) (number U)) (callee.spec (number S) (number U) 𝓛 𝓜.mem 𝓡.returns) in
    let vs : List Val = vptr a.0.ref_ptr.0 a.0.ref_ptr.1 ∷ vint w64 n ∷ vint w64 al ∷ [] in
    let y : k.Ghost = ((z.0.0, z.0.1, z.0.2, a, z.0.4), tt) in
    let told : k.args y ≡ vs = λ i. are.0.0 i ++ (are.1.0.0 i ++ (are.1.1.0.0 i ++ [])) in
    let Asked : Type 0 = (capped (size τ) ≡ n) × (capped (align τ) ≡ al) in
    qed 𝓛 ((raw (alive 𝓛 En₀.signature z.0.0 z.0.1) ⊛ ‵ (owns (types_at En₀.signature.params z.0.0) a z.0.4)) ∷ (raw (fact 𝓤 InS) ⊛ raw (fact 𝓤 InU) ⊛ raw (fact 𝓤 Fits) ⊛ raw (fact 𝓤 Asked)) ∷ []) ∵ move ! (1 ∷ []) $ split3 ! $ heard ! InS (λ inS. heard ! InU (λ inU. split ! $ heard ! Fits (λ small'. heard ! Asked (λ asked.
    nothing ! $ use0 𝓛 (raw (fact 𝓤 Fits)) (fact_i 𝓤 Fits (emp 𝓤) small') $ join ! $ use0 𝓛 (raw (fact 𝓤 InU)) (fact_i 𝓤 InU (emp 𝓤) inU) $ join ! $ use0 𝓛 (raw (fact 𝓤 InS)) (fact_i 𝓤 InS (emp 𝓤) inS) $ join ! $ move ! (1 ∷ 0 ∷ []) $ join ! $ use1 𝓛 (raw (k.pre y)) (id⊢ 𝓤 _) $
    regoal ! (λ (us : List Val). prop (WpFn 𝓤 𝓛.H 𝓣.C 𝓣.Λ fn us Post)) told refl $
    enter ! 𝓣.C 𝓣.Λ fn vs Post $
    alloc_all ! (λ l. pass_all ! refl ((tt, tt), ((tt, record { fits = are.1.0.1 }), ((tt, record { fits = are.1.1.0.1 }), tt))) $ let En : Env 𝓤 𝓛.H = env fn.locals l in
    calls_from ! (fm 𝓛 𝓜 𝓡) (raw (k.pre y)) vs (k.post y) (subst (λ (us : List Val). ent 𝓤 (k.pre y) (𝓣.C (take_key.name args) us (k.post y))) told (takes 𝓤 𝓛 𝓜 𝓡 (compiled.calls-tlsf_arena::local::LocalArena::take 𝓡.env wired) S U fS fU y)) (and_then ! (get ! refl) (and_then ! (get ! refl) (and_then ! (get ! refl) (no_more !)))) (λ v.
    use1 𝓛 (later (some (λ (x : Taken.Denot). (raw (alive 𝓛 En₀.signature z.0.0 z.0.1) ⊛ ‵ (Taken.own_val x (v ∷ []))) ⊛ some (λ (ls : Lasts (callee.ended (number S) (number U)) z.0.0 a). ‵ (lasts (callee.ended (number S) (number U)) z.0.0 a ls) ⊛ raw (fact 𝓤 (Told U h n al x)))))) (id⊢ 𝓤 (k.post y v)) $
    await ! tt $ pick ! (λ x. split ! $ move ! (1 ∷ []) $ pick ! (λ _. split ! $ drop ! $ heard ! (Told U h n al x) (λ said. split ! $ move ! (1 ∷ []) $
    taken ! U h n al x v said
    (λ at t placed lent fits small slim e. let p : Ptr = block_ptr r.block at in
    use2 𝓛 (‵ (froom τ r.block at) ⊛ ‵ (whole_token U h τ p)) (hands_out 𝓛 U a.0.now.unit h τ at n t asked.0 placed lent small) $ lands_as ! (e) refl (tt, (record { fits = lit< tt }, (((tt, (record { fits = fits }, tt)), ((tt, tt), tt)), tt))) $
    first ! $ switches_on ! (get_tag ! (vrt ! refl (fld ! refl (stop !))) (whole !)) $ exec ! 𝓣.C 𝓣.Λ En (arm_body 0 (head (after 1 fn.body))) (then_runs 𝓛 𝓣.C 𝓣.Λ En (after 2 fn.body) (at_ret En Post)) $
    sets ! (of_opd ! (get_in ! (vrt ! refl (fld ! refl (fld ! refl (fld ! refl (stop !))))) (sub ! 0 refl (sub ! 0 refl (in_variant ! 1 0 refl refl (whole !)))))) refl (tt, tt) $
    sets_last ! (agg ! (and_then ! (lit ! tt) (and_then ! (get ! refl) (no_more !)))) refl (tt, (record { fits = lit< tt }, (tt, tt))) $
    exec ! 𝓣.C 𝓣.Λ En (after 2 fn.body) (at_ret En Post) $
    sets ! (of_opd ! (get ! refl)) refl (tt, (record { fits = lit< tt }, (tt, tt))) $
    returns ! (look_at ! 0 refl) $ free_all ! refl $
    use0 𝓛 (‵ (Answer.own_val (Ok p) (answer_val true r.block at ∷ []))) (Answer-Ok 𝓛 r.block at) $ nothing ! $ nothing ! $ fjoin ! $ nothing ! $ fjoin ! $ nothing ! $ fjoin ! $ move ! (3 ∷ 0 ∷ 1 ∷ 2 ∷ []) $
    by ! (leaves 𝓛 En₀ stays c z (answer_val true r.block at) (Ok p) (tt, (tt, (tt, tt))) (tt, (tt, (tt, tt)))))
    (λ e. nothing ! $ lands_as ! (e) refl (tt, (record { fits = lit< tt }, tt)) $
    first ! $ switches_on ! (get_tag ! (vrt ! refl (fld ! refl (stop !))) (whole !)) $ exec ! 𝓣.C 𝓣.Λ En (arm_body 1 (head (after 1 fn.body))) (then_runs 𝓛 𝓣.C 𝓣.Λ En (after 2 fn.body) (at_ret En Post)) $
    sets ! (agg ! (no_more !)) refl (tt, tt) $
    sets_last ! (agg ! (and_then ! (lit ! tt) (and_then ! (get ! refl) (no_more !)))) refl (tt, (record { fits = lit< tt }, (tt, tt))) $
    exec ! 𝓣.C 𝓣.Λ En (after 2 fn.body) (at_ret En Post) $
    sets ! (of_opd ! (get ! refl)) refl (tt, (record { fits = lit< tt }, (tt, tt))) $
    returns ! (look_at ! 0 refl) $ free_all ! refl $
    use0 𝓛 (‵ (Answer.own_val (Err (record {})) (answer_val false 0 0 ∷ []))) (Answer-err 𝓛) $ nothing ! $ nothing ! $ fjoin ! $ nothing ! $ fjoin ! $ nothing ! $ fjoin ! $ move ! (3 ∷ 0 ∷ 1 ∷ 2 ∷ []) $
    by ! (leaves 𝓛 En₀ stays c z (answer_val false 0 0) (Err (record {})) (tt, (tt, (tt, tt))) (tt, (tt, (tt, tt)))))))))))))))
