-- Assumes `Logic`.
use Rattle.tlsf_arena.proofs.Walking.{◌≡◌, ℕ, ◌+◌, ◌*◌, ◌^◌, ◌<◌, List, [], ◌∷◌, ◌++◌, refl, ap, ◌∙◌, arith, ltb, w64, Decides, Decides-ltb, after, proved_at, leaves, Fn, Val, vbool, vint, vptr, SProp, emp, Env, WpFn, fact, fact_i, tables, ‵, raw, ◌⊛◌, prop, at_ret, ◌$◌, ◌∵◌, !, qed, by, move, drop, use0, split, regoal, fjoin, feq_i, lit, bin, of_opd, first, blocks, exec, returns, enter, alloc_all, pass_all, free_all, look_at, get, sets, sets_last, is, env, owns, Ptr, block_ptr, ptr_val, count_of, block_of, InBlock, at_block, tests_order, types_at, nothing, heard, alive, Stays, stay_dropped, walk_of, Goes-dropped, slot_at}
use Rattle.tlsf_arena.specs.contracts.space.precedes_grain.{ended as En₀, clauses}
use Rattle.tlsf_arena.specs.contracts.space.precedes_grain.Key.{name as #self}
use Rattle.tlsf_arena.proofs.space.precedes_grain.Statement.{statement}
use Rattle.tlsf_arena.proofs.space.precedes_grain.Code as compiled

pub precedes_grain_spec : {M : Type 1} → statement M
precedes_grain_spec 𝓤 𝓛 𝓜 𝓡 wired =
    let c = clauses 𝓛 𝓜.mem 𝓡.returns in
    let fn : Fn = compiled.function in
    let stays : Stays En₀.signature.params En₀.kept = (stay_dropped (slot_at 0 En₀.signature.params) En₀.kept.0, (stay_dropped (slot_at 1 En₀.signature.params) En₀.kept.1.0, (stay_dropped (slot_at 2 En₀.signature.params) En₀.kept.1.1.0, tt))) in
    let 𝓣 = tables 𝓤 𝓛.H 𝓜 𝓡 𝓡.env in
    proved_at 𝓛 En₀ stays c 𝓜 𝓡 (Goes-dropped 𝓛 0 (slot_at 0 En₀.signature.params) En₀.kept.0 (λ κs x f. refl), (Goes-dropped 𝓛 0 (slot_at 1 En₀.signature.params) En₀.kept.1.0 (λ κs x f. refl), (Goes-dropped 𝓛 0 (slot_at 2 En₀.signature.params) En₀.kept.1.1.0 (λ κs x f. refl), tt))) #self fn (compiled.unfolded 𝓤 𝓛.H 𝓜 𝓡 wired) (λ z are.
    let Post : Val → SProp 𝓤 = (walk_of 𝓛 En₀ stays c).post z in
    let a = z.0.3 in
    let p = a.0 in
    let q = a.1.0 in
    let k = a.1.1.0 in
    let Asked : Type 0 = InBlock q × InBlock p × (block_of p ≡ block_of q) × (count_of q + 16 * k < 2 ^ 63) × (count_of p < 2 ^ 63) in
    qed 𝓛 ((raw (alive 𝓛 En₀.signature z.0.0 z.0.1) ⊛ ‵ (owns (types_at En₀.signature.params z.0.0) a z.0.4)) ∷ raw (fact 𝓤 Asked) ∷ []) ∵ move ! (1 ∷ []) $ heard ! Asked (λ asked. split ! $ move ! (1 ∷ []) $ drop ! $
    let b = block_of q in let o = count_of p in let u = count_of q + 16 * k in
    let here : p ≡ block_ptr b o = at_block p asked.1 ∙ ap (λ (j : ℕ). block_ptr j o) asked.2 in
    let base : q ≡ block_ptr b (count_of q) = at_block q asked.0 in
    let short : k * 16 < 2 ^ 64 = omega (arith, asked.3) in
    regoal ! (λ (us : List Val). prop (WpFn 𝓤 𝓛.H 𝓣.C 𝓣.Λ fn us Post)) (λ i. (are.0 ∙ ap (λ (w : Ptr). ptr_val w ∷ []) here) i ++ ((are.1.0 ∙ ap (λ (w : Ptr). ptr_val w ∷ []) base) i ++ (are.1.1.0.0 i ++ []))) refl $
    enter ! 𝓣.C 𝓣.Λ fn (vptr b o ∷ vptr b (count_of q) ∷ vint w64 k ∷ []) Post $
    alloc_all ! (λ l. pass_all ! refl ((tt, tt), ((tt, tt), ((tt, record { fits = are.1.1.0.1 }), tt))) $ let En : Env 𝓤 𝓛.H = env fn.locals l in
    first ! $ blocks ! $
    sets ! (bin ! (get ! refl) (lit ! tt) (record { fits = short })) refl (tt, record { fits = short }) $
    sets_last ! (is ! (bin ! (get ! refl) (get ! refl) tt) (ap (vptr b) (let e : k * 16 + count_of q ≡ u = omega arith in e))) refl (tt, tt) $
    exec ! 𝓣.C 𝓣.Λ En (after 1 fn.body) (at_ret En Post) $
    sets ! (of_opd ! (get ! refl)) refl (tt, tt) $
    sets ! (bin ! (get ! refl) (get ! refl) (tests_order b o u asked.4 asked.3)) refl (tt, tt) $
    returns ! (look_at ! 0 refl) $ free_all ! refl $
    use0 𝓛 (raw (fact 𝓤 (Decides (ltb o u) (o < u)))) (fact_i 𝓤 (Decides (ltb o u) (o < u)) (emp 𝓤) (Decides-ltb o u)) $
    feq_i ! (List Val) (vbool (ltb o u) ∷ []) (vbool (ltb o u) ∷ []) refl $ nothing ! $ nothing ! $ fjoin ! $ nothing ! $ fjoin ! $ nothing ! $ fjoin ! $ move ! (3 ∷ 0 ∷ 1 ∷ 2 ∷ []) $
    by ! (leaves 𝓛 En₀ stays c z (vbool (ltb o u)) (ltb o u) (tt, (tt, (tt, tt))) (tt, (tt, (tt, tt)))))))
