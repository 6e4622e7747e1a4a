-- `grow` hands the block to `moved` as a value, and takes apart what comes back. Assumes `Logic`.
use Rattle.tlsf_arena.proofs.Walking.{◌≡◌, ◌*◌, ◌^◌, ◌<◌, ◌≤◌, true, false, List, [], ◌∷◌, ◌++◌, refl, sym, ap, ◌∙◌, arith, lit<, w64, Ok, Err, Answer, answer_val, Answer-Ok, Answer-err, after, head, arm_body, fm, times_below, proved_at, leaves, array_of, block_with_items, FitsBlock, Home, whole_token, Fn, Args, a_type, a_number, Val, vint, vptr, inst_fn, SProp, emp, id⊢, never, fst∗, ffalse, fsep, size, Env, WpFn, ◌⊑◌, fact, fact_i, tables, sem, ‵, raw, ◌⊛◌, some, later, prop, at_ret, ◌$◌, ◌∵◌, !, qed, by, move, keep, drop, use0, use1, split, split3, join, pick, rewrite, regoal, fsplit, fjoin, feq_i, flt_i, await, whole, sub, agg, vrt, in_variant, stop, fld, lit, of_opd, no_more, and_then, first, switches_on, exec, returns, enter, alloc_all, pass_all, free_all, look_at, get, get_in, get_tag, sets, sets_last, lands_as, env, RattleType, owns, Ptr, block_ptr, null_ptr, ptr_val, in_a_block, number, param, layout, layouts, types_at, nothing, heard, alive, triple_of, calls_at, Lasts, lasts, Stays, stay_dropped, walk_of, Goes-dropped, slot_at, then_runs}
use Rattle.tlsf_arena.specs.contracts.local.LocalArena as local
use Rattle.tlsf_arena.specs.contracts.local.LocalArena.moved as callee
use Rattle.tlsf_arena.proofs.local.LocalArena.moved.Met.{met as moves}
use Rattle.tlsf_arena.specs.contracts.buffer_grant.BufferGrant as grant
use Rattle.tlsf_arena.proofs.Buffers.{buffer_val, buffer_own, buffer_made, Moved, MovedTold, moved}
use Rattle.tlsf_arena.specs.contracts.local.LocalArenaAllocator.grow.{ended, clauses}
use Rattle.tlsf_arena.specs.contracts.local.LocalArenaAllocator.grow.Key.{name as #self}
use Rattle.tlsf_arena.proofs.local.LocalArenaAllocator.grow.Statement.{statement}
use Rattle.tlsf_arena.proofs.local.LocalArenaAllocator.grow.Code as compiled

pub grow_spec : {M : Type 1} → statement M
grow_spec 𝓤 𝓛 𝓜 𝓡 wired S U T fS fU LT =
    let En₀ = ended (number S) (number U) T in
    let c = clauses (number S) (number U) T 𝓛 𝓜.mem 𝓡.returns in
    let args : Args = layouts (a_number ∷ a_number ∷ a_type ∷ []) (number S, (number U, (T, tt))) in
    let fn : Fn = inst_fn args compiled.function in
    let stays : Stays En₀.signature.params En₀.kept = (stay_dropped (slot_at 0 En₀.signature.params) En₀.kept.0, (stay_dropped (slot_at 1 En₀.signature.params) En₀.kept.1.0, (stay_dropped (slot_at 2 En₀.signature.params) En₀.kept.1.1.0, (stay_dropped (slot_at 3 En₀.signature.params) En₀.kept.1.1.1.0, (stay_dropped (slot_at 4 En₀.signature.params) En₀.kept.1.1.1.1.0, tt))))) in
    let 𝓣 = tables 𝓤 𝓛.H 𝓜 𝓡 𝓡.env in
    proved_at 𝓛 En₀ stays c 𝓜 𝓡 (Goes-dropped 𝓛 4 (slot_at 0 En₀.signature.params) En₀.kept.0 (λ κs x f. refl), (Goes-dropped 𝓛 4 (slot_at 1 En₀.signature.params) En₀.kept.1.0 (λ κs x f. refl), (Goes-dropped 𝓛 4 (slot_at 2 En₀.signature.params) En₀.kept.1.1.0 (λ κs x f. refl), (Goes-dropped 𝓛 4 (slot_at 3 En₀.signature.params) En₀.kept.1.1.1.0 (λ κs x f. refl), (Goes-dropped 𝓛 4 (slot_at 4 En₀.signature.params) En₀.kept.1.1.1.1.0 (λ κs x f. refl), tt))))) (#self args) fn (compiled.unfolded 𝓤 𝓛.H 𝓜 𝓡 wired (number S, (number U, (T, tt)))) (λ z are.
    let Post : Val → SProp 𝓤 = (walk_of 𝓛 En₀ stays c).post z in
    let a = z.0.3 in
    let R : RattleType = param 2 T in
    let s = size (layout T) in
    let h : Home = a.0.now.slot in
    let from = a.1.0 in
    let len = a.1.1.0 in
    let old = a.1.1.1.0 in
    let new = a.1.1.1.1.0 in
    let xs = z.1 in
    let me : Val = vptr a.0.ref_ptr.0 a.0.ref_ptr.1 in
    let InS : Type 0 = z.0.0.1.0 ⊑ (number S).lives in
    let InU : Type 0 = z.0.0.1.1.0 ⊑ (number U).lives in
    let InT : Type 0 = z.0.0.1.1.1.0 ⊑ T.lives in
    let Fits : Type 0 = size (layout (local.the_row (param 0 (number S)) (param 1 (number U)))) < 2 ^ 63 in
    let k = triple_of 𝓛 (callee.signature (number S) (number U) T) (callee.spec (number S) (number U) T 𝓛 𝓜.mem 𝓡.returns) in
    let Asked : Type 0 = (len ≤ old) × (old ≤ new) × FitsBlock R new in
    qed 𝓛 ((raw (alive 𝓛 En₀.signature z.0.0 z.0.1) ⊛ ‵ (owns (types_at En₀.signature.params z.0.0) a z.0.4)) ∷ (raw (fact 𝓤 InS) ⊛ raw (fact 𝓤 InU) ⊛ raw (fact 𝓤 InT) ⊛ raw (fact 𝓤 Fits) ⊛ raw (fact 𝓤 Asked) ⊛ ‵ (block_with_items (whole_token U h) R from len old xs)) ∷ []) ∵
    move ! (1 ∷ []) $ split3 ! $ heard ! InS (λ inS. heard ! InU (λ inU. split3 ! $ heard ! InT (λ inT. heard ! Fits (λ small. split ! $ heard ! Asked (λ asked.
    in_a_block ! from (λ p. block_with_items (whole_token U h) R p len old xs) (fst∗ 𝓤 (never 𝓤) (sem 𝓛 (fsep ffalse (whole_token U h (array_of R old) null_ptr)))) (λ b o lies.
    let p : Ptr = block_ptr b o in
    let x : (grant.the_row R).Denot = record { ptr = p; marker = record {}; unit = U; home = h; len = len; cap = old; items = xs } in
    let y : k.Ghost = ((z.0.0, z.0.1, z.0.2, (a.0, (x, (len, (old, (new, tt))))), (me ∷ [], (buffer_val p ∷ [], (vint w64 len ∷ [], (vint w64 old ∷ [], (vint w64 new ∷ [], tt)))))), tt) in
    let First : Type 0 = (U ≡ U) × (h ≡ h) × (len ≡ len) × (old ≡ old) in let Second : Type 0 = (len ≤ old) × (len ≤ new) × (old * s < 2 ^ 63) × (new * s < 2 ^ 63) in
    use0 𝓛 (‵ (buffer_own p (buffer_val p ∷ []))) (buffer_made 𝓛 p tt) $ fjoin ! $
    nothing ! $ flt_i ! new (2 ^ 64) are.1.1.1.1.0.1 $ feq_i ! (List Val) (vint w64 new ∷ []) (vint w64 new ∷ []) refl $ fjoin ! $ fjoin ! $ flt_i ! old (2 ^ 64) are.1.1.1.0.1 $ feq_i ! (List Val) (vint w64 old ∷ []) (vint w64 old ∷ []) refl $ fjoin ! $ fjoin ! $ flt_i ! len (2 ^ 64) are.1.1.0.1 $ feq_i ! (List Val) (vint w64 len ∷ []) (vint w64 len ∷ []) refl $ fjoin ! $ fjoin ! $ move ! (1 ∷ 0 ∷ []) $ fjoin ! $
    move ! (1 ∷ []) $ split ! $ move ! (1 ∷ []) $ fsplit ! $ fsplit ! $ keep ! (1 ∷ 4 ∷ 3 ∷ []) $ feq_i ! (List Val) (me ∷ []) (me ∷ []) refl $ fjoin ! $ fjoin ! $ move ! (1 ∷ 0 ∷ []) $ join ! $
    use0 𝓛 (raw (fact 𝓤 Second)) (fact_i 𝓤 Second (emp 𝓤) (asked.0, omega (arith, asked.0, asked.1), times_below old new s (2 ^ 63) asked.1 asked.2, asked.2)) $ use0 𝓛 (raw (fact 𝓤 First)) (fact_i 𝓤 First (emp 𝓤) (refl, refl, refl, refl)) $ join ! $
    use0 𝓛 (raw (fact 𝓤 Fits)) (fact_i 𝓤 Fits (emp 𝓤) small) $ join ! $ use0 𝓛 (raw (fact 𝓤 InT)) (fact_i 𝓤 InT (emp 𝓤) inT) $ join ! $ use0 𝓛 (raw (fact 𝓤 InU)) (fact_i 𝓤 InU (emp 𝓤) inU) $ join ! $ use0 𝓛 (raw (fact 𝓤 InS)) (fact_i 𝓤 InS (emp 𝓤) inS) $ join ! $
    move ! (1 ∷ 0 ∷ []) $ join ! $ use1 𝓛 (raw (k.pre y)) (id⊢ 𝓤 _) $
    regoal ! (λ (us : List Val). prop (WpFn 𝓤 𝓛.H 𝓣.C 𝓣.Λ fn us Post)) (λ i. are.0.0 i ++ ((are.1.0 ∙ ap (λ (g : Ptr). ptr_val g ∷ []) lies) i ++ (are.1.1.0.0 i ++ (are.1.1.1.0.0 i ++ (are.1.1.1.1.0.0 i ++ []))))) refl $
    enter ! 𝓣.C 𝓣.Λ fn (me ∷ vptr b o ∷ vint w64 len ∷ vint w64 old ∷ vint w64 new ∷ []) Post $
    alloc_all ! (λ l. pass_all ! refl ((tt, tt), ((tt, tt), ((tt, record { fits = are.1.1.0.1 }), ((tt, record { fits = are.1.1.1.0.1 }), ((tt, record { fits = are.1.1.1.1.0.1 }), tt))))) $ let En : Env 𝓤 𝓛.H = env fn.locals l in
    sets ! (agg ! (no_more !)) refl (tt, tt) $
    sets ! (agg ! (and_then ! (get ! refl) (and_then ! (get ! refl) (no_more !)))) refl (tt, (tt, (tt, tt))) $
    calls_at ! (fm 𝓛 𝓜 𝓡) k (moves 𝓤 𝓛 𝓜 𝓡 (compiled.calls-tlsf_arena::local::LocalArena::moved 𝓡.env wired) S U T fS fU LT) y (and_then ! (get ! refl) (and_then ! (get ! refl) (and_then ! (get ! refl) (and_then ! (get ! refl) (and_then ! (get ! refl) (no_more !)))))) (λ v.
    use1 𝓛 (later (some (λ (g : (Moved R).Denot). (raw (alive 𝓛 En₀.signature z.0.0 z.0.1) ⊛ ‵ ((Moved R).own_val g (v ∷ []))) ⊛ some (λ (ls : Lasts (callee.ended (number S) (number U) T) z.0.0 y.0.3). ‵ (lasts (callee.ended (number S) (number U) T) z.0.0 y.0.3 ls) ⊛ raw (fact 𝓤 (MovedTold R x len new g)))))) (id⊢ 𝓤 (k.post y v)) $
    await ! tt $ pick ! (λ g. split ! $ move ! (1 ∷ []) $ pick ! (λ _. split ! $ drop ! $ heard ! (MovedTold R x len new g) (λ said. split ! $ move ! (1 ∷ []) $
    moved R ! x len new g v said
    (λ b' o' is'. let p' : Ptr = block_ptr b' o' in lands_as ! (is') refl (tt, (record { fits = lit< tt }, ((tt, (tt, tt)), tt))) $
    first ! $ switches_on ! (get_tag ! (vrt ! refl (fld ! refl (stop !))) (whole !)) $ exec ! 𝓣.C 𝓣.Λ En (arm_body 0 (head (after 3 fn.body))) (then_runs 𝓛 𝓣.C 𝓣.Λ En (after 4 fn.body) (at_ret En Post)) $
    sets ! (of_opd ! (get_in ! (vrt ! refl (fld ! refl (fld ! refl (stop !)))) (sub ! 0 refl (in_variant ! 0 0 refl refl (whole !))))) refl (tt, tt) $
    sets_last ! (agg ! (and_then ! (lit ! tt) (and_then ! (get ! refl) (no_more !)))) refl (tt, (record { fits = lit< tt }, (tt, tt))) $
    exec ! 𝓣.C 𝓣.Λ En (after 4 fn.body) (at_ret En Post) $
    sets ! (of_opd ! (get ! refl)) refl (tt, (record { fits = lit< tt }, (tt, tt))) $
    returns ! (look_at ! 0 refl) $ free_all ! refl $
    use0 𝓛 (‵ (Answer.own_val (Ok p') (answer_val true b' o' ∷ []))) (Answer-Ok 𝓛 b' o') $ nothing ! $ nothing ! $ fjoin ! $ nothing ! $ fjoin ! $ nothing ! $ fjoin ! $ nothing ! $ fjoin ! $ nothing ! $ fjoin ! $ move ! (3 ∷ 0 ∷ 1 ∷ 2 ∷ []) $
    by ! (leaves 𝓛 En₀ stays c z (answer_val true b' o') (Ok p') (tt, (tt, (tt, (tt, (tt, tt))))) (tt, (tt, (tt, (tt, (tt, tt)))))))
    (λ is'. rewrite ! 0 (λ (u : Ptr). ‵ (block_with_items (whole_token U h) R u len old xs)) (sym lies) refl $ lands_as ! (is') refl (tt, (record { fits = lit< tt }, ((tt, (tt, tt)), tt))) $
    first ! $ switches_on ! (get_tag ! (vrt ! refl (fld ! refl (stop !))) (whole !)) $ exec ! 𝓣.C 𝓣.Λ En (arm_body 1 (head (after 3 fn.body))) (then_runs 𝓛 𝓣.C 𝓣.Λ En (after 4 fn.body) (at_ret En Post)) $
    sets ! (agg ! (no_more !)) refl (tt, tt) $
    sets_last ! (agg ! (and_then ! (lit ! tt) (and_then ! (get ! refl) (no_more !)))) refl (tt, (record { fits = lit< tt }, (tt, tt))) $
    exec ! 𝓣.C 𝓣.Λ En (after 4 fn.body) (at_ret En Post) $
    sets ! (of_opd ! (get ! refl)) refl (tt, (record { fits = lit< tt }, (tt, tt))) $
    returns ! (look_at ! 0 refl) $ free_all ! refl $
    use0 𝓛 (‵ (Answer.own_val (Err (record {})) (answer_val false 0 0 ∷ []))) (Answer-err 𝓛) $ nothing ! $ nothing ! $ fjoin ! $ nothing ! $ fjoin ! $ nothing ! $ fjoin ! $ nothing ! $ fjoin ! $ nothing ! $ fjoin ! $ move ! (3 ∷ 0 ∷ 1 ∷ 2 ∷ []) $
    by ! (leaves 𝓛 En₀ stays c z (answer_val false 0 0) (Err (record {})) (tt, (tt, (tt, (tt, (tt, tt))))) (tt, (tt, (tt, (tt, (tt, tt)))))))))))))))))))
