-- `deallocate` turns the room into the piece again, takes the right out of the token, and gives both to the arena. Assumes `Logic`.
use Rattle.tlsf_arena.proofs.Walking.{◌≡◌, ℕ, ◌+◌, ◌*◌, ◌^◌, ◌<◌, List, [], ◌∷◌, ◌++◌, refl, sym, ap, ◌∙◌, arith, w64, fm, proved_at, leaves, IsUnit, piece_size, name_of, Home, whole_token, Ty, Fn, Args, a_number, inst_fn, Val, vint, vptr, vunit, SProp, emp, id⊢, ftrue, size, align, capped, capped_is, Env, WpFn, fact, fact_i, ◌⊑◌, tables, ‵, raw, ◌⊛◌, some, later, prop, ◌$◌, ◌∵◌, !, qed, by, move, keep, drop, use0, use1, use2, split, split3, join, pick, rewrite, regoal, fsplit, fjoin, fpick, feq_l, feq_i, flt_i, await, agg, unit_lit, num_lit, of_opd, no_more, and_then, returns, enter, alloc_all, pass_all, free_all, look_at, get, sets, lands_as, env, owns, usize, unit, Ptr, block_ptr, count_of, ptr_val, room_for, number, param, layout, layouts, types_at, nothing, only, heard, alive, triple_of, calls_at, Lasts, lasts, Stays, stay_dropped, walk_of, Goes-dropped, sized_val, sized_own, sized_made, lease_val, lease_own, lease_made, Region, bytes_at, slot_at}
use Rattle.tlsf_arena.specs.Loans.{units_of as units_in}
use Rattle.tlsf_arena.proofs.Taken.{takes_in}
use Rattle.tlsf_arena.proofs.UnitCases.{piece_holds}
use Rattle.tlsf_arena.specs.contracts.local.LocalArena as local
use Rattle.tlsf_arena.specs.contracts.local.piece_bytes as sizer
use Rattle.tlsf_arena.proofs.local.piece_bytes.Met.{met as aligns}
use Rattle.tlsf_arena.specs.contracts.local.LocalArena.give as callee
use Rattle.tlsf_arena.proofs.local.LocalArena.give.Met.{met as gives}
use Rattle.tlsf_arena.specs.contracts.piece.Piece as block
use Rattle.tlsf_arena.specs.contracts.right.Right as lent
use Rattle.tlsf_arena.specs.contracts.local.LocalArenaAllocator.deallocate.{ended, clauses}
use Rattle.tlsf_arena.specs.contracts.local.LocalArenaAllocator.deallocate.Key.{name as #self}
use Rattle.tlsf_arena.proofs.local.LocalArenaAllocator.deallocate.Statement.{statement}
use Rattle.tlsf_arena.proofs.local.LocalArenaAllocator.deallocate.Code as compiled

pub deallocate_spec : {M : Type 1} → statement M
deallocate_spec 𝓤 𝓛 𝓜 𝓡 wired S U fS fU =
    let En₀ = ended (number S) (number U) in
    let c = clauses (number S) (number U) 𝓛 𝓜.mem 𝓡.returns in
    let args : Args = layouts (a_number ∷ a_number ∷ []) (number S, (number U, tt)) in
    let fn : Fn = inst_fn args compiled.function in
    let stays : Stays En₀.signature.params En₀.kept = (stay_dropped (slot_at 0 En₀.signature.params) En₀.kept.0, (stay_dropped (slot_at 1 En₀.signature.params) En₀.kept.1.0, (stay_dropped (slot_at 2 En₀.signature.params) En₀.kept.1.1.0, (stay_dropped (slot_at 3 En₀.signature.params) En₀.kept.1.1.1.0, tt)))) in
    let 𝓣 = tables 𝓤 𝓛.H 𝓜 𝓡 𝓡.env in
    proved_at 𝓛 En₀ stays c 𝓜 𝓡 (Goes-dropped 𝓛 3 (slot_at 0 En₀.signature.params) En₀.kept.0 (λ κs x f. refl), (Goes-dropped 𝓛 3 (slot_at 1 En₀.signature.params) En₀.kept.1.0 (λ κs x f. refl), (Goes-dropped 𝓛 3 (slot_at 2 En₀.signature.params) En₀.kept.1.1.0 (λ κs x f. refl), (Goes-dropped 𝓛 3 (slot_at 3 En₀.signature.params) En₀.kept.1.1.1.0 (λ κs x f. refl), tt)))) (#self args) fn (compiled.unfolded 𝓤 𝓛.H 𝓜 𝓡 wired (number S, (number U, tt))) (λ z are.
    let Post : Val → SProp 𝓤 = (walk_of 𝓛 En₀ stays c).post z in
    let a = z.0.3 in
    let InS : Type 0 = z.0.0.1.0 ⊑ (number S).lives in
    let InU : Type 0 = z.0.0.1.1.0 ⊑ (number U).lives in
    let Fits : Type 0 = size (layout (local.the_row (param 0 (number S)) (param 1 (number U)))) < 2 ^ 63 in
    let h : Home = a.0.now.slot in
    let r : Region = h.0 in
    let τ : Ty = z.1 in
    let from = a.1.0 in
    let n = a.1.1.0 in
    let al = a.1.1.1.0 in
    let m = piece_size U (size τ) in
    let served : IsUnit U = a.0.now.unit in
    let me : Val = vptr a.0.ref_ptr.0 a.0.ref_ptr.1 in
    let k₀ = triple_of 𝓛 sizer.signature (sizer.spec 𝓛 𝓜.mem 𝓡.returns) in
    let y₀ : k₀.Ghost = ((tt, tt, tt, (n, (U, tt)), (vint w64 n ∷ [], (vint w64 U ∷ [], tt))), tt) in
    let k = triple_of 𝓛 (callee.signature (number S) (number U)) (callee.spec (number S) (number U) 𝓛 𝓜.mem 𝓡.returns) in
    let Asked : Type 0 = (capped (size τ) ≡ n) × (capped (align τ) ≡ al) in
    qed 𝓛 ((raw (alive 𝓛 En₀.signature z.0.0 z.0.1) ⊛ ‵ (owns (types_at En₀.signature.params z.0.0) a z.0.4)) ∷ (raw (fact 𝓤 InS) ⊛ raw (fact 𝓤 InU) ⊛ raw (fact 𝓤 Fits) ⊛ raw (fact 𝓤 Asked) ⊛ ‵ (room_for τ from) ⊛ ‵ (whole_token U h τ from)) ∷ []) ∵
    move ! (1 ∷ []) $ split3 ! $ heard ! InS (λ inS. heard ! InU (λ inU. split ! $ heard ! Fits (λ small. split3 ! $ heard ! Asked (λ asked. move ! (1 ∷ []) $ fsplit ! $ fpick ! (λ at. fpick ! (λ placed. move ! (1 ∷ []) $ fpick ! (λ t. fpick ! (λ stands. move ! (2 ∷ 1 ∷ []) $
    rewrite ! 0 (λ (u : Ptr). ‵ (room_for τ u)) placed.0 refl $ use2 𝓛 (‵ (bytes_at (block_ptr r.block at) m)) (takes_in 𝓛 U served r τ at placed.4.1) $
    let p : Ptr = block_ptr r.block at in let inside' = placed.2 in let top = placed.3 in let holds = piece_holds U (size τ) served in let short : size τ < 2 ^ 63 = omega arith in let same : size τ ≡ n = sym (capped_is (size τ) (omega arith)) ∙ asked.0 in
    -- [the bytes; the right; the tokens with the arguments]
    move ! (2 ∷ []) $ split ! $ move ! (1 ∷ []) $ fsplit ! $ fsplit ! $ keep ! (4 ∷ 5 ∷ 1 ∷ 3 ∷ []) $
    regoal ! (λ (us : List Val). prop (WpFn 𝓤 𝓛.H 𝓣.C 𝓣.Λ fn us Post)) (λ i. are.0.0 i ++ ((are.1.0 ∙ ap (λ (u : Ptr). ptr_val u ∷ []) placed.0) i ++ (are.1.1.0.0 i ++ (are.1.1.1.0.0 i ++ [])))) refl $
    enter ! 𝓣.C 𝓣.Λ fn (me ∷ vptr r.block at ∷ vint w64 n ∷ vint w64 al ∷ []) Post $
    alloc_all ! (λ l. pass_all ! refl ((tt, tt), ((tt, tt), ((tt, record { fits = are.1.1.0.1 }), ((tt, record { fits = are.1.1.1.0.1 }), tt)))) $ let En : Env 𝓤 𝓛.H = env fn.locals l in
    use0 𝓛 (raw (fact 𝓤 (IsUnit U × (n < 2 ^ 63)))) (fact_i 𝓤 (IsUnit U × (n < 2 ^ 63)) (emp 𝓤) (served, omega arith)) $ nothing ! $ flt_i ! U (2 ^ 64) fU.fits $ feq_i ! (List Val) (vint w64 U ∷ []) (vint w64 U ∷ []) refl $ fjoin ! $ fjoin ! $ flt_i ! n (2 ^ 64) are.1.1.0.1 $ feq_i ! (List Val) (vint w64 n ∷ []) (vint w64 n ∷ []) refl $ fjoin ! $ fjoin ! $ nothing ! $ join ! $ join ! $ use1 𝓛 (raw (k₀.pre y₀)) (id⊢ 𝓤 _) $
    calls_at ! (fm 𝓛 𝓜 𝓡) k₀ (aligns 𝓤 𝓛 𝓜 𝓡 (compiled.calls-tlsf_arena::local::piece_bytes 𝓡.env wired)) y₀ (and_then ! (get ! refl) (and_then ! (num_lit ! fU) (no_more !))) (λ v.
    use1 𝓛 (later (some (λ (j : ℕ). (‵ ftrue ⊛ ‵ (usize.own_val j (v ∷ []))) ⊛ some (λ (ls : Lasts sizer.ended tt y₀.0.3). ‵ (lasts sizer.ended tt y₀.0.3 ls) ⊛ raw (fact 𝓤 (j ≡ piece_size U n)))))) (id⊢ 𝓤 (k₀.post y₀ v)) $
    await ! tt $ pick ! (λ j. split ! $ move ! (1 ∷ []) $ pick ! (λ _. split ! $ drop ! $ heard ! (j ≡ piece_size U n) (λ said. split ! $ drop ! $ fsplit ! $ feq_l ! (λ e. drop ! $ let fits : m < 2 ^ 64 = omega arith in
    lands_as ! (ap only e ∙ ap (vint w64) (said ∙ ap (piece_size U) (sym same))) refl (tt, record { fits = fits }) $
    sets ! (agg ! (no_more !)) refl (tt, tt) $
    sets ! (agg ! (and_then ! (get ! refl) (and_then ! (get ! refl) (no_more !)))) refl (tt, (tt, (record { fits = fits }, tt))) $
    sets ! (agg ! (and_then ! (get ! refl) (no_more !))) refl (tt, (tt, tt)) $
    let x : (block.the_row).Denot = record { ptr = p; size = m; region = r; at = at; placed = (refl, placed.1, placed.2, placed.3, placed.4) } in
    let ours : (lent.the_row).Denot = record { marker = record {}; book = h.1; loan = t } in
    let y : k.Ghost = ((z.0.0, z.0.1, z.0.2, (a.0, (x, (ours, tt))), (me ∷ [], (sized_val p m ∷ [], (lease_val ∷ [], tt)))), tt) in
    let First : Type 0 = (r ≡ r) × (h.1 ≡ h.1) in let Second : Type 0 = (at ≡ r.start + U * (name_of t).at) × (m ≡ U * units_in t) in
    let begins : at ≡ r.start + U * (name_of t).at = ap count_of (sym placed.0 ∙ stands.0) in
    let long : m ≡ U * units_in t = ap (λ (j : ℕ). U * j) (sym stands.1) in
    move ! (1 ∷ []) $ use0 𝓛 (‵ (lease_own (lease_val ∷ []))) (lease_made 𝓛 tt) $ fjoin ! $ nothing ! $ move ! (1 ∷ 0 ∷ []) $ fjoin ! $ move ! (1 ∷ []) $
    use0 𝓛 (‵ (sized_own p m (sized_val p m ∷ []))) (sized_made 𝓛 p m fits) $ fjoin ! $ fjoin ! $
    move ! (1 ∷ []) $ feq_i ! (List Val) (me ∷ []) (me ∷ []) refl $ fjoin ! $ fjoin ! $ move ! (1 ∷ 0 ∷ []) $ join ! $
    use0 𝓛 (raw (fact 𝓤 Second)) (fact_i 𝓤 Second (emp 𝓤) (begins, long)) $ use0 𝓛 (raw (fact 𝓤 First)) (fact_i 𝓤 First (emp 𝓤) (refl, refl)) $ join ! $ use0 𝓛 (raw (fact 𝓤 Fits)) (fact_i 𝓤 Fits (emp 𝓤) small) $ join ! $ use0 𝓛 (raw (fact 𝓤 InU)) (fact_i 𝓤 InU (emp 𝓤) inU) $ join ! $ use0 𝓛 (raw (fact 𝓤 InS)) (fact_i 𝓤 InS (emp 𝓤) inS) $ join ! $ move ! (1 ∷ 0 ∷ []) $ join ! $ use1 𝓛 (raw (k.pre y)) (id⊢ 𝓤 _) $
    calls_at ! (fm 𝓛 𝓜 𝓡) k (gives 𝓤 𝓛 𝓜 𝓡 (compiled.calls-tlsf_arena::local::LocalArena::give 𝓡.env wired) S U fS fU) y (and_then ! (get ! refl) (and_then ! (get ! refl) (and_then ! (get ! refl) (no_more !)))) (λ u.
    use1 𝓛 (later (some (λ (t : Unit {0}). (raw (alive 𝓛 En₀.signature z.0.0 z.0.1) ⊛ ‵ (unit.own_val t (u ∷ []))) ⊛ some (λ (ls : Lasts (callee.ended (number S) (number U)) z.0.0 y.0.3). ‵ (lasts (callee.ended (number S) (number U)) z.0.0 y.0.3 ls) ⊛ ‵ ftrue)))) (id⊢ 𝓤 (k.post y u)) $
    await ! tt $ pick ! (λ t. split ! $ move ! (1 ∷ []) $ drop ! $ split ! $ move ! (1 ∷ []) $ feq_l ! (λ e'. lands_as ! (ap only e') refl (tt, tt) $
    sets ! (of_opd ! (unit_lit !)) refl (tt, tt) $
    returns ! (look_at ! 0 refl) $ free_all ! refl $
    feq_i ! (List Val) (vunit ∷ []) (vunit ∷ []) refl $ nothing ! $ nothing ! $ nothing ! $ fjoin ! $ nothing ! $ fjoin ! $ nothing ! $ fjoin ! $ nothing ! $ fjoin ! $ move ! (3 ∷ 0 ∷ 2 ∷ 1 ∷ []) $
    by ! (leaves 𝓛 En₀ stays c z (vunit) (tt) (tt, (tt, (tt, (tt, tt)))) (tt, (tt, (tt, (tt, tt)))))))))))))))))))))))
