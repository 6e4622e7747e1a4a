-- `into_parts` takes room for values and a right apart. Assumes `Logic`.
use Rattle.tlsf_arena.proofs.Walking.{◌≡◌, ℕ, ◌*◌, List, [], ◌∷◌, ◌++◌, refl, subst, Goes-blank, El, and_tt, pair_of, pair_val, proved_at, leaves, Home, IsLoanAt, Fn, Args, a_type, Val, inst_fn, SProp, emp, Lft, Share, ftrue, flft, size, Env, WpFn, ◌⊑◌, fact, fact_i, tables, ‵, raw, ◌⊛◌, prop, ◌$◌, ◌∵◌, !, qed, by, move, drop, use0, use2, split, join, regoal, fsplit, fsplit3, fjoin, fjoin3, fpick, whole, sub, agg, stop, fld, of_opd, no_more, and_then, returns, enter, alloc_all, pass_all, free_all, look_at, get, get_in, sets, env, RattleType, owns, Ptr, param, layout, layouts, types_at, nothing, heard, Tuple, Stays, stay_dropped, walk_of, slot_at, ptr_typed, lease_val, lease_own, lease_made}
use Rattle.tlsf_arena.proofs.Buffers.{buffer_val, buffer_own, buffer_told, buffer_made, block_size}
use Rattle.tlsf_arena.specs.contracts.buffer.Buffer as buffer
use Rattle.tlsf_arena.specs.contracts.right.Right as right_type
use Rattle.tlsf_arena.specs.contracts.buffer_grant.BufferGrant.into_parts.{ended, clauses}
use Rattle.tlsf_arena.specs.contracts.buffer_grant.BufferGrant.into_parts.Key.{name as #self}
use Rattle.tlsf_arena.proofs.buffer_grant.BufferGrant.into_parts.Statement.{statement}
use Rattle.tlsf_arena.proofs.buffer_grant.BufferGrant.into_parts.Code as compiled

pub into_parts_spec : {M : Type 1} → statement M
into_parts_spec 𝓤 𝓛 𝓜 𝓡 wired T L =
    let En₀ = ended T in
    let c = clauses T 𝓛 𝓜.mem 𝓡.returns in
    let args : Args = layouts (a_type ∷ []) (T, tt) in
    let fn : Fn = inst_fn args compiled.function in
    let stays : Stays En₀.signature.params En₀.kept = (stay_dropped (slot_at 0 En₀.signature.params) En₀.kept.0, tt) in
    let 𝓣 = tables 𝓤 𝓛.H 𝓜 𝓡 𝓡.env in
    proved_at 𝓛 En₀ stays c 𝓜 𝓡 (Goes-blank 𝓛 1 (slot_at 0 En₀.signature.params) En₀.kept.0 (λ κs x f. tt), tt) (#self args) fn (compiled.unfolded 𝓤 𝓛.H 𝓜 𝓡 wired (T, tt)) (λ z are.
    let Post : Val → SProp 𝓤 = (walk_of 𝓛 En₀ stays c).post z in
    let κ : Lft = z.0.0.0 in
    let q : Share = z.0.1.0 in
    let R : RattleType = param 0 T in
    let E : El = record { row = T; laws = L } in
    let s = size (layout T) in
    let x = z.0.3.0 in
    let p : Ptr = x.ptr in
    let u = x.unit in
    let home : Home = x.home in
    let xs = x.items in
    let len = x.len in
    let cap = x.cap in
    let v : Val = pair_val (buffer_val p) lease_val in
    qed 𝓛 (((‵ (flft κ q) ⊛ ‵ ftrue) ⊛ ‵ (owns (types_at En₀.signature.params z.0.0) z.0.3 z.0.4)) ∷ (raw (fact 𝓤 (κ ⊑ T.lives)) ⊛ ‵ ftrue) ∷ []) ∵
    move ! (1 ∷ []) $ split ! $ heard ! (κ ⊑ T.lives) (λ le. drop ! $ split ! $ split ! $ move ! (1 ∷ []) $ drop ! $ move ! (1 ∷ []) $
    fsplit ! $ fsplit ! $ drop ! $ fsplit3 ! $ move ! (2 ∷ []) $ fsplit ! $ move ! (1 ∷ []) $ fpick ! (λ t. fpick ! (λ is.
    move ! (2 ∷ 3 ∷ 1 ∷ []) $ fjoin3 ! $ move ! (2 ∷ []) $ drop ! $
    regoal ! (λ (us : List Val). prop (WpFn 𝓤 𝓛.H 𝓣.C 𝓣.Λ fn us Post)) (λ i. (buffer_told p z.0.4.0 are.0.0).0 i ++ []) refl $
    enter ! 𝓣.C 𝓣.Λ fn (buffer_val p ∷ []) Post $
    alloc_all ! (λ l. pass_all ! refl ((and_tt _ ((ptr_typed p).0), ((ptr_typed p).1, (tt, tt))), tt) $ let En : Env 𝓤 𝓛.H = env fn.locals l in
    sets ! (of_opd ! (get_in ! (fld ! refl (stop !)) (sub ! 0 refl (whole !)))) refl (ptr_typed p) $
    sets ! (of_opd ! (get_in ! (fld ! refl (stop !)) (sub ! 1 refl (whole !)))) refl (tt, tt) $
    sets ! (agg ! (no_more !)) refl (tt, tt) $
    sets ! (agg ! (and_then ! (get ! refl) (and_then ! (get ! refl) (no_more !)))) refl (and_tt _ ((ptr_typed p).0), ((ptr_typed p).1, (tt, tt))) $
    sets ! (agg ! (and_then ! (get ! refl) (no_more !))) refl (tt, (tt, tt)) $
    sets ! (agg ! (and_then ! (get ! refl) (and_then ! (get ! refl) (no_more !)))) refl (and_tt _ (and_tt _ ((ptr_typed p).0)), (((ptr_typed p).1, (tt, tt)), ((tt, tt), tt))) $
    returns ! (look_at ! 0 refl) $ free_all ! refl $
    let out : (buffer.the_row R).Denot = record { ptr = p; marker = x.marker; unit = u; region = home.0; len = len; cap = cap; items = xs } in
    let w : (right_type.the_row).Denot = record { marker = record {}; book = home.1; loan = t } in
    let OfBuffer : Type 0 = (p ≡ p) × (u ≡ u) × (home.0 ≡ home.0) × (len ≡ len) × (cap ≡ cap) × (xs ≡ xs) in let OfRight : Type 0 = (home.1 ≡ home.1) × IsLoanAt u home.0 p (cap * s) t in
    use0 𝓛 (‵ (buffer_own p (buffer_val p ∷ []))) (buffer_made 𝓛 p tt) $ fjoin ! $ move ! (1 ∷ []) $
    use0 𝓛 (‵ (lease_own (lease_val ∷ []))) (lease_made 𝓛 tt) $ fjoin ! $ move ! (1 ∷ 0 ∷ []) $
    use2 𝓛 (‵ ((Tuple (buffer.the_row R ∷ right_type.the_row ∷ [])).own_val (out, w) (v ∷ []))) (pair_of 𝓛 (buffer.the_row R) (right_type.the_row) out w (buffer_val p) lease_val) $
    use0 𝓛 (raw (fact 𝓤 OfRight)) (fact_i 𝓤 OfRight (emp 𝓤) (refl, subst (λ (n : ℕ). IsLoanAt u home.0 p n t) (block_size E cap) is)) $
    use0 𝓛 (raw (fact 𝓤 OfBuffer)) (fact_i 𝓤 OfBuffer (emp 𝓤) (refl, refl, refl, refl, refl, refl)) $ join ! $
    nothing ! $ nothing ! $ fjoin ! $ nothing ! $ move ! (4 ∷ 0 ∷ []) $ join ! $ move ! (0 ∷ 1 ∷ 3 ∷ []) $
    by ! (leaves 𝓛 En₀ stays c z v (out, w) (tt, tt) (tt, tt)))))))
