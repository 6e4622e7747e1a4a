-- `move_to` makes room of the new piece, moves the values there, and makes a piece of the old room. Assumes `Logic`.
use Rattle.tlsf_arena.proofs.Walking.{◌≡◌, ℕ, ◌+◌, ◌-◌, ◌*◌, ◌^◌, ◌<◌, ◌≤◌, List, [], ◌∷◌, ◌++◌, refl, sym, ap, subst, ◌∙◌, arith, w64, Goes-blank, after, fm, proved_at, leaves, pair_of, pair_val, block_with_items, El, times_below, IsUnit, piece_size, IsPiece, behind, block_token, Ty, Fn, Args, a_type, place, ty_array, Val, vint, vunit, inst_fn, full_share, SProp, emp, Lft, Share, ftrue, froom, flft, size, Env, WpFn, ◌⊑◌, fact, fact_i, tables, ‵, raw, ◌⊛◌, given, later, prop, settles, at_ret, ◌$◌, ◌∵◌, !, qed, by, move, drop, use0, use1, use2, use3, split, split3, join, learn, rewrite, regoal, fsplit, fsplit3, fjoin, fjoin3, fpick, await, whole, sub, agg, stop, fld, of_opd, no_more, and_then, first, blocks, exec, returns, enter, alloc_all, pass_all, free_all, look_at, get, get_in, sets, lands_last, env, RattleType, owns, Ptr, block_ptr, count_of, part_at, param, layout, layouts, types_at, nothing, heard, Tuple, calls_at_last, Stays, stay_dropped, walk_of, Goes-dropped, slot_at, then_runs, out_of_block, sized_val, sized_own, sized_told, sized_made, Region, bytes_at, Array}
use Rattle.core.proofs.alloc.Moves.{Copies, at_copies, Copies-goes, Copies-gives}
use Rattle.core.proofs.ptr.copy_nonoverlapping.Met as callee
use Rattle.tlsf_arena.proofs.Taken.{fits_out, takes_in}
use Rattle.tlsf_arena.proofs.UnitCases.{piece_holds}
use Rattle.tlsf_arena.proofs.Buffers.{buffer_val, buffer_own, buffer_told, buffer_made, block_type, block_size, emptied, parted}
use Rattle.tlsf_arena.specs.contracts.piece.Piece as piece
use Rattle.tlsf_arena.specs.contracts.buffer.Buffer as buffer
use Rattle.tlsf_arena.specs.contracts.buffer.Buffer.move_to.{ended, clauses}
use Rattle.tlsf_arena.specs.contracts.buffer.Buffer.move_to.Key.{name as #self}
use Rattle.tlsf_arena.proofs.buffer.Buffer.move_to.Statement.{statement}
use Rattle.tlsf_arena.proofs.buffer.Buffer.move_to.Code as compiled

pub move_to_spec : {M : Type 1} → statement M
move_to_spec 𝓤 𝓛 𝓜 𝓡 wired T L =
    let En₀ = ended T in
    let c = clauses T 𝓛 𝓜.mem 𝓡.returns in
    let args : Args = layouts (a_type ∷ []) (T, tt) in
    let fn : Fn = inst_fn args compiled.function in
    let stays : Stays En₀.signature.params En₀.kept = (stay_dropped (slot_at 0 En₀.signature.params) En₀.kept.0, (stay_dropped (slot_at 1 En₀.signature.params) En₀.kept.1.0, (stay_dropped (slot_at 2 En₀.signature.params) En₀.kept.1.1.0, (stay_dropped (slot_at 3 En₀.signature.params) En₀.kept.1.1.1.0, (stay_dropped (slot_at 4 En₀.signature.params) En₀.kept.1.1.1.1.0, tt))))) in
    let 𝓣 = tables 𝓤 𝓛.H 𝓜 𝓡 𝓡.env in
    proved_at 𝓛 En₀ stays c 𝓜 𝓡 (Goes-blank 𝓛 1 (slot_at 0 En₀.signature.params) En₀.kept.0 (λ κs x f. tt), (Goes-blank 𝓛 1 (slot_at 1 En₀.signature.params) En₀.kept.1.0 (λ κs x f. tt), (Goes-dropped 𝓛 1 (slot_at 2 En₀.signature.params) En₀.kept.1.1.0 (λ κs x f. refl), (Goes-dropped 𝓛 1 (slot_at 3 En₀.signature.params) En₀.kept.1.1.1.0 (λ κs x f. refl), (Goes-dropped 𝓛 1 (slot_at 4 En₀.signature.params) En₀.kept.1.1.1.1.0 (λ κs x f. refl), tt))))) (#self args) fn (compiled.unfolded 𝓤 𝓛.H 𝓜 𝓡 wired (T, tt)) (λ z are.
    let Post : Val → SProp 𝓤 = (walk_of 𝓛 En₀ stays c).post z in
    let a = z.0.3 in
    let vss = z.0.4 in
    let κ : Lft = z.0.0.0 in
    let q : Share = z.0.1.0 in
    let R : RattleType = param 0 T in
    let E : El = record { row = T; laws = L } in
    let τ : Ty = layout T in
    let s = size τ in
    let x = a.0 in
    let u = x.unit in
    let r : Region = x.region in
    let xs = x.items in
    let cap = x.cap in
    let w = a.1.0 in
    let len = a.1.1.0 in
    let cap' = a.1.1.1.0 in
    let m = a.1.1.1.1.0 in
    let τ' : Ty = block_type E cap' in
    let Owed : Type 0 = m ≡ piece_size u (cap * s) in
    let New : Type 0 = (w.size ≡ piece_size u (cap' * s)) × (cap' * s < 2 ^ 63) in
    let Counts : Type 0 = (len ≡ x.len) × (len ≤ cap') × (len ≤ cap) in
    qed 𝓛 (((‵ (flft κ q) ⊛ ‵ ftrue) ⊛ ‵ (owns (types_at En₀.signature.params z.0.0) a vss)) ∷ (raw (fact 𝓤 (κ ⊑ T.lives)) ⊛ raw (fact 𝓤 (IsUnit u)) ⊛ raw (fact 𝓤 (w.region ≡ r)) ⊛ raw (fact 𝓤 New) ⊛ raw (fact 𝓤 Owed) ⊛ raw (fact 𝓤 Counts)) ∷ []) ∵
    move ! (1 ∷ []) $ split3 ! $ heard ! (κ ⊑ T.lives) (λ le. heard ! (IsUnit u) (λ unit. split3 ! $ heard ! (w.region ≡ r) (λ same. heard ! New (λ new'. split ! $ heard ! Owed (λ owed. heard ! Counts (λ counts. split ! $ split ! $ move ! (1 ∷ []) $ drop ! $ move ! (1 ∷ []) $
    fsplit ! $ fsplit ! $ drop ! $ rewrite ! 0 (λ (j : ℕ). ‵ (block_with_items (block_token u r) R x.ptr j cap xs)) (sym counts.0) refl $ fsplit3 ! $ move ! (2 ∷ []) $ fpick ! (λ at. fpick ! (λ lies. let n = piece_size u (size (block_type E cap)) in
    move ! (1 ∷ 2 ∷ 0 ∷ []) $ fjoin3 ! $
    let b = r.block in let o = at in let old : Ptr = block_ptr b o in
    rewrite ! 0 (λ (g : Ptr). ‵ (block_with_items (λ σ _. behind σ r.block at n) R g len cap xs)) lies.0 refl $ fsplit3 ! $
    let told : vss.0 ≡ buffer_val old ∷ [] = (buffer_told x.ptr vss.0 are.0.0).0 ∙ ap (λ (g : Ptr). buffer_val g ∷ []) lies.0 in
    move ! (3 ∷ []) $ fsplit ! $ fsplit ! $ drop ! $
    let n' = piece_size u (size τ') in
    let b' = b in let o' = w.at in let new : Ptr = block_ptr b' o' in
    let lies' : w.ptr ≡ new = w.placed.0 ∙ ap (λ (g : Region). block_ptr g.block w.at) same in
    let long : w.size ≡ n' = new'.0 ∙ ap (piece_size u) (sym (block_size E cap')) in
    let is' : IsPiece r new o' n' = subst (λ (g : Region × Ptr × ℕ). IsPiece g.0 g.1 o' g.2) (λ i. (same i, lies' i, long i)) w.placed in
    let sized = sized_told w.ptr w.size vss.1.0 are.1.0.0 in
    let owed' : n ≡ m = ap (piece_size u) (block_size E cap) ∙ sym owed in
    let room' : cap * s ≤ piece_size u (cap * s) = piece_holds u (cap * s) unit in
    let short : cap * s < 2 ^ 63 = omega (arith, lies.2, lies.3, room', owed, owed') in
    rewrite ! 0 (λ (g : Ptr × ℕ). ‵ (bytes_at g.0 g.1)) (λ i. (lies' i, long i)) refl $ move ! (1 ∷ []) $ drop ! $
    regoal ! (λ (us : List Val). prop (WpFn 𝓤 𝓛.H 𝓣.C 𝓣.Λ fn us Post)) (λ i. told i ++ ((sized.0 ∙ ap (λ (g : Ptr). sized_val g w.size ∷ []) lies') i ++ (are.1.1.0.0 i ++ (are.1.1.1.0.0 i ++ (are.1.1.1.1.0.0 i ++ []))))) refl $
    enter ! 𝓣.C 𝓣.Λ fn (buffer_val old ∷ sized_val new w.size ∷ vint w64 len ∷ vint w64 cap' ∷ vint w64 m ∷ []) Post $
    alloc_all ! (λ l. pass_all ! refl ((tt, (tt, (tt, tt))), ((tt, (tt, (record { fits = sized.1 }, tt))), ((tt, record { fits = are.1.1.0.1 }), ((tt, record { fits = are.1.1.1.0.1 }), ((tt, record { fits = are.1.1.1.1.0.1 }), tt))))) $ let En : Env 𝓤 𝓛.H = env fn.locals l in
    use1 𝓛 (‵ (froom τ' b' o') ⊛ ‵ (block_token u r τ' new)) (fits_out 𝓛 u unit r τ' o' is') $ split ! $
    use1 𝓛 (‵ (froom (ty_array τ len) b' o') ⊛ ‵ (froom (block_type E (cap' - len)) b' (o' + len * s))) (parted E 𝓛 len cap' b' o' counts.1) $ split ! $ move ! (3 ∷ 0 ∷ 6 ∷ []) $
    sets ! (of_opd ! (get_in ! (fld ! refl (stop !)) (sub ! 0 refl (whole !)))) refl (tt, tt) $
    sets ! (of_opd ! (get_in ! (fld ! refl (stop !)) (sub ! 1 refl (whole !)))) refl (tt, tt) $
    sets ! (of_opd ! (get_in ! (fld ! refl (stop !)) (sub ! 0 refl (whole !)))) refl (tt, tt) $
    sets ! (of_opd ! (get ! refl)) refl (tt, tt) $
    first ! $ blocks ! $
    let y = at_copies T 𝓛 𝓜.mem 𝓡.returns κ q b o b' o' len xs in
    use3 𝓛 (raw ((Copies T 𝓛 𝓜.mem 𝓡.returns).pre y)) (Copies-goes T 𝓛 𝓜.mem 𝓡.returns κ q b o b' o' len xs le are.1.1.0.1 (times_below len cap s (2 ^ 63) counts.2 short)) $
    calls_at_last ! (fm 𝓛 𝓜 𝓡) (Copies T 𝓛 𝓜.mem 𝓡.returns) (callee.met 𝓤 𝓛 𝓜 𝓡 (compiled.calls-core::ptr::copy_nonoverlapping 𝓡.env wired) T L) y (and_then ! (get ! refl) (and_then ! (get ! refl) (and_then ! (get ! refl) (no_more !)))) (λ v.
    use1 𝓛 (later (given (v ≡ vunit) (‵ (part_at (Array R len) full_share xs b' o') ⊛ ‵ (froom (ty_array τ len) b o) ⊛ ‵ (flft κ q)))) (Copies-gives T 𝓛 𝓜.mem 𝓡.returns κ q b o b' o' len xs v) $
    await ! tt $ learn ! (λ eu. split3 ! $ regoal ! (λ (g : Val). settles En (place 11 []) g (out_of_block 𝓛 (then_runs 𝓛 𝓣.C 𝓣.Λ En (after 5 fn.body) (at_ret En Post)))) (eu) refl $ lands_last ! refl (tt, tt) $
    exec ! 𝓣.C 𝓣.Λ En (after 5 fn.body) (at_ret En Post) $
    let fits : m < 2 ^ 64 = are.1.1.1.1.0.1 in
    sets ! (of_opd ! (get ! refl)) refl (tt, tt) $
    sets ! (agg ! (and_then ! (get ! refl) (and_then ! (get ! refl) (no_more !)))) refl (tt, (tt, (record { fits = fits }, tt))) $
    sets ! (agg ! (and_then ! (get ! refl) (and_then ! (get ! refl) (no_more !)))) refl (tt, (tt, (tt, tt))) $
    sets ! (of_opd ! (get ! refl)) refl (tt, (tt, (record { fits = fits }, tt))) $
    sets ! (agg ! (and_then ! (get ! refl) (and_then ! (get ! refl) (no_more !)))) refl (tt, ((tt, (tt, tt)), ((tt, (record { fits = fits }, tt)), tt))) $
    move ! (1 ∷ 5 ∷ []) $ use2 𝓛 (‵ (froom (ty_array τ cap) b o)) (emptied E 𝓛 len cap b o counts.2) $ use1 𝓛 (‵ (froom (block_type E cap) b o)) (𝓛.laws.room-raw (ty_array τ cap) b o) $ move ! (0 ∷ 5 ∷ []) $
    use2 𝓛 (‵ (bytes_at old n)) (takes_in 𝓛 u unit r (block_type E cap) at lies.4.1) $ rewrite ! 0 (λ (j : ℕ). ‵ (bytes_at old j)) owed' refl $
    returns ! (look_at ! 0 refl) $ free_all ! refl $
    let there : (buffer.the_row R).Denot = record { ptr = new; marker = record {}; unit = u; region = r; len = len; cap = cap'; items = xs } in
    let back : (piece.the_row).Denot = record { ptr = old; size = m; region = r; at = at; placed = subst (λ (j : ℕ). IsPiece r old at j) owed' (refl, lies.1, lies.2, lies.3, lies.4) } in
    let v : Val = pair_val (buffer_val new) (sized_val old m) in let Moved : Type 0 = (new ≡ w.ptr) × (u ≡ u) × (r ≡ r) × (len ≡ len) × (cap' ≡ cap') × (xs ≡ xs) in let Back : Type 0 = (r ≡ r) × (at ≡ count_of x.ptr) × (m ≡ m) in
    use0 𝓛 (‵ (sized_own old m (sized_val old m ∷ []))) (sized_made 𝓛 old m fits) $ fjoin ! $
    move ! (1 ∷ 3 ∷ 4 ∷ []) $ fjoin3 ! $ use0 𝓛 (‵ (buffer_own new (buffer_val new ∷ []))) (buffer_made 𝓛 new tt) $ fjoin ! $
    use2 𝓛 (‵ ((Tuple (buffer.the_row R ∷ piece.the_row ∷ [])).own_val (there, back) (v ∷ []))) (pair_of 𝓛 (buffer.the_row R) piece.the_row there back (buffer_val new) (sized_val old m)) $
    use0 𝓛 (raw (fact 𝓤 Back)) (fact_i 𝓤 Back (emp 𝓤) (refl, sym (ap count_of lies.0), refl)) $ use0 𝓛 (raw (fact 𝓤 Moved)) (fact_i 𝓤 Moved (emp 𝓤) (sym lies', refl, refl, refl, refl, refl)) $ join ! $
    nothing ! $ nothing ! $ fjoin ! $ nothing ! $ fjoin ! $ nothing ! $ fjoin ! $ nothing ! $ fjoin ! $ nothing ! $ fjoin ! $ nothing ! $ move ! (4 ∷ 0 ∷ []) $ join ! $ move ! (0 ∷ 1 ∷ 3 ∷ []) $
    by ! (leaves 𝓛 En₀ stays c z v (there, back) (tt, (tt, (tt, (tt, (tt, tt))))) (tt, (tt, (tt, (tt, (tt, tt))))))))))))))))))
