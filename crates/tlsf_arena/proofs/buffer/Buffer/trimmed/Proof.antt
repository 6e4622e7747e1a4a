-- `trimmed` makes a piece of the bytes at the end of a buffer's. Assumes `Logic`.
use Rattle.tlsf_arena.proofs.Walking.{◌≡◌, ℕ, ◌+◌, ◌-◌, ◌*◌, ◌%◌, ◌^◌, ◌<◌, ◌≤◌, List, [], ◌∷◌, ◌++◌, refl, sym, ap, ◌∙◌, arith, w64, Goes-blank, after, pair_of, pair_val, proved_at, leaves, block_with_items, El, IsUnit, piece_size, IsPiece, behind, Fn, Args, a_type, Val, vint, vptr, inst_fn, SProp, emp, Lft, Share, ftrue, fex, froom, flft, size, Env, WpFn, ◌⊑◌, fact, fact_i, tables, ‵, raw, ◌⊛◌, prop, at_ret, ◌$◌, ◌∵◌, !, qed, by, move, drop, use0, use2, split, split3, join, rewrite, regoal, fsplit, fsplit3, fjoin, fjoin3, fpick, fpack, whole, sub, agg, stop, fld, bin, of_opd, no_more, and_then, first, blocks, exec, returns, enter, alloc_all, pass_all, free_all, look_at, get, get_in, sets, sets_last, is, env, RattleType, owns, Ptr, block_ptr, count_of, param, layout, layouts, types_at, nothing, heard, Tuple, Stays, stay_dropped, walk_of, Goes-dropped, slot_at, sized_val, sized_own, sized_made, Region, bytes_at}
use Rattle.tlsf_arena.proofs.UnitCases.{least_piece, piece_grains, piece_holds}
use Rattle.tlsf_arena.proofs.Buffers.{buffer_val, buffer_own, buffer_told, buffer_made, shortens, block_type, block_size}
use Rattle.tlsf_arena.specs.contracts.piece.Piece as piece
use Rattle.tlsf_arena.specs.contracts.buffer.Buffer as buffer
use Rattle.tlsf_arena.specs.contracts.buffer.Buffer.trimmed.{ended, clauses}
use Rattle.tlsf_arena.specs.contracts.buffer.Buffer.trimmed.Key.{name as #self}
use Rattle.tlsf_arena.proofs.buffer.Buffer.trimmed.Statement.{statement}
use Rattle.tlsf_arena.proofs.buffer.Buffer.trimmed.Code as compiled

pub trimmed_spec : {M : Type 1} → statement M
trimmed_spec 𝓤 𝓛 𝓜 𝓡 wired T L =
    let En₀ = ended T in
    let c = clauses T 𝓛 𝓜.mem 𝓡.returns in
    let args : Args = layouts (a_type ∷ []) (T, tt) in
    let fn : Fn = inst_fn args compiled.function in
    let stays : Stays En₀.signature.params En₀.kept = (stay_dropped (slot_at 0 En₀.signature.params) En₀.kept.0, (stay_dropped (slot_at 1 En₀.signature.params) En₀.kept.1.0, (stay_dropped (slot_at 2 En₀.signature.params) En₀.kept.1.1.0, (stay_dropped (slot_at 3 En₀.signature.params) En₀.kept.1.1.1.0, tt)))) in
    let 𝓣 = tables 𝓤 𝓛.H 𝓜 𝓡 𝓡.env in
    proved_at 𝓛 En₀ stays c 𝓜 𝓡 (Goes-blank 𝓛 1 (slot_at 0 En₀.signature.params) En₀.kept.0 (λ κs x f. tt), (Goes-dropped 𝓛 1 (slot_at 1 En₀.signature.params) En₀.kept.1.0 (λ κs x f. refl), (Goes-dropped 𝓛 1 (slot_at 2 En₀.signature.params) En₀.kept.1.1.0 (λ κs x f. refl), (Goes-dropped 𝓛 1 (slot_at 3 En₀.signature.params) En₀.kept.1.1.1.0 (λ κs x f. refl), tt)))) (#self args) fn (compiled.unfolded 𝓤 𝓛.H 𝓜 𝓡 wired (T, tt)) (λ z are.
    let Post : Val → SProp 𝓤 = (walk_of 𝓛 En₀ stays c).post z in
    let a = z.0.3 in
    let vss = z.0.4 in
    let κ : Lft = z.0.0.0 in
    let q : Share = z.0.1.0 in
    let R : RattleType = param 0 T in
    let E : El = record { row = T; laws = L } in
    let s = size (layout T) in
    let x = a.0 in
    let u = x.unit in
    let r : Region = x.region in
    let xs = x.items in
    let len = x.len in
    let cap = x.cap in
    let cap' = a.1.0 in
    let m = a.1.1.0 in
    let d = a.1.1.1.0 in
    let Sums : Type 0 = (m ≡ piece_size u (cap' * s)) × (piece_size u (cap * s) ≡ m + d) × (m < piece_size u (cap * s)) in
    let Counts : Type 0 = (len ≤ cap') × (len ≤ cap) in
    qed 𝓛 (((‵ (flft κ q) ⊛ ‵ ftrue) ⊛ ‵ (owns (types_at En₀.signature.params z.0.0) a vss)) ∷ (raw (fact 𝓤 (κ ⊑ T.lives)) ⊛ raw (fact 𝓤 (IsUnit u)) ⊛ raw (fact 𝓤 Sums) ⊛ raw (fact 𝓤 Counts)) ∷ []) ∵
    move ! (1 ∷ []) $ split3 ! $ heard ! (κ ⊑ T.lives) (λ le. heard ! (IsUnit u) (λ unit. split ! $ heard ! Sums (λ sums'. heard ! Counts (λ counts. split ! $ split ! $ move ! (1 ∷ []) $ drop ! $ move ! (1 ∷ []) $
    fsplit ! $ fsplit ! $ drop ! $ fsplit3 ! $ move ! (2 ∷ []) $ fpick ! (λ at. fpick ! (λ lies. let n = piece_size u (size (block_type E cap)) in let n' = piece_size u (size (block_type E cap')) in
    move ! (1 ∷ 2 ∷ 0 ∷ []) $ fjoin3 ! $
    let b = r.block in let p : Ptr = block_ptr b at in
    rewrite ! 0 (λ (g : Ptr). ‵ (block_with_items (λ σ _. behind σ r.block at n) R g len cap xs)) lies.0 refl $ fsplit3 ! $
    let told : vss.0 ≡ buffer_val p ∷ [] = (buffer_told x.ptr vss.0 are.0.0).0 ∙ ap (λ (g : Ptr). buffer_val g ∷ []) lies.0 in
    let long : n ≡ piece_size u (cap * s) = ap (piece_size u) (block_size E cap) in
    let shorter : n' ≡ m = ap (piece_size u) (block_size E cap') ∙ sym sums'.0 in
    let both : n ≡ n' + d = omega (arith, long, shorter, sums'.1) in
    let grains = piece_grains u (size (block_type E cap)) unit in
    let grains' = piece_grains u (size (block_type E cap')) unit in
    let even : d % 16 ≡ 0 = omega (arith, grains, grains', both) in
    let more : 16 ≤ d = omega (arith, even, both, long, shorter, sums'.2) in
    let least : 16 ≤ n' = least_piece u (size (block_type E cap')) unit in
    let is' : IsPiece r p at n' = (refl, lies.1, omega (arith, lies.2, both), lies.3, (least, grains', lies.4.2)) in
    move ! (3 ∷ []) $ drop ! $ move ! (1 ∷ 2 ∷ []) $
    use2 𝓛 (‵ (froom (block_type E (cap' - len)) b (at + len * s)) ⊛ ‵ (behind (block_type E cap') b at n') ⊛ ‵ (bytes_at (block_ptr b (at + n')) d))
    (shortens E 𝓛 len cap cap' b at counts.1 counts.0 n d n' (piece_holds u (size (block_type E cap)) unit) (piece_holds u (size (block_type E cap')) unit) both grains' even) $ split3 ! $ move ! (1 ∷ []) $
    fpack ! (IsPiece r p at n') (λ _. behind (block_type E cap') b at n') is' $ fpack ! ℕ (λ j. fex (IsPiece r p j n') (λ _. behind (block_type E cap') b j n')) at $ move ! (3 ∷ 1 ∷ 0 ∷ []) $ fjoin3 ! $
    let tail = at + m in let end : Ptr = block_ptr b tail in
    rewrite ! 1 (λ (j : ℕ). ‵ (bytes_at (block_ptr b (at + j)) d)) shorter refl $
    regoal ! (λ (us : List Val). prop (WpFn 𝓤 𝓛.H 𝓣.C 𝓣.Λ fn us Post)) (λ i. told i ++ (are.1.0.0 i ++ (are.1.1.0.0 i ++ (are.1.1.1.0.0 i ++ [])))) refl $
    enter ! 𝓣.C 𝓣.Λ fn (buffer_val p ∷ vint w64 cap' ∷ vint w64 m ∷ vint w64 d ∷ []) Post $
    alloc_all ! (λ l. pass_all ! refl ((tt, (tt, (tt, tt))), ((tt, record { fits = are.1.0.1 }), ((tt, record { fits = are.1.1.0.1 }), ((tt, record { fits = are.1.1.1.0.1 }), tt)))) $ let En : Env 𝓤 𝓛.H = env fn.locals l in
    sets ! (of_opd ! (get_in ! (fld ! refl (stop !)) (sub ! 0 refl (whole !)))) refl (tt, tt) $
    sets ! (of_opd ! (get_in ! (fld ! refl (stop !)) (sub ! 1 refl (whole !)))) refl (tt, tt) $
    first ! $ blocks ! $
    sets ! (of_opd ! (get ! refl)) refl (tt, tt) $
    sets_last ! (is ! (bin ! (get ! refl) (get ! refl) tt) (ap (vptr b) (omega arith))) refl (tt, tt) $
    exec ! 𝓣.C 𝓣.Λ En (after 3 fn.body) (at_ret En Post) $
    let fits : d < 2 ^ 64 = are.1.1.1.0.1 in
    sets ! (of_opd ! (get ! refl)) refl (tt, tt) $
    sets ! (agg ! (and_then ! (get ! refl) (and_then ! (get ! refl) (no_more !)))) refl (tt, (tt, (record { fits = fits }, tt))) $
    sets ! (agg ! (and_then ! (get ! refl) (and_then ! (get ! refl) (no_more !)))) refl (tt, (tt, (tt, tt))) $
    sets ! (of_opd ! (get ! refl)) refl (tt, (tt, (record { fits = fits }, tt))) $
    sets ! (agg ! (and_then ! (get ! refl) (and_then ! (get ! refl) (no_more !)))) refl (tt, ((tt, (tt, tt)), ((tt, (record { fits = fits }, tt)), tt))) $
    returns ! (look_at ! 0 refl) $ free_all ! refl $
    let out : (buffer.the_row R).Denot = record { ptr = p; marker = record {}; unit = u; region = r; len = len; cap = cap'; items = xs } in
    let back : (piece.the_row).Denot = record { ptr = end; size = d; region = r; at = tail; placed = (refl, omega (arith, lies.1), omega (arith, lies.2, both, shorter), lies.3, (more, even, omega (arith, lies.1, lies.4.2, grains', shorter))) } in
    let v : Val = pair_val (buffer_val p) (sized_val end d) in
    let Kept : Type 0 = (p ≡ x.ptr) × (u ≡ u) × (r ≡ r) × (len ≡ len) × (cap' ≡ cap') × (xs ≡ xs) in let Tail : Type 0 = (r ≡ r) × (tail ≡ count_of x.ptr + m) × (d ≡ d) in
    use0 𝓛 (‵ (buffer_own p (buffer_val p ∷ []))) (buffer_made 𝓛 p tt) $ fjoin ! $ move ! (1 ∷ []) $
    use0 𝓛 (‵ (sized_own end d (sized_val end d ∷ []))) (sized_made 𝓛 end d fits) $ fjoin ! $ move ! (1 ∷ 0 ∷ []) $
    use2 𝓛 (‵ ((Tuple (buffer.the_row R ∷ piece.the_row ∷ [])).own_val (out, back) (v ∷ []))) (pair_of 𝓛 (buffer.the_row R) piece.the_row out back (buffer_val p) (sized_val end d)) $
    use0 𝓛 (raw (fact 𝓤 Tail)) (fact_i 𝓤 Tail (emp 𝓤) (refl, ap (λ (g : Ptr). count_of g + m) (sym lies.0), refl)) $ use0 𝓛 (raw (fact 𝓤 Kept)) (fact_i 𝓤 Kept (emp 𝓤) (sym lies.0, refl, refl, refl, refl, refl)) $ join ! $
    nothing ! $ nothing ! $ fjoin ! $ nothing ! $ fjoin ! $ nothing ! $ fjoin ! $ nothing ! $ fjoin ! $ nothing ! $ move ! (4 ∷ 0 ∷ []) $ join ! $ move ! (0 ∷ 1 ∷ 3 ∷ []) $
    by ! (leaves 𝓛 En₀ stays c z v (out, back) (tt, (tt, (tt, (tt, tt)))) (tt, (tt, (tt, (tt, tt)))))))))))))
