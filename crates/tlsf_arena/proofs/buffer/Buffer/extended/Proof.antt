-- `extended` makes room for values of the piece after their own. Assumes `Logic`.
use Rattle.tlsf_arena.proofs.Walking.{◌≡◌, ℕ, ◌+◌, ◌-◌, ◌*◌, ◌≤◌, List, [], ◌∷◌, ◌++◌, refl, sym, ap, subst, ◌∙◌, arith, w64, Goes-blank, proved_at, leaves, block_with_items, El, IsUnit, piece_size, IsPiece, behind, Fn, Args, a_type, Val, vint, inst_fn, SProp, emp, Lft, Share, ftrue, fex, froom, flft, size, Env, WpFn, ◌⊑◌, fact, fact_i, tables, ‵, raw, ◌⊛◌, prop, ◌$◌, ◌∵◌, !, qed, by, move, drop, use0, use3, split, split3, join, rewrite, regoal, fsplit, fsplit3, fjoin, fjoin3, fpick, fpack, whole, sub, agg, stop, fld, of_opd, no_more, and_then, returns, enter, alloc_all, pass_all, free_all, look_at, get, get_in, sets, env, RattleType, owns, Ptr, block_ptr, count_of, param, layout, layouts, types_at, nothing, heard, Stays, stay_dropped, walk_of, Goes-dropped, slot_at, sized_val, sized_told, Region, bytes_at}
use Rattle.tlsf_arena.proofs.UnitCases.{piece_grains, piece_holds}
use Rattle.tlsf_arena.proofs.Buffers.{buffer_val, buffer_own, buffer_told, buffer_made, extends, block_type, block_size}
use Rattle.tlsf_arena.specs.contracts.buffer.Buffer as buffer
use Rattle.tlsf_arena.specs.contracts.buffer.Buffer.extended.{ended, clauses}
use Rattle.tlsf_arena.specs.contracts.buffer.Buffer.extended.Key.{name as #self}
use Rattle.tlsf_arena.proofs.buffer.Buffer.extended.Statement.{statement}
use Rattle.tlsf_arena.proofs.buffer.Buffer.extended.Code as compiled

pub extended_spec : {M : Type 1} → statement M
extended_spec 𝓤 𝓛 𝓜 𝓡 wired T L =
    let En₀ = ended T in
    let c = clauses T 𝓛 𝓜.mem 𝓡.returns in
    let args : Args = layouts (a_type ∷ []) (T, tt) in
    let fn : Fn = inst_fn args compiled.function in
    let stays : Stays En₀.signature.params En₀.kept = (stay_dropped (slot_at 0 En₀.signature.params) En₀.kept.0, (stay_dropped (slot_at 1 En₀.signature.params) En₀.kept.1.0, (stay_dropped (slot_at 2 En₀.signature.params) En₀.kept.1.1.0, tt))) in
    let 𝓣 = tables 𝓤 𝓛.H 𝓜 𝓡 𝓡.env in
    proved_at 𝓛 En₀ stays c 𝓜 𝓡 (Goes-blank 𝓛 1 (slot_at 0 En₀.signature.params) En₀.kept.0 (λ κs x f. tt), (Goes-blank 𝓛 1 (slot_at 1 En₀.signature.params) En₀.kept.1.0 (λ κs x f. tt), (Goes-dropped 𝓛 1 (slot_at 2 En₀.signature.params) En₀.kept.1.1.0 (λ κs x f. refl), tt))) (#self args) fn (compiled.unfolded 𝓤 𝓛.H 𝓜 𝓡 wired (T, tt)) (λ z are.
    let Post : Val → SProp 𝓤 = (walk_of 𝓛 En₀ stays c).post z in
    let a = z.0.3 in
    let vss = z.0.4 in
    let κ : Lft = z.0.0.0 in
    let q : Share = z.0.1.0 in
    let R : RattleType = param 0 T in
    let E : El = record { row = T; laws = L } in
    let s = size (layout T) in
    let x = a.0 in
    let u = x.unit in
    let r : Region = x.region in
    let xs = x.items in
    let len = x.len in
    let cap = x.cap in
    let w = a.1.0 in
    let cap' = a.1.1.0 in
    let Behind : Type 0 = w.at ≡ count_of x.ptr + piece_size u (cap * s) in
    let Sums : Type 0 = piece_size u (cap' * s) ≡ piece_size u (cap * s) + w.size in
    let Counts : Type 0 = (len ≤ cap') × (len ≤ cap) in
    qed 𝓛 (((‵ (flft κ q) ⊛ ‵ ftrue) ⊛ ‵ (owns (types_at En₀.signature.params z.0.0) a vss)) ∷ (raw (fact 𝓤 (κ ⊑ T.lives)) ⊛ raw (fact 𝓤 (IsUnit u)) ⊛ raw (fact 𝓤 (w.region ≡ r)) ⊛ raw (fact 𝓤 Behind) ⊛ raw (fact 𝓤 Sums) ⊛ raw (fact 𝓤 Counts)) ∷ []) ∵
    move ! (1 ∷ []) $ split3 ! $ heard ! (κ ⊑ T.lives) (λ le. heard ! (IsUnit u) (λ unit. split3 ! $ heard ! (w.region ≡ r) (λ same. heard ! Behind (λ behind'. split ! $ heard ! Sums (λ sums'. heard ! Counts (λ counts. split ! $ split ! $ move ! (1 ∷ []) $ drop ! $ move ! (1 ∷ []) $
    fsplit ! $ fsplit ! $ drop ! $ fsplit3 ! $ move ! (2 ∷ []) $ fpick ! (λ at. fpick ! (λ lies. let n = piece_size u (size (block_type E cap)) in let n' = piece_size u (size (block_type E cap')) in
    move ! (1 ∷ 2 ∷ 0 ∷ []) $ fjoin3 ! $
    let b = r.block in let p : Ptr = block_ptr b at in
    rewrite ! 0 (λ (g : Ptr). ‵ (block_with_items (λ σ _. behind σ r.block at n) R g len cap xs)) lies.0 refl $ fsplit3 ! $
    let told : vss.0 ≡ buffer_val p ∷ [] = (buffer_told x.ptr vss.0 are.0.0).0 ∙ ap (λ (g : Ptr). buffer_val g ∷ []) lies.0 in
    let sized = sized_told w.ptr w.size vss.1.0 are.1.0.0 in
    let long : n ≡ piece_size u (cap * s) = ap (piece_size u) (block_size E cap) in
    let longer : n' ≡ piece_size u (cap' * s) = ap (piece_size u) (block_size E cap') in
    let both : n + w.size ≡ n' = omega (arith, long, longer, sums') in
    let place : w.at ≡ at + n = behind' ∙ ap (λ (g : Ptr). count_of g + piece_size u (cap * s)) lies.0 ∙ ap (λ (j : ℕ). at + j) (sym long) in
    let there : w.ptr ≡ block_ptr b (at + n) = w.placed.0 ∙ (λ i. block_ptr ((same i).block) (place i)) in
    let ends : at + n' ≤ r.end = omega (arith, subst (λ (g : Region). w.at + w.size ≤ g.end) same w.placed.2, place, both) in
    let grains = piece_grains u (size (block_type E cap)) unit in
    let grains' = piece_grains u (size (block_type E cap')) unit in
    let is' : IsPiece r p at n' = (refl, lies.1, ends, lies.3, (omega (arith, lies.4.0, both), grains', lies.4.2)) in
    move ! (3 ∷ []) $ fsplit ! $ fsplit ! $ drop ! $ rewrite ! 0 (λ (g : Ptr). ‵ (bytes_at g w.size)) there refl $ move ! (1 ∷ []) $ drop ! $ move ! (2 ∷ 3 ∷ 0 ∷ []) $
    use3 𝓛 (‵ (froom (block_type E (cap' - len)) b (at + len * s)) ⊛ ‵ (behind (block_type E cap') b at n'))
    (extends E 𝓛 len cap cap' b at counts.1 counts.0 n w.size n' (piece_holds u (size (block_type E cap)) unit) (piece_holds u (size (block_type E cap')) unit) both grains w.placed.4.1) $ split ! $ move ! (1 ∷ []) $
    fpack ! (IsPiece r p at n') (λ _. behind (block_type E cap') b at n') is' $ fpack ! ℕ (λ j. fex (IsPiece r p j n') (λ _. behind (block_type E cap') b j n')) at $ move ! (2 ∷ 1 ∷ 0 ∷ []) $ fjoin3 ! $
    regoal ! (λ (us : List Val). prop (WpFn 𝓤 𝓛.H 𝓣.C 𝓣.Λ fn us Post)) (λ i. told i ++ ((sized.0 ∙ ap (λ (g : Ptr). sized_val g w.size ∷ []) there) i ++ (are.1.1.0.0 i ++ []))) refl $
    enter ! 𝓣.C 𝓣.Λ fn (buffer_val p ∷ sized_val (block_ptr b (at + n)) w.size ∷ vint w64 cap' ∷ []) Post $
    alloc_all ! (λ l. pass_all ! refl ((tt, (tt, (tt, tt))), ((tt, (tt, (record { fits = sized.1 }, tt))), ((tt, record { fits = are.1.1.0.1 }), tt))) $ let En : Env 𝓤 𝓛.H = env fn.locals l in
    sets ! (of_opd ! (get_in ! (fld ! refl (stop !)) (sub ! 0 refl (whole !)))) refl (tt, tt) $
    sets ! (of_opd ! (get_in ! (fld ! refl (stop !)) (sub ! 1 refl (whole !)))) refl (tt, tt) $
    sets ! (agg ! (and_then ! (get ! refl) (and_then ! (get ! refl) (no_more !)))) refl (tt, (tt, (tt, tt))) $
    returns ! (look_at ! 0 refl) $ free_all ! refl $
    let out : (buffer.the_row R).Denot = record { ptr = p; marker = record {}; unit = u; region = r; len = len; cap = cap'; items = xs } in
    let Out : Type 0 = (p ≡ x.ptr) × (u ≡ u) × (r ≡ r) × (len ≡ len) × (cap' ≡ cap') × (xs ≡ xs) in
    use0 𝓛 (‵ (buffer_own p (buffer_val p ∷ []))) (buffer_made 𝓛 p tt) $ fjoin ! $
    use0 𝓛 (raw (fact 𝓤 Out)) (fact_i 𝓤 Out (emp 𝓤) (sym lies.0, refl, refl, refl, refl, refl)) $
    nothing ! $ nothing ! $ fjoin ! $ nothing ! $ fjoin ! $ nothing ! $ fjoin ! $ nothing ! $ move ! (4 ∷ 0 ∷ []) $ join ! $ move ! (0 ∷ 1 ∷ 3 ∷ []) $
    by ! (leaves 𝓛 En₀ stays c z (buffer_val p) out (tt, (tt, (tt, tt))) (tt, (tt, (tt, tt))))))))))))))
