-- `with_ptr` reads the address, and that it is one of a piece. Assumes `Logic`.
use Rattle.tlsf_arena.proofs.Walking.{◌≡◌, ℕ, ◌*◌, List, [], ◌∷◌, ◌++◌, refl, sym, ap, subst, ◌∙◌, Goes-blank, pair_of, pair_val, proved_at, leaves, block_with_items, El, piece_size, IsPiece, behind, block_token, Fn, Args, a_type, Val, inst_fn, SProp, emp, Lft, Share, ftrue, fex, flft, size, Env, WpFn, ◌⊑◌, fact, fact_i, tables, ‵, raw, ◌⊛◌, prop, ◌$◌, ◌∵◌, !, qed, by, move, drop, use0, use2, split, join, rewrite, regoal, fsplit, fsplit3, fjoin, fjoin3, fpick, fpack, feq_i, whole, sub, agg, stop, fld, of_opd, no_more, and_then, returns, enter, alloc_all, pass_all, free_all, look_at, get, get_in, sets, env, RattleType, owns, Ptr, RawPtr, block_ptr, count_of, ptr_val, param, layout, layouts, types_at, nothing, heard, Tuple, Stays, stay_dropped, walk_of, slot_at, Region}
use Rattle.tlsf_arena.proofs.Buffers.{buffer_val, buffer_own, buffer_told, buffer_made, block_type, block_size}
use Rattle.tlsf_arena.specs.contracts.buffer.Buffer as buffer
use Rattle.tlsf_arena.specs.contracts.buffer.Buffer.with_ptr.{ended, clauses}
use Rattle.tlsf_arena.specs.contracts.buffer.Buffer.with_ptr.Key.{name as #self}
use Rattle.tlsf_arena.proofs.buffer.Buffer.with_ptr.Statement.{statement}
use Rattle.tlsf_arena.proofs.buffer.Buffer.with_ptr.Code as compiled

pub with_ptr_spec : {M : Type 1} → statement M
with_ptr_spec 𝓤 𝓛 𝓜 𝓡 wired T L =
    let En₀ = ended T in
    let c = clauses T 𝓛 𝓜.mem 𝓡.returns in
    let args : Args = layouts (a_type ∷ []) (T, tt) in
    let fn : Fn = inst_fn args compiled.function in
    let stays : Stays En₀.signature.params En₀.kept = (stay_dropped (slot_at 0 En₀.signature.params) En₀.kept.0, tt) in
    let 𝓣 = tables 𝓤 𝓛.H 𝓜 𝓡 𝓡.env in
    proved_at 𝓛 En₀ stays c 𝓜 𝓡 (Goes-blank 𝓛 1 (slot_at 0 En₀.signature.params) En₀.kept.0 (λ κs x f. tt), tt) (#self args) fn (compiled.unfolded 𝓤 𝓛.H 𝓜 𝓡 wired (T, tt)) (λ z are.
    let Post : Val → SProp 𝓤 = (walk_of 𝓛 En₀ stays c).post z in
    let vss = z.0.4 in
    let κ : Lft = z.0.0.0 in
    let q : Share = z.0.1.0 in
    let R : RattleType = param 0 T in
    let E : El = record { row = T; laws = L } in
    let s = size (layout T) in
    let x = z.0.3.0 in
    let u = x.unit in
    let r : Region = x.region in
    let xs = x.items in
    let len = x.len in
    let cap = x.cap in
    qed 𝓛 (((‵ (flft κ q) ⊛ ‵ ftrue) ⊛ ‵ (owns (types_at En₀.signature.params z.0.0) z.0.3 vss)) ∷ (raw (fact 𝓤 (κ ⊑ T.lives)) ⊛ ‵ ftrue) ∷ []) ∵
    move ! (1 ∷ []) $ split ! $ heard ! (κ ⊑ T.lives) (λ le. drop ! $ split ! $ split ! $ move ! (1 ∷ []) $ drop ! $ move ! (1 ∷ []) $
    fsplit ! $ fsplit ! $ drop ! $ fsplit3 ! $ move ! (2 ∷ []) $ fpick ! (λ at. fpick ! (λ lies. let n = piece_size u (size (block_type E cap)) in
    let b = r.block in let p : Ptr = block_ptr b at in
    let is : IsPiece r p at n = (refl, lies.1, lies.2, lies.3, lies.4) in
    fpack ! (IsPiece r p at n) (λ _. behind (block_type E cap) b at n) is $ fpack ! ℕ (λ j. fex (IsPiece r p j n) (λ _. behind (block_type E cap) b j n)) at $
    rewrite ! 0 (λ (g : Ptr). ‵ (block_token u r (block_type E cap) g)) (sym lies.0) refl $ move ! (1 ∷ 2 ∷ 0 ∷ []) $ fjoin3 ! $
    rewrite ! 0 (λ (g : Ptr). ‵ (block_with_items (block_token u r) R g len cap xs)) lies.0 refl $
    let told : vss.0 ≡ buffer_val p ∷ [] = (buffer_told x.ptr vss.0 are.0.0).0 ∙ ap (λ (g : Ptr). buffer_val g ∷ []) lies.0 in
    move ! (1 ∷ []) $ drop ! $
    regoal ! (λ (us : List Val). prop (WpFn 𝓤 𝓛.H 𝓣.C 𝓣.Λ fn us Post)) (λ i. told i ++ []) refl $
    enter ! 𝓣.C 𝓣.Λ fn (buffer_val p ∷ []) Post $
    alloc_all ! (λ l. pass_all ! refl ((tt, (tt, (tt, tt))), tt) $ let En : Env 𝓤 𝓛.H = env fn.locals l in
    sets ! (of_opd ! (get_in ! (fld ! refl (stop !)) (sub ! 0 refl (whole !)))) refl (tt, tt) $
    sets ! (of_opd ! (get_in ! (fld ! refl (stop !)) (sub ! 1 refl (whole !)))) refl (tt, tt) $
    sets ! (of_opd ! (get ! refl)) refl (tt, tt) $
    sets ! (agg ! (and_then ! (get ! refl) (and_then ! (get ! refl) (no_more !)))) refl (tt, (tt, (tt, tt))) $
    sets ! (agg ! (and_then ! (get ! refl) (and_then ! (get ! refl) (no_more !)))) refl (tt, (tt, ((tt, (tt, tt)), tt))) $
    returns ! (look_at ! 0 refl) $ free_all ! refl $
    let out : (buffer.the_row R).Denot = record { ptr = p; marker = record {}; unit = u; region = r; len = len; cap = cap; items = xs } in
    let back : out ≡ x = λ i. record { ptr = sym lies.0 i; marker = x.marker; unit = u; region = r; len = len; cap = cap; items = xs } in
    let Place : Type 0 = IsPiece r p (count_of p) (piece_size u (cap * s)) in let Same : Type 0 = (p ≡ x.ptr) × (out ≡ x) in
    use0 𝓛 (‵ (buffer_own p (buffer_val p ∷ []))) (buffer_made 𝓛 p tt) $ fjoin ! $
    feq_i ! (List Val) (ptr_val p ∷ []) (ptr_val p ∷ []) refl $
    use2 𝓛 (‵ ((Tuple (RawPtr ∷ buffer.the_row R ∷ [])).own_val (p, out) (pair_val (ptr_val p) (buffer_val p) ∷ []))) (pair_of 𝓛 RawPtr (buffer.the_row R) p out (ptr_val p) (buffer_val p)) $
    use0 𝓛 (raw (fact 𝓤 Same)) (fact_i 𝓤 Same (emp 𝓤) (sym lies.0, back)) $ use0 𝓛 (raw (fact 𝓤 Place)) (fact_i 𝓤 Place (emp 𝓤) (subst (λ (j : ℕ). IsPiece r p at j) (ap (piece_size u) (block_size E cap)) is)) $ join ! $
    nothing ! $ nothing ! $ fjoin ! $ nothing ! $ move ! (4 ∷ 0 ∷ []) $ join ! $ move ! (0 ∷ 1 ∷ 3 ∷ []) $
    by ! (leaves 𝓛 En₀ stays c z (pair_val (ptr_val p) (buffer_val p)) (p, out) (tt, tt) (tt, tt)))))))
