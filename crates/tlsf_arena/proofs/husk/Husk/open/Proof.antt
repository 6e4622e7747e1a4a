-- `open` hands the bytes of a piece to `lodge`. Assumes `Logic`.
use Rattle.tlsf_arena.proofs.Walking.{◌≡◌, ℕ, ◌/◌, ◌<◌, ◌^◌, List, [], ◌∷◌, ◌++◌, refl, sym, ap, ◌∙◌, subst, arith, w8, Vec, fm, Goes-blank, after, pair_of, pair_val, pair_Typed, proved_at, leaves, lodged, ways, Fn, Val, SProp, emp, ftrue, Env, WpFn, fact, fact_i, tables, ‵, raw, ◌⊛◌, some, given, later, prop, at_ret, ◌$◌, ◌∵◌, !, qed, by, move, drop, use0, use1, use2, split, join, pick, learn, await, rewrite, regoal, fsplit, fjoin, whole, sub, agg, stop, fld, lit, of_opd, no_more, and_then, first, blocks, exec, returns, enter, alloc_all, pass_all, free_all, look_at, get, get_in, sets, lands_last, env, u8, layout, owns, Ptr, block_ptr, types_at, nothing, only, Tuple, calls_at_last, alive, Stays, stay_dropped, walk_of, Lodged, bytes_at, slot_at, sized_val, sized_own, sized_told, sized_made}
use Rattle.std_alloc.proofs.vec.lodge.Met as callee
use Rattle.tlsf_arena.specs.FilledPieces.{piece_within}
use Rattle.tlsf_arena.proofs.Lodging.{byte_laws, Housed, Good, vec_tells, piece_out, Lodges, at_lodge, IsLodged, lodge_goes, lodge_gives}
use Rattle.tlsf_arena.specs.contracts.husk.Husk as husk
use Rattle.tlsf_arena.specs.contracts.husk.Husk.open.{ended as En₀, clauses}
use Rattle.tlsf_arena.specs.contracts.husk.Husk.open.Key.{name as #self}
use Rattle.tlsf_arena.proofs.husk.Husk.open.Statement.{statement}
use Rattle.tlsf_arena.proofs.husk.Husk.open.Code as compiled

pub open_spec : {M : Type 1} → statement M
open_spec 𝓤 𝓛 𝓜 𝓡 wired =
    let c = clauses 𝓛 𝓜.mem 𝓡.returns in
    let fn : Fn = compiled.function in
    let stays : Stays En₀.signature.params En₀.kept = (stay_dropped (slot_at 0 En₀.signature.params) En₀.kept.0, tt) in
    let 𝓣 = tables 𝓤 𝓛.H 𝓜 𝓡 𝓡.env in
    let met = callee.met 𝓤 𝓛 𝓜 𝓡 (compiled.calls-std_alloc::vec::lodge 𝓡.env wired) u8 byte_laws in
    proved_at 𝓛 En₀ stays c 𝓜 𝓡 (Goes-blank 𝓛 0 (slot_at 0 En₀.signature.params) En₀.kept.0 (λ κs x f. tt), tt) #self fn (compiled.unfolded 𝓤 𝓛.H 𝓜 𝓡 wired) (λ z are.
    let Post : Val → SProp 𝓤 = (walk_of 𝓛 En₀ stays c).post z in
    let x = z.0.3.0 in
    let n = x.size in
    let b = x.region.block in
    let o = x.at in
    let p : Ptr = block_ptr b o in
    let told = sized_told x.ptr n z.0.4.0 are.0.0 in
    let fits = told.1 in
    let small : n < 2 ^ 63 = omega (arith, x.placed.2, x.placed.3) in
    let words : Good husk.the_row (sized_val p n) = (tt, (tt, (record { fits = fits }, tt))) in
    qed 𝓛 ((raw (alive 𝓛 En₀.signature z.0.0 z.0.1) ⊛ ‵ (owns (types_at En₀.signature.params z.0.0) z.0.3 z.0.4)) ∷ ‵ ftrue ∷ []) ∵ move ! (1 ∷ []) $ drop ! $ split ! $ move ! (1 ∷ []) $
    fsplit ! $ fsplit ! $ drop ! $ move ! (1 ∷ []) $ drop ! $
    rewrite ! 0 (λ (q : Ptr). ‵ (bytes_at q n)) x.placed.0 refl $
    use1 𝓛 (‵ (lodged u8 p 0 n []) ⊛ ‵ (ways w8 b o (n / 16))) (piece_out 𝓛 b o n (omega (arith, x.placed.4.0)) x.placed.4.1 small) $ split ! $
    regoal ! (λ (us : List Val). prop (WpFn 𝓤 𝓛.H 𝓣.C 𝓣.Λ fn us Post)) (λ i. (told.0 ∙ ap (λ (q : Ptr). sized_val q n ∷ []) x.placed.0) i ++ []) refl $
    enter ! 𝓣.C 𝓣.Λ fn (sized_val p n ∷ []) Post $
    alloc_all ! (λ l. pass_all ! refl (words, tt) $ let En : Env 𝓤 𝓛.H = env fn.locals l in
    let y = at_lodge 𝓛 𝓜.mem 𝓡.returns b o n in
    sets ! (of_opd ! (get_in ! (fld ! refl (stop !)) (sub ! 0 refl (whole !)))) refl (tt, tt) $
    sets ! (of_opd ! (get_in ! (fld ! refl (stop !)) (sub ! 1 refl (whole !)))) refl (tt, record { fits = fits }) $
    first ! $ blocks ! $ use1 𝓛 (raw ((Lodges 𝓛 𝓜.mem 𝓡.returns).pre y)) (lodge_goes 𝓛 𝓜.mem 𝓡.returns b o n small) $
    calls_at_last ! (fm 𝓛 𝓜 𝓡) (Lodges 𝓛 𝓜.mem 𝓡.returns) met y (and_then ! (get ! refl) (and_then ! (lit ! tt) (and_then ! (get ! refl) (no_more !)))) (λ v.
    use1 𝓛 (later (some (λ (r : Vec ℕ Lodged). given (IsLodged 𝓛 𝓜.mem 𝓡.returns b o n r) (‵ (Housed.own_val r (v ∷ [])))))) (lodge_gives 𝓛 𝓜.mem 𝓡.returns b o n v) $
    await ! tt $ pick ! (λ r. learn ! (λ is. vec_tells ! r (v ∷ []) (λ u same good.
    let fine : Good Housed v = subst (Good Housed) (sym (ap only same)) good in
    rewrite ! 0 (λ w. ‵ (Housed.own_val r (w ∷ []))) (sym (ap only same)) refl $ lands_last ! refl fine $
    exec ! 𝓣.C 𝓣.Λ En (after 3 fn.body) (at_ret En Post) $
    sets ! (of_opd ! (get ! refl)) refl fine $
    sets ! (of_opd ! (get ! refl)) refl fine $
    sets ! (agg ! (and_then ! (get ! refl) (and_then ! (get ! refl) (no_more !)))) refl words $
    sets ! (agg ! (and_then ! (get ! refl) (and_then ! (get ! refl) (no_more !)))) refl (pair_Typed (layout Housed) (layout husk.the_row) v (sized_val p n) fine words) $
    returns ! (look_at ! 0 refl) $ free_all ! refl $
    let w : (husk.the_row).Denot = record { ptr = x.ptr; size = n; region = x.region; at = o; placed = x.placed } in
    let OfVec : Type 0 = (r.items ≡ []) × (r.len ≡ 0) × (r.cap ≡ n) × (r.ptr ≡ x.ptr) in let OfHusk : Type 0 = piece_within w ≡ x in
    use0 𝓛 (‵ (sized_own x.ptr n (sized_val x.ptr n ∷ []))) (sized_made 𝓛 x.ptr n fits) $ rewrite ! 0 (λ (q : Ptr). ‵ (sized_own x.ptr n (sized_val q n ∷ []))) x.placed.0 refl $ move ! (0 ∷ 2 ∷ []) $ fjoin ! $ move ! (1 ∷ 0 ∷ []) $
    use2 𝓛 (‵ ((Tuple (Housed ∷ husk.the_row ∷ [])).own_val (r, w) (pair_val v (sized_val p n) ∷ []))) (pair_of 𝓛 Housed (husk.the_row) r w v (sized_val p n)) $
    use0 𝓛 (raw (fact 𝓤 OfHusk)) (fact_i 𝓤 OfHusk (emp 𝓤) refl) $ use0 𝓛 (raw (fact 𝓤 OfVec)) (fact_i 𝓤 OfVec (emp 𝓤) (is.0, is.1, is.2, is.3 ∙ sym x.placed.0)) $ join ! $
    nothing ! $ nothing ! $ fjoin ! $ move ! (3 ∷ 0 ∷ 2 ∷ 1 ∷ []) $
    by ! (leaves 𝓛 En₀ stays c z (pair_val v (sized_val p n)) (r, w) (tt, tt) (tt, tt))))))))
