-- `with_parts` reads both fields. Assumes `Logic`.
use Rattle.tlsf_arena.proofs.Walking.{◌≡◌, ◌^◌, w64, vint, flt_i, usize, List, [], ◌∷◌, ◌++◌, refl, sym, ap, ◌∙◌, Goes-blank, pair_of, pair_val, proved_at, leaves, Fn, Val, SProp, emp, ftrue, Env, WpFn, fact, fact_i, tables, ‵, raw, ◌⊛◌, prop, ◌$◌, ◌∵◌, !, qed, by, move, drop, use0, use2, split, rewrite, regoal, fsplit, fjoin, feq_i, whole, sub, agg, stop, fld, of_opd, no_more, and_then, returns, enter, alloc_all, pass_all, free_all, look_at, get, get_in, sets, env, owns, Ptr, RawPtr, block_ptr, ptr_val, types_at, nothing, Tuple, alive, Stays, stay_dropped, walk_of, slot_at, sized_val, sized_own, sized_told, sized_made}
use Rattle.tlsf_arena.specs.contracts.piece.Piece as piece
use Rattle.tlsf_arena.specs.contracts.piece.Piece.with_parts.{ended as En₀, clauses}
use Rattle.tlsf_arena.specs.contracts.piece.Piece.with_parts.Key.{name as #self}
use Rattle.tlsf_arena.proofs.piece.Piece.with_parts.Statement.{statement}
use Rattle.tlsf_arena.proofs.piece.Piece.with_parts.Code as compiled

pub with_parts_spec : {M : Type 1} → statement M
with_parts_spec 𝓤 𝓛 𝓜 𝓡 wired =
    let c = clauses 𝓛 𝓜.mem 𝓡.returns in
    let fn : Fn = compiled.function in
    let stays : Stays En₀.signature.params En₀.kept = (stay_dropped (slot_at 0 En₀.signature.params) En₀.kept.0, tt) in
    let 𝓣 = tables 𝓤 𝓛.H 𝓜 𝓡 𝓡.env in
    proved_at 𝓛 En₀ stays c 𝓜 𝓡 (Goes-blank 𝓛 0 (slot_at 0 En₀.signature.params) En₀.kept.0 (λ κs x f. tt), tt) #self fn (compiled.unfolded 𝓤 𝓛.H 𝓜 𝓡 wired) (λ z are.
    let Post : Val → SProp 𝓤 = (walk_of 𝓛 En₀ stays c).post z in
    let x = z.0.3.0 in
    let n = x.size in
    let p : Ptr = block_ptr x.region.block x.at in
    let told = sized_told x.ptr n z.0.4.0 are.0.0 in
    let fits = told.1 in
    qed 𝓛 ((raw (alive 𝓛 En₀.signature z.0.0 z.0.1) ⊛ ‵ (owns (types_at En₀.signature.params z.0.0) z.0.3 z.0.4)) ∷ ‵ ftrue ∷ []) ∵ move ! (1 ∷ []) $ drop ! $ split ! $ move ! (1 ∷ []) $
    fsplit ! $ fsplit ! $ drop ! $ move ! (1 ∷ []) $ drop ! $
    regoal ! (λ (us : List Val). prop (WpFn 𝓤 𝓛.H 𝓣.C 𝓣.Λ fn us Post)) (λ i. (told.0 ∙ ap (λ (q : Ptr). sized_val q n ∷ []) x.placed.0) i ++ []) refl $
    enter ! 𝓣.C 𝓣.Λ fn (sized_val p n ∷ []) Post $
    alloc_all ! (λ l. pass_all ! refl ((tt, (tt, (record { fits = fits }, tt))), tt) $ let En : Env 𝓤 𝓛.H = env fn.locals l in
    sets ! (of_opd ! (get_in ! (fld ! refl (stop !)) (sub ! 0 refl (whole !)))) refl (tt, tt) $
    sets ! (of_opd ! (get_in ! (fld ! refl (stop !)) (sub ! 1 refl (whole !)))) refl (tt, record { fits = fits }) $
    sets ! (agg ! (and_then ! (get ! refl) (and_then ! (get ! refl) (no_more !)))) refl (tt, (tt, (record { fits = fits }, tt))) $
    sets ! (agg ! (and_then ! (get ! refl) (and_then ! (get ! refl) (no_more !)))) refl (tt, (tt, (record { fits = fits }, tt))) $
    sets ! (agg ! (and_then ! (get ! refl) (and_then ! (get ! refl) (no_more !)))) refl (tt, ((tt, (record { fits = fits }, tt)), ((tt, (record { fits = fits }, tt)), tt))) $
    returns ! (look_at ! 0 refl) $ free_all ! refl $
    use0 𝓛 (‵ (sized_own x.ptr n (sized_val x.ptr n ∷ []))) (sized_made 𝓛 x.ptr n fits) $ rewrite ! 0 (λ (q : Ptr). ‵ (sized_own x.ptr n (sized_val q n ∷ []))) x.placed.0 refl $ fjoin ! $
    let parts : Val = pair_val (ptr_val p) (vint w64 n) in let v : Val = pair_val parts (sized_val p n) in let Out : Type 0 = (x.ptr ≡ x.ptr) × (n ≡ n) × (x ≡ x) in
    flt_i ! n (2 ^ 64) fits $ feq_i ! (List Val) (vint w64 n ∷ []) (vint w64 n ∷ []) refl $ fjoin ! $ feq_i ! (List Val) (ptr_val p ∷ []) (ptr_val x.ptr ∷ []) (ap (λ (q : Ptr). ptr_val q ∷ []) (sym x.placed.0)) $
    use2 𝓛 (‵ ((Tuple (RawPtr ∷ usize ∷ [])).own_val (x.ptr, n) (parts ∷ []))) (pair_of 𝓛 RawPtr usize x.ptr n (ptr_val p) (vint w64 n)) $
    use2 𝓛 (‵ ((Tuple (Tuple (RawPtr ∷ usize ∷ []) ∷ piece.the_row ∷ [])).own_val ((x.ptr, n), x) (v ∷ []))) (pair_of 𝓛 (Tuple (RawPtr ∷ usize ∷ [])) (piece.the_row) (x.ptr, n) x parts (sized_val p n)) $
    use0 𝓛 (raw (fact 𝓤 Out)) (fact_i 𝓤 Out (emp 𝓤) (refl, refl, refl)) $ nothing ! $ nothing ! $ fjoin ! $ move ! (3 ∷ 0 ∷ 2 ∷ 1 ∷ []) $
    by ! (leaves 𝓛 En₀ stays c z v ((x.ptr, n), x) (tt, tt) (tt, tt))))
