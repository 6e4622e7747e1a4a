-- `into_raw_parts` hands over what the block owns. Assumes `Logic`.
use Rattle.tlsf_arena.proofs.Walking.{◌≡◌, ◌^◌, List, [], ◌∷◌, ◌++◌, refl, w64, Goes-blank, and_tt, pair_of, pair_val, proved_at, leaves, Fn, Val, vint, SProp, emp, ftrue, Env, WpFn, fact, fact_i, tables, ‵, raw, ◌⊛◌, prop, ◌$◌, ◌∵◌, !, qed, by, move, drop, use0, use2, split, join, regoal, fsplit, fjoin, feq_i, flt_i, whole, sub, agg, stop, fld, of_opd, no_more, and_then, returns, enter, alloc_all, pass_all, free_all, look_at, get, get_in, sets, env, owns, usize, RawPtr, ptr_val, types_at, nothing, Tuple, alive, Stays, stay_dropped, walk_of, ptr_typed, sized_val, sized_told, slot_at}
use Rattle.tlsf_arena.specs.contracts.memory.Memory.into_raw_parts.{ended as En₀, clauses}
use Rattle.tlsf_arena.specs.contracts.memory.Memory.into_raw_parts.Key.{name as #self}
use Rattle.tlsf_arena.proofs.memory.Memory.into_raw_parts.Statement.{statement}
use Rattle.tlsf_arena.proofs.memory.Memory.into_raw_parts.Code as compiled

pub into_raw_parts_spec : {M : Type 1} → statement M
into_raw_parts_spec 𝓤 𝓛 𝓜 𝓡 wired =
    let c = clauses 𝓛 𝓜.mem 𝓡.returns in
    let fn : Fn = compiled.function in
    let stays : Stays En₀.signature.params En₀.kept = (stay_dropped (slot_at 0 En₀.signature.params) En₀.kept.0, tt) in
    let 𝓣 = tables 𝓤 𝓛.H 𝓜 𝓡 𝓡.env in
    proved_at 𝓛 En₀ stays c 𝓜 𝓡 (Goes-blank 𝓛 0 (slot_at 0 En₀.signature.params) En₀.kept.0 (λ κs x f. tt), tt) #self fn (compiled.unfolded 𝓤 𝓛.H 𝓜 𝓡 wired) (λ z are.
    let Post : Val → SProp 𝓤 = (walk_of 𝓛 En₀ stays c).post z in
    let x = z.0.3.0 in
    let n = x.size in
    let told = sized_told x.ptr n z.0.4.0 are.0.0 in
    let fits = told.1 in
    let Said : Type 0 = (x.ptr ≡ x.ptr) × (n ≡ n) in
    qed 𝓛 ((raw (alive 𝓛 En₀.signature z.0.0 z.0.1) ⊛ ‵ (owns (types_at En₀.signature.params z.0.0) z.0.3 z.0.4)) ∷ ‵ ftrue ∷ []) ∵ move ! (1 ∷ []) $ drop ! $ split ! $ move ! (1 ∷ []) $
    fsplit ! $ fsplit ! $ drop ! $ move ! (1 ∷ []) $ drop ! $
    regoal ! (λ (us : List Val). prop (WpFn 𝓤 𝓛.H 𝓣.C 𝓣.Λ fn us Post)) (λ i. told.0 i ++ []) refl $
    enter ! 𝓣.C 𝓣.Λ fn (sized_val x.ptr n ∷ []) Post $
    alloc_all ! (λ l. pass_all ! refl ((and_tt _ ((ptr_typed x.ptr).0), ((ptr_typed x.ptr).1, (record { fits = fits }, tt))), tt) $ let En : Env 𝓤 𝓛.H = env fn.locals l in
    sets ! (of_opd ! (get_in ! (fld ! refl (stop !)) (sub ! 0 refl (whole !)))) refl (ptr_typed x.ptr) $
    sets ! (of_opd ! (get_in ! (fld ! refl (stop !)) (sub ! 1 refl (whole !)))) refl (tt, record { fits = fits }) $
    sets ! (agg ! (and_then ! (get ! refl) (and_then ! (get ! refl) (no_more !)))) refl (and_tt _ ((ptr_typed x.ptr).0), ((ptr_typed x.ptr).1, (record { fits = fits }, tt))) $
    returns ! (look_at ! 0 refl) $ free_all ! refl $
    use0 𝓛 (raw (fact 𝓤 Said)) (fact_i 𝓤 Said (emp 𝓤) (refl, refl)) $ join ! $ flt_i ! n (2 ^ 64) fits $ feq_i ! (List Val) (vint w64 n ∷ []) (vint w64 n ∷ []) refl $ fjoin ! $ feq_i ! (List Val) (ptr_val x.ptr ∷ []) (ptr_val x.ptr ∷ []) refl $ use2 𝓛 (‵ ((Tuple (RawPtr ∷ usize ∷ [])).own_val (x.ptr, n) (pair_val (ptr_val x.ptr) (vint w64 n) ∷ []))) (pair_of 𝓛 (RawPtr) (usize) (x.ptr) (n) (ptr_val x.ptr) (vint w64 n)) $ nothing ! $ nothing ! $ fjoin ! $ move ! (3 ∷ 0 ∷ 1 ∷ 2 ∷ []) $
    by ! (leaves 𝓛 En₀ stays c z (pair_val (ptr_val x.ptr) (vint w64 n)) (x.ptr, n) (tt, tt) (tt, tt))))
