-- `take_back` joins the bytes of the piece to those of the free units. Assumes `Logic`.
use Rattle.tlsf_arena.proofs.Walking.{◌≡◌, ℕ, suc, ◌+◌, ◌-◌, ◌*◌, ◌/◌, ◌%◌, ◌≤◌, Bool, true, false, length, replicate, List, [], ◌∷◌, ◌++◌, refl, sym, ap, subst, ◌∙◌, arith, Goes-blank, pair_of, pair_val, proved_at, leaves, IsRun, marked, grain_of, free_rooms, Fn, Val, vunit, SProp, emp, Env, WpFn, fact, fact_i, tables, ‵, raw, ◌⊛◌, prop, ◌$◌, ◌∵◌, !, qed, by, move, drop, use0, use2, split, rewrite, regoal, fsplit, fsplit3, fjoin, feq_i, whole, sub, agg, stop, fld, unit_lit, of_opd, no_more, and_then, returns, enter, alloc_all, pass_all, free_all, look_at, get, get_in, sets, env, owns, unit, Ptr, block_ptr, types_at, nothing, heard, Tuple, alive, Stays, stay_dropped, walk_of, slot_at, list_val, list_own, list_told, list_made, sized_val, sized_told, Region, bytes_at}
use Rattle.tlsf_arena.proofs.Rooms.{marked_run, same_length, takes}
use Rattle.tlsf_arena.specs.contracts.space.Space as space
use Rattle.tlsf_arena.specs.contracts.space.Space.take_back.{ended as En₀, clauses}
use Rattle.tlsf_arena.specs.contracts.space.Space.take_back.Key.{name as #self}
use Rattle.tlsf_arena.proofs.space.Space.take_back.Statement.{statement}
use Rattle.tlsf_arena.proofs.space.Space.take_back.Code as compiled

pub take_back_spec : {M : Type 1} → statement M
take_back_spec 𝓤 𝓛 𝓜 𝓡 wired =
    let c = clauses 𝓛 𝓜.mem 𝓡.returns in
    let fn : Fn = compiled.function in
    let stays : Stays En₀.signature.params En₀.kept = (stay_dropped (slot_at 0 En₀.signature.params) En₀.kept.0, (stay_dropped (slot_at 1 En₀.signature.params) En₀.kept.1.0, tt)) in
    let 𝓣 = tables 𝓤 𝓛.H 𝓜 𝓡 𝓡.env in
    proved_at 𝓛 En₀ stays c 𝓜 𝓡 (Goes-blank 𝓛 0 (slot_at 0 En₀.signature.params) En₀.kept.0 (λ κs x f. tt), (Goes-blank 𝓛 0 (slot_at 1 En₀.signature.params) En₀.kept.1.0 (λ κs x f. tt), tt)) #self fn (compiled.unfolded 𝓤 𝓛.H 𝓜 𝓡 wired) (λ z are.
    let Post : Val → SProp 𝓤 = (walk_of 𝓛 En₀ stays c).post z in
    let a = z.0.3 in
    let vss = z.0.4 in
    let x = a.0 in
    let w = a.1.0 in
    let n = w.size in
    let r : Region = x.region in
    let b = r.block in
    let start : Ptr = block_ptr b r.start in
    let told : vss.0 ≡ list_val start ∷ [] = (list_told x.base vss.0 are.0.0).0 ∙ ap (λ (p : Ptr). list_val p ∷ []) x.placed.0 in
    let sized = sized_told w.ptr n vss.1.0 are.1.0.0 in
    let fits = sized.1 in
    let k = n / 16 - 1 in
    let at = grain_of r w.at in
    let Asked : Type 0 = (w.region ≡ r) × IsRun x.free at (n / 16) false in
    qed 𝓛 ((raw (alive 𝓛 En₀.signature z.0.0 z.0.1) ⊛ ‵ (owns (types_at En₀.signature.params z.0.0) a vss)) ∷ raw (fact 𝓤 Asked) ∷ []) ∵ move ! (1 ∷ []) $ heard ! Asked (λ asked. split ! $ move ! (1 ∷ []) $
    let lies : w.ptr ≡ block_ptr b w.at = w.placed.0 ∙ ap (λ (g : Region). block_ptr g.block w.at) asked.0 in
    let pre : List Bool = asked.1.0.0 in let post : List Bool = asked.1.0.1 in
    let many : n / 16 ≡ suc k = omega (arith, w.placed.4.0) in
    let bytes : n ≡ 16 * suc k = omega (arith, w.placed.4.0, w.placed.4.1) in
    let low : r.start ≤ w.at = subst (λ (g : Region). g.start ≤ w.at) asked.0 w.placed.1 in
    let even : (w.at - r.start) % 16 ≡ 0 = subst (λ (g : Region). (w.at - g.start) % 16 ≡ 0) asked.0 w.placed.4.2 in
    let here : w.at ≡ r.start + 16 * length pre = omega (arith, low, even, asked.1.2) in
    let was : x.free ≡ pre ++ (replicate (suc k) false ++ post) = asked.1.1 ∙ ap (λ (j : ℕ). pre ++ (replicate j false ++ post)) many in
    let left : List Bool = pre ++ (replicate (suc k) true ++ post) in
    let is_left : left ≡ marked x.free at (n / 16) true = ap (λ (j : ℕ). pre ++ (replicate j true ++ post)) (sym many) ∙ sym (marked_run x.free at (n / 16) false true asked.1) in
    fsplit3 ! $ fsplit ! $ drop ! $ move ! (2 ∷ []) $ drop ! $ move ! (1 ∷ []) $ fsplit ! $ drop ! $
    rewrite ! 0 (λ (u : Ptr × ℕ). ‵ (bytes_at u.0 u.1)) (λ i. ((lies ∙ ap (block_ptr b) here) i, bytes i)) refl $ move ! (1 ∷ []) $
    rewrite ! 0 (λ (l : List Bool). ‵ (free_rooms b r.start l)) was refl $
    use2 𝓛 (‵ (free_rooms b r.start left)) (takes 𝓛 b r.start pre post k) $
    regoal ! (λ (us : List Val). prop (WpFn 𝓤 𝓛.H 𝓣.C 𝓣.Λ fn us Post)) (λ i. told i ++ ((sized.0 ∙ ap (λ (p : Ptr). sized_val p n ∷ []) lies) i ++ [])) refl $
    enter ! 𝓣.C 𝓣.Λ fn (list_val start ∷ sized_val (block_ptr b w.at) n ∷ []) Post $
    alloc_all ! (λ l. pass_all ! refl ((tt, (tt, tt)), ((tt, (tt, (record { fits = fits }, tt))), tt)) $ let En : Env 𝓤 𝓛.H = env fn.locals l in
    sets ! (of_opd ! (get_in ! (fld ! refl (stop !)) (sub ! 0 refl (whole !)))) refl (tt, tt) $
    sets ! (agg ! (and_then ! (get ! refl) (no_more !))) refl (tt, (tt, tt)) $
    sets ! (agg ! (and_then ! (get ! refl) (and_then ! (unit_lit !) (no_more !)))) refl (tt, ((tt, tt), (tt, tt))) $
    returns ! (look_at ! 0 refl) $ free_all ! refl $
    let covers : r.start + 16 * length left ≡ r.end = ap (λ (j : ℕ). r.start + 16 * j) (same_length pre post (suc k) true false ∙ ap length (sym was)) ∙ x.placed.2 in
    let y : (space.the_row).Denot = record { base = start; region = r; free = left; placed = (refl, x.placed.1, covers) } in
    let Out : Type 0 = (start ≡ x.base) × (r ≡ r) × (left ≡ marked x.free at (n / 16) true) in
    use0 𝓛 (‵ (list_own start (list_val start ∷ []))) (list_made 𝓛 start tt) $ fjoin ! $
    feq_i ! (List Val) (vunit ∷ []) (vunit ∷ []) refl $ move ! (1 ∷ 0 ∷ []) $ use2 𝓛 (‵ ((Tuple (space.the_row ∷ unit ∷ [])).own_val (y, tt) (pair_val (list_val start) vunit ∷ []))) (pair_of 𝓛 (space.the_row) unit y tt (list_val start) vunit) $
    use0 𝓛 (raw (fact 𝓤 Out)) (fact_i 𝓤 Out (emp 𝓤) (sym x.placed.0, refl, is_left)) $ nothing ! $ nothing ! $ fjoin ! $ nothing ! $ fjoin ! $ move ! (3 ∷ 0 ∷ 2 ∷ 1 ∷ []) $
    by ! (leaves 𝓛 En₀ stays c z (pair_val (list_val start) vunit) (y, tt) (tt, (tt, tt)) (tt, (tt, tt))))))
