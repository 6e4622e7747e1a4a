-- `lend` cuts the bytes of some units out of the free ones. Assumes `Logic`.
use Rattle.tlsf_arena.proofs.Walking.{◌≡◌, ℕ, suc, ◌+◌, ◌-◌, ◌*◌, ◌/◌, ◌%◌, ◌^◌, ◌<◌, ◌≤◌, Bool, true, false, length, replicate, List, [], ◌∷◌, ◌++◌, refl, sym, ap, ◌∙◌, arith, w64, length-append, length-replicate, Goes-blank, after, pair_of, pair_val, proved_at, leaves, IsRun, marked, free_rooms, Fn, Val, vint, vptr, SProp, emp, Env, WpFn, fact, fact_i, tables, ‵, raw, ◌⊛◌, prop, at_ret, ◌$◌, ◌∵◌, !, qed, by, move, drop, use0, use1, use2, split, rewrite, regoal, fsplit, fjoin, whole, sub, agg, stop, fld, lit, bin, of_opd, no_more, and_then, first, blocks, exec, returns, enter, alloc_all, pass_all, free_all, look_at, get, get_in, sets, sets_last, is, env, owns, Ptr, block_ptr, types_at, nothing, heard, Tuple, alive, Stays, stay_dropped, walk_of, Goes-dropped, slot_at, list_val, list_own, list_told, list_made, sized_val, sized_own, sized_made, Region, bytes_at}
use Rattle.tlsf_arena.proofs.Rooms.{marked_run, same_length, lends}
use Rattle.tlsf_arena.specs.contracts.piece.Piece as piece
use Rattle.tlsf_arena.specs.contracts.space.Space as space
use Rattle.tlsf_arena.specs.contracts.space.Space.lend.{ended as En₀, clauses}
use Rattle.tlsf_arena.specs.contracts.space.Space.lend.Key.{name as #self}
use Rattle.tlsf_arena.proofs.space.Space.lend.Statement.{statement}
use Rattle.tlsf_arena.proofs.space.Space.lend.Code as compiled

pub lend_spec : {M : Type 1} → statement M
lend_spec 𝓤 𝓛 𝓜 𝓡 wired =
    let c = clauses 𝓛 𝓜.mem 𝓡.returns in
    let fn : Fn = compiled.function in
    let stays : Stays En₀.signature.params En₀.kept = (stay_dropped (slot_at 0 En₀.signature.params) En₀.kept.0, (stay_dropped (slot_at 1 En₀.signature.params) En₀.kept.1.0, (stay_dropped (slot_at 2 En₀.signature.params) En₀.kept.1.1.0, tt))) in
    let 𝓣 = tables 𝓤 𝓛.H 𝓜 𝓡 𝓡.env in
    proved_at 𝓛 En₀ stays c 𝓜 𝓡 (Goes-blank 𝓛 0 (slot_at 0 En₀.signature.params) En₀.kept.0 (λ κs x f. tt), (Goes-dropped 𝓛 0 (slot_at 1 En₀.signature.params) En₀.kept.1.0 (λ κs x f. refl), (Goes-dropped 𝓛 0 (slot_at 2 En₀.signature.params) En₀.kept.1.1.0 (λ κs x f. refl), tt))) #self fn (compiled.unfolded 𝓤 𝓛.H 𝓜 𝓡 wired) (λ z are.
    let Post : Val → SProp 𝓤 = (walk_of 𝓛 En₀ stays c).post z in
    let a = z.0.3 in
    let vss = z.0.4 in
    let x = a.0 in
    let i₀ = a.1.0 in
    let n = a.1.1.0 in
    let r : Region = x.region in
    let b = r.block in
    let start : Ptr = block_ptr b r.start in
    let told : vss.0 ≡ list_val start ∷ [] = (list_told x.base vss.0 are.0.0).0 ∙ ap (λ (p : Ptr). list_val p ∷ []) x.placed.0 in
    let k = n / 16 - 1 in
    let Asked : Type 0 = IsRun x.free i₀ (n / 16) true × (16 ≤ n) × (n % 16 ≡ 0) in
    qed 𝓛 ((raw (alive 𝓛 En₀.signature z.0.0 z.0.1) ⊛ ‵ (owns (types_at En₀.signature.params z.0.0) a vss)) ∷ raw (fact 𝓤 Asked) ∷ []) ∵ move ! (1 ∷ []) $ heard ! Asked (λ asked. split ! $ move ! (1 ∷ []) $
    let pre : List Bool = asked.0.0.0 in let post : List Bool = asked.0.0.1 in
    let many : n / 16 ≡ suc k = omega (arith, asked.1) in
    let bytes : 16 * suc k ≡ n = omega (arith, asked.1, asked.2) in
    let at = r.start + 16 * i₀ in
    let here : r.start + 16 * length pre ≡ at = ap (λ (j : ℕ). r.start + 16 * j) asked.0.2 in
    let was : x.free ≡ pre ++ (replicate (suc k) true ++ post) = asked.0.1 ∙ ap (λ (j : ℕ). pre ++ (replicate j true ++ post)) many in
    let left : List Bool = pre ++ (replicate (suc k) false ++ post) in
    let is_left : left ≡ marked x.free i₀ (n / 16) false = ap (λ (j : ℕ). pre ++ (replicate j false ++ post)) (sym many) ∙ sym (marked_run x.free i₀ (n / 16) true false asked.0) in
    let covers : r.start + 16 * length left ≡ r.end = ap (λ (j : ℕ). r.start + 16 * j) (same_length pre post (suc k) false true ∙ ap length (sym was)) ∙ x.placed.2 in
    let ends : at + n ≤ r.end = omega (arith, covers, length-append pre (replicate (suc k) false ++ post), length-append (replicate (suc k) false) post, length-replicate {A = Bool} (suc k) false, bytes, asked.0.2) in
    fsplit ! $ fsplit ! $ drop ! $ move ! (1 ∷ []) $ drop ! $
    rewrite ! 0 (λ (l : List Bool). ‵ (free_rooms b r.start l)) was refl $
    use1 𝓛 (‵ (free_rooms b r.start left) ⊛ ‵ (bytes_at (block_ptr b (r.start + 16 * length pre)) (16 * suc k))) (lends 𝓛 b r.start pre post k) $ split ! $
    rewrite ! 1 (λ (u : ℕ × ℕ). ‵ (bytes_at (block_ptr b u.0) u.1)) (λ i. (here i, bytes i)) refl $
    let ptr : Ptr = block_ptr b at in
    regoal ! (λ (us : List Val). prop (WpFn 𝓤 𝓛.H 𝓣.C 𝓣.Λ fn us Post)) (λ i. told i ++ (are.1.0.0 i ++ (are.1.1.0.0 i ++ []))) refl $
    enter ! 𝓣.C 𝓣.Λ fn (list_val start ∷ vint w64 i₀ ∷ vint w64 n ∷ []) Post $
    alloc_all ! (λ l. pass_all ! refl ((tt, (tt, tt)), ((tt, record { fits = are.1.0.1 }), ((tt, record { fits = are.1.1.0.1 }), tt))) $ let En : Env 𝓤 𝓛.H = env fn.locals l in
    sets ! (of_opd ! (get_in ! (fld ! refl (stop !)) (sub ! 0 refl (whole !)))) refl (tt, tt) $
    first ! $ blocks ! $
    let short : i₀ * 16 < 2 ^ 64 = omega (arith, ends, x.placed.1) in
    sets ! (bin ! (get ! refl) (lit ! tt) (record { fits = short })) refl (tt, record { fits = short }) $
    sets_last ! (is ! (bin ! (get ! refl) (get ! refl) tt) (ap (vptr b) (omega arith))) refl (tt, tt) $
    exec ! 𝓣.C 𝓣.Λ En (after 2 fn.body) (at_ret En Post) $
    sets ! (of_opd ! (get ! refl)) refl (tt, tt) $
    sets ! (agg ! (and_then ! (get ! refl) (no_more !))) refl (tt, (tt, tt)) $
    sets ! (agg ! (and_then ! (get ! refl) (and_then ! (get ! refl) (no_more !)))) refl (tt, (tt, (record { fits = are.1.1.0.1 }, tt))) $
    sets ! (agg ! (and_then ! (get ! refl) (and_then ! (get ! refl) (no_more !)))) refl (tt, ((tt, tt), ((tt, (record { fits = are.1.1.0.1 }, tt)), tt))) $
    returns ! (look_at ! 0 refl) $ free_all ! refl $
    let y : (space.the_row).Denot = record { base = start; region = r; free = left; placed = (refl, x.placed.1, covers) } in
    let w : (piece.the_row).Denot = record { ptr = ptr; size = n; region = r; at = at; placed = (refl, omega arith, ends, x.placed.1, (asked.1, asked.2, omega arith)) } in
    let Out : Type 0 = (start ≡ x.base) × (r ≡ r) × (left ≡ marked x.free i₀ (n / 16) false) × (r ≡ r) × (at ≡ r.start + 16 * i₀) × (n ≡ n) in
    use0 𝓛 (‵ (list_own start (list_val start ∷ []))) (list_made 𝓛 start tt) $ fjoin ! $ move ! (1 ∷ []) $
    use0 𝓛 (‵ (sized_own ptr n (sized_val ptr n ∷ []))) (sized_made 𝓛 ptr n are.1.1.0.1) $ fjoin ! $ move ! (1 ∷ 0 ∷ []) $
    use2 𝓛 (‵ ((Tuple (space.the_row ∷ piece.the_row ∷ [])).own_val (y, w) (pair_val (list_val start) (sized_val ptr n) ∷ []))) (pair_of 𝓛 (space.the_row) (piece.the_row) y w (list_val start) (sized_val ptr n)) $
    use0 𝓛 (raw (fact 𝓤 Out)) (fact_i 𝓤 Out (emp 𝓤) (sym x.placed.0, refl, is_left, refl, refl, refl)) $ nothing ! $ nothing ! $ fjoin ! $ nothing ! $ fjoin ! $ nothing ! $ fjoin ! $ move ! (3 ∷ 0 ∷ 2 ∷ 1 ∷ []) $
    by ! (leaves 𝓛 En₀ stays c z (pair_val (list_val start) (sized_val ptr n)) (y, w) (tt, (tt, (tt, tt))) (tt, (tt, (tt, tt)))))))
