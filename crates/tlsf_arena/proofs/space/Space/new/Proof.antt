-- `new` reads the address, and sees the memory as units, each free. Assumes `Logic`.
use Rattle.tlsf_arena.proofs.Walking.{◌≡◌, ℕ, suc, ◌+◌, ◌-◌, ◌*◌, ◌/◌, ◌^◌, ◌<◌, Bool, true, length, replicate, List, [], ◌∷◌, ◌++◌, refl, sym, ap, subst, ◌∙◌, arith, length-replicate, Goes-blank, proved_at, leaves, free_rooms, Fn, Val, SProp, emp, never, id⊢, Env, WpFn, fact, fact_i, tables, ‵, raw, ◌⊛◌, prop, ◌$◌, ◌∵◌, !, qed, by, move, drop, use0, use1, use2, split, feq_i, pair_of, pair_val, ptr_val, RawPtr, Tuple, regoal, fsplit, fjoin, whole, sub, agg, stop, fld, of_opd, no_more, and_then, returns, enter, alloc_all, pass_all, free_all, look_at, get, get_in, sets, env, owns, Ptr, block_ptr, in_a_block, count_of, types_at, nothing, heard, alive, Stays, stay_dropped, walk_of, slot_at, list_val, list_own, list_made, sized_val, sized_told, resized, Region, region_of, bytes_at}
use Rattle.tlsf_arena.proofs.Rooms.{cut_up}
use Rattle.tlsf_arena.specs.contracts.space.Space as space
use Rattle.tlsf_arena.specs.contracts.space.Space.new.{ended as En₀, clauses}
use Rattle.tlsf_arena.specs.contracts.space.Space.new.Key.{name as #self}
use Rattle.tlsf_arena.proofs.space.Space.new.Statement.{statement}
use Rattle.tlsf_arena.proofs.space.Space.new.Code as compiled

pub new_spec : {M : Type 1} → statement M
new_spec 𝓤 𝓛 𝓜 𝓡 wired =
    let c = clauses 𝓛 𝓜.mem 𝓡.returns in
    let fn : Fn = compiled.function in
    let stays : Stays En₀.signature.params En₀.kept = (stay_dropped (slot_at 0 En₀.signature.params) En₀.kept.0, tt) in
    let 𝓣 = tables 𝓤 𝓛.H 𝓜 𝓡 𝓡.env in
    proved_at 𝓛 En₀ stays c 𝓜 𝓡 (Goes-blank 𝓛 0 (slot_at 0 En₀.signature.params) En₀.kept.0 (λ κs x f. tt), tt) #self fn (compiled.unfolded 𝓤 𝓛.H 𝓜 𝓡 wired) (λ z are.
    let Post : Val → SProp 𝓤 = (walk_of 𝓛 En₀ stays c).post z in
    let x = z.0.3.0 in
    let n = x.size in
    let told = sized_told x.ptr n z.0.4.0 are.0.0 in
    let fits = told.1 in
    let k = n / 16 - 1 in
    let Asked : Type 0 = count_of x.ptr + n < 2 ^ 63 in
    let many : n / 16 ≡ suc k = omega (arith, x.fits.0) in
    let sized : n ≡ 16 * suc k = omega (arith, x.fits.0, x.fits.1) in
    qed 𝓛 ((raw (alive 𝓛 En₀.signature z.0.0 z.0.1) ⊛ ‵ (owns (types_at En₀.signature.params z.0.0) z.0.3 z.0.4)) ∷ raw (fact 𝓤 Asked) ∷ []) ∵ move ! (1 ∷ []) $ heard ! Asked (λ asked. split ! $ move ! (1 ∷ []) $
    fsplit ! $ fsplit ! $ drop ! $ move ! (1 ∷ []) $ drop ! $ in_a_block ! x.ptr (λ p. bytes_at p n) (id⊢ 𝓤 (never 𝓤)) (λ b o at.
    let start : Ptr = block_ptr b o in let r : Region = region_of start n in
    let top : o + n < 2 ^ 63 = subst (λ (p : Ptr). count_of p + n < 2 ^ 63) at asked in
    use1 𝓛 (‵ (bytes_at start (16 * suc k))) (resized 𝓛 b o n (16 * suc k) sized) $
    use1 𝓛 (‵ (free_rooms b o (replicate (suc k) true))) (cut_up 𝓛 b o k) $
    regoal ! (λ (us : List Val). prop (WpFn 𝓤 𝓛.H 𝓣.C 𝓣.Λ fn us Post)) (λ i. (told.0 ∙ ap (λ (p : Ptr). sized_val p n ∷ []) at) i ++ []) refl $
    enter ! 𝓣.C 𝓣.Λ fn (sized_val start n ∷ []) Post $
    alloc_all ! (λ l. pass_all ! refl ((tt, (tt, (record { fits = fits }, tt))), tt) $ let En : Env 𝓤 𝓛.H = env fn.locals l in
    sets ! (of_opd ! (get_in ! (fld ! refl (stop !)) (sub ! 0 refl (whole !)))) refl (tt, tt) $
    sets ! (agg ! (and_then ! (get ! refl) (no_more !))) refl (tt, (tt, tt)) $
    sets ! (agg ! (and_then ! (get ! refl) (and_then ! (get ! refl) (no_more !)))) refl (tt, (tt, ((tt, tt), tt))) $
    returns ! (look_at ! 0 refl) $ free_all ! refl $
    let covers : o + 16 * length (replicate (suc k) true) ≡ o + n = omega (arith, length-replicate {A = Bool} (suc k) true, sized) in
    let y : (space.the_row).Denot = record { base = start; region = r; free = replicate (suc k) true; placed = (refl, top, covers) } in
    let v : Val = pair_val (ptr_val start) (list_val start) in
    let Out : Type 0 = (start ≡ x.ptr) × (r ≡ region_of x.ptr n) × (start ≡ x.ptr) × (replicate (suc k) true ≡ replicate (n / 16) true) in
    use0 𝓛 (‵ (list_own start (list_val start ∷ []))) (list_made 𝓛 start tt) $ fjoin ! $ feq_i ! (List Val) (ptr_val start ∷ []) (ptr_val start ∷ []) refl $
    use2 𝓛 (‵ ((Tuple (RawPtr ∷ space.the_row ∷ [])).own_val (start, y) (v ∷ []))) (pair_of 𝓛 RawPtr space.the_row start y (ptr_val start) (list_val start)) $
    use0 𝓛 (raw (fact 𝓤 Out)) (fact_i 𝓤 Out (emp 𝓤) (sym at, ap (λ (p : Ptr). region_of p n) (sym at), sym at, ap (λ (j : ℕ). replicate j true) (sym many))) $ nothing ! $ nothing ! $ fjoin ! $ move ! (3 ∷ 0 ∷ 2 ∷ 1 ∷ []) $
    by ! (leaves 𝓛 En₀ stays c z v (start, y) (tt, tt) (tt, tt))))))
