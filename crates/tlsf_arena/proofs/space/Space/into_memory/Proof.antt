-- `into_memory` sees the units, all free, as the memory again. Assumes `Logic`.
use Rattle.tlsf_arena.proofs.Walking.{◌≡◌, ℕ, suc, ◌-◌, ◌*◌, ◌/◌, Bool, true, replicate, List, [], ◌∷◌, ◌++◌, refl, sym, ap, ◌∙◌, arith, w64, Goes-blank, proved_at, leaves, free_rooms, Fn, Val, vint, SProp, emp, Env, WpFn, fact, fact_i, tables, ‵, raw, ◌⊛◌, prop, ◌$◌, ◌∵◌, !, qed, by, move, drop, use0, use1, split, rewrite, regoal, fsplit, fjoin, whole, sub, agg, stop, fld, of_opd, no_more, and_then, returns, enter, alloc_all, pass_all, free_all, look_at, get, get_in, sets, env, owns, Ptr, block_ptr, types_at, nothing, heard, alive, Stays, stay_dropped, walk_of, Goes-dropped, slot_at, list_val, list_told, sized_val, sized_own, sized_made, resized, Region, IsRegionSize, bytes_at}
use Rattle.tlsf_arena.proofs.Rooms.{whole as all_rooms}
use Rattle.tlsf_arena.specs.contracts.memory.Memory as memory
use Rattle.tlsf_arena.specs.contracts.space.Space.into_memory.{ended as En₀, clauses}
use Rattle.tlsf_arena.specs.contracts.space.Space.into_memory.Key.{name as #self}
use Rattle.tlsf_arena.proofs.space.Space.into_memory.Statement.{statement}
use Rattle.tlsf_arena.proofs.space.Space.into_memory.Code as compiled

pub into_memory_spec : {M : Type 1} → statement M
into_memory_spec 𝓤 𝓛 𝓜 𝓡 wired =
    let c = clauses 𝓛 𝓜.mem 𝓡.returns in
    let fn : Fn = compiled.function in
    let stays : Stays En₀.signature.params En₀.kept = (stay_dropped (slot_at 0 En₀.signature.params) En₀.kept.0, (stay_dropped (slot_at 1 En₀.signature.params) En₀.kept.1.0, tt)) in
    let 𝓣 = tables 𝓤 𝓛.H 𝓜 𝓡 𝓡.env in
    proved_at 𝓛 En₀ stays c 𝓜 𝓡 (Goes-blank 𝓛 0 (slot_at 0 En₀.signature.params) En₀.kept.0 (λ κs x f. tt), (Goes-dropped 𝓛 0 (slot_at 1 En₀.signature.params) En₀.kept.1.0 (λ κs x f. refl), tt)) #self fn (compiled.unfolded 𝓤 𝓛.H 𝓜 𝓡 wired) (λ z are.
    let Post : Val → SProp 𝓤 = (walk_of 𝓛 En₀ stays c).post z in
    let a = z.0.3 in
    let vss = z.0.4 in
    let x = a.0 in
    let n = a.1.0 in
    let r : Region = x.region in
    let b = r.block in
    let start : Ptr = block_ptr b r.start in
    let told : vss.0 ≡ list_val start ∷ [] = (list_told x.base vss.0 are.0.0).0 ∙ ap (λ (p : Ptr). list_val p ∷ []) x.placed.0 in
    let k = n / 16 - 1 in
    let Asked : Type 0 = IsRegionSize n × (x.free ≡ replicate (n / 16) true) in
    qed 𝓛 ((raw (alive 𝓛 En₀.signature z.0.0 z.0.1) ⊛ ‵ (owns (types_at En₀.signature.params z.0.0) a vss)) ∷ raw (fact 𝓤 Asked) ∷ []) ∵ move ! (1 ∷ []) $ heard ! Asked (λ asked. split ! $ move ! (1 ∷ []) $
    fsplit ! $ fsplit ! $ drop ! $ move ! (1 ∷ []) $ drop ! $
    let many : n / 16 ≡ suc k = omega (arith, asked.0.0) in
    let sized : 16 * suc k ≡ n = omega (arith, asked.0.0, asked.0.1) in
    rewrite ! 0 (λ (l : List Bool). ‵ (free_rooms b r.start l)) (asked.1 ∙ ap (λ (j : ℕ). replicate j true) many) refl $
    use1 𝓛 (‵ (bytes_at start (16 * suc k))) (all_rooms 𝓛 b r.start k) $
    use1 𝓛 (‵ (bytes_at start n)) (resized 𝓛 b r.start (16 * suc k) n sized) $
    regoal ! (λ (us : List Val). prop (WpFn 𝓤 𝓛.H 𝓣.C 𝓣.Λ fn us Post)) (λ i. told i ++ (are.1.0.0 i ++ [])) refl $
    enter ! 𝓣.C 𝓣.Λ fn (list_val start ∷ vint w64 n ∷ []) Post $
    alloc_all ! (λ l. pass_all ! refl ((tt, (tt, tt)), ((tt, record { fits = are.1.0.1 }), tt)) $ let En : Env 𝓤 𝓛.H = env fn.locals l in
    sets ! (of_opd ! (get_in ! (fld ! refl (stop !)) (sub ! 0 refl (whole !)))) refl (tt, tt) $
    sets ! (agg ! (and_then ! (get ! refl) (and_then ! (get ! refl) (no_more !)))) refl (tt, (tt, (record { fits = are.1.0.1 }, tt))) $
    returns ! (look_at ! 0 refl) $ free_all ! refl $
    let y : (memory.the_row).Denot = record { ptr = start; size = n; fits = asked.0 } in
    let Out : Type 0 = (start ≡ x.base) × (n ≡ n) in
    use0 𝓛 (‵ (sized_own start n (sized_val start n ∷ []))) (sized_made 𝓛 start n are.1.0.1) $ fjoin ! $
    use0 𝓛 (raw (fact 𝓤 Out)) (fact_i 𝓤 Out (emp 𝓤) (sym x.placed.0, refl)) $ nothing ! $ nothing ! $ fjoin ! $ nothing ! $ fjoin ! $ move ! (3 ∷ 0 ∷ 2 ∷ 1 ∷ []) $
    by ! (leaves 𝓛 En₀ stays c z (sized_val start n) y (tt, (tt, tt)) (tt, (tt, tt))))))
