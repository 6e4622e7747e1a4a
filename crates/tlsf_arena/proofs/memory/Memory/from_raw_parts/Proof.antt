-- `from_raw_parts` takes over what the caller owns. Assumes `Logic`.
use Rattle.tlsf_arena.proofs.Walking.{◌≡◌, List, [], ◌∷◌, ◌++◌, refl, w64, and_tt, proved_at, leaves, Fn, Val, vint, SProp, emp, Env, WpFn, fact, fact_i, tables, ‵, raw, ◌⊛◌, prop, ◌$◌, ◌∵◌, !, qed, by, move, keep, use0, split, regoal, fjoin, agg, no_more, and_then, returns, enter, alloc_all, pass_all, free_all, look_at, get, sets, env, owns, ptr_val, types_at, nothing, heard, alive, Stays, stay_dropped, walk_of, Goes-dropped, ptr_typed, sized_val, sized_own, sized_made, IsRegionSize, bytes_at, slot_at}
use Rattle.tlsf_arena.specs.contracts.memory.Memory as block
use Rattle.tlsf_arena.specs.contracts.memory.Memory.from_raw_parts.{ended as En₀, clauses}
use Rattle.tlsf_arena.specs.contracts.memory.Memory.from_raw_parts.Key.{name as #self}
use Rattle.tlsf_arena.proofs.memory.Memory.from_raw_parts.Statement.{statement}
use Rattle.tlsf_arena.proofs.memory.Memory.from_raw_parts.Code as compiled

pub from_raw_parts_spec : {M : Type 1} → statement M
from_raw_parts_spec 𝓤 𝓛 𝓜 𝓡 wired =
    let c = clauses 𝓛 𝓜.mem 𝓡.returns in
    let fn : Fn = compiled.function in
    let stays : Stays En₀.signature.params En₀.kept = (stay_dropped (slot_at 0 En₀.signature.params) En₀.kept.0, (stay_dropped (slot_at 1 En₀.signature.params) En₀.kept.1.0, tt)) in
    let 𝓣 = tables 𝓤 𝓛.H 𝓜 𝓡 𝓡.env in
    proved_at 𝓛 En₀ stays c 𝓜 𝓡 (Goes-dropped 𝓛 0 (slot_at 0 En₀.signature.params) En₀.kept.0 (λ κs x f. refl), (Goes-dropped 𝓛 0 (slot_at 1 En₀.signature.params) En₀.kept.1.0 (λ κs x f. refl), tt)) #self fn (compiled.unfolded 𝓤 𝓛.H 𝓜 𝓡 wired) (λ z are.
    let Post : Val → SProp 𝓤 = (walk_of 𝓛 En₀ stays c).post z in
    let a = z.0.3 in
    let p = a.0 in
    let n = a.1.0 in
    let fits = are.1.0.1 in
    let Asked : Type 0 = IsRegionSize n in
    qed 𝓛 ((raw (alive 𝓛 En₀.signature z.0.0 z.0.1) ⊛ ‵ (owns (types_at En₀.signature.params z.0.0) a z.0.4)) ∷ (raw (fact 𝓤 Asked) ⊛ ‵ (bytes_at p n)) ∷ []) ∵ move ! (1 ∷ []) $ split ! $ heard ! Asked (λ asked. move ! (1 ∷ []) $ split ! $ keep ! (2 ∷ 0 ∷ []) $
    let x : (block.the_row).Denot = record { ptr = p; size = n; fits = asked } in
    regoal ! (λ (us : List Val). prop (WpFn 𝓤 𝓛.H 𝓣.C 𝓣.Λ fn us Post)) (λ i. are.0 i ++ (are.1.0.0 i ++ [])) refl $
    enter ! 𝓣.C 𝓣.Λ fn (ptr_val p ∷ vint w64 n ∷ []) Post $
    alloc_all ! (λ l. pass_all ! refl ((ptr_typed p), ((tt, record { fits = fits }), tt)) $ let En : Env 𝓤 𝓛.H = env fn.locals l in
    sets ! (agg ! (and_then ! (get ! refl) (and_then ! (get ! refl) (no_more !)))) refl (and_tt _ ((ptr_typed p).0), ((ptr_typed p).1, (record { fits = fits }, tt))) $
    returns ! (look_at ! 0 refl) $ free_all ! refl $
    use0 𝓛 (‵ (sized_own x.ptr n (sized_val x.ptr n ∷ []))) (sized_made 𝓛 x.ptr n fits) $ fjoin ! $ use0 𝓛 (raw (fact 𝓤 ((p ≡ p) × (n ≡ n)))) (fact_i 𝓤 ((p ≡ p) × (n ≡ n)) (emp 𝓤) (refl, refl)) $ nothing ! $ nothing ! $ fjoin ! $ nothing ! $ fjoin ! $ move ! (3 ∷ 0 ∷ 2 ∷ 1 ∷ []) $
    by ! (leaves 𝓛 En₀ stays c z (sized_val p n) (x) (tt, (tt, tt)) (tt, (tt, tt))))))
