-- `close` takes the bytes from `dislodge`. Assumes `Logic`.
use Rattle.tlsf_arena.proofs.Walking.{◌≡◌, ℕ, ◌<◌, ◌^◌, List, [], ◌∷◌, ◌++◌, refl, sym, ap, ◌∙◌, arith, w64, fm, Goes-blank, proved_at, leaves, lodged, Fn, Val, vint, SProp, emp, Env, WpFn, fact, fact_i, tables, ‵, raw, ◌⊛◌, given, later, prop, ◌$◌, ◌∵◌, !, qed, by, move, drop, use0, use1, use2, split, learn, await, rewrite, regoal, fsplit, fjoin, whole, sub, agg, stop, fld, of_opd, no_more, and_then, returns, enter, alloc_all, pass_all, free_all, look_at, get, get_in, sets, lands_as, env, u8, owns, Ptr, block_ptr, types_at, nothing, heard, calls_at, alive, Stays, stay_dropped, walk_of, bytes_at, slot_at, sized_val, sized_own, sized_told, sized_made}
use Rattle.std_alloc.proofs.vec.lodged.Vec+T+Lodged.dislodge.Met as callee
use Rattle.tlsf_arena.specs.FilledPieces.{piece_within}
use Rattle.tlsf_arena.proofs.Lodging.{byte_laws, vec_tells, piece_in, Dislodges, at_dislodge, dislodge_goes, dislodge_gives}
use Rattle.tlsf_arena.specs.contracts.piece.Piece as piece
use Rattle.tlsf_arena.specs.contracts.husk.Husk.close.{ended as En₀, clauses}
use Rattle.tlsf_arena.specs.contracts.husk.Husk.close.Key.{name as #self}
use Rattle.tlsf_arena.proofs.husk.Husk.close.Statement.{statement}
use Rattle.tlsf_arena.proofs.husk.Husk.close.Code as compiled

pub close_spec : {M : Type 1} → statement M
close_spec 𝓤 𝓛 𝓜 𝓡 wired =
    let c = clauses 𝓛 𝓜.mem 𝓡.returns in
    let fn : Fn = compiled.function in
    let stays : Stays En₀.signature.params En₀.kept = (stay_dropped (slot_at 0 En₀.signature.params) En₀.kept.0, (stay_dropped (slot_at 1 En₀.signature.params) En₀.kept.1.0, tt)) in
    let 𝓣 = tables 𝓤 𝓛.H 𝓜 𝓡 𝓡.env in
    let met = callee.met 𝓤 𝓛 𝓜 𝓡 (compiled.calls-std_alloc::vec::lodged::Vec+T+Lodged::dislodge 𝓡.env wired) u8 byte_laws in
    proved_at 𝓛 En₀ stays c 𝓜 𝓡 (Goes-blank 𝓛 0 (slot_at 0 En₀.signature.params) En₀.kept.0 (λ κs x f. tt), (Goes-blank 𝓛 0 (slot_at 1 En₀.signature.params) En₀.kept.1.0 (λ κs x f. tt), tt)) #self fn (compiled.unfolded 𝓤 𝓛.H 𝓜 𝓡 wired) (λ z are.
    let Post : Val → SProp 𝓤 = (walk_of 𝓛 En₀ stays c).post z in
    let a = z.0.3 in
    let vss = z.0.4 in
    let x = a.0 in
    let d = a.1.0 in
    let n = x.size in
    let b = x.region.block in
    let o = x.at in
    let p : Ptr = block_ptr b o in
    let told = sized_told x.ptr n vss.0 are.0.0 in
    let fits = told.1 in
    let small : n < 2 ^ 63 = omega (arith, x.placed.2, x.placed.3) in
    let Asked : Type 0 = (d.ptr ≡ x.ptr) × (d.cap ≡ n) in
    qed 𝓛 ((raw (alive 𝓛 En₀.signature z.0.0 z.0.1) ⊛ ‵ (owns (types_at En₀.signature.params z.0.0) a vss)) ∷ raw (fact 𝓤 Asked) ∷ []) ∵ move ! (1 ∷ []) $ heard ! Asked (λ asked. split ! $ move ! (1 ∷ []) $
    fsplit ! $ fsplit ! $ drop ! $ move ! (1 ∷ []) $ fsplit ! $ vec_tells ! d vss.1.0 (λ u is good. move ! (1 ∷ []) $ drop ! $
    regoal ! (λ (us : List Val). prop (WpFn 𝓤 𝓛.H 𝓣.C 𝓣.Λ fn us Post)) (λ i. (told.0 ∙ ap (λ (q : Ptr). sized_val q n ∷ []) x.placed.0) i ++ (is i ++ [])) refl $
    enter ! 𝓣.C 𝓣.Λ fn (sized_val p n ∷ u ∷ []) Post $
    alloc_all ! (λ l. pass_all ! refl ((tt, (tt, (record { fits = fits }, tt))), (good, tt)) $ let En : Env 𝓤 𝓛.H = env fn.locals l in
    let y = at_dislodge 𝓛 𝓜.mem 𝓡.returns d u in
    sets ! (of_opd ! (get_in ! (fld ! refl (stop !)) (sub ! 0 refl (whole !)))) refl (tt, tt) $
    sets ! (of_opd ! (get_in ! (fld ! refl (stop !)) (sub ! 1 refl (whole !)))) refl (tt, record { fits = fits }) $
    sets ! (of_opd ! (get ! refl)) refl good $ use1 𝓛 (raw ((Dislodges 𝓛 𝓜.mem 𝓡.returns).pre y)) (dislodge_goes 𝓛 𝓜.mem 𝓡.returns d u) $
    calls_at ! (fm 𝓛 𝓜 𝓡) (Dislodges 𝓛 𝓜.mem 𝓡.returns) met y (and_then ! (get ! refl) (no_more !)) (λ v.
    use1 𝓛 (later (given ((v ≡ vint w64 d.len) × (d.len < 2 ^ 64)) (‵ (lodged u8 d.ptr d.len d.cap d.items)))) (dislodge_gives 𝓛 𝓜.mem 𝓡.returns d u v) $ await ! tt $ learn ! (λ got.
    lands_as ! got.0 refl (tt, record { fits = got.1 }) $
    sets ! (agg ! (and_then ! (get ! refl) (and_then ! (get ! refl) (no_more !)))) refl (tt, (tt, (record { fits = fits }, tt))) $
    returns ! (look_at ! 0 refl) $ free_all ! refl $
    rewrite ! 0 (λ (g : Ptr × ℕ). ‵ (lodged u8 g.0 d.len g.1 d.items)) (λ i. ((asked.0 ∙ x.placed.0) i, asked.1 i)) refl $
    use2 𝓛 (‵ (bytes_at p n)) (piece_in 𝓛 b o n (omega (arith, x.placed.4.0)) x.placed.4.1 small d.len d.items (omega (arith, d.ok.1, asked.1))) $
    let w : (piece.the_row).Denot = piece_within x in
    let Out : Type 0 = w ≡ piece_within x in
    rewrite ! 0 (λ (q : Ptr). ‵ (bytes_at q n)) (sym x.placed.0) refl $
    use0 𝓛 (‵ (sized_own x.ptr n (sized_val x.ptr n ∷ []))) (sized_made 𝓛 x.ptr n fits) $ rewrite ! 0 (λ (q : Ptr). ‵ (sized_own x.ptr n (sized_val q n ∷ []))) x.placed.0 refl $ fjoin ! $
    use0 𝓛 (raw (fact 𝓤 Out)) (fact_i 𝓤 Out (emp 𝓤) refl) $
    nothing ! $ nothing ! $ fjoin ! $ nothing ! $ fjoin ! $ move ! (3 ∷ 0 ∷ 2 ∷ 1 ∷ []) $
    by ! (leaves 𝓛 En₀ stays c z (sized_val p n) w (tt, (tt, tt)) (tt, (tt, tt)))))))))
