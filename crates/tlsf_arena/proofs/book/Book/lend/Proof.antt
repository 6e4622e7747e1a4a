-- `lend` takes a right out of those that the book keeps. Assumes `Logic`.
use Rattle.tlsf_arena.proofs.Walking.{◌≡◌, false, List, [], ◌∷◌, ◌++◌, refl, w32, w64, Goes-blank, pair_of, pair_val, proved_at, leaves, Loan, is_out, right, rest_of, Fn, Val, vint, SProp, emp, GName, Env, WpFn, fact, fact_i, tables, ‵, raw, ◌⊛◌, prop, ◌$◌, ◌∵◌, !, qed, by, move, drop, use0, use1, use2, split, regoal, fsplit, fjoin, whole, sub, agg, stop, fld, of_opd, no_more, and_then, returns, enter, alloc_all, pass_all, free_all, look_at, get, get_in, sets, env, owns, types_at, nothing, heard, Tuple, alive, Stays, stay_dropped, walk_of, Goes-dropped, slot_at, lease_val, lease_own, lease_told, lease_made}
use Rattle.tlsf_arena.proofs.Rights.{goes_out}
use Rattle.tlsf_arena.specs.contracts.right.Right as right_type
use Rattle.tlsf_arena.specs.contracts.book.Book as book
use Rattle.tlsf_arena.specs.contracts.book.Book.lend.{ended as En₀, clauses}
use Rattle.tlsf_arena.specs.contracts.book.Book.lend.Key.{name as #self}
use Rattle.tlsf_arena.proofs.book.Book.lend.Statement.{statement}
use Rattle.tlsf_arena.proofs.book.Book.lend.Code as compiled

pub lend_spec : {M : Type 1} → statement M
lend_spec 𝓤 𝓛 𝓜 𝓡 wired =
    let c = clauses 𝓛 𝓜.mem 𝓡.returns in
    let fn : Fn = compiled.function in
    let stays : Stays En₀.signature.params En₀.kept = (stay_dropped (slot_at 0 En₀.signature.params) En₀.kept.0, (stay_dropped (slot_at 1 En₀.signature.params) En₀.kept.1.0, (stay_dropped (slot_at 2 En₀.signature.params) En₀.kept.1.1.0, (stay_dropped (slot_at 3 En₀.signature.params) En₀.kept.1.1.1.0, (stay_dropped (slot_at 4 En₀.signature.params) En₀.kept.1.1.1.1.0, tt))))) in
    let 𝓣 = tables 𝓤 𝓛.H 𝓜 𝓡 𝓡.env in
    proved_at 𝓛 En₀ stays c 𝓜 𝓡 (Goes-blank 𝓛 0 (slot_at 0 En₀.signature.params) En₀.kept.0 (λ κs x f. tt), (Goes-dropped 𝓛 0 (slot_at 1 En₀.signature.params) En₀.kept.1.0 (λ κs x f. refl), (Goes-dropped 𝓛 0 (slot_at 2 En₀.signature.params) En₀.kept.1.1.0 (λ κs x f. refl), (Goes-dropped 𝓛 0 (slot_at 3 En₀.signature.params) En₀.kept.1.1.1.0 (λ κs x f. refl), (Goes-dropped 𝓛 0 (slot_at 4 En₀.signature.params) En₀.kept.1.1.1.1.0 (λ κs x f. refl), tt))))) #self fn (compiled.unfolded 𝓤 𝓛.H 𝓜 𝓡 wired) (λ z are.
    let Post : Val → SProp 𝓤 = (walk_of 𝓛 En₀ stays c).post z in
    let a = z.0.3 in
    let x = a.0 in
    let γ : GName = x.name in
    let heap = a.1.0 in
    let at = a.1.1.0 in
    let serial = a.1.1.1.0 in
    let units = a.1.1.1.1.0 in
    let t : Loan = (heap, (at, (serial, units))) in
    let lent : List Loan = t ∷ x.out in
    let Asked : Type 0 = is_out x.out t ≡ false in
    qed 𝓛 ((raw (alive 𝓛 En₀.signature z.0.0 z.0.1) ⊛ ‵ (owns (types_at En₀.signature.params z.0.0) a z.0.4)) ∷ raw (fact 𝓤 Asked) ∷ []) ∵ move ! (1 ∷ []) $ heard ! Asked (λ fresh. split ! $ move ! (1 ∷ []) $
    fsplit ! $ fsplit ! $ drop ! $ move ! (1 ∷ []) $ drop ! $
    use1 𝓛 (‵ (right γ t) ⊛ ‵ (rest_of γ lent)) (goes_out 𝓛 γ x.out t fresh) $ split ! $
    regoal ! (λ (us : List Val). prop (WpFn 𝓤 𝓛.H 𝓣.C 𝓣.Λ fn us Post)) (λ i. (lease_told z.0.4.0 are.0.0).0 i ++ (are.1.0.0 i ++ (are.1.1.0.0 i ++ (are.1.1.1.0.0 i ++ (are.1.1.1.1.0.0 i ++ []))))) refl $
    enter ! 𝓣.C 𝓣.Λ fn (lease_val ∷ vint w32 heap ∷ vint w32 at ∷ vint w64 serial ∷ vint w32 units ∷ []) Post $
    alloc_all ! (λ l. pass_all ! refl ((tt, (tt, tt)), ((tt, record { fits = are.1.0.1 }), ((tt, record { fits = are.1.1.0.1 }), ((tt, record { fits = are.1.1.1.0.1 }), ((tt, record { fits = are.1.1.1.1.0.1 }), tt))))) $ let En : Env 𝓤 𝓛.H = env fn.locals l in
    sets ! (of_opd ! (get_in ! (fld ! refl (stop !)) (sub ! 0 refl (whole !)))) refl (tt, tt) $
    sets ! (agg ! (no_more !)) refl (tt, tt) $
    sets ! (agg ! (and_then ! (get ! refl) (no_more !))) refl (tt, (tt, tt)) $
    sets ! (agg ! (and_then ! (get ! refl) (no_more !))) refl (tt, (tt, tt)) $
    sets ! (agg ! (and_then ! (get ! refl) (and_then ! (get ! refl) (no_more !)))) refl (tt, ((tt, tt), ((tt, tt), tt))) $
    returns ! (look_at ! 0 refl) $ free_all ! refl $
    let y : (book.the_row).Denot = record { marker = x.marker; name = γ; out = lent } in
    let w : (right_type.the_row).Denot = record { marker = record {}; book = γ; loan = t } in
    let Out : Type 0 = (γ ≡ γ) × (lent ≡ lent) × (γ ≡ γ) × (t ≡ t) in
    use0 𝓛 (‵ (lease_own (lease_val ∷ []))) (lease_made 𝓛 tt) $ fjoin ! $ move ! (1 ∷ []) $
    use0 𝓛 (‵ (lease_own (lease_val ∷ []))) (lease_made 𝓛 tt) $ fjoin ! $
    use2 𝓛 (‵ ((Tuple (book.the_row ∷ right_type.the_row ∷ [])).own_val (y, w) (pair_val lease_val lease_val ∷ []))) (pair_of 𝓛 (book.the_row) (right_type.the_row) y w lease_val lease_val) $
    use0 𝓛 (raw (fact 𝓤 Out)) (fact_i 𝓤 Out (emp 𝓤) (refl, refl, refl, refl)) $ nothing ! $ nothing ! $ fjoin ! $ nothing ! $ fjoin ! $ nothing ! $ fjoin ! $ nothing ! $ fjoin ! $ nothing ! $ fjoin ! $ move ! (3 ∷ 0 ∷ 2 ∷ 1 ∷ []) $
    by ! (leaves 𝓛 En₀ stays c z (pair_val lease_val lease_val) (y, w) (tt, (tt, (tt, (tt, (tt, tt))))) (tt, (tt, (tt, (tt, (tt, tt)))))))))
