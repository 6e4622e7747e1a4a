-- `take_back` puts the right to those that the book keeps. Assumes `Logic`.
use Rattle.tlsf_arena.proofs.Walking.{◌≡◌, List, [], ◌∷◌, ◌++◌, refl, Goes-blank, pair_of, pair_val, proved_at, leaves, Loan, without, right, rest_of, Fn, Val, vunit, SProp, emp, GName, Env, WpFn, fact, fact_i, tables, ‵, raw, ◌⊛◌, prop, ◌$◌, ◌∵◌, !, qed, by, move, drop, use0, use2, split, rewrite, regoal, fsplit, fsplit3, fjoin, feq_i, whole, sub, agg, stop, fld, unit_lit, of_opd, no_more, and_then, returns, enter, alloc_all, pass_all, free_all, look_at, get, get_in, sets, env, owns, unit, types_at, nothing, heard, Tuple, alive, Stays, stay_dropped, walk_of, slot_at, lease_val, lease_own, lease_told, lease_made}
use Rattle.tlsf_arena.proofs.Rights.{comes_back}
use Rattle.tlsf_arena.specs.contracts.book.Book as book
use Rattle.tlsf_arena.specs.contracts.book.Book.take_back.{ended as En₀, clauses}
use Rattle.tlsf_arena.specs.contracts.book.Book.take_back.Key.{name as #self}
use Rattle.tlsf_arena.proofs.book.Book.take_back.Statement.{statement}
use Rattle.tlsf_arena.proofs.book.Book.take_back.Code as compiled

pub take_back_spec : {M : Type 1} → statement M
take_back_spec 𝓤 𝓛 𝓜 𝓡 wired =
    let c = clauses 𝓛 𝓜.mem 𝓡.returns in
    let fn : Fn = compiled.function in
    let stays : Stays En₀.signature.params En₀.kept = (stay_dropped (slot_at 0 En₀.signature.params) En₀.kept.0, (stay_dropped (slot_at 1 En₀.signature.params) En₀.kept.1.0, tt)) in
    let 𝓣 = tables 𝓤 𝓛.H 𝓜 𝓡 𝓡.env in
    proved_at 𝓛 En₀ stays c 𝓜 𝓡 (Goes-blank 𝓛 0 (slot_at 0 En₀.signature.params) En₀.kept.0 (λ κs x f. tt), (Goes-blank 𝓛 0 (slot_at 1 En₀.signature.params) En₀.kept.1.0 (λ κs x f. tt), tt)) #self fn (compiled.unfolded 𝓤 𝓛.H 𝓜 𝓡 wired) (λ z are.
    let Post : Val → SProp 𝓤 = (walk_of 𝓛 En₀ stays c).post z in
    let a = z.0.3 in
    let vss = z.0.4 in
    let x = a.0 in
    let w = a.1.0 in
    let γ : GName = x.name in
    let t : Loan = w.loan in
    let left : List Loan = without t x.out in
    let Asked : Type 0 = w.book ≡ γ in
    qed 𝓛 ((raw (alive 𝓛 En₀.signature z.0.0 z.0.1) ⊛ ‵ (owns (types_at En₀.signature.params z.0.0) a vss)) ∷ raw (fact 𝓤 Asked) ∷ []) ∵ move ! (1 ∷ []) $ heard ! Asked (λ asked. split ! $ move ! (1 ∷ []) $
    fsplit3 ! $ fsplit ! $ drop ! $ move ! (2 ∷ []) $ drop ! $ move ! (1 ∷ []) $ fsplit ! $ drop ! $
    rewrite ! 0 (λ (g : GName). ‵ (right g t)) asked refl $
    use2 𝓛 (‵ (rest_of γ left)) (comes_back 𝓛 γ x.out t) $
    regoal ! (λ (us : List Val). prop (WpFn 𝓤 𝓛.H 𝓣.C 𝓣.Λ fn us Post)) (λ i. (lease_told vss.0 are.0.0).0 i ++ ((lease_told vss.1.0 are.1.0.0).0 i ++ [])) refl $
    enter ! 𝓣.C 𝓣.Λ fn (lease_val ∷ lease_val ∷ []) Post $
    alloc_all ! (λ l. pass_all ! refl ((tt, (tt, tt)), ((tt, (tt, tt)), tt)) $ let En : Env 𝓤 𝓛.H = env fn.locals l in
    sets ! (of_opd ! (get_in ! (fld ! refl (stop !)) (sub ! 0 refl (whole !)))) refl (tt, tt) $
    sets ! (agg ! (and_then ! (get ! refl) (no_more !))) refl (tt, (tt, tt)) $
    sets ! (agg ! (and_then ! (get ! refl) (and_then ! (unit_lit !) (no_more !)))) refl (tt, ((tt, tt), (tt, tt))) $
    returns ! (look_at ! 0 refl) $ free_all ! refl $
    let y : (book.the_row).Denot = record { marker = x.marker; name = γ; out = left } in
    let Out : Type 0 = (γ ≡ γ) × (left ≡ left) in
    use0 𝓛 (‵ (lease_own (lease_val ∷ []))) (lease_made 𝓛 tt) $ fjoin ! $
    feq_i ! (List Val) (vunit ∷ []) (vunit ∷ []) refl $ move ! (1 ∷ 0 ∷ []) $ use2 𝓛 (‵ ((Tuple (book.the_row ∷ unit ∷ [])).own_val (y, tt) (pair_val lease_val vunit ∷ []))) (pair_of 𝓛 (book.the_row) unit y tt lease_val vunit) $
    use0 𝓛 (raw (fact 𝓤 Out)) (fact_i 𝓤 Out (emp 𝓤) (refl, refl)) $ nothing ! $ nothing ! $ fjoin ! $ nothing ! $ fjoin ! $ move ! (3 ∷ 0 ∷ 2 ∷ 1 ∷ []) $
    by ! (leaves 𝓛 En₀ stays c z (pair_val lease_val vunit) (y, tt) (tt, (tt, tt)) (tt, (tt, tt))))))
