-- `beside` sees two owners: the loan is not among those that the book keeps. Assumes `Logic`.
use Rattle.tlsf_arena.proofs.Walking.{◌≡◌, true, List, [], ◌∷◌, ◌++◌, refl, sym, Goes-blank, pair_of, pair_val, proved_at, leaves, Loan, is_out, right, rest_of, Fn, Val, SProp, emp, GName, Env, WpFn, fact, fact_i, tables, ‵, raw, ◌⊛◌, given, prop, ◌$◌, ◌∵◌, !, qed, by, move, drop, use0, use2, split, learn, rewrite, regoal, fsplit, fsplit3, fjoin, whole, sub, agg, stop, fld, of_opd, no_more, and_then, returns, enter, alloc_all, pass_all, free_all, look_at, get, get_in, sets, env, owns, types_at, nothing, heard, Tuple, alive, Stays, stay_dropped, walk_of, slot_at, lease_val, lease_own, lease_told, lease_made}
use Rattle.tlsf_arena.proofs.Rights.{is_among}
use Rattle.tlsf_arena.specs.contracts.right.Right as right_type
use Rattle.tlsf_arena.specs.contracts.book.Book as book
use Rattle.tlsf_arena.specs.contracts.book.Book.beside.{ended as En₀, clauses}
use Rattle.tlsf_arena.specs.contracts.book.Book.beside.Key.{name as #self}
use Rattle.tlsf_arena.proofs.book.Book.beside.Statement.{statement}
use Rattle.tlsf_arena.proofs.book.Book.beside.Code as compiled

pub beside_spec : {M : Type 1} → statement M
beside_spec 𝓤 𝓛 𝓜 𝓡 wired =
    let c = clauses 𝓛 𝓜.mem 𝓡.returns in
    let fn : Fn = compiled.function in
    let stays : Stays En₀.signature.params En₀.kept = (stay_dropped (slot_at 0 En₀.signature.params) En₀.kept.0, (stay_dropped (slot_at 1 En₀.signature.params) En₀.kept.1.0, tt)) in
    let 𝓣 = tables 𝓤 𝓛.H 𝓜 𝓡 𝓡.env in
    proved_at 𝓛 En₀ stays c 𝓜 𝓡 (Goes-blank 𝓛 0 (slot_at 0 En₀.signature.params) En₀.kept.0 (λ κs x f. tt), (Goes-blank 𝓛 0 (slot_at 1 En₀.signature.params) En₀.kept.1.0 (λ κs x f. tt), tt)) #self fn (compiled.unfolded 𝓤 𝓛.H 𝓜 𝓡 wired) (λ z are.
    let Post : Val → SProp 𝓤 = (walk_of 𝓛 En₀ stays c).post z in
    let a = z.0.3 in
    let vss = z.0.4 in
    let x = a.0 in
    let w = a.1.0 in
    let γ : GName = x.name in
    let t : Loan = w.loan in
    let Asked : Type 0 = w.book ≡ γ in
    let Lent : Type 0 = is_out x.out t ≡ true in
    qed 𝓛 ((raw (alive 𝓛 En₀.signature z.0.0 z.0.1) ⊛ ‵ (owns (types_at En₀.signature.params z.0.0) a vss)) ∷ raw (fact 𝓤 Asked) ∷ []) ∵ move ! (1 ∷ []) $ heard ! Asked (λ asked. split ! $ move ! (1 ∷ []) $
    fsplit3 ! $ fsplit ! $ drop ! $ move ! (2 ∷ []) $ drop ! $ move ! (1 ∷ []) $ fsplit ! $ drop ! $
    rewrite ! 0 (λ (g : GName). ‵ (right g t)) asked refl $
    use2 𝓛 (given Lent (‵ (right γ t) ⊛ ‵ (rest_of γ x.out))) (is_among 𝓛 γ x.out t) $ learn ! (λ lent. split ! $
    rewrite ! 0 (λ (g : GName). ‵ (right g t)) (sym asked) refl $
    regoal ! (λ (us : List Val). prop (WpFn 𝓤 𝓛.H 𝓣.C 𝓣.Λ fn us Post)) (λ i. (lease_told vss.0 are.0.0).0 i ++ ((lease_told vss.1.0 are.1.0.0).0 i ++ [])) refl $
    enter ! 𝓣.C 𝓣.Λ fn (lease_val ∷ lease_val ∷ []) Post $
    alloc_all ! (λ l. pass_all ! refl ((tt, (tt, tt)), ((tt, (tt, tt)), tt)) $ let En : Env 𝓤 𝓛.H = env fn.locals l in
    sets ! (of_opd ! (get_in ! (fld ! refl (stop !)) (sub ! 0 refl (whole !)))) refl (tt, tt) $
    sets ! (of_opd ! (get_in ! (fld ! refl (stop !)) (sub ! 0 refl (whole !)))) refl (tt, tt) $
    sets ! (agg ! (and_then ! (get ! refl) (no_more !))) refl (tt, (tt, tt)) $
    sets ! (agg ! (and_then ! (get ! refl) (no_more !))) refl (tt, (tt, tt)) $
    sets ! (agg ! (and_then ! (get ! refl) (and_then ! (get ! refl) (no_more !)))) refl (tt, ((tt, tt), ((tt, tt), tt))) $
    returns ! (look_at ! 0 refl) $ free_all ! refl $
    let Out : Type 0 = (x ≡ x) × (w ≡ w) × Lent in
    use0 𝓛 (‵ (lease_own (lease_val ∷ []))) (lease_made 𝓛 tt) $ fjoin ! $ move ! (1 ∷ []) $
    use0 𝓛 (‵ (lease_own (lease_val ∷ []))) (lease_made 𝓛 tt) $ fjoin ! $
    use2 𝓛 (‵ ((Tuple (book.the_row ∷ right_type.the_row ∷ [])).own_val (x, w) (pair_val lease_val lease_val ∷ []))) (pair_of 𝓛 (book.the_row) (right_type.the_row) x w lease_val lease_val) $
    use0 𝓛 (raw (fact 𝓤 Out)) (fact_i 𝓤 Out (emp 𝓤) (refl, refl, lent)) $ nothing ! $ nothing ! $ fjoin ! $ nothing ! $ fjoin ! $ move ! (3 ∷ 0 ∷ 2 ∷ 1 ∷ []) $
    by ! (leaves 𝓛 En₀ stays c z (pair_val lease_val lease_val) (x, w) (tt, (tt, tt)) (tt, (tt, tt)))))))
