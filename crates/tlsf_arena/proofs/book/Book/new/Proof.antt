-- `new` takes a new name, under which no block is out. Assumes `Logic`.
use Rattle.tlsf_arena.proofs.Walking.{◌≡◌, List, [], ◌∷◌, refl, proved_at, leaves, Loan, rest_of, Fn, Val, SProp, emp, GName, ftrue, Env, fact, fact_i, tables, ‵, raw, ◌⊛◌, some, later, ◌$◌, ◌∵◌, !, qed, by, move, drop, use0, split, fjoin, pick, await, agg, no_more, and_then, returns, enter, alloc_all, pass_all, free_all, look_at, get, sets, env, owns, types_at, nothing, alive, Stays, walk_of, lease_val, lease_own, lease_made}
use Rattle.tlsf_arena.proofs.Rights.{book_new}
use Rattle.tlsf_arena.specs.contracts.book.Book as book
use Rattle.tlsf_arena.specs.contracts.book.Book.new.{ended as En₀, clauses}
use Rattle.tlsf_arena.specs.contracts.book.Book.new.Key.{name as #self}
use Rattle.tlsf_arena.proofs.book.Book.new.Statement.{statement}
use Rattle.tlsf_arena.proofs.book.Book.new.Code as compiled

pub new_spec : {M : Type 1} → statement M
new_spec 𝓤 𝓛 𝓜 𝓡 wired =
    let c = clauses 𝓛 𝓜.mem 𝓡.returns in
    let fn : Fn = compiled.function in
    let stays : Stays En₀.signature.params En₀.kept = tt in
    let 𝓣 = tables 𝓤 𝓛.H 𝓜 𝓡 𝓡.env in
    proved_at 𝓛 En₀ stays c 𝓜 𝓡 tt #self fn (compiled.unfolded 𝓤 𝓛.H 𝓜 𝓡 wired) (λ z are.
    let Post : Val → SProp 𝓤 = (walk_of 𝓛 En₀ stays c).post z in
    qed 𝓛 ((raw (alive 𝓛 En₀.signature z.0.0 z.0.1) ⊛ ‵ (owns (types_at En₀.signature.params z.0.0) z.0.3 z.0.4)) ∷ ‵ ftrue ∷ []) ∵ move ! (1 ∷ []) $ drop ! $ split ! $ move ! (1 ∷ []) $ drop ! $
    enter ! 𝓣.C 𝓣.Λ fn [] Post $
    alloc_all ! (λ l. pass_all ! refl tt $ let En : Env 𝓤 𝓛.H = env fn.locals l in
    use0 𝓛 (later (some (λ (γ : GName). ‵ (rest_of γ [])))) (book_new 𝓛) $ await ! tt $ pick ! (λ γ.
    sets ! (agg ! (no_more !)) refl (tt, tt) $
    sets ! (agg ! (and_then ! (get ! refl) (no_more !))) refl (tt, (tt, tt)) $
    returns ! (look_at ! 0 refl) $ free_all ! refl $
    let none : List Loan = [] in
    let y : (book.the_row).Denot = record { marker = record {}; name = γ; out = none } in
    let Out : Type 0 = none ≡ none in
    use0 𝓛 (‵ (lease_own (lease_val ∷ []))) (lease_made 𝓛 tt) $ fjoin ! $
    use0 𝓛 (raw (fact 𝓤 Out)) (fact_i 𝓤 Out (emp 𝓤) refl) $ nothing ! $ move ! (3 ∷ 0 ∷ 2 ∷ 1 ∷ []) $
    by ! (leaves 𝓛 En₀ stays c z lease_val y tt tt))))
