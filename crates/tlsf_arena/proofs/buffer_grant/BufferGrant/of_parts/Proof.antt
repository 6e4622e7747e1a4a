-- `of_parts` puts room for values and a right together. Assumes `Logic`.
use Rattle.tlsf_arena.proofs.Walking.{◌≡◌, ℕ, ◌*◌, List, [], ◌∷◌, ◌++◌, refl, sym, subst, Goes-blank, El, and_tt, proved_at, leaves, Loan, right, Home, IsLoanAt, Fn, Args, a_type, Val, inst_fn, SProp, emp, Lft, Share, ftrue, fex, flft, size, Env, WpFn, ◌⊑◌, fact, fact_i, tables, ‵, raw, ◌⊛◌, prop, ◌$◌, ◌∵◌, !, qed, by, move, drop, use0, split, join, regoal, fsplit, fsplit3, fjoin, fjoin3, fpack, whole, sub, agg, stop, fld, of_opd, no_more, and_then, returns, enter, alloc_all, pass_all, free_all, look_at, get, get_in, sets, env, RattleType, owns, Ptr, param, layout, layouts, types_at, nothing, heard, Stays, stay_dropped, walk_of, slot_at, ptr_typed, lease_val, lease_told, Region}
use Rattle.tlsf_arena.proofs.Buffers.{buffer_val, buffer_own, buffer_told, buffer_made, block_type, block_size}
use Rattle.tlsf_arena.specs.contracts.buffer_grant.BufferGrant as grant
use Rattle.tlsf_arena.specs.contracts.buffer_grant.BufferGrant.of_parts.{ended, clauses}
use Rattle.tlsf_arena.specs.contracts.buffer_grant.BufferGrant.of_parts.Key.{name as #self}
use Rattle.tlsf_arena.proofs.buffer_grant.BufferGrant.of_parts.Statement.{statement}
use Rattle.tlsf_arena.proofs.buffer_grant.BufferGrant.of_parts.Code as compiled

pub of_parts_spec : {M : Type 1} → statement M
of_parts_spec 𝓤 𝓛 𝓜 𝓡 wired T L =
    let En₀ = ended T in
    let c = clauses T 𝓛 𝓜.mem 𝓡.returns in
    let args : Args = layouts (a_type ∷ []) (T, tt) in
    let fn : Fn = inst_fn args compiled.function in
    let stays : Stays En₀.signature.params En₀.kept = (stay_dropped (slot_at 0 En₀.signature.params) En₀.kept.0, (stay_dropped (slot_at 1 En₀.signature.params) En₀.kept.1.0, tt)) in
    let 𝓣 = tables 𝓤 𝓛.H 𝓜 𝓡 𝓡.env in
    proved_at 𝓛 En₀ stays c 𝓜 𝓡 (Goes-blank 𝓛 1 (slot_at 0 En₀.signature.params) En₀.kept.0 (λ κs x f. tt), (Goes-blank 𝓛 1 (slot_at 1 En₀.signature.params) En₀.kept.1.0 (λ κs x f. tt), tt)) (#self args) fn (compiled.unfolded 𝓤 𝓛.H 𝓜 𝓡 wired (T, tt)) (λ z are.
    let Post : Val → SProp 𝓤 = (walk_of 𝓛 En₀ stays c).post z in
    let a = z.0.3 in
    let vss = z.0.4 in
    let κ : Lft = z.0.0.0 in
    let q : Share = z.0.1.0 in
    let R : RattleType = param 0 T in
    let E : El = record { row = T; laws = L } in
    let s = size (layout T) in
    let x = a.0 in
    let p : Ptr = x.ptr in
    let u = x.unit in
    let r : Region = x.region in
    let xs = x.items in
    let len = x.len in
    let cap = x.cap in
    let w = a.1.0 in
    let home : Home = (r, w.book) in
    let t : Loan = w.loan in
    let n = size (block_type E cap) in
    let Asked : Type 0 = IsLoanAt u r p (cap * s) t in
    qed 𝓛 (((‵ (flft κ q) ⊛ ‵ ftrue) ⊛ ‵ (owns (types_at En₀.signature.params z.0.0) a vss)) ∷ (raw (fact 𝓤 (κ ⊑ T.lives)) ⊛ raw (fact 𝓤 Asked)) ∷ []) ∵
    move ! (1 ∷ []) $ split ! $ heard ! (κ ⊑ T.lives) (λ le. heard ! Asked (λ asked. split ! $ split ! $ move ! (1 ∷ []) $ drop ! $ move ! (1 ∷ []) $
    let is : IsLoanAt u r p n t = subst (λ (k : ℕ). IsLoanAt u r p k t) (sym (block_size E cap)) asked in
    fsplit3 ! $ fsplit ! $ drop ! $ move ! (2 ∷ []) $ drop ! $ move ! (1 ∷ []) $ fsplit ! $ drop ! $
    fpack ! (IsLoanAt u r p n t) (λ _. right w.book t) is $ fpack ! Loan (λ g. fex (IsLoanAt u r p n g) (λ _. right w.book g)) t $ move ! (1 ∷ []) $
    fsplit3 ! $ move ! (2 ∷ 3 ∷ []) $ fjoin ! $ move ! (1 ∷ 2 ∷ 0 ∷ []) $ fjoin3 ! $
    regoal ! (λ (us : List Val). prop (WpFn 𝓤 𝓛.H 𝓣.C 𝓣.Λ fn us Post)) (λ i. (buffer_told p vss.0 are.0.0).0 i ++ ((lease_told vss.1.0 are.1.0.0).0 i ++ [])) refl $
    enter ! 𝓣.C 𝓣.Λ fn (buffer_val p ∷ lease_val ∷ []) Post $
    alloc_all ! (λ l. pass_all ! refl ((and_tt _ ((ptr_typed p).0), ((ptr_typed p).1, (tt, tt))), ((tt, (tt, tt)), tt)) $ let En : Env 𝓤 𝓛.H = env fn.locals l in
    sets ! (of_opd ! (get_in ! (fld ! refl (stop !)) (sub ! 0 refl (whole !)))) refl (ptr_typed p) $
    sets ! (of_opd ! (get_in ! (fld ! refl (stop !)) (sub ! 1 refl (whole !)))) refl (tt, tt) $
    sets ! (agg ! (and_then ! (get ! refl) (and_then ! (get ! refl) (no_more !)))) refl (and_tt _ ((ptr_typed p).0), ((ptr_typed p).1, (tt, tt))) $
    returns ! (look_at ! 0 refl) $ free_all ! refl $
    let out : (grant.the_row R).Denot = record { ptr = p; marker = x.marker; unit = u; home = home; len = len; cap = cap; items = xs } in
    let Out : Type 0 = (p ≡ p) × (u ≡ u) × (home ≡ home) × (len ≡ len) × (cap ≡ cap) × (xs ≡ xs) in
    use0 𝓛 (‵ (buffer_own p (buffer_val p ∷ []))) (buffer_made 𝓛 p tt) $ fjoin ! $
    use0 𝓛 (raw (fact 𝓤 Out)) (fact_i 𝓤 Out (emp 𝓤) (refl, refl, refl, refl, refl, refl)) $
    nothing ! $ nothing ! $ fjoin ! $ nothing ! $ fjoin ! $ nothing ! $ move ! (4 ∷ 0 ∷ []) $ join ! $ move ! (0 ∷ 1 ∷ 3 ∷ []) $
    by ! (leaves 𝓛 En₀ stays c z (buffer_val p) out (tt, (tt, tt)) (tt, (tt, tt)))))))
