-- Numbers that rise by one, and lists that grow.
use Rattle.tlsf_post.proofs.Common.{◌≡◌, ◌≢◌, ◌⊎◌, inl, inr, ⊎_elim, append_assoc, length, eqb, eq-eqb, ne_eqb, ◌<◌, ℕ, zero, suc, ◌+◌, ◌-◌, ◌≤◌, List, [], ◌∷◌, ◌++◌, All, refl, ap, ◌∙◌, arith, sym, subst, All-push, cases_eq, cond-true, cond-false, same_from_push, append-nil, below_but, run, next_but}

run_more : (from k : ℕ) → run from (suc k) ≡ run from k ++ (from + k) ∷ []
run_more from zero = let e : from ≡ from + 0 = omega arith in ap (λ (n : ℕ). n ∷ []) e
run_more from (suc k) = let e : suc from + k ≡ from + suc k = omega arith in ap (λ l. from ∷ l) (run_more (suc from) k ∙ ap (λ (n : ℕ). run (suc from) k ++ n ∷ []) e)

pub run_push : (from to : ℕ) → from ≤ to → run from (to + 1 - from) ≡ run from (to - from) ++ to ∷ []
run_push from to le =
    let a : to + 1 - from ≡ suc (to - from) = omega arith in
    let b : from + (to - from) ≡ to = omega arith in
    ap (run from) a ∙ run_more from (to - from) ∙ ap (λ (n : ℕ). run from (to - from) ++ n ∷ []) b

pub all_pushed : {X : Type 0} (P : X → Type 0) (xs ys : List X) (x : X) → ys ≡ xs ++ x ∷ [] → All P xs → P x → All P ys
all_pushed P xs ys x e a b = subst (λ l. All P l) (sym e) (All-push P xs x a b)

-- a number of a run is not one that lies past it or before it
pub apart_from : (own from to number : ℕ) → (to ≤ own) ⊎ (own < from) → from ≤ number → number < to → own ≢ number
apart_from own from to number (inl le) low high = λ e. omega arith
apart_from own from to number (inr lt) low high = λ e. omega arith

-- ---- the numbers below k but one

pub but_skip : (own : ℕ) → below_but own (suc own) ≡ below_but own own
but_skip own = cond-true (eqb own own) (below_but own own) (below_but own own ++ own ∷ []) (eq-eqb own own refl)

pub but_more : (own k : ℕ) → k ≢ own → below_but own (suc k) ≡ below_but own k ++ k ∷ []
but_more own k n = cond-false (eqb k own) (below_but own k) (below_but own k ++ k ∷ []) (ne_eqb k own n)

but_run : (own k : ℕ) → k ≤ own → below_but own k ≡ run 0 k
but_run own zero le = refl
but_run own (suc k) le =
    let n : k ≢ own = λ e. omega arith in
    let b : k ≤ own = omega arith in
    let z : k ≡ 0 + k = omega arith in
    but_more own k n ∙ ap (λ l. l ++ k ∷ []) (but_run own k b) ∙ ap (λ (i : ℕ). run 0 k ++ i ∷ []) z ∙ sym (run_more 0 k)

but_past : (own j : ℕ) → below_but own (suc (own + j)) ≡ run 0 own ++ run (suc own) j
but_past own zero =
    let e : own + 0 ≡ own = omega arith in
    let le : own ≤ own = omega arith in
    ap (λ k. below_but own (suc k)) e ∙ but_skip own ∙ but_run own own le ∙ sym (append-nil (run 0 own))
but_past own (suc j) =
    let n : suc (own + j) ≢ own = λ e. omega arith in
    let e : own + suc j ≡ suc (own + j) = omega arith in
    let z : suc (own + j) ≡ suc own + j = omega arith in
    ap (λ k. below_but own (suc k)) e ∙ but_more own (suc (own + j)) n ∙ ap (λ l. l ++ suc (own + j) ∷ []) (but_past own j)
    ∙ append_assoc (run 0 own) (run (suc own) j) (suc (own + j) ∷ [])
    ∙ ap (λ (i : ℕ). run 0 own ++ (run (suc own) j ++ i ∷ [])) z ∙ ap (λ l. run 0 own ++ l) (sym (run_more (suc own) j))

pub but_whole : (own n : ℕ) → own < n → run 0 own ++ run (own + 1) (n - (own + 1)) ≡ below_but own n
but_whole own n lt =
    let a : own + 1 ≡ suc own = omega arith in
    let b : suc (own + (n - (own + 1))) ≡ n = omega arith in
    ap (λ k. run 0 own ++ run k (n - (own + 1))) a ∙ sym (but_past own (n - (own + 1))) ∙ ap (below_but own) b

no_last : (front : List ℕ) (last : ℕ) → front ++ last ∷ [] ≡ [] → ⊥
no_last [] last e = omega (arith, ap length e)
no_last (x ∷ xs) last e = omega (arith, ap length e)

after_own : (own m : ℕ) (front : List ℕ) (last : ℕ) → m ≡ own → front ++ last ∷ [] ≡ below_but own m → (front ≡ below_but own last) × (last ≢ own) × (own ≡ last + 1)
after_own own zero front last is e = absurd (no_last front last e)
after_own own (suc i) front last is e =
    let n : i ≢ own = λ d. omega arith in
    let r = same_from_push front (below_but own i) last i (e ∙ but_more own i n) in
    let s : own ≡ last + 1 = omega (arith, r.1) in
    (r.0 ∙ ap (below_but own) (sym r.1), (λ d. n (sym r.1 ∙ d)), s)

pub but_last : (own n : ℕ) (front : List ℕ) (last : ℕ) → n ≢ own → front ++ last ∷ [] ≡ below_but own n
    → (front ≡ below_but own last) × (last ≢ own) × ((n ≡ last + 1) ⊎ ((n ≡ last + 2) × (own ≡ last + 1)))
but_last own zero front last off e = absurd (no_last front last e)
but_last own (suc k) front last off e = ⊎_elim
    (λ (is : k ≡ own). let r = after_own own k front last is (e ∙ ap (λ j. below_but own (suc j)) is ∙ but_skip own ∙ ap (below_but own) (sym is)) in
    let s : suc k ≡ last + 2 = omega (arith, r.2) in
    (r.0, r.1, inr (s, r.2)))
    (λ (n : k ≢ own). let r = same_from_push front (below_but own k) last k (e ∙ but_more own k n) in
    let s : suc k ≡ last + 1 = omega (arith, r.1) in
    (r.0 ∙ ap (below_but own) (sym r.1), (λ d. n (sym r.1 ∙ d)), inl s)) (cases_eq k own)

none_before : (own m : ℕ) → m ≡ own → [] ≡ below_but own m → own ≡ 0
none_before own zero is e = sym is
none_before own (suc i) is e = let n : i ≢ own = λ d. omega arith in absurd (no_last (below_but own i) i (sym (e ∙ but_more own i n)))

pub but_none : (own n p : ℕ) → n ≢ own → [] ≡ below_but own n → (n ≤ p) ⊎ (own ≡ p)
but_none own zero p off e = inl (omega arith)
but_none own (suc k) p off e = ⊎_elim
    (λ (is : k ≡ own). let z = none_before own k is (e ∙ ap (λ j. below_but own (suc j)) is ∙ but_skip own ∙ ap (below_but own) (sym is)) in
    ⊎_elim (λ (a : own ≡ p). inr a) (λ (b : own ≢ p). inl (omega arith)) (cases_eq own p))
    (λ (n : k ≢ own). absurd (no_last (below_but own k) k (sym (e ∙ but_more own k n)))) (cases_eq k own)

-- the last number is followed by n
pub but_next : (own n last : ℕ) → n ≢ own → (n ≡ last + 1) ⊎ ((n ≡ last + 2) × (own ≡ last + 1)) → next_but own last ≡ n
but_next own n last off (inl e) = let d : own ≢ last + 1 = λ f. off (e ∙ sym f) in cond-false (eqb own (last + 1)) (last + 2) (last + 1) (ne_eqb own (last + 1) d) ∙ sym e
but_next own n last off (inr e) = cond-true (eqb own (last + 1)) (last + 2) (last + 1) (eq-eqb own (last + 1) e.1) ∙ sym e.0
