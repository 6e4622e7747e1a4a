-- From whom no lane comes nothing is taken.
use Rattle.tlsf_crew.proofs.Common.{[], ◌∷◌, ◌++◌, ◌≡◌, ◌≢◌, ℕ, ◌≤◌, List, None, length, drop, ◌∙◌, ap, subst, arith, refl, inl, inr, ◌==◌, false, cases_eq, nat_tests, Entry, Call, Take, Drain, Reply, post_of_take, posts_taken, World, DrainState, Replayed, took, taking, after_drain, draining, called, Progress, MayTell, MayTellAll, Taken}
use Rattle.tlsf_crew.proofs.lemmas.model.OneEvent.{drain_by, taking_own, taking_far}
use Rattle.tlsf_crew.proofs.lemmas.histories.JoinedEntries.{told_nothing, taken_then}

other_take : (i from : ℕ) (reply : Reply) → from ≢ i → post_of_take i (Take from) reply ≡ None
other_take i from (Taken t) ne = let b : (from == i) ≡ false = grind (arith, nat_tests) in rw b refl
other_take i from reply ne = refl

-- one entry more that took nothing from i
none_more : (i at : ℕ) (es : List Entry) (e : Entry) → posts_taken i at es ≡ [] → post_of_take i e.call e.reply ≡ None → posts_taken i at (es ++ e ∷ []) ≡ []
none_more i at es e none silent =
    taken_then i at es (e ∷ []) ∙ (ap (λ l. l ++ posts_taken i at (e ∷ [])) none ∙ told_nothing (λ (x : Entry). post_of_take i x.call x.reply) at e silent)

-- ---- drains

draining_takes_none : {sli : ℕ} (i at most : ℕ) (r : Replayed sli) → (i ≢ at → length r.world.heaps ≤ i) → posts_taken i at r.entries ≡ [] → posts_taken i at (draining r at most).entries ≡ []
unfolding draining
draining_takes_none {sli} i at most r far none =
    let d : DrainState sli = record { entries = r.entries; world = r.world; taken = 0 } in
    none_more i at (after_drain at most d).entries _ (drain_by (λ b. posts_taken i at b.entries ≡ []) at most d (λ from b p lt ne full so_far.
    let apart : from ≢ i = λ f. let h : length r.world.heaps ≤ i = far (λ g. ne (f ∙ g)) in omega arith in
    none_more i at b.entries _ so_far (other_take i from (took b.world at from p (drop 1 (b.world.waiting from at))).reply apart)) none) refl

-- ---- calls

take_none : {sli : ℕ} (i at from : ℕ) (w : World sli) → (i ≢ at → length w.heaps ≤ i) → post_of_take i (Take from) (taking w at from).reply ≡ None
take_none i at from w far =
    elim (cases_eq from i) [
      | inl e ↦ elim (cases_eq from at) [
        | inl own ↦ rw (taking_own w at from own) refl
        | inr ne ↦ let h : length w.heaps ≤ i = far (λ g. ne (e ∙ g)) in rw (taking_far w at from (omega arith)) refl
      ]
      | inr ne ↦ other_take i from (taking w at from).reply ne
    ]

call_none : {sli : ℕ} (i at : ℕ) (r : Replayed sli) (call : Call) → (i ≢ at → length r.world.heaps ≤ i) → posts_taken i at r.entries ≡ [] → posts_taken i at (called r at call).entries ≡ []
call_none i at r (Take from) far none = none_more i at r.entries _ none (take_none i at from r.world far)
call_none i at r (Drain most) far none = draining_takes_none i at most r far none
call_none i at r call far none = none_more i at r.entries _ none refl

none_after_one : (sli : ℕ) (n i at : ℕ) (s t : Progress) (call : Call) → (i ≢ at → n ≤ i) → MayTell sli n at s call t → posts_taken i at s.entries ≡ [] → posts_taken i at t.entries ≡ []
none_after_one sli n i at s t call far may none =
    let r : Replayed sli = record { made = s.made; entries = s.entries; world = may.0 } in
    let same : (called r at call).entries ≡ t.entries = ap (λ (x : Progress). x.entries) may.2 in
    let here : i ≢ at → length may.0.heaps ≤ i = λ ne. let h : n ≤ i = far ne in omega (arith, may.1.0) in
    subst (λ (es : List Entry). posts_taken i at es ≡ []) same (call_none i at r call here none)

pub tells_none : (sli : ℕ) (n i at : ℕ) (s t : Progress) (calls : List Call) → (i ≢ at → n ≤ i) → MayTellAll sli n at s calls t → posts_taken i at s.entries ≡ [] → posts_taken i at t.entries ≡ []
tells_none sli n i at s t [] far may none = rw may none
tells_none sli n i at s t (call ∷ calls) far may none = tells_none sli n i at may.0 t calls far may.2 (none_after_one sli n i at s may.0 call far may.1 none)
