-- A place that is put in front of a list, taken out of another or of the same before.
use Rattle.tlsf_heap.proofs.Common.{◌≡◌, ◌≢◌, ℕ, ◌+◌, ◌-◌, inl, inr, Bool, true, cond, eqb, not, List, length, take, drop, suc, refl, sym, ap, ◌∙◌, subst, arith, Contains, cases_eq, eq-eqb, ne_eqb, Block, Free, size_of, is_free, StandsAt, first_free, past_free, last_free, before_free, coalesced, block_at, site_at, RegionState, AreUnlisted, IsWithout, TakenOut, list_in, without_place}
use Rattle.tlsf_heap.proofs.lemmas.lists.FreeLists.{to_filter}
use Rattle.tlsf_heap.proofs.lemmas.blocks.Around.{Around, last_words, block_around, stands_around}

-- the lists without a place of one of them
abbrev pub without_in : (ℕ → List ℕ) → ℕ → ℕ → ℕ → List ℕ
without_in lists class at other = cond (eqb other class) (without_place at (lists other)) (lists other)

pub is_without : (lists : ℕ → List ℕ) (class at : ℕ) → IsWithout lists class at (without_in lists class at)
is_without lists class at = record {
  out = ap (λ (b : Bool). cond b (without_place at (lists class)) (lists class)) (eq-eqb class class refl);
  others = λ other n. ap (λ (b : Bool). cond b (without_place at (lists other)) (lists other)) (ne_eqb other class n);
}

-- so are they once it is taken out
pub was_taken : (lists : List (List ℕ)) {old new : RegionState} {from at most : ℕ} → old.lists ≡ lists → TakenOut old new from at most → IsWithout (list_in lists) from at (list_in new.lists)
was_taken lists {from = from} {at = at} same out = record {
  out = out.list ∙ ap (λ (l : List (List ℕ)). without_place at (list_in l from)) same;
  others = λ other n. out.others other n ∙ ap (λ (l : List (List ℕ)). list_in l other) same;
}

-- another place of the list stays
without_keeps : (at : ℕ) (places : List ℕ) (k : ℕ) → k ≢ at → Contains places k → Contains (without_place at places) k
without_keeps at places k n there = to_filter (λ other. not (eqb at other)) places k there (ap not (ne_eqb at k (λ e. n (sym e))))

-- so where none from the place on is listed without it, none behind it is listed
pub unlisted_behind : (lists : ℕ → List ℕ) (class at end : ℕ) → ((left : ℕ → List ℕ) → IsWithout lists class at left → AreUnlisted left at end) → AreUnlisted lists (at + 1) end
unlisted_behind lists class at end unlisted k low high other there =
    let left = without_in lists class at in
    let is = is_without lists class at in
    let none = unlisted left is k (omega (arith, low)) high in
    elim (cases_eq other class) [
      | inl e ↦ none class (subst (λ (places : List ℕ). Contains places k) (sym is.out) (without_keeps at (lists class) k (λ same. omega (arith, same, low)) (subst (λ (c : ℕ). Contains (lists c) k) e there)))
      | inr n ↦ none other (subst (λ (places : List ℕ). Contains places k) (sym (is.others other n)) there)
    ]

-- a merged block is a free one, and begins where the first of its blocks did
pub coalesced_free : (tick : ℕ) {bs new : List Block} {at i before : ℕ} → StandsAt bs at i → before ≡ last_free (take i bs) → new ≡ coalesced tick (site_at bs i)
    → (j : ℕ) × StandsAt new (at - before) j × (is_free (block_at new j) ≡ true)
coalesced_free tick {bs = bs} {new = new} {at = at} {i = i} {before = before} stands is_before is_new =
    let front = take i bs in
    let back = drop (suc i) bs in
    let a : Around new (at - before) (length (before_free front)) (before_free front) (Free (last_free front + size_of (block_at bs i) + first_free back) tick) (past_free back) =
    record { is = is_new; before = refl; place = omega (arith, is_before, last_words front, stands.place) } in
    (length (before_free front), stands_around a, ap is_free (block_around a))
