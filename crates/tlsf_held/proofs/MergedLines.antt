-- The lines on merged kinds, one worker after the other.
use Rattle.tlsf_held.proofs.Common.{◌≡◌, ◌==◌, ℕ, zero, suc, ◌+◌, ◌<◌, Bool, true, false, cond, List, [], ◌++◌, Option, inl, inr, refl, sym, ap, ap₂, ◌∙◌, subst, arith, add-one, append_assoc, append-nil, cases_eq, nat_tests, Name, Entry, IsCheapest, kinds_line, kinds_text, AddsMerged, heaps_of, table_of, steps_told, Row}

text_same : (sli : ℕ) (f g : ℕ → List Row) (workers : ℕ) → ((j : ℕ) → j < workers → f j ≡ g j) → kinds_text sli f workers ≡ kinds_text sli g workers
text_same sli f g zero same = refl
text_same sli f g (suc j) same =
    ap₂ (λ (text : List ℕ) (rows : List Row). text ++ kinds_line sli rows) (text_same sli f g j (λ i below. same i (omega (arith, below)))) (same j (omega arith))

module _ (sli heaps : ℕ) (made : List (Option Name)) (entries : List Entry) (old : List ℕ) where
  pub added_none : AddsMerged sli heaps 0 made entries old old
  added_none = record { tables = λ j. []; each = λ j below. absurd (omega (arith, below)); written = sym (append-nil old) }

  pub added_one : (n : ℕ) (rows : List Row) (mid new : List ℕ) → AddsMerged sli heaps n made entries old mid
      → IsCheapest sli (heaps_of heaps) (steps_told n made entries) (table_of sli n made entries) rows → new ≡ mid ++ kinds_line sli rows → AddsMerged sli heaps (n + 1) made entries old new
  added_one n rows mid new adds cheapest is = record {
    tables = tables;
    each = each;
    written = is ∙ (ap (λ (text : List ℕ). text ++ kinds_line sli rows) adds.written ∙ (append_assoc old (kinds_text sli adds.tables n) (kinds_line sli rows)
        ∙ rw add-one (ap₂ (λ (text : List ℕ) (last : List Row). old ++ (text ++ kinds_line sli last)) (text_same sli adds.tables tables n before) (sym (here n refl)))));
  }
    where
      tables : ℕ → List Row
      tables j = cond (j == n) rows (adds.tables j)

      here : (j : ℕ) → j ≡ n → tables j ≡ rows
      here j is = let b : (j == n) ≡ true = grind (arith, nat_tests) in ap (λ (t : Bool). cond t rows (adds.tables j)) b

      there : (j : ℕ) → (j ≡ n → ⊥) → tables j ≡ adds.tables j
      there j ne = let b : (j == n) ≡ false = grind (arith, nat_tests) in ap (λ (t : Bool). cond t rows (adds.tables j)) b

      before : (j : ℕ) → j < n → adds.tables j ≡ tables j
      before j below = sym (there j (λ is. absurd (omega (arith, is, below))))

      each : (j : ℕ) → j < n + 1 → IsCheapest sli (heaps_of heaps) (steps_told j made entries) (table_of sli j made entries) (tables j)
      each j below = elim (cases_eq j n) [
        | inl is ↦ subst (λ (found : List Row). IsCheapest sli (heaps_of heaps) (steps_told j made entries) (table_of sli j made entries) found) (sym (here j is))
            (subst (λ (k : ℕ). IsCheapest sli (heaps_of heaps) (steps_told k made entries) (table_of sli k made entries) rows) (sym is) cheapest)
        | inr ne ↦ subst (λ (found : List Row). IsCheapest sli (heaps_of heaps) (steps_told j made entries) (table_of sli j made entries) found) (sym (there j ne))
            (adds.each j (omega (arith, ne, below)))
      ]
