-- A worker of a whole yard has its own number, a lawful heap, and a lane to and from each other worker.
use Rattle.tlsf_crew.proofs.Common.{suc, zero, ◌∷◌, [], ◌≡◌, ℕ, ◌≤◌, List, Some, length, sym, ◌∙◌, ap, refl, subst, inl, inr, get_or, arith, ◌↔◌, slice_get, All, slice_get_within, slice_get-get_or, cases_lt, Worker, Lanes, IsOther, heap_of, id_of, IsHeapOf, end_to, end_from, HasPost, HasTake, KnowsYard, post_at, take_at, id_in, IsYard}
use Rattle.tlsf_crew.proofs.lemmas.worker.Slots.{some_same, none_or_some}
use Rattle.tlsf_crew.proofs.lemmas.lanes.LaneSlots.{heap_at}

id_at : {sli : ℕ} (ws : List (Worker sli Lanes)) (i : ℕ) (a : Worker sli Lanes) → slice_get ws i ≡ Some a → id_in ws i ≡ id_of a
id_at [] i a e = cc
id_at (w ∷ ws) zero a e = ap id_of (some_same w a e)
id_at (w ∷ ws) (suc i) a e = id_at ws i a e

pub own_number : {sli : ℕ} (ws : List (Worker sli Lanes)) (i : ℕ) (a : Worker sli Lanes) → IsYard ws → slice_get ws i ≡ Some a → id_of a ≡ i
own_number ws i a yard is = sym (id_at ws i a is) ∙ yard.ids i (slice_get_within ws i a is)

pub heap_of_its_number : {sli : ℕ} (ws : List (Worker sli Lanes)) (i : ℕ) (a : Worker sli Lanes) → IsYard ws → slice_get ws i ≡ Some a → IsHeapOf i (heap_of a)
heap_of_its_number ws i a yard is = subst (IsHeapOf i) (heap_at ws i a is) (yard.heaps i (slice_get_within ws i a is))

other : {sli : ℕ} (ws : List (Worker sli Lanes)) (i j : ℕ) → (j ≡ i → ⊥) → (length ws ≤ j → ⊥) → IsOther (length ws) i j
other ws i j own far = (elim (cases_lt j (length ws)) [ inl lt ↦ lt | inr le ↦ absurd (far le) ], own)

pub joined_to : {sli : ℕ} (ws : List (Worker sli Lanes)) (i j : ℕ) (a : Worker sli Lanes) → IsYard ws → slice_get ws i ≡ Some a → (HasPost a j ↔ IsOther (length ws) i j)
joined_to ws i j a yard is =
    let at : post_at ws i j ≡ end_to a j = rw is refl in (
      λ h. other ws i j (λ e. none_or_some (post_at ws i i) h.0 (yard.alone i).0 (ap (post_at ws i) (sym e) ∙ (at ∙ h.1))) (λ far. none_or_some (post_at ws i j) h.0 (yard.outside i j far).0 (at ∙ h.1)),
      λ o. let h = yard.lanes i j (slice_get_within ws i a is) o.0 (λ e. o.1 (sym e)) in (h.0, sym at ∙ h.2),
    )

pub joined_from : {sli : ℕ} (ws : List (Worker sli Lanes)) (i j : ℕ) (a : Worker sli Lanes) → IsYard ws → slice_get ws i ≡ Some a → (HasTake a j ↔ IsOther (length ws) i j)
joined_from ws i j a yard is =
    let at : take_at ws j i ≡ end_from a j = rw is refl in (
      λ h. other ws i j (λ e. none_or_some (take_at ws i i) h.0 (yard.alone i).1 (ap (λ k. take_at ws k i) (sym e) ∙ (at ∙ h.1))) (λ far. none_or_some (take_at ws j i) h.0 (yard.outside i j far).1 (at ∙ h.1)),
      λ o. let h = yard.lanes j i o.0 (slice_get_within ws i a is) o.1 in (h.1, sym at ∙ h.3),
    )

-- each worker of a whole yard knows of the others
pub each_knows : {sli : ℕ} (n : ℕ) (ws : List (Worker sli Lanes)) → n ≡ length ws → IsYard ws → All (KnowsYard n) ws
each_knows n ws len yard k d lt =
    let a = get_or ws k d in
    let is : slice_get ws k ≡ Some a = slice_get-get_or ws k d lt in
    let own = own_number ws k a yard is in
    rw len (record {
      few = yard.few;
      self = omega arith;
      to = λ j. rw own (joined_to ws k j a yard is);
      from = λ j. rw own (joined_from ws k j a yard is);
    })
