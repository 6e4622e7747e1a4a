-- Where one lane of a yard changes, its world changes by what waits in that lane, and by nothing else.
use Rattle.tlsf_crew.proofs.Common.{◌≡◌, ℕ, ◌<◌, List, Some, length, get_or, set, sym, ◌∙◌, ap, map, subst, inl, inr, arith, ◌++◌, ◌≢◌, drop, refl, None, ◌≤◌, slice_get, slice_get_within, slice_get-get_or, cases_eq, length-set, HeapState, IsLawful, Worker, Lanes, heap_of, KeepsHeap, IsHeapOf, SameButHeap, heap_of_worker, world_of, post_at, take_at, HasYardLane, IsYard, capacity_in, lane_waits, no_heap, with_waiting, heap_in, length-map, Post, PostEnd, TakeEnd, posts_sent, capacity_of, waited, taken, id_and_capacity, LaneChange, SameLane}
use Rattle.tlsf_crew.proofs.lemmas.worker.Slots.{get_set_same, get_set_other, some_same, none_or_some}
use Rattle.tlsf_crew.proofs.lemmas.lanes.LaneSlots.{heap_at, same_parts, map_same}
use Rattle.tlsf_crew.proofs.lemmas.lanes.Signed.{AreFrom, same_signed, changed_signed}
use Rattle.tlsf_crew.proofs.lemmas.model.Edits.{same_world, edited_same, edited_other, cases_both}

-- each worker has a lawful heap of its number
abbrev pub OwnHeaps : {sli : ℕ} → List (Worker sli Lanes) → Type 0
OwnHeaps ws = (i : ℕ) → i < length ws → IsHeapOf i (heap_of_worker ws i)

pub heaps_along : {sli : ℕ} (ws vs : List (Worker sli Lanes)) → map heap_of vs ≡ map heap_of ws → length vs ≡ length ws → OwnHeaps ws → OwnHeaps vs
heaps_along ws vs e len heaps i i_in = subst (λ (l : List HeapState). IsHeapOf i (get_or l i no_heap)) (sym e) (heaps i (omega (arith, len)))

pub heaps_set : {sli : ℕ} (ws : List (Worker sli Lanes)) (i : ℕ) (a v : Worker sli Lanes) → slice_get ws i ≡ Some a → KeepsHeap (heap_of a) (heap_of v) → OwnHeaps ws → OwnHeaps (set ws i v)
heaps_set ws i a v is kept heaps x x_in =
    let x_old : x < length ws = omega (arith, length-set ws i v) in
    let h = heaps x x_old in
    elim (cases_eq x i) [
      | inl xi ↦
          let old : heap_of_worker ws x ≡ heap_of a = ap (heap_of_worker ws) xi ∙ heap_at ws i a is in
          let new : heap_of_worker (set ws i v) x ≡ heap_of v = ap (heap_of_worker (set ws i v)) xi ∙ heap_at (set ws i v) i v (get_set_same ws i v (slice_get_within ws i a is)) in
          rw new (kept.0 ∙ (sym (ap (λ k. k.id) old) ∙ h.0), kept.1 (subst IsLawful old h.1))
      | inr xi ↦
          let there = slice_get-get_or ws x a x_old in
          let e : heap_of_worker (set ws i v) x ≡ heap_of_worker ws x = heap_at (set ws i v) x (get_or ws x a) (get_set_other ws i x v xi ∙ there) ∙ sym (heap_at ws x (get_or ws x a) there) in
          subst (IsHeapOf x) (sym e) h
    ]

pub heaps_count : {sli : ℕ} (ws : List (Worker sli Lanes)) → length (world_of ws).heaps ≡ length ws
unfolding world_of
heaps_count ws = length-map ws heap_of

-- one lane changed
pub changed_world : {sli : ℕ} (ws vs : List (Worker sli Lanes)) (i j : ℕ) (p : PostEnd) (t : TakeEnd) (q : PostEnd) (u : TakeEnd) (ps : List Post)
    → LaneChange ws vs i j p t q u → lane_waits (Some q) (Some u) ≡ ps → world_of vs ≡ with_waiting (world_of ws) i j ps
unfolding world_of
changed_world ws vs i j p t q u ps c e =
    same_world (world_of vs) (with_waiting (world_of ws) i j ps) c.heaps (λ x y.
    elim (cases_both x i y j) [
      | inl at ↦ rw (at.0, at.1, c.new_post_is, c.new_take_is) (e ∙ sym (edited_same (world_of ws).waiting i j ps))
      | inr away ↦ let s = c.same x y away in rw (s.0, s.1) (sym (edited_other (world_of ws).waiting i j x y ps away))
    ]) (ap (λ (l : List (ℕ × ℕ)). (get_or l 0 (0, 0)).1) c.numbers)

pub waits_between : {sli : ℕ} (ws : List (Worker sli Lanes)) (i j : ℕ) (p : PostEnd) (t : TakeEnd) → post_at ws i j ≡ Some p → take_at ws i j ≡ Some t
    → (world_of ws).waiting i j ≡ drop (length (taken t)) (waited t ++ posts_sent p)
unfolding world_of
waits_between ws i j p t a b = rw (a, b) refl

changed_lanes : {sli : ℕ} (ws vs : List (Worker sli Lanes)) (i j : ℕ) (p : PostEnd) (t : TakeEnd) (q : PostEnd) (u : TakeEnd)
    → LaneChange ws vs i j p t q u → IsYard ws → (x y : ℕ) → x < length vs → y < length vs → x ≢ y → HasYardLane vs x y
changed_lanes ws vs i j p t q u c yard x y x_in y_in ne =
    let same_capacity : capacity_in vs ≡ capacity_in ws = ap (λ (l : List (ℕ × ℕ)). (get_or l 0 (0, 0)).1) c.numbers in
    let a : x < length ws = omega (arith, c.len) in
    let b : y < length ws = omega (arith, c.len) in
    let h = yard.lanes x y a b ne in
    elim (cases_both x i y j) [
      | inl at ↦
          let here : post_at ws i j ≡ Some h.0 = subst (λ (z : ℕ). post_at ws z j ≡ Some h.0) at.0 (subst (λ (z : ℕ). post_at ws x z ≡ Some h.0) at.1 h.2) in
          let e : h.0 ≡ p = some_same h.0 p (sym here ∙ c.post_is) in
          let k : capacity_of q ≡ capacity_in vs = c.capacity ∙ (sym (ap capacity_of e) ∙ (h.5 ∙ sym same_capacity)) in
          rw (at.0, at.1) (q, u, c.new_post_is, c.new_take_is, c.lane, k)
      | inr away ↦ let s = c.same x y away in (h.0, h.1, s.0 ∙ h.2, s.1 ∙ h.3, h.4, h.5 ∙ sym same_capacity)
    ]

changed_outside : {sli : ℕ} (ws vs : List (Worker sli Lanes)) (i j : ℕ) (p : PostEnd) (t : TakeEnd) (q : PostEnd) (u : TakeEnd)
    → LaneChange ws vs i j p t q u → IsYard ws → (x y : ℕ) → length vs ≤ y → (post_at vs x y ≡ None) × (take_at vs y x ≡ None)
changed_outside ws vs i j p t q u c yard x y far =
    let none = yard.outside x y (omega (arith, c.len)) in
    let a = c.same x y (λ e f. none_or_some (post_at ws x y) p none.0 (rw (e, f) c.post_is)) in
    let b = c.same y x (λ e f. none_or_some (take_at ws y x) t none.1 (rw (e, f) c.take_is)) in
    (a.0 ∙ none.0, b.1 ∙ none.1)

-- a yard stays whole
pub changed_yard : {sli : ℕ} (ws vs : List (Worker sli Lanes)) (i j : ℕ) (p : PostEnd) (t : TakeEnd) (q : PostEnd) (u : TakeEnd)
    → i ≢ j → LaneChange ws vs i j p t q u → AreFrom i (lane_waits (Some q) (Some u)) → IsYard ws → IsYard vs
changed_yard ws vs i j p t q u ne c new yard = record {
  level = yard.level;
  few = omega (arith, c.len, yard.few);
  ids = λ x x_in. ap (λ (l : List (ℕ × ℕ)). (get_or l x (0, 0)).0) c.numbers ∙ yard.ids x (omega (arith, c.len));
  heaps = heaps_along ws vs c.heaps c.len yard.heaps;
  alone = λ x. let s = c.same x x (λ a b. ne (sym a ∙ b)) in (s.0 ∙ (yard.alone x).0, s.1 ∙ (yard.alone x).1);
  outside = changed_outside ws vs i j p t q u c yard;
  lanes = changed_lanes ws vs i j p t q u c yard;
  small = let e : capacity_in vs ≡ capacity_in ws = ap (λ (l : List (ℕ × ℕ)). (get_or l 0 (0, 0)).1) c.numbers in omega (arith, yard.small);
  signed = changed_signed ws vs i j p t q u c new yard.signed;
}

pub heap_lanes : {sli : ℕ} (ws : List (Worker sli Lanes)) (i : ℕ) (a v : Worker sli Lanes) → slice_get ws i ≡ Some a → SameButHeap a v → (x y : ℕ) → SameLane ws (set ws i v) x y
heap_lanes ws i a v is same x y =
    let i_in : i < length ws = slice_get_within ws i a is in
    let at_i : slice_get (set ws i v) i ≡ Some v = get_set_same ws i v i_in in (
      elim (cases_eq x i) [
        | inl xi ↦ rw (xi, at_i, is) (ap (λ f. f y) (same_parts a v same).1)
        | inr xi ↦ rw (get_set_other ws i x v xi) refl
      ],
      elim (cases_eq y i) [
        | inl yi ↦ rw (yi, at_i, is) (ap (λ f. f x) (same_parts a v same).2)
        | inr yi ↦ rw (get_set_other ws i y v yi) refl
      ],
    )

heap_ends : {sli : ℕ} (ws : List (Worker sli Lanes)) (i : ℕ) (a v : Worker sli Lanes) → slice_get ws i ≡ Some a → SameButHeap a v → IsYard ws → (x y : ℕ) → x < length (set ws i v) → y < length (set ws i v) → x ≢ y → HasYardLane (set ws i v) x y
heap_ends ws i a v is same yard x y x_in y_in ne =
    let n = length-set ws i v in
    let xi : x < length ws = omega arith in
    let yi : y < length ws = omega arith in
    let h = yard.lanes x y xi yi ne in
    let s = heap_lanes ws i a v is same x y in
    (h.0, h.1, s.0 ∙ h.2, s.1 ∙ h.3, h.4, h.5 ∙ sym (ap (λ (l : List (ℕ × ℕ)). (get_or l 0 (0, 0)).1) (map_same id_and_capacity ws i a v is (same_parts a v same).0)))

pub heap_yard : {sli : ℕ} (ws : List (Worker sli Lanes)) (i : ℕ) (a v : Worker sli Lanes) → slice_get ws i ≡ Some a → SameButHeap a v → KeepsHeap (heap_of a) (heap_of v) → IsYard ws → IsYard (set ws i v)
heap_yard ws i a v is same kept yard = record {
  few = omega (arith, length-set ws i v, yard.few);
  ids = λ x x_in. ap (λ (l : List (ℕ × ℕ)). (get_or l x (0, 0)).0) (map_same id_and_capacity ws i a v is (same_parts a v same).0) ∙ yard.ids x (omega (arith, length-set ws i v));
  heaps = heaps_set ws i a v is kept yard.heaps;
  alone = λ x. let s = heap_lanes ws i a v is same x x in (s.0 ∙ (yard.alone x).0, s.1 ∙ (yard.alone x).1);
  outside = λ x y far.
      let none = yard.outside x y (omega (arith, length-set ws i v)) in
      ((heap_lanes ws i a v is same x y).0 ∙ none.0, (heap_lanes ws i a v is same y x).1 ∙ none.1);
  lanes = heap_ends ws i a v is same yard;
  small =
      let e : capacity_in (set ws i v) ≡ capacity_in ws = ap (λ (l : List (ℕ × ℕ)). (get_or l 0 (0, 0)).1) (map_same id_and_capacity ws i a v is (same_parts a v same).0) in
      omega (arith, yard.small);
  level = yard.level;
  signed = same_signed ws (set ws i v) (heap_lanes ws i a v is same) yard.signed;
}

pub heap_in_is : {sli : ℕ} (ws : List (Worker sli Lanes)) (i : ℕ) (a : Worker sli Lanes) → slice_get ws i ≡ Some a → heap_in (world_of ws) i ≡ heap_of a
unfolding world_of
heap_in_is ws i a is = heap_at ws i a is
