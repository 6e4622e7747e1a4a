-- A worker whose ends, or whose heap, are another's: what its yard has in each slot.
use Rattle.tlsf_crew.proofs.Common.{◌≡◌, ℕ, ap, suc, zero, [], ◌∷◌, ◌≢◌, ◌<◌, List, Option, Some, None, length, set, sym, ◌∙◌, map, option_map, slice_get-map, refl, inl, inr, Worker, Lanes, id_and_capacity, end_to, end_from, lane_to, lane_from, lane_extents, lane_memory, SameButHeap, SameButPorts, Stays, heap_of, shown_of, shown_in, slot_of, slice_get, get_or_from_slice_get, slice_get_within, cases_eq, length-set, map-set_same, PostEnd, TakeEnd, end_to_in, end_from_in, heap_of_worker, HasYardLane, OnlyLaneSettled, LaneChange, SameLane, InYard}
use Rattle.tlsf_crew.proofs.lemmas.worker.Slots.{get_set_same, get_set_other, got, got_first, got_second, from_slot, some_same}

pub same_parts : {sli : ℕ} (a v : Worker sli Lanes) → SameButHeap a v → (id_and_capacity v ≡ id_and_capacity a) × (end_to v ≡ end_to a) × (end_from v ≡ end_from a)
same_parts a v same = (λ t. (same.0 t, (same.1 t).capacity), ap lane_to same.1, ap lane_from same.1)

pub ports_numbers : {sli : ℕ} (a v : Worker sli Lanes) → SameButPorts a v → v.ports.capacity ≡ a.ports.capacity → id_and_capacity v ≡ id_and_capacity a
ports_numbers a v same e = λ t. (same.0 t, e t)

-- a field of the workers that a write leaves
pub map_same : {sli : ℕ} {X : Type 0} (f : Worker sli Lanes → X) (ws : List (Worker sli Lanes)) (i : ℕ) (a v : Worker sli Lanes) → slice_get ws i ≡ Some a → f v ≡ f a → map f (set ws i v) ≡ map f ws
map_same f ws i a v is e = map-set_same f ws i v a (e ∙ ap f (sym (get_or_from_slice_get ws i a a is)))

pub same_then : {sli : ℕ} (ws vs us : List (Worker sli Lanes)) (i j : ℕ) → SameLane ws vs i j → SameLane vs us i j → SameLane ws us i j
same_then ws vs us i j a b = (b.0 ∙ a.0, b.1 ∙ a.1)

-- every other lane
pub step_same : {sli : ℕ} (ws vs : List (Worker sli Lanes)) (i j x y : ℕ) → i ≢ j → OnlyLaneSettled ws i j vs → (x ≡ i → y ≡ j → ⊥) → SameLane ws vs x y
step_same ws vs i j x y ne s away =
    let m = s.settled in
    let i_in : i < length ws = slice_get_within ws i s.a s.a_is in
    let j_in : j < length ws = slice_get_within ws j s.b s.b_is in
    let at_i : slice_get vs i ≡ Some s.v = rw s.after (got_first ws i j s.v s.w ne i_in) in
    let at_j : slice_get vs j ≡ Some s.w = rw s.after (got_second ws i j s.v s.w j_in) in (
      elim (cases_eq x i) [
        | inl xi ↦ let yj : y ≢ j = λ e. away xi e in rw (xi, at_i, s.a_is, m.posts, get_set_other s.a.ports.posts.items j y (Some m.new_post) yj) refl
        | inr xi ↦ elim (cases_eq x j) [
          | inl xj ↦ rw (xj, at_j, s.b_is) (ap (λ k. slot_of (slice_get k.items y)) m.same_taker.2)
          | inr xj ↦ rw (s.after, got ws i j x s.v s.w xi xj) refl
        ]
      ],
      elim (cases_eq y j) [
        | inl yj ↦ let xi : x ≢ i = λ e. away e yj in rw (yj, at_j, s.b_is, m.takes, get_set_other s.b.ports.takes.items i x (Some m.new_take) xi) refl
        | inr yj ↦ elim (cases_eq y i) [
          | inl yi ↦ rw (yi, at_i, s.a_is) (ap (λ k. slot_of (slice_get k.items x)) m.same_poster.2)
          | inr yi ↦ rw (s.after, got ws i j y s.v s.w yi yj) refl
        ]
      ],
    )

pub from_post : {sli : ℕ} (o : Option (Worker sli Lanes)) (j : ℕ) (p : PostEnd) → end_to_in o j ≡ Some p
    → (a : Worker sli Lanes) × (o ≡ Some a) × (slice_get a.ports.posts.items j ≡ Some (Some p))
from_post None j p h = cc
from_post (Some w) j p h = (w, refl, from_slot (slice_get w.ports.posts.items j) p h)

pub from_take : {sli : ℕ} (o : Option (Worker sli Lanes)) (i : ℕ) (t : TakeEnd) → end_from_in o i ≡ Some t
    → (a : Worker sli Lanes) × (o ≡ Some a) × (slice_get a.ports.takes.items i ≡ Some (Some t))
from_take None i t h = cc
from_take (Some w) i t h = (w, refl, from_slot (slice_get w.ports.takes.items i) t h)

-- both ends stand in the yard
pub in_yard : {sli : ℕ} (ws : List (Worker sli Lanes)) (i j : ℕ) → HasYardLane ws i j → InYard ws i j
in_yard ws i j h =
    let a = from_post (slice_get ws i) j h.0 h.2 in
    let b = from_take (slice_get ws j) i h.1 h.3 in
    (a.0, b.0, a.1, b.1, (h.0, h.1, a.2, b.2, h.4))

-- settling one lane
pub step_change : {sli : ℕ} (ws vs : List (Worker sli Lanes)) (i j : ℕ) → i ≢ j → (s : OnlyLaneSettled ws i j vs) → LaneChange ws vs i j s.settled.post s.settled.take s.settled.new_post s.settled.new_take
step_change ws vs i j ne s =
    let m = s.settled in
    let i_in : i < length ws = slice_get_within ws i s.a s.a_is in
    let j_in : j < length ws = slice_get_within ws j s.b s.b_is in
    let at_i : slice_get vs i ≡ Some s.v = rw s.after (got_first ws i j s.v s.w ne i_in) in
    let at_j : slice_get vs j ≡ Some s.w = rw s.after (got_second ws i j s.v s.w j_in) in
    let j_post : j < length s.a.ports.posts.items = slice_get_within s.a.ports.posts.items j (Some m.post) m.post_is in
    let i_take : i < length s.b.ports.takes.items = slice_get_within s.b.ports.takes.items i (Some m.take) m.take_is in
    let b_still : slice_get (set ws i s.v) j ≡ Some s.b = get_set_other ws i j s.v (λ e. ne (sym e)) ∙ s.b_is in
    record {
      post_is = rw (s.a_is, m.post_is) refl;
      take_is = rw (s.b_is, m.take_is) refl;
      new_post_is = rw (at_i, m.posts, get_set_same s.a.ports.posts.items j (Some m.new_post) j_post) refl;
      new_take_is = rw (at_j, m.takes, get_set_same s.b.ports.takes.items i (Some m.new_take) i_take) refl;
      same = λ x y away. step_same ws vs i j x y ne s away;
      heaps = rw s.after (map_same heap_of (set ws i s.v) j s.b s.w b_still (ap (λ h. h.heap) m.same_taker.0) ∙ map_same heap_of ws i s.a s.v s.a_is (ap (λ h. h.heap) m.same_poster.0));
      numbers = rw s.after (map_same id_and_capacity (set ws i s.v) j s.b s.w b_still m.same_taker.1 ∙ map_same id_and_capacity ws i s.a s.v s.a_is m.same_poster.1);
      len = ap length s.after ∙ (length-set _ j s.w ∙ length-set ws i s.v);
      lane = m.beside.lane;
      capacity = m.beside.capacity;
    }

-- moves no memory
same_memory : {sli : ℕ} (a v : Worker sli Lanes) → Stays lane_extents a v → lane_memory v ≡ lane_memory a
same_memory a v stays = λ t. (stays.0 t, stays.1 t)

pub step_memory : {sli : ℕ} (ws vs : List (Worker sli Lanes)) (i j : ℕ) → i ≢ j → OnlyLaneSettled ws i j vs → map lane_memory vs ≡ map lane_memory ws
step_memory ws vs i j ne s =
    let b_still : slice_get (set ws i s.v) j ≡ Some s.b = get_set_other ws i j s.v (λ e. ne (sym e)) ∙ s.b_is in
    rw s.after (map_same lane_memory (set ws i s.v) j s.b s.w b_still (same_memory s.b s.w s.settled.taker_stays) ∙ map_same lane_memory ws i s.a s.v s.a_is (same_memory s.a s.v s.settled.poster_stays))

-- and touches no heap
pub step_heaps : {sli : ℕ} (ws vs : List (Worker sli Lanes)) (i j : ℕ) → i ≢ j → OnlyLaneSettled ws i j vs → map shown_of vs ≡ map shown_of ws
step_heaps ws vs i j ne s =
    let b_still : slice_get (set ws i s.v) j ≡ Some s.b = get_set_other ws i j s.v (λ e. ne (sym e)) ∙ s.b_is in
    rw s.after (map_same shown_of (set ws i s.v) j s.b s.w b_still s.settled.same_taker.0 ∙ map_same shown_of ws i s.a s.v s.a_is s.settled.same_poster.0)

-- where no heap of a list was touched, none of its workers' was
pub shown_same : {sli : ℕ} (ws vs : List (Worker sli Lanes)) (x : ℕ) → map shown_of vs ≡ map shown_of ws → shown_in vs x ≡ shown_in ws x
shown_same ws vs x same = ap (λ l. slice_get l x) same

-- and one worker that changes leaves the others' heaps
pub shown_other : {sli : ℕ} (ws : List (Worker sli Lanes)) (i x : ℕ) (v : Worker sli Lanes) → x ≢ i → shown_in (set ws i v) x ≡ shown_in ws x
shown_other ws i x v ne = slice_get-map shown_of (set ws i v) x ∙ ap (option_map shown_of) (get_set_other ws i x v ne) ∙ sym (slice_get-map shown_of ws x)

pub heap_at : {sli : ℕ} (ws : List (Worker sli Lanes)) (i : ℕ) (a : Worker sli Lanes) → slice_get ws i ≡ Some a → heap_of_worker ws i ≡ heap_of a
heap_at [] i a e = cc
heap_at (w ∷ ws) zero a e = ap heap_of (some_same w a e)
heap_at (w ∷ ws) (suc i) a e = heap_at ws i a e
