-- Where all lanes were laid, row by row, the yard is whole and its world is the opened one.
use Rattle.tlsf_crew.proofs.Common.{suc, zero, [], ◌∷◌, ◌++◌, ◌≡◌, ◌≢◌, ℕ, ◌+◌, ◌<◌, List, Option, Some, None, length, get_or, set, replicate, sym, ◌∙◌, ap, map, arith, refl, inl, inr, subst, ◌≤◌, slice_get, range_with_len, slice_get_past, cases_eq, map-append, length-replicate, length-set, All-nil, IsLevel, Post, PostEnd, TakeEnd, posts_sent, free_slots, capacity_of, waited, taken, ready, IsLane, Worker, Lanes, post_at, take_at, capacity_in, lane_waits, IsYard, heap_of_worker, world_of, no_heap, opened_heaps, opened_world, slot_of, heap_of, id_and_capacity, IsBefore, IsLaid, opened_numbers, HeapState, opened, map-range_with_len_more, get_or-map-range_with_len, AreSizes}
use Rattle.tlsf_crew.proofs.lemmas.worker.Slots.{get_set_same, get_set_other, some_same, none_or_some, slot_new, slot_other, no_slot}
use Rattle.tlsf_crew.proofs.lemmas.lanes.LaneSlots.{map_same}
use Rattle.tlsf_crew.proofs.lemmas.model.Edits.{same_world, cases_both}
use Rattle.tlsf_crew.proofs.lemmas.lanes.OneEnd.{posts_set, takes_set}
use Rattle.tlsf_crew.proofs.lemmas.worker.OwnHeaps.{opened_lawful}

-- each worker still has its slots
slots_set : {sli : ℕ} (ws : List (Worker sli Lanes)) (n i : ℕ) (v : Worker sli Lanes) → i < length ws → ((x : ℕ) (a : Worker sli Lanes) → slice_get ws x ≡ Some a → (length a.ports.posts.items ≡ n) × (length a.ports.takes.items ≡ n))
    → (length v.ports.posts.items ≡ n) × (length v.ports.takes.items ≡ n) → (x : ℕ) (a : Worker sli Lanes) → slice_get (set ws i v) x ≡ Some a → (length a.ports.posts.items ≡ n) × (length a.ports.takes.items ≡ n)
slots_set {sli} ws n i v i_in slots own x a is =
    elim (cases_eq x i) [
      | inl xi ↦
          let e : v ≡ a = some_same v a (sym (get_set_same ws i v i_in) ∙ (sym (ap (slice_get (set ws i v)) xi) ∙ is)) in
          subst (λ (z : Worker sli Lanes). (length z.ports.posts.items ≡ n) × (length z.ports.takes.items ≡ n)) e own
      | inr xi ↦ slots x a (sym (get_set_other ws i x v xi) ∙ is)
    ]

before_more : (i j x y : ℕ) → IsBefore i (j + 1) x y → (x ≡ i → y ≡ j → ⊥) → IsBefore i j x y
before_more i j x y b away =
    elim b [
      | inl lt ↦ inl lt
      | inr e ↦ (let ne : y ≢ j = λ q. away e.0 q in let lt = e.1 in inr (e.0, omega arith))
    ]

-- what holds of each end, where one more was laid
end_laid : {E : Type 0} (P : E → Type 0) (old new : ℕ → ℕ → Option E) (i j : ℕ) (e : E) → new i j ≡ Some e → ((x y : ℕ) → (x ≡ i → y ≡ j → ⊥) → new x y ≡ old x y) → P e
    → ((x y : ℕ) (q : E) → old x y ≡ Some q → P q) → (x y : ℕ) (q : E) → new x y ≡ Some q → P q
end_laid P old new i j e here others own before x y q is =
    elim (cases_both x i y j) [
      | inl at ↦ subst P (some_same e q (rw (at.0, at.1, here) at is)) own
      | inr away ↦ before x y q (sym (others x y away) ∙ is)
    ]

-- worker i got its end to put into a new lane to worker j, and worker j then its end to take from it
pub record LaneGiven {sli : ℕ} (ws : List (Worker sli Lanes)) (n capacity i j : ℕ) (v w : Worker sli Lanes) : Type 0 where
  pub near : (i < n) × (j < n) × (i ≢ j)
  pub poster : Worker sli Lanes
  pub taker : Worker sli Lanes
  pub post : PostEnd
  pub take : TakeEnd
  pub poster_is : slice_get ws i ≡ Some poster
  pub posts : v.ports.posts.items ≡ set poster.ports.posts.items j (Some post)
  pub poster_same : (v.heap ≡ poster.heap) × (id_and_capacity v ≡ id_and_capacity poster) × (v.ports.takes ≡ poster.ports.takes)
  pub taker_is : slice_get (set ws i v) j ≡ Some taker
  pub takes : w.ports.takes.items ≡ set taker.ports.takes.items i (Some take)
  pub taker_same : (w.heap ≡ taker.heap) × (id_and_capacity w ≡ id_and_capacity taker) × (w.ports.posts ≡ taker.ports.posts)
  pub lane : IsLane post take
  pub size : (capacity_of post ≡ capacity) × (free_slots post ≡ capacity)
  pub unsent : posts_sent post ≡ []
  pub untaken : (waited take ≡ []) × (taken take ≡ []) × (ready take ≡ [])

-- one lane more
pub lane_laid : {sli : ℕ} (ws : List (Worker sli Lanes)) (n words capacity i j : ℕ) (v w : Worker sli Lanes) → IsLaid ws n words capacity i j → LaneGiven ws n capacity i j v w
    → IsLaid (set (set ws i v) j w) n words capacity i (j + 1)
lane_laid ws n words capacity i j v w l g =
    let a = g.poster in
    let b = g.taker in
    let p = g.post in
    let t = g.take in
    let ne = g.near.2 in
    let posts = g.posts in
    let takes = g.takes in
    let a_is = g.poster_is in
    let b_is = g.taker_is in
    let a_same = g.poster_same in
    let b_same = g.taker_same in
    let unsent = g.unsent in
    let untaken = g.untaken in
    let near = g.near in
    let us = set ws i v in
    let vs = set us j w in
    let len_u = length-set ws i v in
    let len_v = length-set us j w in
    let l_len = l.len in
    let a_slots = l.slots i a a_is in
    let lt_j : j < length a.ports.posts.items = omega (arith, a_slots.0) in
    let first = posts_set ws i j a v p a_is (slot_new _ _ j p lt_j posts) (slot_other _ _ j p posts) (ap (λ k y. slot_of (slice_get k.items y)) a_same.2) in
    let v_slots : (length v.ports.posts.items ≡ n) × (length v.ports.takes.items ≡ n) = (ap length posts ∙ (length-set a.ports.posts.items j (Some p) ∙ a_slots.0), ap (λ k. length k.items) a_same.2 ∙ a_slots.1) in
    let i_len : i < length ws = omega arith in
    let slots_u = slots_set ws n i v i_len l.slots v_slots in
    let b_slots = slots_u j b b_is in
    let lt_i : i < length b.ports.takes.items = omega (arith, b_slots.1) in
    let second = takes_set us i j b w t b_is (slot_new _ _ i t lt_i takes) (slot_other _ _ i t takes) (ap (λ k y. slot_of (slice_get k.items y)) b_same.2) in
    let w_slots : (length w.ports.posts.items ≡ n) × (length w.ports.takes.items ≡ n) = (ap (λ k. length k.items) b_same.2 ∙ b_slots.0, ap length takes ∙ (length-set b.ports.takes.items i (Some t) ∙ b_slots.1)) in
    let j_len : j < length us = omega arith in
    let post_here : post_at vs i j ≡ Some p = second.posts i j ∙ first.here in
    let post_other : (x y : ℕ) → (x ≡ i → y ≡ j → ⊥) → post_at vs x y ≡ post_at ws x y = λ x y away. second.posts x y ∙ first.others x y away in
    let take_other : (x y : ℕ) → (x ≡ i → y ≡ j → ⊥) → take_at vs x y ≡ take_at ws x y = λ x y away. second.others x y away ∙ first.takes x y in
    let nothing : lane_waits (Some p) (Some t) ≡ [] = rw (unsent, untaken.0, untaken.1) refl in
    record {
      len = len_v ∙ (len_u ∙ l.len);
      heaps = map_same heap_of us j b w b_is (ap (λ h. h.heap) b_same.0) ∙ (map_same heap_of ws i a v a_is (ap (λ h. h.heap) a_same.0) ∙ l.heaps);
      numbers = map_same id_and_capacity us j b w b_is b_same.1 ∙ (map_same id_and_capacity ws i a v a_is a_same.1 ∙ l.numbers);
      slots = slots_set us n j w j_len slots_u w_slots;
      empty = λ x y.
          elim (cases_both x i y j) [
            | inl at ↦ rw (at.0, at.1, post_here, second.here) nothing
            | inr away ↦ rw (post_other x y away, take_other x y away) (l.empty x y)
          ];
      free = end_laid (λ q. free_slots q ≡ capacity) (post_at ws) (post_at vs) i j p post_here post_other g.size.1 l.free;
      fresh = record {
        sent = end_laid (λ q. posts_sent q ≡ []) (post_at ws) (post_at vs) i j p post_here post_other unsent l.fresh.sent;
        taken = end_laid (λ u. (waited u ≡ []) × (taken u ≡ []) × (ready u ≡ [])) (take_at ws) (take_at vs) i j t second.here take_other untaken l.fresh.taken;
      };
      alone = λ x. let away : x ≡ i → x ≡ j → ⊥ = λ a b. ne (sym a ∙ b) in (post_other x x away ∙ (l.alone x).0, take_other x x away ∙ (l.alone x).1);
      laid = λ x y x_in y_in apart before.
          elim (cases_both x i y j) [
            | inl at ↦ rw (at.0, at.1) (p, t, post_here, second.here, g.lane, g.size.0)
            | inr away ↦ let h = l.laid x y x_in y_in apart (before_more i j x y before away) in (h.0, h.1, post_other x y away ∙ h.2, take_other x y away ∙ h.3, h.4, h.5)
          ];
    }

-- the same lanes, counted otherwise
laid_along : {sli : ℕ} (ws : List (Worker sli Lanes)) (n words capacity i j k m : ℕ) → IsLaid ws n words capacity i j
    → ((x y : ℕ) → x < n → y < n → x ≢ y → IsBefore k m x y → IsBefore i j x y) → IsLaid ws n words capacity k m
laid_along ws n words capacity i j k m l f =
    record { len = l.len; heaps = l.heaps; numbers = l.numbers; slots = l.slots; empty = l.empty; free = l.free; fresh = l.fresh; alone = l.alone; laid = λ x y a b ne before. l.laid x y a b ne (f x y a b ne before) }

pub lane_skipped : {sli : ℕ} (ws : List (Worker sli Lanes)) (n words capacity i j : ℕ) → i ≡ j → IsLaid ws n words capacity i j → IsLaid ws n words capacity i (j + 1)
lane_skipped ws n words capacity i j e l =
    laid_along ws n words capacity i j i (j + 1) l (λ x y _ _ ne before. before_more i j x y before (λ xi yj. ne (xi ∙ (e ∙ sym yj))))

pub row_laid : {sli : ℕ} (ws : List (Worker sli Lanes)) (n words capacity i : ℕ) → IsLaid ws n words capacity i n → IsLaid ws n words capacity (i + 1) 0
row_laid ws n words capacity i l =
    laid_along ws n words capacity i n (i + 1) 0 l (λ x y _ y_in _ before. elim before [
      | inl lt ↦ elim (cases_eq x i) [ inl e ↦ inr (e, y_in) | inr ne ↦ inl (omega arith) ]
      | inr e ↦ absurd (let lt = e.1 in omega arith)
    ])

-- no end leads out of the yard
abbrev pub HaveSlots : {sli : ℕ} → List (Worker sli Lanes) → ℕ → Type 0
HaveSlots {sli} ws n = (x : ℕ) (a : Worker sli Lanes) → slice_get ws x ≡ Some a → (length a.ports.posts.items ≡ n) × (length a.ports.takes.items ≡ n)

no_end_to : {sli : ℕ} (ws : List (Worker sli Lanes)) (n i j : ℕ) → HaveSlots ws n → n ≤ j → post_at ws i j ≡ None
no_end_to [] n i j slots le = refl
no_end_to (w ∷ ws) n zero j slots le = let past : length w.ports.posts.items ≤ j = omega (arith, (slots 0 w refl).0) in rw (slice_get_past w.ports.posts.items j past) refl
no_end_to (w ∷ ws) n (suc i) j slots le = no_end_to ws n i j (λ x a is. slots (suc x) a is) le

no_end_from : {sli : ℕ} (ws : List (Worker sli Lanes)) (n i j : ℕ) → HaveSlots ws n → n ≤ j → take_at ws j i ≡ None
no_end_from [] n i j slots le = refl
no_end_from (w ∷ ws) n zero j slots le = let past : length w.ports.takes.items ≤ j = omega (arith, (slots 0 w refl).1) in rw (slice_get_past w.ports.takes.items j past) refl
no_end_from (w ∷ ws) n (suc i) j slots le = no_end_from ws n i j (λ x a is. slots (suc x) a is) le

-- when all lanes are laid
pub laid_yard : {sli : ℕ} (ws : List (Worker sli Lanes)) (n words capacity : ℕ) → IsLevel sli → AreSizes sli n words capacity → IsLaid ws n words capacity n 0 → IsYard ws
laid_yard {sli} ws n words capacity level sizes l =
    let l_len = l.len in
    let n_in : 0 < n = let s = sizes.0.0 in omega arith in
    let first : capacity_in ws ≡ capacity =
    ap (λ (k : List (ℕ × ℕ)). (get_or k 0 (0, 0)).1) l.numbers ∙ ap (λ (k : ℕ × ℕ). k.1) (get_or-map-range_with_len (λ (j : ℕ). (j, capacity)) 0 n 0 0 (0, 0) n_in refl) in
    record {
      level = level;
      few = let s = sizes.0.1 in omega arith;
      ids = λ i i_in.
          ap (λ (k : List (ℕ × ℕ)). (get_or k i (0, 0)).0) l.numbers
          ∙ ap (λ (k : ℕ × ℕ). k.0) (get_or-map-range_with_len (λ (j : ℕ). (j, capacity)) 0 n i i (0, 0) (omega arith) (omega arith));
      heaps = λ i i_in.
          let i_n : i < n = omega arith in
          let e : heap_of_worker ws i ≡ opened i words 0 =
          ap (λ (k : List HeapState). get_or k i no_heap) l.heaps ∙ get_or-map-range_with_len (λ (j : ℕ). opened j words 0) 0 n i i no_heap i_n (omega arith) in
          rw e (opened_lawful sli i words sizes.1);
      alone = l.alone;
      outside = λ i j far. let n_le : n ≤ j = omega arith in (no_end_to ws n i j l.slots n_le, no_end_from ws n i j l.slots n_le);
      lanes = λ x y x_in y_in ne.
          let x_n : x < n = omega arith in
          let y_n : y < n = omega arith in
          let h = l.laid x y x_n y_n ne (inl x_n) in
          (h.0, h.1, h.2, h.3, h.4, h.5 ∙ sym first);
      small = let s = sizes.2.1 in omega (arith, first);
      signed = λ x y. rw (l.empty x y) (All-nil (λ (post : Post). post.from ≡ x));
    }

pub laid_world : {sli : ℕ} (ws : List (Worker sli Lanes)) (n words capacity : ℕ) → AreSizes sli n words capacity → IsLaid ws n words capacity n 0 → world_of ws ≡ opened_world n words capacity
unfolding world_of
laid_world ws n words capacity sizes l =
    let n_in : 0 < n = let s = sizes.0.0 in omega arith in
    same_world (world_of ws) (opened_world n words capacity) l.heaps l.empty
    (ap (λ (k : List (ℕ × ℕ)). (get_or k 0 (0, 0)).1) l.numbers ∙ ap (λ (k : ℕ × ℕ). k.1) (get_or-map-range_with_len (λ (j : ℕ). (j, capacity)) 0 n 0 0 (0, 0) n_in refl))

-- one worker more
pub map_push : {sli : ℕ} {X : Type 0} (f : Worker sli Lanes → X) (g : ℕ → X) (ws : List (Worker sli Lanes)) (w : Worker sli Lanes) (k : ℕ) → map f ws ≡ map g (range_with_len 0 k) → f w ≡ g k
    → map f (ws ++ w ∷ []) ≡ map g (range_with_len 0 (k + 1))
map_push f g ws w k e q = map-append f ws (w ∷ []) ∙ (ap (λ l. l ++ f w ∷ []) e ∙ (ap (λ z. map g (range_with_len 0 k) ++ z ∷ []) q ∙ sym (map-range_with_len_more g 0 k k (omega arith))))

-- workers with no lanes
abbrev pub AreAlone : {sli : ℕ} → List (Worker sli Lanes) → ℕ → Type 0
AreAlone {sli} ws n = (x : ℕ) (a : Worker sli Lanes) → slice_get ws x ≡ Some a → (a.ports.posts.items ≡ replicate n None) × (a.ports.takes.items ≡ replicate n None)

pub alone_push : {sli : ℕ} (ws : List (Worker sli Lanes)) (w : Worker sli Lanes) (n : ℕ) → AreAlone ws n → w.ports.posts.items ≡ replicate n None → w.ports.takes.items ≡ replicate n None → AreAlone (ws ++ w ∷ []) n
alone_push [] w n alone p t zero a is = let e : w ≡ a = some_same w a is in rw (← e) (p, t)
alone_push [] w n alone p t (suc x) a is = cc
alone_push (z ∷ ws) w n alone p t zero a is = alone zero a is
alone_push (z ∷ ws) w n alone p t (suc x) a is = alone_push ws w n (λ y b q. alone (suc y) b q) p t x a is

none_at : {sli : ℕ} (ws : List (Worker sli Lanes)) (n x y : ℕ) → AreAlone ws n → post_at ws x y ≡ None
none_at [] n x y alone = refl
none_at (w ∷ ws) n zero y alone = rw ((alone 0 w refl).0) (no_slot n y)
none_at (w ∷ ws) n (suc x) y alone = none_at ws n x y (λ z b q. alone (suc z) b q)

none_from : {sli : ℕ} (ws : List (Worker sli Lanes)) (n x y : ℕ) → AreAlone ws n → take_at ws y x ≡ None
none_from [] n x y alone = refl
none_from (w ∷ ws) n zero y alone = rw ((alone 0 w refl).1) (no_slot n y)
none_from (w ∷ ws) n (suc x) y alone = none_from ws n x y (λ z b q. alone (suc z) b q)

pub alone_laid : {sli : ℕ} (ws : List (Worker sli Lanes)) (n words capacity : ℕ) → length ws ≡ n → map heap_of ws ≡ opened_heaps n words → map id_and_capacity ws ≡ opened_numbers n capacity → AreAlone ws n
    → IsLaid ws n words capacity 0 0
alone_laid ws n words capacity len heaps numbers alone =
    record {
      len = len;
      heaps = heaps;
      numbers = numbers;
      slots = λ x a is. let h = alone x a is in (ap length h.0 ∙ length-replicate n None, ap length h.1 ∙ length-replicate n None);
      empty = λ x y. rw (none_at ws n x y alone) refl;
      free = λ x y p is. absurd (none_or_some (post_at ws x y) p (none_at ws n x y alone) is);
      fresh = record {
        sent = λ x y p is. absurd (none_or_some (post_at ws x y) p (none_at ws n x y alone) is);
        taken = λ x y t is. absurd (none_or_some (take_at ws x y) t (none_from ws n y x alone) is);
      };
      alone = λ x. (none_at ws n x x alone, none_from ws n x x alone);
      laid = λ x y _ _ _ before. elim before [ inl lt ↦ absurd (omega arith) | inr e ↦ absurd (let lt = e.1 in omega arith) ];
    }
