-- Where one worker of a yard changes one of its ends, that lane changes and no other.
use Rattle.tlsf_crew.proofs.Common.{◌≡◌, ◌≢◌, ℕ, List, Some, set, ap, refl, inl, inr, slice_get, slice_get_within, cases_eq, PostEnd, TakeEnd, Worker, Lanes, end_to, end_from, post_at, take_at}
use Rattle.tlsf_crew.proofs.lemmas.worker.Slots.{get_set_same, get_set_other}

-- worker i got an end that posts to j
pub record PostSet {sli : ℕ} (ws us : List (Worker sli Lanes)) (i j : ℕ) (p : PostEnd) : Type 0 where
  pub here : post_at us i j ≡ Some p
  pub others : (x y : ℕ) → (x ≡ i → y ≡ j → ⊥) → post_at us x y ≡ post_at ws x y
  pub takes : (x y : ℕ) → take_at us x y ≡ take_at ws x y

pub posts_set : {sli : ℕ} (ws : List (Worker sli Lanes)) (i j : ℕ) (a v : Worker sli Lanes) (p : PostEnd) → slice_get ws i ≡ Some a
    → end_to v j ≡ Some p → ((k : ℕ) → k ≢ j → end_to v k ≡ end_to a k) → end_from v ≡ end_from a → PostSet ws (set ws i v) i j p
posts_set ws i j a v p is new others same =
    let at_i : slice_get (set ws i v) i ≡ Some v = get_set_same ws i v (slice_get_within ws i a is) in
    record {
      here = rw at_i new;
      others = λ x y away.
          elim (cases_eq x i) [
            | inl xi ↦ rw (xi, at_i, is) (others y (λ q. away xi q))
            | inr xi ↦ rw (get_set_other ws i x v xi) refl
          ];
      takes = λ x y.
          elim (cases_eq y i) [
            | inl yi ↦ rw (yi, at_i, is) (ap (λ f. f x) same)
            | inr yi ↦ rw (get_set_other ws i y v yi) refl
          ];
    }

-- worker j got an end that takes from i
pub record TakeSet {sli : ℕ} (ws us : List (Worker sli Lanes)) (i j : ℕ) (t : TakeEnd) : Type 0 where
  pub here : take_at us i j ≡ Some t
  pub others : (x y : ℕ) → (x ≡ i → y ≡ j → ⊥) → take_at us x y ≡ take_at ws x y
  pub posts : (x y : ℕ) → post_at us x y ≡ post_at ws x y

pub takes_set : {sli : ℕ} (ws : List (Worker sli Lanes)) (i j : ℕ) (b w : Worker sli Lanes) (t : TakeEnd) → slice_get ws j ≡ Some b
    → end_from w i ≡ Some t → ((k : ℕ) → k ≢ i → end_from w k ≡ end_from b k) → end_to w ≡ end_to b → TakeSet ws (set ws j w) i j t
takes_set ws i j b w t is new others same =
    let at_j : slice_get (set ws j w) j ≡ Some w = get_set_same ws j w (slice_get_within ws j b is) in
    record {
      here = rw at_j new;
      others = λ x y away.
          elim (cases_eq y j) [
            | inl yj ↦ rw (yj, at_j, is) (others x (λ q. away q yj))
            | inr yj ↦ rw (get_set_other ws j y w yj) refl
          ];
      posts = λ x y.
          elim (cases_eq x j) [
            | inl xj ↦ rw (xj, at_j, is) (ap (λ f. f y) same)
            | inr xj ↦ rw (get_set_other ws j x w xj) refl
          ];
    }
