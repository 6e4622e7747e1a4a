-- A slot that was written has what was written, and each other slot what it had.
use Rattle.tlsf_crew.proofs.Common.{◌⊎◌, ◌≡◌, ◌≢◌, ℕ, ◌<◌, ◌≤◌, List, Option, Some, None, length, set, sym, ◌∙◌, ap, arith, refl, inl, inr, get_or-set_same, get_or-set_other, suc, zero, replicate, ◌∷◌, ◌++◌, [], slice_get, slice_get-get_or, slice_get_past, cases_lt, length-set, slot_of, end_extents, Extent}

pub no_slot : {X : Type 0} (n y : ℕ) → slot_of (slice_get (replicate {A = Option X} n None) y) ≡ None
no_slot zero y = refl
no_slot (suc n) zero = refl
no_slot (suc n) (suc y) = no_slot n y

pub get_set_same : {X : Type 0} (xs : List X) (i : ℕ) (v : X) → i < length xs → slice_get (set xs i v) i ≡ Some v
get_set_same xs i v lt =
    let m : i < length (set xs i v) = omega (arith, length-set xs i v) in
    slice_get-get_or (set xs i v) i v m ∙ ap Some (get_or-set_same xs i v v lt)

pub get_set_other : {X : Type 0} (xs : List X) (i k : ℕ) (v : X) → k ≢ i → slice_get (set xs i v) k ≡ slice_get xs k
get_set_other xs i k v ne =
    elim (cases_lt k (length xs)) [
      | inl lt ↦
          let m : k < length (set xs i v) = omega (arith, length-set xs i v) in
          slice_get-get_or (set xs i v) k v m ∙ (ap Some (get_or-set_other xs i k v v ne) ∙ sym (slice_get-get_or xs k v lt))
      | inr ge ↦
          let m : length (set xs i v) ≤ k = omega (arith, length-set xs i v) in
          slice_get_past (set xs i v) k m ∙ sym (slice_get_past xs k ge)
    ]

-- the ends of a worker after one is written
pub slot_new : {X : Type 0} (xs ys : List (Option X)) (j : ℕ) (p : X) → j < length xs → ys ≡ set xs j (Some p) → slot_of (slice_get ys j) ≡ Some p
slot_new xs ys j p lt e = rw (e, get_set_same xs j (Some p) lt) refl

pub slot_other : {X : Type 0} (xs ys : List (Option X)) (j : ℕ) (p : X) → ys ≡ set xs j (Some p) → (k : ℕ) → k ≢ j → slot_of (slice_get ys k) ≡ slot_of (slice_get xs k)
slot_other xs ys j p e k ne = rw (e, get_set_other xs j k (Some p) ne) refl

pub slot_emptied : {X : Type 0} (xs ys : List (Option X)) (j : ℕ) → ys ≡ set xs j None → (k : ℕ) → k ≢ j → slot_of (slice_get ys k) ≡ slot_of (slice_get xs k)
slot_emptied xs ys j e k ne = rw (e, get_set_other xs j k None ne) refl

-- worker x after two are written
pub got : {X : Type 0} (ws : List X) (i j x : ℕ) (v w : X) → x ≢ i → x ≢ j → slice_get (set (set ws i v) j w) x ≡ slice_get ws x
got ws i j x v w a b = get_set_other (set ws i v) j x w b ∙ get_set_other ws i x v a

pub got_first : {X : Type 0} (ws : List X) (i j : ℕ) (v w : X) → i ≢ j → i < length ws → slice_get (set (set ws i v) j w) i ≡ Some v
got_first ws i j v w ne lt = get_set_other (set ws i v) j i w ne ∙ get_set_same ws i v lt

pub got_second : {X : Type 0} (ws : List X) (i j : ℕ) (v w : X) → j < length ws → slice_get (set (set ws i v) j w) j ≡ Some w
got_second ws i j v w lt = let m : j < length (set ws i v) = omega (arith, length-set ws i v) in get_set_same (set ws i v) j w m

pub from_slot : {X : Type 0} (s : Option (Option X)) (p : X) → slot_of s ≡ Some p → s ≡ Some (Some p)
from_slot None p h = cc
from_slot (Some o) p h = ap Some h

pub some_same : {X : Type 0} (x y : X) → Some x ≡ Some y → x ≡ y
some_same x y e = cc

pub none_or_some : {X : Type 0} (o : Option X) (x : X) → o ≡ None → o ≡ Some x → ⊥
none_or_some o x a b = let e = sym a ∙ b in cc

-- a slot is empty or not
pub end_or : {X : Type 0} (o : Option X) → ((x : X) × (o ≡ Some x)) ⊎ ¬ ((x : X) × (o ≡ Some x))
end_or None = inr (λ h. let e = h.1 in absurd cc)
end_or (Some x) = inl (x, refl)

-- what stands at a place
pub some_at : {X : Type 0} (xs : List X) (k : ℕ) → k < length xs → (x : X) × (slice_get xs k ≡ Some x)
some_at [] k lt = absurd (omega arith)
some_at (x ∷ xs) zero lt = (x, refl)
some_at (x ∷ xs) (suc k) lt = some_at xs k (omega arith)

-- one was pushed after others
pub at_push : {X : Type 0} (xs : List X) (x : X) (i : ℕ) (a : X) → slice_get (xs ++ x ∷ []) i ≡ Some a → (slice_get xs i ≡ Some a) ⊎ ((i ≡ length xs) × (x ≡ a))
at_push [] x zero a e = inr (refl, some_same x a e)
at_push [] x (suc i) a e = cc
at_push (y ∷ xs) x zero a e = inl e
at_push (y ∷ xs) x (suc i) a e = elim (at_push xs x i a e) [
  | inl h ↦ inl h
  | inr h ↦ inr (ap suc h.0, h.1)
]

-- an end that lies where the former lay, in its slot
pub same_extents : {X : Type 0} (by : X → Extent) (xs : List (Option X)) (j : ℕ) (p q : X) → slice_get xs j ≡ Some (Some p) → by q ≡ by p → end_extents by (set xs j (Some q)) ≡ end_extents by xs
same_extents by [] j p q is e = absurd cc
same_extents by (None ∷ xs) zero p q is e = absurd cc
same_extents by (Some r ∷ xs) zero p q is e = ap (λ x. x ∷ end_extents by xs) (e ∙ ap by (sym (some_same r p (some_same (Some r) (Some p) is))))
same_extents by (None ∷ xs) (suc j) p q is e = same_extents by xs j p q is e
same_extents by (Some r ∷ xs) (suc j) p q is e = ap (λ l. by r ∷ l) (same_extents by xs j p q is e)
