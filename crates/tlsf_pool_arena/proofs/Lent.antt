-- The blocks that are away are the arena's, and are taken back.
use Rattle.tlsf_pool_arena.proofs.Common.{◌≡◌, ◌≢◌, ℕ, zero, suc, List, [], ◌∷◌, set, slice_get, replicate, Option, Some, None, refl, sym, ap, subst, ◌⊎◌, inl, inr, ⊎_elim, Parcel, Block, AreAway, IsFrom}
use base.Fml.{GName}
use Rattle.linked_list_allocator.specs.Region.{Region}

-- what is found in a list with one entry changed
pub got_set : {A : Type 0} (l : List A) (k j : ℕ) (a b : A) → slice_get (set l k a) j ≡ Some b → ((j ≡ k) × (a ≡ b)) ⊎ ((j ≢ k) × (slice_get l j ≡ Some b))
got_set [] k j a b e = absurd (let no : ⊥ = cc in no)
got_set (x ∷ l) zero zero a b e = let same : a ≡ b = cc in inl (refl, same)
got_set (x ∷ l) zero (suc j) a b e = inr ((λ h. cc), e)
got_set (x ∷ l) (suc k) zero a b e = inr ((λ h. cc), e)
got_set (x ∷ l) (suc k) (suc j) a b e = ⊎_elim (λ t. inl (ap suc t.0, t.1)) (λ t. inr ((λ h. let same : j ≡ k = cc in t.0 same), t.1)) (got_set l k j a b e)

abbrev pub parcel_of : {u : ℕ} → Block u → Parcel u
parcel_of b = record { block = b }

module _ {u : ℕ} (was region : Region) (old book : GName) (away now : List (Option (Parcel u))) (at : ℕ) (is : AreAway u was old away) (same_region : region ≡ was) (same_book : book ≡ old) where
  set_to : (o : Option (Parcel u)) → now ≡ set away at o → ((b : Parcel u) → o ≡ Some b → IsFrom was old b) → AreAway u region book now
  set_to o now_is first =
      subst (λ (p : Region × GName × List (Option (Parcel u))). AreAway u p.0 p.1 p.2) (λ i. (sym same_region i, sym same_book i, sym now_is i))
      (record { from = λ k b e. ⊎_elim (λ t. first b t.1) (λ t. is.from k b t.1) (got_set away at k o (Some b) e) })

  -- one more block of the arena is away
  pub lent : (b : Parcel u) → now ≡ set away at (Some b) → IsFrom was old b → AreAway u region book now
  lent b now_is is_from = set_to (Some b) now_is (λ c e. let same : b ≡ c = cc in subst (λ (c : Parcel u). IsFrom was old c) same is_from)

  -- one came home
  pub home : now ≡ set away at None → AreAway u region book now
  home now_is = set_to None now_is (λ c e. absurd (let no : ⊥ = cc in no))

none_away : {u : ℕ} (n k : ℕ) (b : Parcel u) → slice_get (replicate n None) k ≡ Some (Some b) → ⊥
none_away zero k b e = cc
none_away (suc n) zero b e = cc
none_away (suc n) (suc k) b e = none_away n k b e

-- at first none is away
pub fresh : {u : ℕ} (region : Region) (book : GName) (n : ℕ) → AreAway u region book (replicate n None)
fresh region book n = record { from = λ k b e. absurd (none_away n k b e) }
