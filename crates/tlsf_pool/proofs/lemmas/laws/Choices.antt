-- The block that good fit chooses: no other that may serve is of a lower class.
use Rattle.tlsf_pool.proofs.Common.{◌≡◌, ℕ, ◌≤◌, ◌||◌, ◌&&◌, ◌==◌, Bool, true, false, cond, nat_lt, List, [], ◌∷◌, ◌++◌, filter, find, Option, Some, None, refl, sym, ◌∙◌, subst, arith, append_assoc, AllByRecursion, list_all, nat_tests, Block, HeapState, want, Site, sites_behind, is_fit, is_as_good, fits, choice, Outcome, allocated, allocated_at, refused, is_worn, Name, Refusal, NoFit, Worn}
use Rattle.tlsf_heap.proofs.lemmas.blocks.Find.{and_left, and_right}
use Rattle.tlsf_heap.proofs.lemmas.calls.Outcomes.{IsSiteOf, by_test, gives}

-- what is found passes the test, and is one of all
passes : {X : Type 0} (P : X → Type 0) (p : X → Bool) (xs : List X) (x : X) → AllByRecursion P xs → find p xs ≡ Some x → P x × (p x ≡ true)
passes {X} P p [] x all e = absurd cc
passes {X} P p (y ∷ xs) x all e = at (p y) refl (passes P p xs x all.1) e
  where
    at : (c : Bool) → p y ≡ c → (find p xs ≡ Some x → P x × (p x ≡ true)) → cond c (Some y) (find p xs) ≡ Some x → P x × (p x ≡ true)
    at true is rest e = let same : y ≡ x = cc in subst (λ (z : X). P z × (p z ≡ true)) same (all.0, is)
    at false is rest e = rest e

module _ (sli n : ℕ) where
  abbrev IsFitOf : List Block → Site → Type 0
  IsFitOf bs s = IsSiteOf bs s × (is_fit sli n s.block ≡ true)

  abbrev fits_behind : List Block → List Block → List Site
  fits_behind p bs = filter (λ s. is_fit sli n s.block) (sites_behind p bs)

  fit_sites : (p bs : List Block) → AllByRecursion (IsFitOf (p ++ bs)) (fits_behind p bs)
  fit_sites p [] = tt
  fit_sites p (b ∷ bs) = at (is_fit sli n b) refl (subst (λ (l : List Block). AllByRecursion (IsFitOf l) (fits_behind (p ++ b ∷ []) bs)) (append_assoc p (b ∷ []) bs) (fit_sites (p ++ b ∷ []) bs))
    where
      at : (c : Bool) → is_fit sli n b ≡ c → AllByRecursion (IsFitOf (p ++ b ∷ bs)) (fits_behind (p ++ b ∷ []) bs)
          → AllByRecursion (IsFitOf (p ++ b ∷ bs)) (cond c (record { before = p; block = b; after = bs } ∷ fits_behind (p ++ b ∷ []) bs) (fits_behind (p ++ b ∷ []) bs))
      at true is rest = ((refl, is), rest)
      at false is rest = rest

  -- a block that may serve is no better
  abbrev pub IsNoBetter : Block → Block → Type 0
  IsNoBetter best b = is_fit sli n b ≡ true → is_as_good sli best b ≡ true

  none_better : (best : Block) (p bs : List Block) → list_all (λ t. is_as_good sli best t.block) (fits_behind p bs) ≡ true → AllByRecursion (IsNoBetter best) bs
  none_better best p [] all = tt
  none_better best p (b ∷ bs) all = at (is_fit sli n b) refl (none_better best (p ++ b ∷ []) bs) all
    where
      at : (c : Bool) → is_fit sli n b ≡ c → (list_all (λ t. is_as_good sli best t.block) (fits_behind (p ++ b ∷ []) bs) ≡ true → AllByRecursion (IsNoBetter best) bs)
          → list_all (λ t. is_as_good sli best t.block) (cond c (record { before = p; block = b; after = bs } ∷ fits_behind (p ++ b ∷ []) bs) (fits_behind (p ++ b ∷ []) bs)) ≡ true
          → AllByRecursion (IsNoBetter best) (b ∷ bs)
      at true is rest all = ((λ _. and_left _ _ all), rest (and_right _ _ all))
      at false is rest all = ((λ fit. absurd (let no : true ≡ false = sym fit ∙ is in cc)), rest all)

  pub record IsChosen (bs : List Block) (s : Site) : Type 0 where
    pub site : IsSiteOf bs s
    pub fit : is_fit sli n s.block ≡ true
    pub best : AllByRecursion (IsNoBetter s.block) bs

  pub chosen : (bs : List Block) (s : Site) → choice sli n bs ≡ Some s → IsChosen bs s
  chosen bs s e =
      let found = passes (IsFitOf bs) (λ (s : Site). list_all (λ t. is_as_good sli s.block t.block) (fits sli n bs)) (fits sli n bs) s (fit_sites [] bs) e in
      record { site = found.0.0; fit = found.0.1; best = none_better s.block [] bs found.1 }

pub by_chosen : (sli : ℕ) (P : Outcome Name → Type 0) (h : HeapState) (len : ℕ) → ((why : Refusal) → P (refused h why))
    → ((s : Site) → IsChosen sli (want len) h.blocks s → P (gives h len s)) → P (allocated sli h len)
by_chosen sli P h len if_refused if_done = at (choice sli (want len) h.blocks) refl
  where
    at : (o : Option Site) → choice sli (want len) h.blocks ≡ o → P (allocated_at h (want len) len o)
    at None e = if_refused NoFit
    at (Some s) e = by_test P (is_worn h) (refused h Worn) (gives h len s) (λ _. if_refused Worn) (if_done s (chosen sli (want len) h.blocks s e))

-- one that is no better is of no lower class
pub no_lower : (a b : ℕ) (later : Bool) → (nat_lt a b || (a == b && later)) ≡ true → a ≤ b
no_lower a b later good = grind (arith, nat_tests)
