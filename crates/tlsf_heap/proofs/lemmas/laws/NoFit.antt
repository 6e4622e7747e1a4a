-- A request is refused as NoFit where no block fits, and nowhere else.
use Rattle.tlsf_heap.proofs.Common.{◌≡◌, ℕ, zero, suc, ◌<◌, Bool, true, false, ◌&&◌, cond, List, [], ◌∷◌, length, get_or, find, Option, Some, None, Result, Ok, Err, IsOk, refl, sym, ap, ◌∙◌, arith, eq-eqb, ◌↔◌, list_all, false≢true, eqb-true, nat_tests, Block, HeapState, want, Site, fits, is_as_good, choice, Outcome, allocated, allocated_words, allocated_at, is_worn, last_tick, refused, Name, Refusal, NoFit, Worn}
use Rattle.tlsf_heap.proofs.lemmas.calls.Outcomes.{gives_words}
use Rattle.tlsf_heap.proofs.lemmas.blocks.Sites.{nowhere}

-- ---- of some blocks one is as good as each

as_good_self : (sli : ℕ) (a : Block) → is_as_good sli a a ≡ true
as_good_self sli a = grind (arith, nat_tests)

as_good_other : (sli : ℕ) (a b : Block) → is_as_good sli a b ≡ false → is_as_good sli b a ≡ true
as_good_other sli a b e = grind (arith, nat_tests)

as_good_through : (sli : ℕ) (a b c : Block) → is_as_good sli a b ≡ true → is_as_good sli b c ≡ true → is_as_good sli a c ≡ true
as_good_through sli a b c e f = grind (arith, nat_tests)

abbrev block_of : List Site → ℕ → Block
block_of xs i = (get_or xs i nowhere).block

-- a place of the list whose block is as good as that of each
record HasBest (sli : ℕ) (xs : List Site) : Type 0 where
  pub index : ℕ
  pub within : index < length xs
  pub best : (j : ℕ) → j < length xs → is_as_good sli (block_of xs index) (block_of xs j) ≡ true

first_best : (sli : ℕ) (x : Site) (xs : List Site) → ((j : ℕ) → j < length xs → is_as_good sli x.block (block_of xs j) ≡ true) → HasBest sli (x ∷ xs)
first_best sli x xs best = record { index = 0; within = omega arith; best = at }
  where
    at : (j : ℕ) → j < length (x ∷ xs) → is_as_good sli x.block (block_of (x ∷ xs) j) ≡ true
    at zero h = as_good_self sli x.block
    at (suc j) h = best j (omega (arith, h))

later_best : (sli : ℕ) (x : Site) (xs : List Site) (b : HasBest sli xs) → is_as_good sli (block_of xs b.index) x.block ≡ true → HasBest sli (x ∷ xs)
later_best sli x xs b good = record { index = suc b.index; within = omega (arith, b.within); best = at }
  where
    at : (j : ℕ) → j < length (x ∷ xs) → is_as_good sli (block_of xs b.index) (block_of (x ∷ xs) j) ≡ true
    at zero h = good
    at (suc j) h = b.best j (omega (arith, h))

with_first : (sli : ℕ) (x : Site) (xs : List Site) (b : HasBest sli xs) (good : Bool) → is_as_good sli x.block (block_of xs b.index) ≡ good → HasBest sli (x ∷ xs)
with_first sli x xs b true e = first_best sli x xs (λ j h. as_good_through sli x.block (block_of xs b.index) (block_of xs j) e (b.best j h))
with_first sli x xs b false e = later_best sli x xs b (as_good_other sli x.block (block_of xs b.index) e)

has_best : (sli : ℕ) (x : Site) (xs : List Site) → HasBest sli (x ∷ xs)
has_best sli x [] = first_best sli x [] (λ j h. absurd (omega (arith, h)))
has_best sli x (y ∷ ys) = let b = has_best sli y ys in with_first sli x (y ∷ ys) b (is_as_good sli x.block (block_of (y ∷ ys) b.index)) refl

-- ---- so a search among some finds one

all_pass : (p : Site → Bool) (xs : List Site) → ((j : ℕ) → j < length xs → p (get_or xs j nowhere) ≡ true) → list_all p xs ≡ true
all_pass p [] each = refl
all_pass p (x ∷ xs) each = ap (λ (b : Bool). b && list_all p xs) (each 0 (omega arith)) ∙ all_pass p xs (λ j h. each (suc j) (omega (arith, h)))

first_found : (b : Bool) (x : Site) (rest : Option Site) → (s : Site) × (rest ≡ Some s) → (s : Site) × (cond b (Some x) rest ≡ Some s)
first_found true x rest found = (x, refl)
first_found false x rest found = found

finds : (p : Site → Bool) (xs : List Site) (i : ℕ) → i < length xs → p (get_or xs i nowhere) ≡ true → (s : Site) × (find p xs ≡ Some s)
finds p [] i h e = absurd (omega (arith, h))
finds p (x ∷ xs) zero h e = (x, ap (λ (b : Bool). cond b (Some x) (find p xs)) e)
finds p (x ∷ xs) (suc i) h e = first_found (p x) x (find p xs) (finds p xs i (omega (arith, h)) e)

finds_best : (sli : ℕ) (x : Site) (xs : List Site) → (s : Site) × (find (λ s. list_all (λ t. is_as_good sli s.block t.block) (x ∷ xs)) (x ∷ xs) ≡ Some s)
finds_best sli x xs =
    let b = has_best sli x xs in
    finds (λ s. list_all (λ t. is_as_good sli s.block t.block) (x ∷ xs)) (x ∷ xs) b.index b.within
    (all_pass (λ t. is_as_good sli (block_of (x ∷ xs) b.index) t.block) (x ∷ xs) b.best)

-- ---- what an allocate answers

worn_is_no_no_fit : (a : Result Name Refusal) → a ≡ Err Worn → a ≡ Err NoFit → ⊥
worn_is_no_no_fit a e f = cc

module _ (sli : ℕ) (h : HeapState) (n len : ℕ) where
  -- by the blocks that fit
  record Answers (xs : List Site) : Type 0 where
    pub no_fit : ((allocated_words sli h n len).answer ≡ Err NoFit) ↔ (xs ≡ [])
    pub ok : IsOk (allocated_words sli h n len).answer ↔ (¬ (xs ≡ []) × ¬ (h.tick ≡ last_tick))

  worn_answers : (x : Site) (xs : List Site) → h.tick ≡ last_tick → (allocated_words sli h n len).answer ≡ Err Worn → Answers (x ∷ xs)
  worn_answers x xs worn is = record {
    no_fit = (λ e. absurd (worn_is_no_no_fit _ is e), λ e. cc);
    ok = (λ o. absurd (false≢true (rw is at o)), λ p. absurd (p.1 worn));
  }

  given_answers : (name : Name) (x : Site) (xs : List Site) → ¬ (h.tick ≡ last_tick) → (allocated_words sli h n len).answer ≡ Ok name → Answers (x ∷ xs)
  given_answers name x xs fresh is = record {
    no_fit = (λ e. absurd (let bad : Ok name ≡ Err NoFit = sym is ∙ e in cc), λ e. cc);
    ok = (λ _. (λ e. cc, fresh), λ _. rw is refl);
  }

  chosen_is : (s : Site) → choice sli n h.blocks ≡ Some s → (b : Bool) → is_worn h ≡ b → allocated_words sli h n len ≡ cond b (refused h Worn) (gives_words h n len s)
  chosen_is s chosen b e = ap (allocated_at h n len) chosen ∙ ap (λ (b : Bool). cond b (refused h Worn) (gives_words h n len s)) e

  by_tick : (s x : Site) (xs : List Site) → choice sli n h.blocks ≡ Some s → (b : Bool) → is_worn h ≡ b → Answers (x ∷ xs)
  by_tick s x xs chosen true e = worn_answers x xs (eqb-true h.tick last_tick e) (ap (λ (o : Outcome Name). o.answer) (chosen_is s chosen true e))
  by_tick s x xs chosen false e =
      given_answers _ x xs (λ worn. false≢true (sym e ∙ eq-eqb h.tick last_tick worn)) (ap (λ (o : Outcome Name). o.answer) (chosen_is s chosen false e))

  answers : (xs : List Site) → fits sli n h.blocks ≡ xs → Answers xs
  answers [] e =
      let none : choice sli n h.blocks ≡ None = ap (λ (l : List Site). find (λ s. list_all (λ t. is_as_good sli s.block t.block) l) l) e in
      let is : (allocated_words sli h n len).answer ≡ Err NoFit = ap (λ (o : Option Site). (allocated_at h n len o).answer) none in
      record {
        no_fit = (λ _. refl, λ _. is);
        ok = (λ o. absurd (false≢true (rw is at o)), λ p. absurd (p.0 refl));
      }
  answers (x ∷ xs) e =
      let best = finds_best sli x xs in
      by_tick best.0 x xs (ap (λ (l : List Site). find (λ s. list_all (λ t. is_as_good sli s.block t.block) l) l) e ∙ best.1) (is_worn h) refl

pub no_fit_words : (sli : ℕ) (h : HeapState) (n len : ℕ) → ((allocated_words sli h n len).answer ≡ Err NoFit) ↔ (fits sli n h.blocks ≡ [])
no_fit_words sli h n len = (answers sli h n len (fits sli n h.blocks) refl).no_fit

pub ok_words : (sli : ℕ) (h : HeapState) (n len : ℕ) → IsOk (allocated_words sli h n len).answer ↔ (¬ (fits sli n h.blocks ≡ []) × ¬ (h.tick ≡ last_tick))
ok_words sli h n len = (answers sli h n len (fits sli n h.blocks) refl).ok

pub no_fit : (sli : ℕ) (h : HeapState) (len : ℕ) → ((allocated sli h len).answer ≡ Err NoFit) ↔ (fits sli (want len) h.blocks ≡ [])
no_fit sli h len = no_fit_words sli h (want len) len
