-- Which live blocks last: a block at a place with a fact that no free block has, through the changes that calls make.
use Rattle.tlsf_heap.proofs.Common.{◌≡◌, ℕ, zero, suc, ◌+◌, ◌<◌, ◌≤◌, List, [], ◌∷◌, ◌++◌, length, take, subst, inl, inr, arith, refl, ◌⊎◌, Block, Live, Free, size_of, words_in, first_free, past_free, last_free, before_free, coalesced, room_of, is_sized, refitted, block_at}
use Rattle.tlsf_heap.proofs.lemmas.blocks.Lawful.{words_in-append}
use Rattle.tlsf_heap.proofs.lemmas.blocks.Coalesce.{by_last}
use Rattle.tlsf_heap.proofs.lemmas.calls.Outcomes.{by_test}
use Rattle.tlsf_heap.proofs.lemmas.calls.Resize.{by_refitted}

module _ (P : Block → Type 0) (at : ℕ) where
  -- of these blocks, the first of which begins at `place`, one that begins at `at` has it
  abbrev pub HasFrom : ℕ → List Block → Type 0
  HasFrom place [] = ⊥
  HasFrom place (b ∷ bs) = (P b × (place ≡ at)) ⊎ HasFrom (place + size_of b) bs

  -- the block at an index begins there
  pub of_index : (place : ℕ) (bs : List Block) (i : ℕ) → i < length bs → place + words_in (take i bs) ≡ at → P (block_at bs i) → HasFrom place bs
  of_index place [] i within e p = absurd (omega (arith, within))
  of_index place (b ∷ bs) zero within e p = inl (p, omega (arith, e))
  of_index place (b ∷ bs) (suc i) within e p = inr (of_index (place + size_of b) bs i (omega arith) (omega (arith, e)) p)

  pub to_index : (place : ℕ) (bs : List Block) → HasFrom place bs → (i : ℕ) × (i < length bs) × (place + words_in (take i bs) ≡ at) × P (block_at bs i)
  to_index place [] h = absurd h
  to_index place (b ∷ bs) h = elim h [
    | inl e ↦ (0, omega arith, omega (arith, e.1), e.0)
    | inr t ↦ let r = to_index (place + size_of b) bs t in (suc r.0, omega (arith, r.1), omega (arith, r.2), r.3)
  ]

  pub moved : (j k : ℕ) (bs : List Block) → j ≡ k → HasFrom j bs → HasFrom k bs
  moved j k bs e h = subst (λ (i : ℕ). HasFrom i bs) e h

  pub in_left : (place : ℕ) (xs ys : List Block) → HasFrom place xs → HasFrom place (xs ++ ys)
  in_left place [] ys h = absurd h
  in_left place (b ∷ xs) ys h = elim h [ inl e ↦ inl e | inr t ↦ inr (in_left (place + size_of b) xs ys t) ]

  pub in_right : (place : ℕ) (xs ys : List Block) → HasFrom (place + words_in xs) ys → HasFrom place (xs ++ ys)
  in_right place [] ys h = moved _ _ ys (omega arith) h
  in_right place (b ∷ xs) ys h = inr (in_right (place + size_of b) xs ys (moved _ _ ys (omega arith) h))

  pub in_either : (place : ℕ) (xs ys : List Block) → HasFrom place (xs ++ ys) → HasFrom place xs ⊎ HasFrom (place + words_in xs) ys
  in_either place [] ys h = inr (moved _ _ ys (omega arith) h)
  in_either place (b ∷ xs) ys h = elim h [
    | inl e ↦ inl (inl e)
    | inr t ↦ elim (in_either (place + size_of b) xs ys t) [ inl l ↦ inl (inr l) | inr r ↦ inr (moved _ _ ys (omega arith) r) ]
  ]

  -- some blocks become others, of equally many words
  pub edited : (place : ℕ) (front old new back : List Block) → words_in old ≡ words_in new → ((k : ℕ) → HasFrom k old → HasFrom k new) → HasFrom place (front ++ (old ++ back)) → HasFrom place (front ++ (new ++ back))
  edited place front old new back e f h = elim (in_either place front (old ++ back) h) [
    | inl l ↦ in_left place front (new ++ back) l
    | inr r ↦ in_right place front (new ++ back) (elim (in_either (place + words_in front) old back r) [
      | inl o ↦ in_left (place + words_in front) new back (f _ o)
      | inr b ↦ in_right (place + words_in front) new back (moved _ _ back (omega (arith, e)) b)
    ])
  ]

  -- ---- where no free block has it

  module _ (live : (m s : ℕ) → P (Free m s) → ⊥) where
    -- what a release leaves of the blocks behind and before
    pub past_lasts : (place : ℕ) (bs : List Block) → HasFrom place bs → HasFrom (place + first_free bs) (past_free bs)
    past_lasts place [] h = absurd h
    past_lasts place (Live m s xs ∷ bs) h = moved _ _ (Live m s xs ∷ bs) (omega arith) h
    past_lasts place (Free m s ∷ bs) h = elim h [ inl e ↦ absurd (live m s e.0) | inr t ↦ t ]

    before_lasts : (place : ℕ) (bs : List Block) → HasFrom place bs → HasFrom place (before_free bs)
    before_lasts place bs =
        by_last (λ all k left. HasFrom place all → HasFrom place left) bs (λ h. h) (λ all m s xs h. h)
        (λ all m s h. elim (in_either place all (Free m s ∷ []) h) [ inl l ↦ l | inr r ↦ elim r [ inl e ↦ absurd (live m s e.0) | inr none ↦ absurd none ] ])

    pub released_lasts : (tick : ℕ) (front back : List Block) (b : Block) → (P b → words_in front ≡ at → ⊥) → HasFrom 0 (front ++ b ∷ back)
        → HasFrom 0 (coalesced tick (record { before = front; block = b; after = back }))
    released_lasts tick front back b other h =
        let words : words_in (before_free front) + last_free front ≡ words_in front =
        by_last (λ all k left. words_in left + k ≡ words_in all) front refl (λ all m s xs. omega arith) (λ all m s. omega (arith, words_in-append all (Free m s ∷ []))) in
        elim (in_either 0 front (b ∷ back) h) [
          | inl l ↦ in_left 0 (before_free front) _ (before_lasts 0 front l)
          | inr r ↦ elim r [
            | inl e ↦ absurd (other e.0 (omega (arith, e.1)))
            | inr t ↦ in_right 0 (before_free front) _ (inr (moved _ _ (past_free back) (omega (arith, words)) (past_lasts _ back t)))
          ]
        ]

    -- what a resize leaves of a block and those behind it
    pub refitted_lasts : (tick n len place : ℕ) (b : Block) (back : List Block) → n ≤ room_of b back
        → ((m s k : ℕ) (xs ys : List ℕ) → b ≡ Live m s xs → P b → place ≡ at → P (Live k s ys))
        → HasFrom place (b ∷ back) → HasFrom place (refitted tick n len b back)
    refitted_lasts tick n len place (Live m s xs) back room own h =
        by_refitted (HasFrom place) tick n len m s xs back room
        (λ enough. elim h [ inl e ↦ inl (own m s m xs _ refl e.0 e.1, e.1) | inr t ↦ inr t ])
        (elim h [ inl e ↦ inl (own m s _ xs _ refl e.0 e.1, e.1) | inr t ↦ inr (moved _ _ (past_free back) (omega arith) (past_lasts (place + m) back t)) ])
        (λ large. elim h [ inl e ↦ inl (own m s _ xs _ refl e.0 e.1, e.1) | inr t ↦ inr (inr (moved _ _ (past_free back) (omega arith) (past_lasts (place + m) back t))) ])
    refitted_lasts tick n len place (Free m s) back room own h = by_test (HasFrom place) (is_sized n (Free m s)) (Free m s ∷ back) (Free m s ∷ back) (λ _. h) h
