-- The reserve of a list of blocks: the words of its greatest hole, a large block in front of a hole counted to it. The reserve
-- after edits.
use Rattle.tlsf_pool.proofs.Common.{◌≡◌, ℕ, ◌+◌, ◌≤◌, ◌⊎◌, Bool, true, false, cond, max, nat_lt, List, [], ◌∷◌, ◌++◌, length, refl, sym, ap, ◌∙◌, subst, inl, inr, arith, AllByRecursion, false≢true, le-ltb, Block, Live, Free, HeapState, size_of, words_in, bytes_of, is_free, Site, past_free, before_free, first_free, last_free, with_bytes, IsSmall}
use Rattle.tlsf_heap.proofs.lemmas.blocks.Coalesce.{by_last}
use Rattle.tlsf_heap.proofs.lemmas.blocks.Lawful.{words_in-append}
use Rattle.tlsf_heap.proofs.lemmas.calls.Outcomes.{IsSiteOf}
use Rattle.tlsf_pool.proofs.lemmas.laws.FreeRoom.{IsHole}

-- the free words that a list begins with, or those behind it where it is empty
abbrev pub next_free : List Block → ℕ → ℕ
next_free [] n = n
next_free (Live m s xs ∷ bs) n = 0
next_free (Free m s ∷ bs) n = m

-- a large block and the hole behind it
abbrev pub behind : ℕ → ℕ → List ℕ → ℕ → ℕ
behind k m xs n = cond (nat_lt k (length xs)) (m + n) 0

-- blocks of more than k bytes are large; n words are free behind the list
abbrev pub reserve : ℕ → List Block → ℕ → ℕ
reserve k [] n = 0
reserve k (Free m s ∷ bs) n = max m (reserve k bs n)
reserve k (Live m s xs ∷ bs) n = max (behind k m xs (next_free bs n)) (reserve k bs n)

-- some free block has q words or more
abbrev pub HasHole : ℕ → List Block → Type 0
HasHole q [] = ⊥
HasHole q (b ∷ bs) = ((is_free b ≡ true) × (q ≤ size_of b)) ⊎ HasHole q bs

module _ (k : ℕ) where
  behind_more : (m : ℕ) (xs : List ℕ) (a b : ℕ) → a ≤ b → behind k m xs a ≤ behind k m xs b
  behind_more m xs a b h = at (nat_lt k (length xs))
    where
      at : (c : Bool) → cond c (m + a) 0 ≤ cond c (m + b) 0
      at true = omega (arith, h)
      at false = omega arith

  behind_most : (m : ℕ) (xs : List ℕ) (a : ℕ) → behind k m xs a ≤ m + a
  behind_most m xs a = at (nat_lt k (length xs))
    where
      at : (c : Bool) → cond c (m + a) 0 ≤ m + a
      at true = omega arith
      at false = omega arith

  next_append : (xs ys : List Block) (n : ℕ) → next_free (xs ++ ys) n ≡ next_free xs (next_free ys n)
  next_append [] ys n = refl
  next_append (Live m s bytes ∷ xs) ys n = refl
  next_append (Free m s ∷ xs) ys n = refl

  next_more : (xs : List Block) (a b : ℕ) → a ≤ b → next_free xs a ≤ next_free xs b
  next_more [] a b h = h
  next_more (Live m s bytes ∷ xs) a b h = omega arith
  next_more (Free m s ∷ xs) a b h = omega arith

  pub reserve_append : (xs ys : List Block) (n : ℕ) → reserve k (xs ++ ys) n ≡ max (reserve k xs (next_free ys n)) (reserve k ys n)
  reserve_append [] ys n = omega arith
  reserve_append (Free m s ∷ xs) ys n = omega (arith, reserve_append xs ys n)
  reserve_append (Live m s bytes ∷ xs) ys n = omega (arith, reserve_append xs ys n, ap (behind k m bytes) (next_append xs ys n))

  pub reserve_more : (xs : List Block) (a b : ℕ) → a ≤ b → reserve k xs a ≤ reserve k xs b
  reserve_more [] a b h = omega arith
  reserve_more (Free m s ∷ xs) a b h = omega (arith, reserve_more xs a b h)
  reserve_more (Live m s bytes ∷ xs) a b h = omega (arith, reserve_more xs a b h, behind_more m bytes (next_free xs a) (next_free xs b) (next_more xs a b h))

  next_words : (xs : List Block) (n : ℕ) → next_free xs n ≤ words_in xs + n
  next_words [] n = omega arith
  next_words (Live m s bytes ∷ xs) n = omega arith
  next_words (Free m s ∷ xs) n = omega arith

  -- it is no more than all words
  pub reserve_words : (xs : List Block) (n : ℕ) → reserve k xs n ≤ words_in xs + n
  reserve_words [] n = omega arith
  reserve_words (Free m s ∷ xs) n = omega (arith, reserve_words xs n)
  reserve_words (Live m s bytes ∷ xs) n = omega (arith, reserve_words xs n, behind_most m bytes (next_free xs n), next_words xs n)

  -- what is free behind a list counts with one live block at most
  pub reserve_limit : (most : ℕ) (xs : List Block) (n : ℕ) → AllByRecursion (IsSmall most) xs → reserve k xs n ≤ max (reserve k xs 0) (most + n)
  reserve_limit most [] n small = omega arith
  reserve_limit most (Free m s ∷ xs) n small = omega (arith, reserve_limit most xs n small.1)
  reserve_limit most (Live m s bytes ∷ []) n small = let few = small.0 refl in omega (arith, few, behind_most m bytes n)
  reserve_limit most (Live m s bytes ∷ Live a b c ∷ xs) n small = omega (arith, reserve_limit most (Live a b c ∷ xs) n small.1)
  reserve_limit most (Live m s bytes ∷ Free a b ∷ xs) n small = omega (arith, reserve_limit most (Free a b ∷ xs) n small.1)

  -- where no block is large it doesn't count
  pub reserve_short : (xs : List Block) (n : ℕ) → AllByRecursion (λ b. length (bytes_of b) ≤ k) xs → reserve k xs n ≤ reserve k xs 0
  reserve_short [] n short = omega arith
  reserve_short (Free m s ∷ xs) n short = omega (arith, reserve_short xs n short.1)
  reserve_short (Live m s bytes ∷ xs) n short =
      let not_large : nat_lt k (length bytes) ≡ false = le-ltb k (length bytes) short.0 in
      let none : behind k m bytes (next_free xs n) ≡ 0 = ap (λ (c : Bool). cond c (m + next_free xs n) 0) not_large in
      omega (arith, reserve_short xs n short.1, none)

  next_hole : (t : ℕ) (xs : List Block) → AllByRecursion (IsHole t) xs → next_free xs 0 ≤ t
  next_hole t [] small = omega arith
  next_hole t (Live m s bytes ∷ xs) small = omega arith
  next_hole t (Free m s ∷ xs) small = small.0 refl

  -- where all holes are small, so is it
  pub reserve_holes : (most t : ℕ) (xs : List Block) → AllByRecursion (IsSmall most) xs → AllByRecursion (IsHole t) xs → reserve k xs 0 ≤ most + t
  reserve_holes most t [] small holes = omega arith
  reserve_holes most t (Free m s ∷ xs) small holes = let few = holes.0 refl in omega (arith, few, reserve_holes most t xs small.1 holes.1)
  reserve_holes most t (Live m s bytes ∷ xs) small holes =
      let few = small.0 refl in omega (arith, few, reserve_holes most t xs small.1 holes.1, behind_most m bytes (next_free xs 0), next_hole t xs holes.1)

  hole_words : (q : ℕ) (xs : List Block) → HasHole q xs → q ≤ words_in xs
  hole_words q [] has = absurd has
  hole_words q (b ∷ xs) has = elim has [ inl here ↦ omega (arith, here.1) | inr rest ↦ omega (arith, hole_words q xs rest) ]

  -- a hole of q words in the list, and one behind it: one of them lies outside of the reserve
  two_holes : (q : ℕ) (xs : List Block) (n : ℕ) → q ≤ n → HasHole q xs → reserve k xs n + q ≤ words_in xs + n
  two_holes q [] n h has = absurd has
  two_holes q (Free m s ∷ xs) n h has = elim has [
    | inl here ↦ omega (arith, h, here.1, reserve_words xs n)
    | inr rest ↦ omega (arith, h, two_holes q xs n h rest)
  ]
  two_holes q (Live m s bytes ∷ xs) n h has = elim has [
    | inl here ↦ absurd (false≢true here.0)
    | inr rest ↦ omega (arith, two_holes q xs n h rest, behind_most m bytes (next_free xs n), next_inside xs rest)
  ]
    where
      next_inside : (xs : List Block) → HasHole q xs → next_free xs n ≤ words_in xs
      next_inside [] has = absurd has
      next_inside (Live a b c ∷ xs) has = omega arith
      next_inside (Free a b ∷ xs) has = omega arith

  pub other_hole : (q m s : ℕ) (xs ys : List Block) → q ≤ m → HasHole q xs ⊎ HasHole q ys → reserve k (xs ++ Free m s ∷ ys) 0 + q ≤ words_in (xs ++ Free m s ∷ ys)
  other_hole q m s xs ys h has = elim has [
    | inl left ↦ omega (arith, h, reserve_append xs (Free m s ∷ ys) 0, words_in-append xs (Free m s ∷ ys), two_holes q xs m h left, reserve_words ys 0, hole_words q xs left)
    | inr right ↦ omega (arith, h, reserve_append xs (Free m s ∷ ys) 0, words_in-append xs (Free m s ∷ ys), reserve_words xs m, reserve_words ys 0, hole_words q ys right)
  ]

  -- ---- what edits leave

  reserve_past : (bs : List Block) → reserve k bs 0 ≤ max (first_free bs) (reserve k (past_free bs) 0)
  reserve_past [] = omega arith
  reserve_past (Live m s xs ∷ bs) = omega arith
  reserve_past (Free m s ∷ bs) = omega arith

  next_is_first : (bs : List Block) → next_free bs 0 ≡ first_free bs
  next_is_first [] = refl
  next_is_first (Live m s xs ∷ bs) = refl
  next_is_first (Free m s ∷ bs) = refl

  -- what is merged is no less than its parts
  pub reserve_released : (tick : ℕ) (h : HeapState) (s : Site) → is_free s.block ≡ false → IsSiteOf h.blocks s
      → reserve k h.blocks 0 ≤ reserve k (before_free s.before ++ Free (last_free s.before + size_of s.block + first_free s.after) tick ∷ past_free s.after) 0
  reserve_released tick h s live site =
      let size : ℕ = size_of s.block + first_free s.after in
      let whole = ap (λ (bs : List Block). reserve k bs 0) site in
      let old = reserve_append s.before (s.block ∷ s.after) 0 in
      let back = one s.block live s.after in
      let new = by_last (λ all n left. max (reserve k all 0) (max size (reserve k (past_free s.after) 0)) ≤ reserve k (left ++ Free (n + size) tick ∷ past_free s.after) 0) s.before
      (omega arith)
      (λ front m t xs. omega (arith, reserve_append (front ++ Live m t xs ∷ []) (Free (0 + size) tick ∷ past_free s.after) 0, reserve_more (front ++ Live m t xs ∷ []) 0 (0 + size) (omega arith)))
      (λ front m t. omega (arith, reserve_append front (Free (m + size) tick ∷ past_free s.after) 0, reserve_append front (Free m t ∷ []) 0, reserve_more front m (m + size) (omega arith))) in
      let sum : last_free s.before + size ≡ last_free s.before + size_of s.block + first_free s.after = omega arith in
      let left : ℕ = reserve k (before_free s.before ++ Free (last_free s.before + size) tick ∷ past_free s.after) 0 in
      let upto : reserve k h.blocks 0 ≤ left = omega (arith, whole, old, ap (λ (n : ℕ). reserve k s.before n) back.0, back.1, new, reserve_past s.after) in
      subst (λ (n : ℕ). reserve k h.blocks 0 ≤ reserve k (before_free s.before ++ Free n tick ∷ past_free s.after) 0) sum upto
    where
      one : (b : Block) → is_free b ≡ false → (after : List Block) → (next_free (b ∷ after) 0 ≡ 0) × (reserve k (b ∷ after) 0 ≤ max (size_of b + first_free after) (reserve k after 0))
      one (Live m t xs) live after = (refl, omega (arith, behind_most m xs (next_free after 0), next_is_first after))
      one (Free m t) live after = absurd (false≢true (sym live))

  pub reserve_written : (h : HeapState) (s : Site) (xs : List ℕ) → length xs ≡ length (bytes_of s.block) → IsSiteOf h.blocks s → reserve k h.blocks 0 ≡ reserve k (s.before ++ with_bytes s.block xs ∷ s.after) 0
  reserve_written h s xs same site =
      sym (ap (λ (bs : List Block). reserve k bs 0) site) ∙ (reserve_append s.before (s.block ∷ s.after) 0 ∙ (on s.block same ∙ sym (reserve_append s.before (with_bytes s.block xs ∷ s.after) 0)))
    where
      on : (b : Block) → length xs ≡ length (bytes_of b) → max (reserve k s.before (next_free (b ∷ s.after) 0)) (reserve k (b ∷ s.after) 0)
          ≡ max (reserve k s.before (next_free (with_bytes b xs ∷ s.after) 0)) (reserve k (with_bytes b xs ∷ s.after) 0)
      on (Live m t ys) same = ap (λ (n : ℕ). max (reserve k s.before 0) (max (cond (nat_lt k n) (m + next_free s.after 0) 0) (reserve k s.after 0))) (sym same)
      on (Free m t) same = refl
