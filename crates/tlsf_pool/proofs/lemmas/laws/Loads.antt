-- The sum over the live blocks of a number for the length of each payload, and what the calls make of it.
use Rattle.tlsf_pool.proofs.Common.{◌≡◌, ℕ, ◌+◌, true, List, [], ◌∷◌, ◌++◌, length, replicate, refl, ap, ◌∙◌, inl, inr, arith, add-zero, length-replicate, false≢true, cases_lt, Block, Live, Free, HeapState, size_of, bytes_of, Site, is_fit, carved, has_serial, is_named, past_free, before_free, first_free, last_free, with_bytes, fitted, refitted, overwritten, has_bytes}
use Rattle.tlsf_heap.proofs.lemmas.blocks.Find.{and_left}
use Rattle.tlsf_heap.proofs.lemmas.blocks.Replace.{carved_small, carved_large}
use Rattle.tlsf_heap.proofs.lemmas.blocks.Coalesce.{by_last}
use Rattle.tlsf_heap.proofs.lemmas.calls.Write.{length-overwritten, range_fits}
use Rattle.tlsf_heap.proofs.lemmas.calls.Outcomes.{IsSiteOf, gives_words, resizes, takes, writes}
use Rattle.tlsf_heap.proofs.lemmas.words.NewBytes.{length-fitted}
use Rattle.tlsf_pool.proofs.lemmas.laws.Refits.{by_refit}

abbrev pub load : (ℕ → ℕ) → List Block → ℕ
load f [] = 0
load f (Live m s xs ∷ bs) = f (length xs) + load f bs
load f (Free m s ∷ bs) = load f bs

module _ (f : ℕ → ℕ) where
  load-append : (xs ys : List Block) → load f (xs ++ ys) ≡ load f xs + load f ys
  load-append [] ys = omega arith
  load-append (Live m s b ∷ xs) ys = let e = load-append xs ys in omega arith
  load-append (Free m s ∷ xs) ys = load-append xs ys

  load_past : (bs : List Block) → load f (past_free bs) ≡ load f bs
  load_past [] = refl
  load_past (Live m s xs ∷ bs) = refl
  load_past (Free m s ∷ bs) = refl

  load_before : (bs : List Block) → load f (before_free bs) ≡ load f bs
  load_before bs = by_last (λ all size rest. load f rest ≡ load f all) bs refl (λ front m s xs. refl) (λ front m s. omega (arith, load-append front (Free m s ∷ [])))

  load_carved : (size n tick len : ℕ) → load f (carved size n tick len) ≡ f len
  load_carved size n tick len =
      let many : f (length (replicate {A = ℕ} len 0)) + 0 ≡ f len = add-zero _ ∙ ap f (length-replicate len 0) in
      elim (cases_lt size (n + 4)) [
        | inl small ↦ ap (load f) (carved_small size n tick len small) ∙ many
        | inr large ↦ ap (load f) (carved_large size n tick len large) ∙ many
      ]

  load_with : (b : Block) (xs : List ℕ) → length xs ≡ length (bytes_of b) → load f (with_bytes b xs ∷ []) ≡ load f (b ∷ [])
  load_with (Live m s ys) xs e = ap (λ (n : ℕ). f n + 0) e
  load_with (Free m s) xs e = refl

  load_named : (serial : ℕ) (b : Block) → has_serial serial b ≡ true → load f (b ∷ []) ≡ f (length (bytes_of b))
  load_named serial (Live m s xs) e = add-zero _
  load_named serial (Free m s) e = absurd (false≢true e)

  load_site : (h : HeapState) (s : Site) → IsSiteOf h.blocks s → load f s.before + load f (s.block ∷ []) + load f s.after ≡ load f h.blocks
  load_site h s site = omega (arith, ap (load f) site, load-append s.before (s.block ∷ s.after), load-append (s.block ∷ []) s.after)

  -- an accepted release takes the number for the length of its block
  pub load_taken : (h : HeapState) (s : Site) (at serial : ℕ) → IsSiteOf h.blocks s → is_named at serial s ≡ true → f (length (bytes_of s.block)) + load f (takes h s).heap.blocks ≡ load f h.blocks
  load_taken h s at serial site is =
      let left : List Block = Free (last_free s.before + size_of s.block + first_free s.after) h.tick ∷ past_free s.after in
      omega (arith, load_site h s site, load_named serial s.block (and_left _ _ is), load_before s.before, load_past s.after, load-append (before_free s.before) left)

  load_refitted : (tick n len serial : ℕ) (b : Block) (bs : List Block) → has_serial serial b ≡ true → load f (refitted tick n len b bs) ≡ f len + load f bs
  load_refitted tick n len serial (Free m s) bs e = absurd (false≢true e)
  load_refitted tick n len serial (Live m s xs) bs e =
      let many : f (length (fitted xs len)) ≡ f len = ap f (length-fitted xs len) in
      let past = load_past bs in
      by_refit (λ l. load f l ≡ f len + load f bs) tick n len m s xs bs (λ enough few. omega (arith, many)) (λ large. omega (arith, many, past)) (λ small. omega (arith, many, past))

  -- an accepted resize puts the number for its length in the place of that for the old one, whatever words it is for
  pub load_resized : (h : HeapState) (s : Site) (at serial n len : ℕ) → IsSiteOf h.blocks s → is_named at serial s ≡ true
      → f (length (bytes_of s.block)) + load f (resizes h n len s).heap.blocks ≡ f len + load f h.blocks
  load_resized h s at serial n len site is =
      let one : has_serial serial s.block ≡ true = and_left _ _ is in
      let new : List Block = refitted h.tick n len s.block s.after in
      omega (arith, load_site h s site, load_named serial s.block one, load-append s.before new, load_refitted h.tick n len serial s.block s.after one)

  -- a write leaves it
  pub load_written : (h : HeapState) (s : Site) (at : ℕ) (bytes : List ℕ) → IsSiteOf h.blocks s → has_bytes s.block at (length bytes) ≡ true
      → load f (writes h at bytes s).heap.blocks ≡ load f h.blocks
  load_written h s at bytes site has =
      let xs : List ℕ = overwritten (bytes_of s.block) at bytes in
      let new : Block = with_bytes s.block xs in
      let same = length-overwritten (bytes_of s.block) bytes at (range_fits s.block at (length bytes) has) in
      omega (arith, load_site h s site, load_with s.block xs same, load-append s.before (new ∷ s.after), load-append (new ∷ []) s.after)

-- what a request adds
module _ (sli : ℕ) (f : ℕ → ℕ) where
  load_fit : (n : ℕ) (b : Block) → is_fit sli n b ≡ true → load f (b ∷ []) ≡ 0
  load_fit n (Live m s xs) fit = absurd (false≢true fit)
  load_fit n (Free m s) fit = refl

  -- an accepted allocate adds the number for its length, whatever words it is for
  pub load_given : (h : HeapState) (s : Site) (n len : ℕ) → IsSiteOf h.blocks s → is_fit sli n s.block ≡ true → load f (gives_words h n len s).heap.blocks ≡ f len + load f h.blocks
  load_given h s n len site fit =
      let new : List Block = carved (size_of s.block) n h.tick len in
      omega (arith, load_site f h s site, load_fit n s.block fit, load-append f (s.before ++ new) s.after, load-append f s.before new, load_carved f (size_of s.block) n h.tick len)
