-- A fact about each block, and the words of a region: how they are after a call.
use Rattle.tlsf_pool.proofs.Common.{◌≡◌, ℕ, List, [], ◌∷◌, ◌++◌, refl, sym, ◌∙◌, subst, AllByRecursion, Block, Live, Free, HeapState, want, Site, Call, Allocate, Release, Write, Resize, Read, past_free, before_free, answered, run, ◌+◌, ◌-◌, ◌≤◌, true, length, replicate, arith, inl, inr, length-replicate, cases_lt, false≢true, size_of, bytes_of, is_fit, carved, fitted, refitted, with_bytes, has_serial, overwritten, first_free, last_free, allocated_words, released, written, Name, ◌≢◌, Err, NoFit, allocated, HasRoomFor, is_free, false}
use Rattle.tlsf_heap.proofs.lemmas.blocks.Lawful.{all_append, all_left, all_right}
use Rattle.tlsf_heap.proofs.lemmas.blocks.Coalesce.{by_last}
use Rattle.tlsf_heap.proofs.lemmas.calls.Outcomes.{by_allocated, by_allocated_words, by_released, by_resized_words, by_written}
use Rattle.tlsf_heap.specs.Calls.{resized_words}
use Rattle.tlsf_heap.proofs.lemmas.blocks.Find.{and_left}
use Rattle.tlsf_heap.proofs.lemmas.blocks.Replace.{carved_small, carved_large}
use Rattle.tlsf_heap.proofs.lemmas.calls.Write.{length-overwritten, range_fits}
use Rattle.tlsf_heap.proofs.lemmas.words.NewBytes.{length-fitted}
use Rattle.tlsf_pool.proofs.lemmas.laws.Refits.{by_refit}

module _ (P : Block → Type 0) where
  pub past_all : (bs : List Block) → AllByRecursion P bs → AllByRecursion P (past_free bs)
  past_all [] a = a
  past_all (Live m s xs ∷ bs) a = a
  past_all (Free m s ∷ bs) a = a.1

  pub before_all : (bs : List Block) → AllByRecursion P bs → AllByRecursion P (before_free bs)
  before_all bs = by_last (λ all size rest. AllByRecursion P all → AllByRecursion P rest) bs (λ a. a) (λ front m s xs a. a) (λ front m s a. all_left P front (Free m s ∷ []) a)

  -- what stands around a block
  pub around_site : (h : HeapState) (s : Site) → s.before ++ s.block ∷ s.after ≡ h.blocks → AllByRecursion P h.blocks → AllByRecursion P s.before × P s.block × AllByRecursion P s.after
  around_site h s site all =
      let a = subst (AllByRecursion P) (sym site) all in
      let b = all_right P s.before (s.block ∷ s.after) a in
      (all_left P s.before (s.block ∷ s.after) a, b.0, b.1)

-- a block with a serial is live
pub live_named : (serial : ℕ) (b : Block) → has_serial serial b ≡ true → is_free b ≡ false
live_named serial (Live m t xs) e = refl
live_named serial (Free m t) e = absurd (false≢true e)

-- ---- what the calls leave of a fact about each block, where each free block has it

-- it holds of a live block of `least` words or more, at most three more than n, with `len` bytes
abbrev pub Suits : (Block → Type 0) → ℕ → ℕ → ℕ → Type 0
Suits P least n len = (m t : ℕ) (xs : List ℕ) → least ≤ m → m ≤ n + 3 → length xs ≡ len → P (Live m t xs)

module _ (P : Block → Type 0) (free : (m u : ℕ) → P (Free m u)) where
  carved_all : (least size n tick len : ℕ) → least ≤ size → least ≤ n → Suits P least n len → AllByRecursion P (carved size n tick len)
  carved_all least size n tick len enough few suits = elim (cases_lt size (n + 4)) [
    | inl small ↦ subst (AllByRecursion P) (sym (carved_small size n tick len small)) (suits size tick (replicate len 0) enough (omega arith) (length-replicate len 0), tt)
    | inr large ↦ subst (AllByRecursion P) (sym (carved_large size n tick len large)) (suits n tick (replicate len 0) few (omega arith) (length-replicate len 0), (free (size - n) tick, tt))
  ]

  refitted_all : (tick n len serial : ℕ) (b : Block) (bs : List Block) → n ≤ size_of b + first_free bs → Suits P n n len → has_serial serial b ≡ true → AllByRecursion P bs → AllByRecursion P (refitted tick n len b bs)
  refitted_all tick n len serial (Free m u) bs room suits e all = absurd (false≢true e)
  refitted_all tick n len serial (Live m u xs) bs room suits e all =
      let past = past_all P bs all in
      let long = length-fitted xs len in
      by_refit (AllByRecursion P) tick n len m u xs bs (λ enough few. (suits m u (fitted xs len) enough (omega arith) long, all))
      (λ large. (suits n u (fitted xs len) (omega arith) (omega arith) long, (free (m + first_free bs - n) tick, past)))
      (λ small. (suits (m + first_free bs) u (fitted xs len) room (omega arith) long, past))

  pub all_allocated : (sli least : ℕ) (h : HeapState) (n len : ℕ) → ((b : Block) → is_fit sli n b ≡ true → least ≤ size_of b) → least ≤ n → Suits P least n len → AllByRecursion P h.blocks
      → AllByRecursion P (allocated_words sli h n len).heap.blocks
  all_allocated sli least h n len enough few suits all = by_allocated_words sli (λ o. AllByRecursion P o.heap.blocks) h n len (λ why. all) (λ s site fit.
      let a = around_site P h s site all in
      let new : List Block = carved (size_of s.block) n h.tick len in
      all_append P (s.before ++ new) s.after (all_append P s.before new a.0 (carved_all least (size_of s.block) n h.tick len (enough s.block fit) few suits)) a.2)

  pub all_released : (h : HeapState) (name : Name) → AllByRecursion P h.blocks → AllByRecursion P (released h name).heap.blocks
  all_released h name all = by_released (λ o. AllByRecursion P o.heap.blocks) h name (λ why. all) (λ s own site is.
      let a = around_site P h s site all in
      all_append P (before_free s.before) _ (before_all P s.before a.0) (free (last_free s.before + size_of s.block + first_free s.after) h.tick, past_all P s.after a.2))

  pub all_written : ((b : Block) (xs : List ℕ) → length xs ≡ length (bytes_of b) → P b → P (with_bytes b xs)) → (h : HeapState) (name : Name) (at : ℕ) (bytes : List ℕ) → AllByRecursion P h.blocks
      → AllByRecursion P (written h name at bytes).heap.blocks
  all_written same h name at bytes all = by_written (λ o. AllByRecursion P o.heap.blocks) h name at bytes (λ why. all) (λ s site has.
      let a = around_site P h s site all in
      all_append P s.before _ a.0 (same s.block (overwritten (bytes_of s.block) at bytes) (length-overwritten (bytes_of s.block) bytes at (range_fits s.block at (length bytes) has)) a.1, a.2))

  pub all_resized : (h : HeapState) (name : Name) (n len : ℕ) → Suits P n n len → AllByRecursion P h.blocks → AllByRecursion P (resized_words h name n len).heap.blocks
  all_resized h name n len suits all = by_resized_words (λ o. AllByRecursion P o.heap.blocks) h name n len (λ why. all) (λ s own site is room.
      let a = around_site P h s site all in
      all_append P s.before _ a.0 (refitted_all h.tick n len name.serial s.block s.after room suits (and_left _ _ is) a.2))

pub words_kept : (sli : ℕ) (h : HeapState) (call : Call) → (answered sli h call).1.words ≡ h.words
words_kept sli h (Allocate n) = by_allocated sli (λ o. o.heap.words ≡ h.words) h n (λ why. refl) (λ s site fit. refl)
words_kept sli h (Release name) = by_released (λ o. o.heap.words ≡ h.words) h name (λ why. refl) (λ s own site is. refl)
words_kept sli h (Write name at bytes) = by_written (λ o. o.heap.words ≡ h.words) h name at bytes (λ why. refl) (λ s site has. refl)
words_kept sli h (Resize name len) = by_resized_words (λ o. o.heap.words ≡ h.words) h name (want len) len (λ why. refl) (λ s own site is room. refl)
words_kept sli h (Read name at n) = refl

pub words_run : (sli : ℕ) (h : HeapState) (calls : List Call) → (run sli h calls).1.words ≡ h.words
words_run sli h [] = refl
words_run sli h (call ∷ calls) = words_run sli (answered sli h call).1 calls ∙ words_kept sli h call

-- a request alone can be refused for want of room
pub requests_alone : (asks : Call → Type 0) (sli : ℕ) (h : HeapState) (call : Call) → asks call → ((n : ℕ) → asks (Allocate n) → (allocated sli h n).answer ≢ Err NoFit) → HasRoomFor (answered sli h call).0
requests_alone asks sli h (Allocate n) asked room = λ e. let none : (allocated sli h n).answer ≡ Err NoFit = cc in room n asked none
requests_alone asks sli h (Release name) asked room = λ e. cc
requests_alone asks sli h (Write name at bytes) asked room = λ e. cc
requests_alone asks sli h (Resize name n) asked room = λ e. cc
requests_alone asks sli h (Read name at n) asked room = λ e. cc
