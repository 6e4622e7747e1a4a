-- The answer and the effect of an allocate that fills nothing.
use Rattle.tlsf_heap.proofs.Common.{◌≡◌, ◌≤◌, ℕ, suc, ◌+◌, ◌-◌, Bool, true, false, cond, nat_le, eqb, List, [], ◌∷◌, ◌++◌, take, drop, replicate, Ok, refl, sym, ap, ◌∙◌, subst, arith, eq-eqb, AllByRecursion, ◌≢◌, IsLevel, Block, Live, Free, HeapState, size_of, serials, words_in, want, allocated_words, carved, cut, with_blocks, Write, last_tick, block_at, IsChoice, IsLawful, lying, unset_from, RegionState, Name}
use Rattle.tlsf_heap.proofs.lemmas.calls.Allocate.{Allocates, allocates_some, split_at}
use Rattle.tlsf_heap.proofs.lemmas.calls.OtherBytes.{rebyted, rebytes, rebytes-append, rebytes-none}
use Rattle.tlsf_heap.proofs.lemmas.calls.Unset.{given_length, past_of, unset_is}
use Rattle.tlsf_heap.proofs.lemmas.calls.Outcomes.{lawful_run}
use Rattle.tlsf_heap.proofs.lemmas.blocks.Lawful.{all_left, all_right, serials-append, with_region}
use Rattle.tlsf_heap.proofs.lemmas.laws.Live.{given_words}

-- the blocks that a free one becomes, with other bytes
carved_rebyted : (size n tick len : ℕ) (bytes : List ℕ) → rebytes tick bytes (carved size n tick len) ≡ cut size n tick tick bytes
carved_rebyted size n tick len bytes = at (nat_le (n + 4) size)
  where
    own : eqb tick tick ≡ true
    own = eq-eqb tick tick refl

    at : (c : Bool) → rebytes tick bytes (cond c (Live n tick (replicate len 0) ∷ Free (size - n) tick ∷ []) (Live size tick (replicate len 0) ∷ [])) ≡ cond c (Live n tick bytes ∷ Free (size - n) tick ∷ []) (Live size tick bytes ∷ [])
    at true = ap (λ (b : Bool). Live n tick (cond b bytes (replicate len 0)) ∷ Free (size - n) tick ∷ []) own
    at false = ap (λ (b : Bool). Live size tick (cond b bytes (replicate len 0)) ∷ []) own

-- the outcome where a block is given, for a heap h that a representation shows and the heap k that it stands for
module _ (sli : ℕ) (level : IsLevel sli) (h k : HeapState) (n len : ℕ) (enough : want len ≤ n) (lawful : IsLawful h) (same : h ≡ k) (region : RegionState) (words : region.words ≡ h.words) (i : ℕ) (best : IsChoice sli n h.blocks i) where
  abbrev front : List Block
  front = take i h.blocks

  abbrev back : List Block
  back = drop (suc i) h.blocks

  abbrev size : ℕ
  size = size_of (block_at h.blocks i)

  -- the region, were all bytes of the block zero
  abbrev pub zeroed : RegionState
  zeroed = record {
    words = region.words;
    blocks = front ++ carved size n h.tick len ++ back;
    lists = region.lists;
    marked = region.marked;
    stored = region.stored;
    extents = region.extents;
    touches = region.touches;
    touched = region.touched;
  }

  apart : AllByRecursion (λ y. y ≢ h.tick) (serials front ++ serials (block_at h.blocks i ∷ back))
  apart = subst (AllByRecursion (λ y. y ≢ h.tick)) (ap serials (split_at h.blocks i best.within) ∙ serials-append front (block_at h.blocks i ∷ back)) (past_of h.tick (serials h.blocks) lawful.serials_past)

  -- no block after the one that is given has its serial
  behind : (b : Block) → AllByRecursion (λ y. y ≢ h.tick) (serials (b ∷ back)) → AllByRecursion (λ y. y ≢ h.tick) (serials back)
  behind (Live m s xs) all = all.1
  behind (Free m s) all = all

  zeroed_rebyted : (bytes : List ℕ) → rebytes h.tick bytes zeroed.blocks ≡ front ++ cut size n h.tick h.tick bytes ++ back
  zeroed_rebyted bytes =
      let new = carved size n h.tick len in
      rebytes-append h.tick bytes (front ++ new) back
      ∙ ap (λ (l : List Block). l ++ rebytes h.tick bytes back) (rebytes-append h.tick bytes front new)
      ∙ ap (λ (l : List Block). l ++ rebytes h.tick bytes new ++ rebytes h.tick bytes back) (rebytes-none h.tick bytes front (all_left (λ y. y ≢ h.tick) (serials front) (serials (block_at h.blocks i ∷ back)) apart))
      ∙ ap (λ (l : List Block). front ++ l ++ rebytes h.tick bytes back) (carved_rebyted size n h.tick len bytes)
      ∙ ap (λ (l : List Block). front ++ cut size n h.tick h.tick bytes ++ l) (rebytes-none h.tick bytes back (behind (block_at h.blocks i) (all_right (λ y. y ≢ h.tick) (serials front) (serials (block_at h.blocks i ∷ back)) apart)))

  module _ (at : ℕ) (is_at : words_in front ≡ at) (blocks : region.blocks ≡ front ++ cut size n h.tick h.tick (lying region.stored at len) ++ back) (fresh : ¬ (h.tick ≡ last_tick)) where
    abbrev name : Name
    name = record { heap = h.id; at = at; serial = h.tick }

    -- it is as an allocate, but for the bytes
    pub given_zeros : Allocates sli k n len (Ok name) (with_region h (h.tick + 1) zeroed)
    given_zeros = allocates_some sli level h k n len enough lawful same zeroed words i best at is_at refl fresh

    zeros_lawful : IsLawful (allocated_words sli k n len).heap
    zeros_lawful = subst IsLawful given_zeros.is_heap given_zeros.lawful

    pub given_lying : with_region h (h.tick + 1) region ≡ unset_from (allocated_words sli k n len).heap name region.stored 0 len
    given_lying =
        let bytes = lying region.stored at len in
        ap (with_blocks (with_region h (h.tick + 1) zeroed)) (blocks ∙ sym (zeroed_rebyted bytes))
        ∙ ap (rebyted h.tick bytes) given_zeros.is_heap
        ∙ sym (unset_is (allocated_words sli k n len).heap name region.stored 0 len zeros_lawful (given_words sli k n len name (sym given_zeros.is_answer)) (omega arith)
        (sym (given_length sli k n len name (subst IsLawful same lawful) (sym given_zeros.is_answer))))

    pub lying_lawful : IsLawful (with_region h (h.tick + 1) region)
    lying_lawful = subst IsLawful (sym given_lying) (lawful_run sli level (allocated_words sli k n len).heap (Write name 0 (drop 0 (lying region.stored at len)) ∷ []) zeros_lawful)
