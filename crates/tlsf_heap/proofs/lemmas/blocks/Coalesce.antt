-- A block that is released and merged with its free neighbours leaves a lawful heap.
use Rattle.tlsf_heap.proofs.Common.{◌≡◌, ◌≢◌, ℕ, ◌+◌, ◌<◌, ◌⊎◌, inl, inr, List, [], ◌∷◌, ◌++◌, refl, sym, ap, ◌∙◌, subst, arith, append_assoc, add_assoc, add-zero, zero-add, AllByRecursion, Block, Live, Free, HeapState, words_in, serials, stamps, IsLawful, HasRoom, FreeBlocksAreApart, AreDistinct, with_blocks, ticked, first_free, past_free, last_free, before_free}
use Rattle.tlsf_heap.proofs.lemmas.blocks.LastFree.{ends_free, ends_live}
use Rattle.tlsf_words.proofs.PlaceLists.{distinct_without}
use Rattle.tlsf_heap.proofs.lemmas.blocks.Lawful.{all_append, all_left, all_right, all_weaker, all_without, all_insert, serials-append, stamps-append, words_in-append, distinct_insert}

-- all that is lawful but that free blocks are apart
record IsSound (words tick : ℕ) (bs : List Block) : Type 0 where
  rooms : AllByRecursion HasRoom bs
  whole : words_in bs ≡ words
  serials_differ : AreDistinct (serials bs)
  stamps_differ : AreDistinct (stamps bs)
  serials_past : AllByRecursion (λ s. s < tick) (serials bs)
  stamps_past : AllByRecursion (λ s. s < tick) (stamps bs)

-- a live block becomes free at this tick
freed : (words tick : ℕ) (front back : List Block) (m s : ℕ) (xs : List ℕ) → IsSound words tick (front ++ Live m s xs ∷ back) → IsSound words (tick + 1) (front ++ Free m tick ∷ back)
freed words tick front back m s xs h =
    let later : (x : ℕ) → x < tick → x < tick + 1 = λ x l. omega arith in
    let old_serials = subst AreDistinct (serials-append front (Live m s xs ∷ back)) h.serials_differ in
    let old_serials_past = subst (AllByRecursion (λ x. x < tick)) (serials-append front (Live m s xs ∷ back)) h.serials_past in
    let old_stamps = subst AreDistinct (stamps-append front (Live m s xs ∷ back)) h.stamps_differ in
    let old_stamps_past = subst (AllByRecursion (λ x. x < tick)) (stamps-append front (Live m s xs ∷ back)) h.stamps_past in
    let room = all_right HasRoom front (Live m s xs ∷ back) h.rooms in
    record {
      rooms = all_append HasRoom front (Free m tick ∷ back) (all_left HasRoom front (Live m s xs ∷ back) h.rooms) (room.0.0, room.1);
      whole = words_in-append front (Free m tick ∷ back) ∙ sym (words_in-append front (Live m s xs ∷ back)) ∙ h.whole;
      serials_differ = subst AreDistinct (sym (serials-append front (Free m tick ∷ back))) (distinct_without s (serials front) (serials back) old_serials);
      stamps_differ = subst AreDistinct (sym (stamps-append front (Free m tick ∷ back))) (distinct_insert tick (stamps front) (stamps back) old_stamps old_stamps_past);
      serials_past = subst (AllByRecursion (λ x. x < tick + 1)) (sym (serials-append front (Free m tick ∷ back)))
          (all_weaker (λ x. x < tick) (λ x. x < tick + 1) later _ (all_without (λ x. x < tick) s (serials front) (serials back) old_serials_past));
      stamps_past = subst (AllByRecursion (λ x. x < tick + 1)) (sym (stamps-append front (Free m tick ∷ back)))
          (all_insert (λ x. x < tick + 1) tick (stamps front) (stamps back) (omega arith) (all_weaker (λ x. x < tick) (λ x. x < tick + 1) later _ old_stamps_past));
    }

-- a list without the second of two neighbours
distinct_second : (s t : ℕ) (xs ys : List ℕ) → AreDistinct (xs ++ s ∷ t ∷ ys) → AreDistinct (xs ++ s ∷ ys)
distinct_second s t [] ys d = (d.0.1, d.1.1)
distinct_second s t (x ∷ xs) ys d = (all_second (λ y. x ≢ y) s t xs ys d.0, distinct_second s t xs ys d.1)
  where
    all_second : (P : ℕ → Type 0) (s t : ℕ) (xs ys : List ℕ) → AllByRecursion P (xs ++ s ∷ t ∷ ys) → AllByRecursion P (xs ++ s ∷ ys)
    all_second P s t [] ys a = (a.0, a.1.1)
    all_second P s t (x ∷ xs) ys a = (a.0, all_second P s t xs ys a.1)

-- two free neighbours become one, of this stamp
joined : (words tick : ℕ) (front back : List Block) (m s n t u : ℕ)
    → (AreDistinct (stamps front ++ s ∷ t ∷ stamps back) → AreDistinct (stamps front ++ u ∷ stamps back))
    → (s < tick → t < tick → u < tick)
    → IsSound words tick (front ++ Free m s ∷ Free n t ∷ back) → IsSound words tick (front ++ Free (m + n) u ∷ back)
joined words tick front back m s n t u differ past h =
    let room = all_right HasRoom front (Free m s ∷ Free n t ∷ back) h.rooms in
    let P : ℕ → Type 0 = λ x. x < tick in
    let stamped = subst (AllByRecursion P) (stamps-append front (Free m s ∷ Free n t ∷ back)) h.stamps_past in
    let ends = all_right P (stamps front) (s ∷ t ∷ stamps back) stamped in
    record {
      rooms = all_append HasRoom front (Free (m + n) u ∷ back) (all_left HasRoom front (Free m s ∷ Free n t ∷ back) h.rooms) (omega (arith, room.0), room.1.1);
      whole = words_in-append front (Free (m + n) u ∷ back) ∙ omega (arith, words_in-append front (Free m s ∷ Free n t ∷ back), h.whole);
      serials_differ = subst AreDistinct (serials-append front (Free m s ∷ Free n t ∷ back) ∙ sym (serials-append front (Free (m + n) u ∷ back))) h.serials_differ;
      stamps_differ = subst AreDistinct (sym (stamps-append front (Free (m + n) u ∷ back))) (differ (subst AreDistinct (stamps-append front (Free m s ∷ Free n t ∷ back)) h.stamps_differ));
      serials_past = subst (AllByRecursion P) (serials-append front (Free m s ∷ Free n t ∷ back) ∙ sym (serials-append front (Free (m + n) u ∷ back))) h.serials_past;
      stamps_past = subst (AllByRecursion P) (sym (stamps-append front (Free (m + n) u ∷ back)))
          (all_append P (stamps front) (u ∷ stamps back) (all_left P (stamps front) (s ∷ t ∷ stamps back) stamped) (past ends.0 ends.1.0, ends.1.1));
    }

-- with the block behind it, where that is free
joined_next : (words tick : ℕ) (front back : List Block) (m t : ℕ) → IsSound words tick (front ++ Free m t ∷ back) → IsSound words tick (front ++ Free (m + first_free back) t ∷ past_free back)
joined_next words tick front [] m t h = subst (λ (k : ℕ). IsSound words tick (front ++ Free k t ∷ [])) (sym (add-zero m)) h
joined_next words tick front (Live n s xs ∷ back) m t h = subst (λ (k : ℕ). IsSound words tick (front ++ Free k t ∷ Live n s xs ∷ back)) (sym (add-zero m)) h
joined_next words tick front (Free n s ∷ back) m t h = joined words tick front back m t n s t (distinct_second t s (stamps front) (stamps back)) (λ a b. a) h

-- a list is empty or ends with a block
last_of : (bs : List Block) → (bs ≡ []) ⊎ ((front : List Block) × (b : Block) × (bs ≡ front ++ b ∷ []))
last_of [] = inl refl
last_of (b ∷ bs) = elim (last_of bs) [
  | inl none ↦ inr ([], b, ap (λ (l : List Block). b ∷ l) none)
  | inr some ↦ inr (b ∷ some.0, some.1, ap (λ (l : List Block). b ∷ l) some.2)
]

-- a fact of the blocks before, and of the free block that they end with, by cases
pub by_last : (P : List Block → ℕ → List Block → Type 0) (front : List Block)
    → P [] 0 []
    → ((bs : List Block) (m s : ℕ) (xs : List ℕ) → P (bs ++ Live m s xs ∷ []) 0 (bs ++ Live m s xs ∷ []))
    → ((bs : List Block) (m s : ℕ) → P (bs ++ Free m s ∷ []) m bs)
    → P front (last_free front) (before_free front)
by_last P front none live free = elim (last_of front) [
  | inl e ↦ subst (λ (l : List Block). P l (last_free l) (before_free l)) (sym e) none
  | inr some ↦ subst (λ (l : List Block). P l (last_free l) (before_free l)) (sym some.2) (at some.0 some.1)
]
  where
    at : (bs : List Block) (b : Block) → P (bs ++ b ∷ []) (last_free (bs ++ b ∷ [])) (before_free (bs ++ b ∷ []))
    at bs (Live m s xs) =
        let ends = ends_live bs m s xs in
        subst (λ (k : ℕ). P (bs ++ Live m s xs ∷ []) k (before_free (bs ++ Live m s xs ∷ []))) (sym ends.0)
        (subst (λ (l : List Block). P (bs ++ Live m s xs ∷ []) 0 l) (sym ends.1) (live bs m s xs))
    at bs (Free m s) =
        let ends = ends_free bs m s in
        subst (λ (k : ℕ). P (bs ++ Free m s ∷ []) k (before_free (bs ++ Free m s ∷ []))) (sym ends.0)
        (subst (λ (l : List Block). P (bs ++ Free m s ∷ []) m l) (sym ends.1) (free bs m s))

-- with the block before it, where that is free
joined_previous : (words tick : ℕ) (front back : List Block) (m t : ℕ) → IsSound words tick (front ++ Free m t ∷ back) → IsSound words tick (before_free front ++ Free (last_free front + m) t ∷ back)
joined_previous words tick front back m t =
    by_last (λ bs k left. IsSound words tick (bs ++ Free m t ∷ back) → IsSound words tick (left ++ Free (k + m) t ∷ back)) front
    (λ h. subst (λ (k : ℕ). IsSound words tick (Free k t ∷ back)) (sym (zero-add m)) h)
    (λ bs n s xs h. subst (λ (k : ℕ). IsSound words tick ((bs ++ Live n s xs ∷ []) ++ Free k t ∷ back)) (sym (zero-add m)) h)
    (λ bs n s h. joined words tick bs back n s m t t (distinct_without s (stamps bs) (t ∷ stamps back)) (λ a b. b)
    (subst (IsSound words tick) (append_assoc bs (Free n s ∷ []) (Free m t ∷ back)) h))

-- ---- free blocks stay apart

-- what stands behind a live block may be replaced
behind_live : (n u : ℕ) (ys : List ℕ) (front X Y : List Block) → (FreeBlocksAreApart X → FreeBlocksAreApart Y) → FreeBlocksAreApart (front ++ Live n u ys ∷ X) → FreeBlocksAreApart (front ++ Live n u ys ∷ Y)
behind_live n u ys [] X Y f h = f h
behind_live n u ys (Live a b c ∷ front) X Y f h = behind_live n u ys front X Y f h
behind_live n u ys (Free a b ∷ []) X Y f h = f h
behind_live n u ys (Free a b ∷ Live c d e ∷ front) X Y f h = behind_live n u ys front X Y f h
behind_live n u ys (Free a b ∷ Free c d ∷ front) X Y f h = absurd h

-- and what begins with a free block, by what does too
from_free : (n u k t : ℕ) (front X Y : List Block) → (FreeBlocksAreApart (Free n u ∷ X) → FreeBlocksAreApart (Free k t ∷ Y)) → FreeBlocksAreApart (front ++ Free n u ∷ X) → FreeBlocksAreApart (front ++ Free k t ∷ Y)
from_free n u k t [] X Y f h = f h
from_free n u k t (Live a b c ∷ front) X Y f h = from_free n u k t front X Y f h
from_free n u k t (Free a b ∷ []) X Y f h = absurd h
from_free n u k t (Free a b ∷ Live c d e ∷ front) X Y f h = from_free n u k t front X Y f h
from_free n u k t (Free a b ∷ Free c d ∷ front) X Y f h = absurd h

pub free_first : (k t : ℕ) (back : List Block) → FreeBlocksAreApart back → FreeBlocksAreApart (Free k t ∷ past_free back)
free_first k t [] h = tt
free_first k t (Live a b c ∷ back) h = h
free_first k t (Free a b ∷ []) h = tt
free_first k t (Free a b ∷ Live c d e ∷ back) h = h
free_first k t (Free a b ∷ Free c d ∷ back) h = absurd h

apart_coalesced : (front back : List Block) (m s k t : ℕ) (xs : List ℕ) → FreeBlocksAreApart (front ++ Live m s xs ∷ back) → FreeBlocksAreApart (before_free front ++ Free k t ∷ past_free back)
apart_coalesced front back m s k t xs =
    by_last (λ bs _ left. FreeBlocksAreApart (bs ++ Live m s xs ∷ back) → FreeBlocksAreApart (left ++ Free k t ∷ past_free back)) front
    (free_first k t back)
    (λ bs n u ys h. subst FreeBlocksAreApart (sym (append_assoc bs (Live n u ys ∷ []) (Free k t ∷ past_free back)))
    (behind_live n u ys bs (Live m s xs ∷ back) (Free k t ∷ past_free back) (free_first k t back) (subst FreeBlocksAreApart (append_assoc bs (Live n u ys ∷ []) (Live m s xs ∷ back)) h)))
    (λ bs n u h. from_free n u k t bs (Live m s xs ∷ back) (past_free back) (free_first k t back) (subst FreeBlocksAreApart (append_assoc bs (Free n u ∷ []) (Live m s xs ∷ back)) h))

-- ---- the whole

pub lawful_coalesced : (h : HeapState) (front back : List Block) (m s : ℕ) (xs : List ℕ) → IsLawful (with_blocks h (front ++ Live m s xs ∷ back))
    → IsLawful (ticked h (before_free front ++ Free (last_free front + m + first_free back) h.tick ∷ past_free back))
lawful_coalesced h front back m s xs lawful =
    let sound : IsSound h.words h.tick (front ++ Live m s xs ∷ back) = record {
      rooms = lawful.rooms;
      whole = lawful.whole;
      serials_differ = lawful.serials_differ;
      stamps_differ = lawful.stamps_differ;
      serials_past = lawful.serials_past;
      stamps_past = lawful.stamps_past;
    } in
    let merged : IsSound h.words (h.tick + 1) (before_free front ++ Free (last_free front + m + first_free back) h.tick ∷ past_free back) =
    subst (λ (k : ℕ). IsSound h.words (h.tick + 1) (before_free front ++ Free k h.tick ∷ past_free back)) (sym (add_assoc (last_free front) m (first_free back)))
    (joined_previous h.words (h.tick + 1) front (past_free back) (m + first_free back) h.tick
    (joined_next h.words (h.tick + 1) front back m h.tick (freed h.words h.tick front back m s xs sound))) in
    record {
      rooms = merged.rooms;
      whole = merged.whole;
      least = lawful.least;
      apart = apart_coalesced front back m s _ h.tick xs lawful.apart;
      serials_differ = merged.serials_differ;
      stamps_differ = merged.stamps_differ;
      serials_past = merged.serials_past;
      stamps_past = merged.stamps_past;
    }
