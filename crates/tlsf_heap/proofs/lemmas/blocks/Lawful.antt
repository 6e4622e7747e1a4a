-- The heap after an allocate is lawful.
use Rattle.tlsf_heap.proofs.Common.{◌≡◌, ◌≢◌, ℕ, ◌+◌, ◌-◌, ◌<◌, ◌≤◌, List, [], ◌∷◌, ◌++◌, replicate, refl, sym, ap, ◌∙◌, subst, arith, append_assoc, AllByRecursion, length-replicate, Block, Live, Free, HeapState, words_in, serials, stamps, want, IsLawful, HasRoom, FreeBlocksAreApart, AreDistinct, RegionState, opened, with_blocks, ticked}
use Rattle.tlsf_words.proofs.PlaceLists.{distinct_without}

module _ {X : Type 0} (P : X → Type 0) where
  pub all_append : (xs ys : List X) → AllByRecursion P xs → AllByRecursion P ys → AllByRecursion P (xs ++ ys)
  all_append [] ys a b = b
  all_append (x ∷ xs) ys a b = (a.0, all_append xs ys a.1 b)

  pub all_left : (xs ys : List X) → AllByRecursion P (xs ++ ys) → AllByRecursion P xs
  all_left [] ys a = tt
  all_left (x ∷ xs) ys a = (a.0, all_left xs ys a.1)

  pub all_right : (xs ys : List X) → AllByRecursion P (xs ++ ys) → AllByRecursion P ys
  all_right [] ys a = a
  all_right (x ∷ xs) ys a = all_right xs ys a.1

pub all_weaker : {X : Type 0} (P Q : X → Type 0) → ((x : X) → P x → Q x) → (xs : List X) → AllByRecursion P xs → AllByRecursion Q xs
all_weaker P Q h [] a = tt
all_weaker P Q h (x ∷ xs) a = (h x a.0, all_weaker P Q h xs a.1)

pub serials-append : (xs ys : List Block) → serials (xs ++ ys) ≡ serials xs ++ serials ys
serials-append [] ys = refl
serials-append (Live m s b ∷ xs) ys = ap (λ (l : List ℕ). s ∷ l) (serials-append xs ys)
serials-append (Free m s ∷ xs) ys = serials-append xs ys

pub stamps-append : (xs ys : List Block) → stamps (xs ++ ys) ≡ stamps xs ++ stamps ys
stamps-append [] ys = refl
stamps-append (Live m s b ∷ xs) ys = stamps-append xs ys
stamps-append (Free m s ∷ xs) ys = ap (λ (l : List ℕ). s ∷ l) (stamps-append xs ys)

pub words_in-append : (xs ys : List Block) → words_in (xs ++ ys) ≡ words_in xs + words_in ys
words_in-append [] ys = omega arith
words_in-append (x ∷ xs) ys = let e = words_in-append xs ys in omega arith

-- a number above all others differs from them
pub distinct_insert : (t : ℕ) (xs ys : List ℕ) → AreDistinct (xs ++ ys) → AllByRecursion (λ y. y < t) (xs ++ ys) → AreDistinct (xs ++ t ∷ ys)
distinct_insert t [] ys d a = (all_weaker (λ y. y < t) (λ y. t ≢ y) (λ y h e. omega (arith, h, e)) ys a, d)
distinct_insert t (x ∷ xs) ys d a = (
  all_append (λ y. x ≢ y) xs (t ∷ ys) (all_left (λ y. x ≢ y) xs ys d.0) ((λ e. omega (arith, a.0, e)), all_right (λ y. x ≢ y) xs ys d.0),
  distinct_insert t xs ys d.1 a.1,
)

pub all_without : (P : ℕ → Type 0) (s : ℕ) (xs ys : List ℕ) → AllByRecursion P (xs ++ s ∷ ys) → AllByRecursion P (xs ++ ys)
all_without P s xs ys a = all_append P xs ys (all_left P xs (s ∷ ys) a) (all_right P xs (s ∷ ys) a).1

pub all_insert : (P : ℕ → Type 0) (s : ℕ) (xs ys : List ℕ) → P s → AllByRecursion P (xs ++ ys) → AllByRecursion P (xs ++ s ∷ ys)
all_insert P s xs ys p a = all_append P xs (s ∷ ys) (all_left P xs ys a) (p, all_right P xs ys a)

-- a free block may be made live
pub apart_live : (m s n t : ℕ) (b : List ℕ) (front back : List Block) → FreeBlocksAreApart (front ++ Free m s ∷ back) → FreeBlocksAreApart (front ++ Live n t b ∷ back)
apart_live m s n t b [] [] h = tt
apart_live m s n t b [] (Live a c d ∷ back) h = h
apart_live m s n t b [] (Free a c ∷ back) h = absurd h
apart_live m s n t b (Live a c d ∷ front) back h = apart_live m s n t b front back h
apart_live m s n t b (Free a c ∷ []) back h = absurd h
apart_live m s n t b (Free a c ∷ Live d e f ∷ front) back h = apart_live m s n t b front back h
apart_live m s n t b (Free a c ∷ Free d e ∷ front) back h = absurd h

-- and a free block may stand behind it
pub apart_split : (m s n t r u : ℕ) (b : List ℕ) (front back : List Block) → FreeBlocksAreApart (front ++ Free m s ∷ back) → FreeBlocksAreApart (front ++ Live n t b ∷ Free r u ∷ back)
apart_split m s n t r u b [] [] h = tt
apart_split m s n t r u b [] (Live a c d ∷ back) h = h
apart_split m s n t r u b [] (Free a c ∷ back) h = absurd h
apart_split m s n t r u b (Live a c d ∷ front) back h = apart_split m s n t r u b front back h
apart_split m s n t r u b (Free a c ∷ []) back h = absurd h
apart_split m s n t r u b (Free a c ∷ Live d e f ∷ front) back h = apart_split m s n t r u b front back h
apart_split m s n t r u b (Free a c ∷ Free d e ∷ front) back h = absurd h

-- the heap with another tick and what a region shows
abbrev pub with_region : HeapState → ℕ → RegionState → HeapState
with_region h tick region = record { id = h.id; words = region.words; tick = tick; blocks = region.blocks }

pub region_is : (h : HeapState) (tick : ℕ) (region : RegionState) (bs : List Block) → region.words ≡ h.words → region.blocks ≡ bs → with_region h tick region ≡ record { id = h.id; words = h.words; tick = tick; blocks = bs }
region_is h tick region bs words blocks = cc

module _ (h : HeapState) (front back : List Block) (m s n len : ℕ) (wanted : want len ≤ n) (lawful : IsLawful (with_blocks h (front ++ Free m s ∷ back))) where
  total : words_in front + (m + words_in back) ≡ h.words
  total = sym (words_in-append front (Free m s ∷ back)) ∙ lawful.whole

  rooms_front : AllByRecursion HasRoom front
  rooms_front = all_left HasRoom front (Free m s ∷ back) lawful.rooms

  rooms_back : AllByRecursion HasRoom back
  rooms_back = (all_right HasRoom front (Free m s ∷ back) lawful.rooms).1

  live_room : (k : ℕ) → n ≤ k → HasRoom (Live k h.tick (replicate len 0))
  live_room k le = (omega arith, rw (length-replicate {A = ℕ} len 0) (omega arith))

  later : (x : ℕ) → x < h.tick → x < h.tick + 1
  later x l = omega arith

  old_serials : AreDistinct (serials front ++ serials back)
  old_serials = subst AreDistinct (serials-append front (Free m s ∷ back)) lawful.serials_differ

  old_past : AllByRecursion (λ x. x < h.tick) (serials front ++ serials back)
  old_past = subst (AllByRecursion (λ x. x < h.tick)) (serials-append front (Free m s ∷ back)) lawful.serials_past

  old_stamps : AreDistinct (stamps front ++ stamps back)
  old_stamps = distinct_without s (stamps front) (stamps back) (subst AreDistinct (stamps-append front (Free m s ∷ back)) lawful.stamps_differ)

  old_stamps_past : AllByRecursion (λ x. x < h.tick) (stamps front ++ stamps back)
  old_stamps_past = all_without (λ x. x < h.tick) s (stamps front) (stamps back) (subst (AllByRecursion (λ x. x < h.tick)) (stamps-append front (Free m s ∷ back)) lawful.stamps_past)

  new_serials : AreDistinct (serials front ++ h.tick ∷ serials back)
  new_serials = distinct_insert h.tick (serials front) (serials back) old_serials old_past

  new_serials_past : AllByRecursion (λ x. x < h.tick + 1) (serials front ++ h.tick ∷ serials back)
  new_serials_past = all_insert (λ x. x < h.tick + 1) h.tick (serials front) (serials back) (omega arith) (all_weaker (λ x. x < h.tick) (λ x. x < h.tick + 1) later _ old_past)

  pub lawful_split : n + 4 ≤ m → IsLawful (ticked h (front ++ (Live n h.tick (replicate len 0) ∷ Free (m - n) h.tick ∷ []) ++ back))
  lawful_split fits = rw append_assoc (record {
    rooms = all_append HasRoom front _ rooms_front (live_room n (omega arith), (omega arith, rooms_back));
    whole = words_in-append front _ ∙ omega (arith, total, fits);
    least = lawful.least;
    apart = apart_split m s n h.tick (m - n) h.tick (replicate len 0) front back lawful.apart;
    serials_differ = subst AreDistinct (sym (serials-append front _)) new_serials;
    stamps_differ = subst AreDistinct (sym (stamps-append front _)) (distinct_insert h.tick (stamps front) (stamps back) old_stamps old_stamps_past);
    serials_past = subst (AllByRecursion (λ x. x < h.tick + 1)) (sym (serials-append front _)) new_serials_past;
    stamps_past = subst (AllByRecursion (λ x. x < h.tick + 1)) (sym (stamps-append front _)) (all_insert (λ x. x < h.tick + 1) h.tick (stamps front) (stamps back) (omega arith) (all_weaker (λ x. x < h.tick) (λ x. x < h.tick + 1) later _ old_stamps_past));
  })

  pub lawful_whole : n ≤ m → IsLawful (ticked h (front ++ (Live m h.tick (replicate len 0) ∷ []) ++ back))
  lawful_whole fits = rw append_assoc (record {
    rooms = all_append HasRoom front _ rooms_front (live_room m fits, rooms_back);
    whole = words_in-append front _ ∙ total;
    least = lawful.least;
    apart = apart_live m s m h.tick (replicate len 0) front back lawful.apart;
    serials_differ = subst AreDistinct (sym (serials-append front _)) new_serials;
    stamps_differ = subst AreDistinct (sym (stamps-append front _)) old_stamps;
    serials_past = subst (AllByRecursion (λ x. x < h.tick + 1)) (sym (serials-append front _)) new_serials_past;
    stamps_past = subst (AllByRecursion (λ x. x < h.tick + 1)) (sym (stamps-append front _)) (all_weaker (λ x. x < h.tick) (λ x. x < h.tick + 1) later _ old_stamps_past);
  })

-- a new heap is lawful
pub opened_lawful : (id words first : ℕ) → 4 ≤ words → IsLawful (opened id words first)
opened_lawful id words first h = record {
  rooms = (h, tt);
  whole = omega arith;
  least = h;
  apart = tt;
  serials_differ = tt;
  stamps_differ = (tt, tt);
  serials_past = tt;
  stamps_past = (omega arith, tt);
}
