-- A block that is resized leaves a lawful heap; what resizing answers and leaves, by the index of the named block.
use Rattle.tlsf_heap.proofs.Common.{◌≡◌, ℕ, suc, ◌+◌, ◌-◌, ◌<◌, ◌≤◌, inl, inr, Bool, true, false, cond, nat_lt, eqb, List, [], ◌∷◌, ◌++◌, take, drop, Result, Ok, Err, refl, sym, ap, ◌∙◌, subst, arith, eq-eqb, AllByRecursion, false≢true, cases_lt, nat_tests, AreDistinct, Block, Live, Free, HeapState, words_in, serials, stamps, words_for, want, IsLawful, HasRoom, FreeBlocksAreApart, block_at, with_blocks, Outcome, has_serial, ticked, refused, last_tick, first_free, past_free, fitted, recut, refitted, room_of, is_worn, resized_words, resized_at, RegionState, IsFirst, IsNamed, RefusesName, Name, Refusal, Worn, NoRoom}
use Rattle.tlsf_heap.proofs.lemmas.calls.Allocate.{split_at}
use Rattle.tlsf_heap.proofs.lemmas.blocks.Coalesce.{free_first}
use Rattle.tlsf_heap.proofs.lemmas.blocks.Find.{and_left, not_true}
use Rattle.tlsf_heap.proofs.lemmas.words.NewBytes.{length-fitted}
use Rattle.tlsf_words.proofs.PlaceLists.{distinct_without}
use Rattle.tlsf_heap.proofs.lemmas.blocks.Lawful.{all_append, all_left, all_right, all_weaker, all_without, all_insert, serials-append, stamps-append, words_in-append, distinct_insert, with_region, region_is}
use Rattle.tlsf_heap.proofs.lemmas.calls.Named.{refused_name, at_name}
use Rattle.tlsf_heap.proofs.lemmas.words.Recut.{cut_small, cut_large}
use Rattle.tlsf_heap.proofs.lemmas.lists.Refit.{refitted_grown, refitted_cut, refitted_kept}

-- what holds of each way to refit a live block holds of the block refitted
pub by_refitted : (P : List Block → Type 0) (tick n len m s : ℕ) (xs : List ℕ) (back : List Block) → n ≤ m + first_free back
    → (n ≤ m → P (Live m s (fitted xs len) ∷ back))
    → P (Live (m + first_free back) s (fitted xs len) ∷ past_free back)
    → (n + 4 ≤ m + first_free back → P (Live n s (fitted xs len) ∷ Free (m + first_free back - n) tick ∷ past_free back))
    → P (refitted tick n len (Live m s xs) back)
by_refitted P tick n len m s xs back room kept wide cuts = elim (cases_lt m n) [
  | inl small ↦ subst P (sym (refitted_grown tick n len (Live m s xs) back small)) by_cut
  | inr enough ↦ elim (cases_lt m (n + 4)) [
    | inl close ↦ subst P (sym (refitted_kept tick n len (Live m s xs) back enough close)) (kept enough)
    | inr far ↦ subst P (sym (refitted_cut tick n len (Live m s xs) back far)) by_cut
  ]
]
  where
    by_cut : P (recut tick n (Live m s (fitted xs len)) back)
    by_cut = elim (cases_lt (m + first_free back) (n + 4)) [
      | inl small ↦ subst (λ (l : List Block). P (l ++ past_free back)) (sym (cut_small (m + first_free back) n tick s (fitted xs len) small)) wide
      | inr large ↦ subst (λ (l : List Block). P (l ++ past_free back)) (sym (cut_large (m + first_free back) n tick s (fitted xs len) large)) (cuts large)
    ]

-- ---- blocks without the free one that they begin with

pub past_words : (bs : List Block) → first_free bs + words_in (past_free bs) ≡ words_in bs
past_words [] = refl
past_words (Live m s xs ∷ bs) = omega arith
past_words (Free m s ∷ bs) = refl

past_rooms : (bs : List Block) → AllByRecursion HasRoom bs → AllByRecursion HasRoom (past_free bs)
past_rooms [] a = a
past_rooms (Live m s xs ∷ bs) a = a
past_rooms (Free m s ∷ bs) a = a.1

past_apart : (bs : List Block) → FreeBlocksAreApart bs → FreeBlocksAreApart (past_free bs)
past_apart [] a = a
past_apart (Live m s xs ∷ bs) a = a
past_apart (Free m s ∷ []) a = tt
past_apart (Free m s ∷ Live a b c ∷ bs) h = h
past_apart (Free m s ∷ Free a b ∷ bs) h = absurd h

pub past_serials : (bs : List Block) → serials (past_free bs) ≡ serials bs
past_serials [] = refl
past_serials (Live m s xs ∷ bs) = refl
past_serials (Free m s ∷ bs) = refl

past_distinct : (xs : List ℕ) (bs : List Block) → AreDistinct (xs ++ stamps bs) → AreDistinct (xs ++ stamps (past_free bs))
past_distinct xs [] d = d
past_distinct xs (Live m s ys ∷ bs) d = d
past_distinct xs (Free m s ∷ bs) d = distinct_without s xs (stamps bs) d

past_stamps : (P : ℕ → Type 0) (xs : List ℕ) (bs : List Block) → AllByRecursion P (xs ++ stamps bs) → AllByRecursion P (xs ++ stamps (past_free bs))
past_stamps P xs [] a = a
past_stamps P xs (Live m s ys ∷ bs) a = a
past_stamps P xs (Free m s ∷ bs) a = all_without P s xs (stamps bs) a

-- a live block and those behind it may become others
apart_resized : (m s k : ℕ) (xs ys : List ℕ) (front X Y : List Block) → (FreeBlocksAreApart X → FreeBlocksAreApart Y) → FreeBlocksAreApart (front ++ Live m s xs ∷ X) → FreeBlocksAreApart (front ++ Live k s ys ∷ Y)
apart_resized m s k xs ys [] X Y f h = f h
apart_resized m s k xs ys (Live a b c ∷ front) X Y f h = apart_resized m s k xs ys front X Y f h
apart_resized m s k xs ys (Free a b ∷ []) X Y f h = f h
apart_resized m s k xs ys (Free a b ∷ Live c d e ∷ front) X Y f h = apart_resized m s k xs ys front X Y f h
apart_resized m s k xs ys (Free a b ∷ Free c d ∷ front) X Y f h = absurd h

-- ---- a lawful heap stays lawful

module _ (h : HeapState) (front back : List Block) (m s : ℕ) (xs : List ℕ) (n len : ℕ) (least : 4 ≤ n) (wanted : words_for len ≤ n) (lawful : IsLawful (with_blocks h (front ++ Live m s xs ∷ back))) where
  old_stamps : AreDistinct (stamps front ++ stamps back)
  old_stamps = subst AreDistinct (stamps-append front (Live m s xs ∷ back)) lawful.stamps_differ

  old_past : AllByRecursion (λ x. x < h.tick) (stamps front ++ stamps back)
  old_past = subst (AllByRecursion (λ x. x < h.tick)) (stamps-append front (Live m s xs ∷ back)) lawful.stamps_past

  later : (xs : List ℕ) → AllByRecursion (λ x. x < h.tick) xs → AllByRecursion (λ x. x < h.tick + 1) xs
  later xs a = all_weaker (λ x. x < h.tick) (λ x. x < h.tick + 1) (λ x l. omega arith) xs a

  lawful_with : (k : ℕ) (rest : List Block) → n ≤ k → k + words_in rest ≡ m + words_in back → (AllByRecursion HasRoom back → AllByRecursion HasRoom rest) → (FreeBlocksAreApart back → FreeBlocksAreApart rest)
      → serials rest ≡ serials back → AreDistinct (stamps front ++ stamps rest) → AllByRecursion (λ x. x < h.tick + 1) (stamps front ++ stamps rest)
      → IsLawful (ticked h (front ++ Live k s (fitted xs len) ∷ rest))
  lawful_with k rest enough as_many rooms apart same differ past =
      let new = fitted xs len in
      let here = all_right HasRoom front (Live m s xs ∷ back) lawful.rooms in
      let same_serials : serials (front ++ Live m s xs ∷ back) ≡ serials (front ++ Live k s new ∷ rest) =
      serials-append front (Live m s xs ∷ back) ∙ ap (λ (l : List ℕ). serials front ++ s ∷ l) (sym same) ∙ sym (serials-append front (Live k s new ∷ rest)) in
      let room : HasRoom (Live k s new) = (omega (arith, enough, least), rw (length-fitted xs len) (omega (arith, enough, wanted))) in
      record {
        rooms = all_append HasRoom front (Live k s new ∷ rest) (all_left HasRoom front (Live m s xs ∷ back) lawful.rooms) (room, rooms here.1);
        whole = words_in-append front (Live k s new ∷ rest) ∙ omega (arith, words_in-append front (Live m s xs ∷ back), lawful.whole, as_many);
        least = lawful.least;
        apart = apart_resized m s k xs new front back rest apart lawful.apart;
        serials_differ = subst AreDistinct same_serials lawful.serials_differ;
        stamps_differ = subst AreDistinct (sym (stamps-append front (Live k s new ∷ rest))) differ;
        serials_past = subst (AllByRecursion (λ x. x < h.tick + 1)) same_serials (later _ lawful.serials_past);
        stamps_past = subst (AllByRecursion (λ x. x < h.tick + 1)) (sym (stamps-append front (Live k s new ∷ rest))) past;
      }

  lawful_live : n ≤ m + first_free back → IsLawful (ticked h (front ++ refitted h.tick n len (Live m s xs) back))
  lawful_live room =
      let words = past_words back in
      let differ = past_distinct (stamps front) back old_stamps in
      let past = past_stamps (λ x. x < h.tick) (stamps front) back old_past in
      by_refitted (λ (l : List Block). IsLawful (ticked h (front ++ l))) h.tick n len m s xs back room
      (λ enough. lawful_with m back enough refl (λ a. a) (λ a. a) refl old_stamps (later _ old_past))
      (lawful_with (m + first_free back) (past_free back) room (omega arith) (past_rooms back) (past_apart back) (past_serials back) differ (later _ past))
      (λ large. lawful_with n (Free (m + first_free back - n) h.tick ∷ past_free back) (omega arith) (omega arith) (λ a. (omega arith, past_rooms back a)) (free_first (m + first_free back - n) h.tick back) (past_serials back)
      (distinct_insert h.tick (stamps front) (stamps (past_free back)) differ past)
      (all_insert (λ x. x < h.tick + 1) h.tick (stamps front) (stamps (past_free back)) (omega arith) (later _ past)))

-- a named block is live
pub lawful_refitted : (h : HeapState) (front back : List Block) (b : Block) (serial n len : ℕ) → want len ≤ n → has_serial serial b ≡ true → n ≤ room_of b back → IsLawful (with_blocks h (front ++ b ∷ back))
    → IsLawful (ticked h (front ++ refitted h.tick n len b back))
lawful_refitted h front back (Live m s xs) serial n len wanted e room lawful = lawful_live h front back m s xs n len (omega arith) (omega arith) lawful room
lawful_refitted h front back (Free m s) serial n len wanted e room lawful = absurd (false≢true e)

-- ---- what a call comes to

module _ (h : HeapState) (name : Name) (n len : ℕ) where
  pub resized_refused : (why : Refusal) → RefusesName h name why → resized_words h name n len ≡ refused h why
  resized_refused why r = refused_name h name (resized_at h n len) (refused h) refl why r

  module _ (own : name.heap ≡ h.id) (i : ℕ) (first : IsFirst name.at name.serial h.blocks i) where
    abbrev left : List Block
    left = take i h.blocks ++ refitted h.tick n len (block_at h.blocks i) (drop (suc i) h.blocks)

    abbrev done : Outcome (Unit {0})
    done = record { answer = Ok tt; heap = ticked h left }

    abbrev short : Bool
    short = nat_lt (room_of (block_at h.blocks i) (drop (suc i) h.blocks)) n

    by_room : (b : Bool) → short ≡ b → resized_words h name n len ≡ cond b (refused h NoRoom) (cond (is_worn h) (refused h Worn) done)
    by_room b t = at_name h name (resized_at h n len) (refused h) own i first ∙ ap (λ (c : Bool). cond c (refused h NoRoom) (cond (is_worn h) (refused h Worn) done)) t

    pub resized_short : room_of (block_at h.blocks i) (drop (suc i) h.blocks) < n → resized_words h name n len ≡ refused h NoRoom
    resized_short l = by_room true (grind (arith, nat_tests))

    module _ (room : n ≤ room_of (block_at h.blocks i) (drop (suc i) h.blocks)) where
      pub resized_worn : h.tick ≡ last_tick → resized_words h name n len ≡ refused h Worn
      resized_worn w = by_room false (grind (arith, nat_tests)) ∙ ap (λ (b : Bool). cond b (refused h Worn) done) (eq-eqb h.tick last_tick w)

      pub resized_is : (h.tick ≡ last_tick → ⊥) → resized_words h name n len ≡ done
      resized_is f =
          let t : eqb h.tick last_tick ≡ false = not_true _ (λ w. f (grind (arith, nat_tests))) in
          by_room false (grind (arith, nat_tests)) ∙ ap (λ (b : Bool). cond b (refused h Worn) done) t

      pub resized_lawful : want len ≤ n → IsLawful h → IsLawful (ticked h left)
      resized_lawful wanted lawful =
          lawful_refitted h (take i h.blocks) (drop (suc i) h.blocks) (block_at h.blocks i) name.serial n len wanted (and_left _ _ first.here) room
          (subst (λ (l : List Block). IsLawful (with_blocks h l)) (split_at h.blocks i first.within) lawful)

-- the ensures of a call of `resize_words` on the heap h, with this answer and this heap
pub record Resizes (h : HeapState) (name : Name) (n len : ℕ) (answer : Result (Unit {0}) Refusal) (left : HeapState) : Type 0 where
  pub is_answer : answer ≡ (resized_words h name n len).answer
  pub is_heap : left ≡ (resized_words h name n len).heap
  pub lawful : IsLawful left

-- a refusal, for a heap k that is the same
pub resizes_refused : (h k : HeapState) (name : Name) (n len : ℕ) (why : Refusal) → IsLawful h → k ≡ h → resized_words h name n len ≡ refused h why → Resizes h name n len (Err why) k
resizes_refused h k name n len why lawful same e = record {
  is_answer = sym (ap (λ (o : Outcome (Unit {0})). o.answer) e);
  is_heap = same ∙ sym (ap (λ (o : Outcome (Unit {0})). o.heap) e);
  lawful = subst IsLawful (sym same) lawful;
}

-- a resize, by the region that is left
pub resizes_block : (h : HeapState) (name : Name) (n len : ℕ) (region : RegionState) (named : IsNamed h name) → want len ≤ n → IsLawful h → n ≤ room_of (block_at h.blocks named.1.0) (drop (suc named.1.0) h.blocks)
    → region.words ≡ h.words → region.blocks ≡ take named.1.0 h.blocks ++ refitted h.tick n len (block_at h.blocks named.1.0) (drop (suc named.1.0) h.blocks)
    → (h.tick ≡ last_tick → ⊥) → Resizes h name n len (Ok tt) (with_region h (h.tick + 1) region)
resizes_block h name n len region named wanted lawful room words blocks fresh =
    let is_left = region_is h (h.tick + 1) region _ words blocks in
    let is_done = resized_is h name n len named.0 named.1.0 named.1.1 room fresh in
    record {
      is_answer = sym (ap (λ (o : Outcome (Unit {0})). o.answer) is_done);
      is_heap = is_left ∙ sym (ap (λ (o : Outcome (Unit {0})). o.heap) is_done);
      lawful = subst IsLawful (sym is_left) (resized_lawful h name n len named.0 named.1.0 named.1.1 room wanted lawful);
    }
