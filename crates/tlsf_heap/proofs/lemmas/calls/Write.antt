-- The answers and effects of reading and writing payload bytes, by the index of the named block.
use Rattle.tlsf_heap.proofs.Common.{◌≡◌, ℕ, suc, ◌+◌, ◌<◌, ◌≤◌, Bool, true, false, cond, eqb, List, [], ◌∷◌, ◌++◌, length, take, drop, Option, Some, None, Result, Ok, Err, refl, sym, ap, ◌∙◌, subst, arith, add-one, append_assoc, length-append, length-drop, length-take-le, eqb-true, nat_tests, Block, Live, Free, HeapState, bytes_of, words_in, serials, stamps, StandsAt, IsLawful, HasRoom, FreeBlocksAreApart, AreDistinct, AllByRecursion, Site, block_at, Outcome, refused, named, has_bytes, overwritten, with_bytes, with_blocks, written, written_at, read_of, read_at, read_answer, free_places, RegionState, IsFirst, IsNamed, RefusesName, Name, Refusal, Foreign, Stale, Range}
use Rattle.std.specs.Result.{result_unwrap_or}
use Rattle.tlsf_heap.proofs.lemmas.calls.Named.{refused_name, at_name, named_stands}
use Rattle.tlsf_heap.proofs.lemmas.calls.Allocate.{split_at}
use Rattle.tlsf_heap.proofs.lemmas.blocks.Lawful.{all_append, all_left, all_right, serials-append, stamps-append, words_in-append, with_region, region_is}
use Rattle.tlsf_heap.proofs.lemmas.lists.FreePlaces.{free_places-append}

-- ---- other bytes in a block

pub length-overwritten : (bytes new : List ℕ) (at : ℕ) → at + length new ≤ length bytes → length (overwritten bytes at new) ≡ length bytes
length-overwritten bytes new at h =
    let front = length-take-le at bytes (omega arith) in
    length-append (take at bytes ++ new) (drop (at + length new) bytes)
    ∙ omega (arith, front, length-append (take at bytes) new, length-drop (at + length new) bytes)

pub apart_bytes : (m s : ℕ) (old new : List ℕ) (front back : List Block) → FreeBlocksAreApart (front ++ Live m s old ∷ back) → FreeBlocksAreApart (front ++ Live m s new ∷ back)
apart_bytes m s old new [] back h = h
apart_bytes m s old new (Live a c d ∷ front) back h = apart_bytes m s old new front back h
apart_bytes m s old new (Free a c ∷ []) back h = h
apart_bytes m s old new (Free a c ∷ Live d e f ∷ front) back h = apart_bytes m s old new front back h
apart_bytes m s old new (Free a c ∷ Free d e ∷ front) back h = absurd h

-- a lawful heap stays lawful where a block gets equally many other bytes
pub lawful_bytes : (h : HeapState) (front back : List Block) (b : Block) (new : List ℕ) → length new ≡ length (bytes_of b) → IsLawful (with_blocks h (front ++ b ∷ back)) → IsLawful (with_blocks h (front ++ with_bytes b new ∷ back))
lawful_bytes h front back (Free m s) new e lawful = lawful
lawful_bytes h front back (Live m s old) new e lawful =
    let here = all_right HasRoom front (Live m s old ∷ back) lawful.rooms in
    let same_serials : serials (front ++ Live m s old ∷ back) ≡ serials (front ++ Live m s new ∷ back) = serials-append front _ ∙ sym (serials-append front (Live m s new ∷ back)) in
    let same_stamps : stamps (front ++ Live m s old ∷ back) ≡ stamps (front ++ Live m s new ∷ back) = stamps-append front _ ∙ sym (stamps-append front (Live m s new ∷ back)) in
    record {
      rooms = all_append HasRoom front (Live m s new ∷ back) (all_left HasRoom front (Live m s old ∷ back) lawful.rooms) ((here.0.0, rw e here.0.1), here.1);
      whole = words_in-append front _ ∙ sym (words_in-append front (Live m s old ∷ back)) ∙ lawful.whole;
      least = lawful.least;
      apart = apart_bytes m s old new front back lawful.apart;
      serials_differ = subst AreDistinct same_serials lawful.serials_differ;
      stamps_differ = subst AreDistinct same_stamps lawful.stamps_differ;
      serials_past = subst (AllByRecursion (λ x. x < h.tick)) same_serials lawful.serials_past;
      stamps_past = subst (AllByRecursion (λ x. x < h.tick)) same_stamps lawful.stamps_past;
    }

places_here : (sli at : ℕ) (b : Block) (new : List ℕ) (back : List Block) → free_places sli at (with_bytes b new ∷ back) ≡ free_places sli at (b ∷ back)
places_here sli at (Live m s old) new back = refl
places_here sli at (Free m s) new back = refl

-- and its free places stay
pub places_bytes : (sli : ℕ) (front back : List Block) (b : Block) (new : List ℕ) → free_places sli 0 (front ++ with_bytes b new ∷ back) ≡ free_places sli 0 (front ++ b ∷ back)
places_bytes sli front back b new =
    free_places-append sli 0 front _ ∙ ap (λ places. free_places sli 0 front ++ places) (places_here sli (0 + words_in front) b new back) ∙ sym (free_places-append sli 0 front (b ∷ back))

-- ---- whether some bytes are there

module _ (h : HeapState) (name : Name) (at n : ℕ) where
  pub read_refused : (why : Refusal) → RefusesName h name why → read_of h name at n ≡ Err why
  read_refused why r = refused_name h name (read_at at n) (λ why. Err why) refl why r

  pub read_if : (is_named : IsNamed h name) (b : Bool) → has_bytes (block_at h.blocks is_named.1.0) at n ≡ b → read_of h name at n ≡ cond b (Ok (take n (drop at (bytes_of (block_at h.blocks is_named.1.0))))) (Err Range)
  read_if is_named b e =
      at_name h name (read_at at n) (λ why. Err why) is_named.0 is_named.1.0 is_named.1.1
      ∙ ap (λ (c : Bool). cond c (Ok (take n (drop at (bytes_of (block_at h.blocks is_named.1.0))))) (Err Range)) e

-- no bytes of a live block are there to be read
pub read_none : (h : HeapState) (name : Name) (is_named : IsNamed h name) → read_of h name 0 0 ≡ Ok []
read_none h name is_named = read_if h name 0 0 is_named true (let has : has_bytes (block_at h.blocks is_named.1.0) 0 0 ≡ true = grind (arith, nat_tests) in has)

-- a live block of this name has n bytes from number `at` on
abbrev pub HasRange : HeapState → Name → ℕ → ℕ → Type 0
HasRange h name at n = (i : ℕ) × IsFirst name.at name.serial h.blocks i × (has_bytes (block_at h.blocks i) at n ≡ true)

pub range_fits : (b : Block) (at n : ℕ) → has_bytes b at n ≡ true → at + n ≤ length (bytes_of b)
range_fits b at n e = grind (arith, nat_tests)

-- what a check of a range that is there ensures
pub record Ranged (h : HeapState) (name : Name) (at n : ℕ) : Type 0 where
  pub is_answer : Ok tt ≡ read_answer (read_of h name at n)
  pub range : HasRange h name at n

-- a block of this name in the heap k, and its length as it is read in the heap h, which is the same
module _ (h k : HeapState) (name : Name) (at n len : ℕ) (same : h ≡ k) (is_named : IsNamed k name) (value : (i : ℕ) → StandsAt h.blocks name.at i → len ≡ length (bytes_of (block_at h.blocks i))) where
  pub length_is : len ≡ length (bytes_of (block_at k.blocks is_named.1.0))
  length_is =
      subst (λ (s : HeapState). (i : ℕ) → StandsAt s.blocks name.at i → len ≡ length (bytes_of (block_at s.blocks i))) same value is_named.1.0 (named_stands _ _ _ _ is_named.1.1)

  pub range_past : len < at + n → Err Range ≡ read_answer (read_of k name at n)
  range_past past = let e = length_is in sym (ap read_answer (read_if k name at n is_named false (grind (arith, nat_tests))))

  pub range_within : at + n ≤ len → Ranged k name at n
  range_within le =
      let e = length_is in
      let has : has_bytes (block_at k.blocks is_named.1.0) at n ≡ true = grind (arith, nat_tests) in
      record { is_answer = sym (ap read_answer (read_if k name at n is_named true has)); range = (is_named.1.0, is_named.1.1, has) }

-- this many bytes are there, of a block that has them
pub range_is : (k : HeapState) (name : Name) (at n : ℕ) (is_named : IsNamed k name) → at + n ≤ length (bytes_of (block_at k.blocks is_named.1.0)) → Ranged k name at n
range_is k name at n is_named le =
    let has : has_bytes (block_at k.blocks is_named.1.0) at n ≡ true = grind (arith, nat_tests) in
    record { is_answer = sym (ap read_answer (read_if k name at n is_named true has)); range = (is_named.1.0, is_named.1.1, has) }

own_if : (b : Bool) (r : Result (List ℕ) Refusal) → Ok tt ≡ read_answer (cond b r (Err Foreign)) → b ≡ true
own_if true r e = refl
own_if false r e = cc

-- a range of which a read is done is that of a block of this name
pub range_named : (k : HeapState) (name : Name) (at n : ℕ) → Ok tt ≡ read_answer (read_of k name at n) → HasRange k name at n → IsNamed k name
range_named k name at n is_read range = (eqb-true name.heap k.id (own_if (eqb name.heap k.id) (read_at at n (named name k.blocks)) is_read), (range.0, range.1))

-- a range of which a read is done, in a heap h that is the same as k
module _ (h k : HeapState) (name : Name) (at n : ℕ) (same : h ≡ k) (is_read : Ok tt ≡ read_answer (read_of k name at n)) (range : HasRange k name at n) where
  found : (name.heap ≡ h.id) × HasRange h name at n
  found =
      subst (λ (s : HeapState). (name.heap ≡ s.id) × HasRange s name at n) (sym same)
      ((range_named k name at n is_read range).0, range)

  pub range_stands : (i : ℕ) × StandsAt h.blocks name.at i × (at + n ≤ length (bytes_of (block_at h.blocks i)))
  range_stands = let i = found.1.0 in (i, named_stands _ _ _ _ found.1.1, range_fits (block_at h.blocks i) at n found.1.2)

  -- the bytes that are read, where a read may leave the old ones
  pub reads : (old new : List ℕ) → ((i : ℕ) → StandsAt h.blocks name.at i → new ≡ take n (drop at (bytes_of (block_at h.blocks i)))) → new ≡ result_unwrap_or (read_of k name at n) old
  reads old new bytes =
      let all = read_if h name at n (found.0, (found.1.0, found.1.1)) true found.1.2 in
      subst (λ (s : HeapState). new ≡ result_unwrap_or (read_of s name at n) old) same
      (bytes found.1.0 (named_stands _ _ _ _ found.1.1) ∙ sym (ap (λ (r : Result (List ℕ) Refusal). result_unwrap_or r old) all))

-- a read that is refused leaves the old bytes
pub unread : (r : Result (List ℕ) Refusal) (why : Refusal) (old : List ℕ) → Err why ≡ read_answer r → old ≡ result_unwrap_or r old
unread (Ok bytes) why old e = cc
unread (Err x) why old e = refl

-- ---- write

refused_same : (h : HeapState) (why x : Refusal) → ◌≡◌ {A = Result (Unit {0}) Refusal} (Err why) (Err x) → refused {A = Unit {0}} h x ≡ refused h why
refused_same h why x e = let same : x ≡ why = cc in ap (λ (w : Refusal). refused {A = Unit {0}} h w) same

-- by whether the payload has the bytes
unranged : (h : HeapState) (done : Outcome (Unit {0})) (bytes : List ℕ) (b : Bool) (why : Refusal) → Err why ≡ read_answer (cond b (Ok bytes) (Err Range)) → cond b done (refused h Range) ≡ refused h why
unranged h done bytes true why e = cc
unranged h done bytes false why e = refused_same h why Range e

-- by the block that is named
unwritten_at : (h : HeapState) (at : ℕ) (bytes : List ℕ) (b : Bool) (s : Option Site) (why : Refusal) → Err why ≡ read_answer (cond b (read_at at (length bytes) s) (Err Foreign)) → cond b (written_at h at bytes s) (refused h Foreign) ≡ refused h why
unwritten_at h at bytes false s why e = refused_same h why Foreign e
unwritten_at h at bytes true None why e = refused_same h why Stale e
unwritten_at h at bytes true (Some s) why e = unranged h _ (take (length bytes) (drop at (bytes_of s.block))) (has_bytes s.block at (length bytes)) why e

-- what can't be read can't be written, for the same reason
pub unwritten : (h : HeapState) (name : Name) (at : ℕ) (bytes : List ℕ) (why : Refusal) → Err why ≡ read_answer (read_of h name at (length bytes)) → written h name at bytes ≡ refused h why
unwritten h name at bytes why e = unwritten_at h at bytes (eqb name.heap h.id) (named name h.blocks) why e

-- what a write that is done ensures, where this heap is left
pub record Writes (sli : ℕ) (h : HeapState) (name : Name) (at : ℕ) (bytes : List ℕ) (left : HeapState) : Type 0 where
  pub is_answer : Ok tt ≡ (written h name at bytes).answer
  pub is_heap : left ≡ (written h name at bytes).heap
  pub lawful : IsLawful left
  pub places : free_places sli 0 left.blocks ≡ free_places sli 0 h.blocks

module _ (sli : ℕ) (h : HeapState) (name : Name) (at : ℕ) (bytes : List ℕ) where
  -- the blocks of which the one at i has other bytes
  abbrev with_range : ℕ → List Block
  with_range i = take i h.blocks ++ (with_bytes (block_at h.blocks i) (overwritten (bytes_of (block_at h.blocks i)) at bytes) ∷ []) ++ drop (i + 1) h.blocks

  module _ (own : name.heap ≡ h.id) (range : HasRange h name at (length bytes)) where
    abbrev new : Block
    new = with_bytes (block_at h.blocks range.0) (overwritten (bytes_of (block_at h.blocks range.0)) at bytes)

    abbrev done : ℕ → Outcome (Unit {0})
    done k = record { answer = Ok tt; heap = with_blocks h (take range.0 h.blocks ++ new ∷ drop k h.blocks) }

    written_is : written h name at bytes ≡ done (range.0 + 1)
    written_is =
        at_name h name (written_at h at bytes) (refused h) own range.0 range.1 ∙ ap (λ (b : Bool). cond b (done (suc range.0)) (refused h Range)) range.2 ∙ ap done (sym (add-one range.0))

    apart : with_range range.0 ≡ take range.0 h.blocks ++ new ∷ drop (range.0 + 1) h.blocks
    apart = append_assoc (take range.0 h.blocks) (new ∷ []) (drop (range.0 + 1) h.blocks)

    whole : h.blocks ≡ take range.0 h.blocks ++ block_at h.blocks range.0 ∷ drop (range.0 + 1) h.blocks
    whole = split_at h.blocks range.0 range.1.within ∙ ap (λ (k : ℕ). take range.0 h.blocks ++ block_at h.blocks range.0 ∷ drop k h.blocks) (sym (add-one range.0))

    writes_own : (region : RegionState) → IsLawful h → region.words ≡ h.words → region.blocks ≡ with_range range.0 → Writes sli h name at bytes (with_region h h.tick region)
    writes_own region lawful words blocks =
        let left = region_is h h.tick region _ words (blocks ∙ apart) in
        record {
          is_answer = sym (ap (λ (o : Outcome (Unit {0})). o.answer) written_is);
          is_heap = left ∙ sym (ap (λ (o : Outcome (Unit {0})). o.heap) written_is);
          lawful = subst IsLawful (sym left)
              (lawful_bytes h (take range.0 h.blocks) (drop (range.0 + 1) h.blocks) (block_at h.blocks range.0) _ (length-overwritten (bytes_of (block_at h.blocks range.0)) bytes at (range_fits (block_at h.blocks range.0) at (length bytes) range.2))
              (subst (λ (l : List Block). IsLawful (with_blocks h l)) whole lawful));
          places = ap (λ (l : List Block). free_places sli 0 l) (blocks ∙ apart) ∙ places_bytes sli (take range.0 h.blocks) (drop (range.0 + 1) h.blocks) (block_at h.blocks range.0) _
              ∙ ap (λ (l : List Block). free_places sli 0 l) (sym whole);
        }

-- a write where a read is done, in a heap h that is the same as k
pub writes : (sli : ℕ) (h k : HeapState) (name : Name) (at : ℕ) (bytes : List ℕ) → h ≡ k → Ok tt ≡ read_answer (read_of k name at (length bytes)) → HasRange k name at (length bytes)
    → (region : RegionState) → IsLawful h → region.words ≡ h.words → ((i : ℕ) → StandsAt h.blocks name.at i → region.blocks ≡ with_range sli h name at bytes i) → Writes sli k name at bytes (with_region h h.tick region)
writes sli h k name at bytes same is_read range region lawful words blocks =
    let here = found h k name at (length bytes) same is_read range in
    subst (λ (s : HeapState). Writes sli s name at bytes (with_region h h.tick region)) same
    (writes_own sli h name at bytes here.0 here.1 region lawful words (blocks here.1.0 (named_stands _ _ _ _ here.1.1)))
