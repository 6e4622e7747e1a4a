-- A block whose header says another length of its payload: no other word changes, so its bytes are those that lie there.
use Rattle.tlsf_heap.proofs.Common.{◌≡◌, ℕ, suc, ◌+◌, ◌*◌, ◌/◌, ◌<◌, ◌≤◌, Bool, true, false, List, ◌∷◌, [], ◌++◌, length, take, drop, inl, inr, sym, ap, ◌∙◌, arith, subst, append_assoc, Contains, AllByRecursion, false≢true, bytes_in, payload_byte, tag_word, size_in, last_in, back_in, length_word, ListHeads, AreDistinct, Image, Shows, Block, Live, Free, HeapState, size_of, is_free, bytes_of, payload_of, payload_words, serials, stamps, words_for, want, StandsAt, named, with_bytes, with_blocks, payload_words_at, IsLive, lying, with_payload, with_payload_at, free_places, block_at, OnlyFrom, IsLawful, HasRoom, IsNamed, RegionState, list_in, Name}
use Rattle.tlsf_words.proofs.Bytes.{bytes_in-same, byte_in-same}
use Rattle.tlsf_words.proofs.FieldLaws.{tag_word-fields}
use Rattle.tlsf_heap.proofs.lemmas.calls.Allocate.{split_at}
use Rattle.tlsf_heap.proofs.lemmas.words.Edit.{Leaves, leaves, one_changed}
use Rattle.tlsf_heap.proofs.lemmas.blocks.Lawful.{all_append, all_left, all_right, serials-append, stamps-append, words_in-append, with_region, region_is}
use Rattle.tlsf_heap.proofs.lemmas.words.Links.{HoldsState, IsListed, Relists}
use Rattle.tlsf_heap.proofs.lemmas.calls.Alter.{named_of, payload_is}
use Rattle.tlsf_heap.proofs.lemmas.blocks.Grant.{four_words}
use Rattle.tlsf_heap.proofs.lemmas.calls.Named.{named_is, named_live}
use Rattle.tlsf_heap.proofs.lemmas.words.Bytes.{length-bytes_in, size_of-with_bytes, is_free-with_bytes, mark_of-with_bytes}
use Rattle.tlsf_heap.proofs.lemmas.words.Says.{at_index, says_here}
use Rattle.tlsf_heap.proofs.lemmas.words.KeptLinks.{one_relisted}
use Rattle.tlsf_heap.proofs.lemmas.words.NewPayload.{Takes, room_for, holds_for}
use Rattle.tlsf_heap.proofs.lemmas.words.Image.{word_at, room_here, shown_here}
use Rattle.tlsf_heap.proofs.lemmas.calls.Write.{apart_bytes, places_bytes}

-- what the write of another length leaves of the words
pub record SetsLength (m v : Image) (at len : ℕ) : Type 0 where
  pub length : word_at v (at + 2) ≡ length_word len
  pub only : OnlyFrom m.words v.words (at + 2) (at + 3)
  pub starts : v.starts ≡ m.starts

module _ {m v : Image} {bs : List Block} {at len : ℕ} (shows : Shows m bs) (found : (i : ℕ) × StandsAt bs at i × Takes bs len i) (sets : SetsLength m v at len) where
  pub length_leaves : Leaves v bs at (λ i. take i bs ++ (with_bytes (block_at bs i) (lying v at len) ∷ []) ++ drop (i + 1) bs)
  length_leaves = leaves shows (Takes bs len) found
      (λ i stands takes.
      let b = block_at bs i in
      let bytes = lying v at len in
      let word = word_at m at in
      let says = says_here shows stands in
      let here = shown_here m bs shows at i stands in
      let room = room_here m bs shows at i stands in
      let many : length bytes ≡ len = length-bytes_in v.words (payload_byte at 0) len in
      let from : 8 * (at + 3) ≡ payload_byte at 0 = omega arith in
      let held : bytes_in v.words (8 * (at + 3)) (length bytes) ≡ bytes = ap (bytes_in v.words (8 * (at + 3))) many ∙ ap (λ (k : ℕ). bytes_in v.words k len) from in
      one_changed shows stands (with_bytes b bytes) (record {
        size = size_of-with_bytes b bytes;
        room = room_for b bytes takes.0 (omega (arith, many, takes.1)) room;
        tag = sets.only.before at (omega arith) ∙ sym (tag_word-fields word)
            ∙ ap (λ (free : Bool). tag_word (size_in word) (last_in word) free (back_in word)) (says.free ∙ sym (is_free-with_bytes b bytes));
        mark = sets.only.before (at + 1) (omega arith) ∙ says.mark ∙ sym (mark_of-with_bytes b bytes);
        payload = holds_for v.words at b bytes (sets.length ∙ ap length_word (sym many)) held;
        before = λ k h. sets.only.before k (omega arith);
        behind = λ k h. sets.only.behind k (omega (arith, says.least));
        length = sets.only.length;
        starts = sets.starts;
      }))

module _ (sli : ℕ) {m v : Image} {l : ListHeads} {r : RegionState} (state : HoldsState sli m l r) {at len : ℕ} (found : (i : ℕ) × StandsAt r.blocks at i × Takes r.blocks len i) (sets : SetsLength m v at len) where
  -- a live block is in no list
  unlisted : (other : ℕ) → IsListed (list_in r.lists) other → other ≡ at → ⊥
  unlisted other listed same =
      let free = state.free listed.0 other (subst (λ (places : List ℕ). Contains places other) (state.lists listed.0) listed.1) in
      let here = at_index state.shows (λ (j : ℕ). is_free (block_at r.blocks j) ≡ true) (free.0, subst (λ (k : ℕ). StandsAt r.blocks k free.0) same free.1, free.2) found.1 in
      false≢true (sym found.2.0 ∙ here)

  pub length_relists : Relists sli v l r.lists
  length_relists =
      let i = found.0 in
      let b = block_at r.blocks i in
      let says = says_here state.shows found.1 in
      let new : ℕ → Block = λ i. with_bytes (block_at r.blocks i) (lying v at len) in
      one_relisted sli state found.1 new (length_leaves state.shows found sets) sets.only.length (size_of-with_bytes b (lying v at len))
      (λ other listed e free. is_free-with_bytes b (lying v at len) ∙ free)
      (λ other listed order. elim order [
        | inl same ↦ absurd (unlisted other listed same)
        | inr (inl below) ↦ sets.only.before (other + 2) (omega arith)
        | inr (inr above) ↦ sets.only.behind (other + 2) (omega (arith, above, says.least))
      ])

-- ---- what it leaves of a heap

-- a lawful heap stays lawful where a live block gets as many other bytes as it has room for
lawful_length : (h : HeapState) (front back : List Block) (b : Block) (new : List ℕ) → is_free b ≡ false → words_for (length new) ≤ size_of b → IsLawful (with_blocks h (front ++ b ∷ back)) → IsLawful (with_blocks h (front ++ with_bytes b new ∷ back))
lawful_length h front back (Free m s) new live fits lawful = absurd (false≢true (sym live))
lawful_length h front back (Live m s old) new live fits lawful =
    let here = all_right HasRoom front (Live m s old ∷ back) lawful.rooms in
    let same_serials : serials (front ++ Live m s old ∷ back) ≡ serials (front ++ Live m s new ∷ back) = serials-append front _ ∙ sym (serials-append front (Live m s new ∷ back)) in
    let same_stamps : stamps (front ++ Live m s old ∷ back) ≡ stamps (front ++ Live m s new ∷ back) = stamps-append front _ ∙ sym (stamps-append front (Live m s new ∷ back)) in
    record {
      rooms = all_append HasRoom front (Live m s new ∷ back) (all_left HasRoom front (Live m s old ∷ back) lawful.rooms) ((here.0.0, fits), here.1);
      whole = words_in-append front _ ∙ sym (words_in-append front (Live m s old ∷ back)) ∙ lawful.whole;
      least = lawful.least;
      apart = apart_bytes m s old new front back lawful.apart;
      serials_differ = subst AreDistinct same_serials lawful.serials_differ;
      stamps_differ = subst AreDistinct same_stamps lawful.stamps_differ;
      serials_past = subst (AllByRecursion (λ x. x < h.tick)) same_serials lawful.serials_past;
      stamps_past = subst (AllByRecursion (λ x. x < h.tick)) same_stamps lawful.stamps_past;
    }

-- what a call of `set_length` on the heap h ensures, where this heap is left
pub record Relengths (sli : ℕ) (h : HeapState) (name : Name) (bytes : List ℕ) (left : HeapState) : Type 0 where
  pub is_heap : left ≡ with_payload h name bytes
  pub lawful : IsLawful left
  pub places : free_places sli 0 left.blocks ≡ free_places sli 0 h.blocks

pub relengths : (sli : ℕ) (h : HeapState) (name : Name) (bytes : List ℕ) (region : RegionState) (is_named : IsNamed h name) → IsLawful h → is_free (block_at h.blocks is_named.1.0) ≡ false
    → words_for (length bytes) ≤ size_of (block_at h.blocks is_named.1.0) → region.words ≡ h.words
    → region.blocks ≡ take is_named.1.0 h.blocks ++ (with_bytes (block_at h.blocks is_named.1.0) bytes ∷ []) ++ drop (suc is_named.1.0) h.blocks
    → Relengths sli h name bytes (with_region h h.tick region)
relengths sli h name bytes region is_named lawful live fits words blocks =
    let i = is_named.1.0 in
    let b = block_at h.blocks i in
    let left : List Block = take i h.blocks ++ with_bytes b bytes ∷ drop (suc i) h.blocks in
    let blocks_are : region.blocks ≡ left = blocks ∙ append_assoc (take i h.blocks) (with_bytes b bytes ∷ []) (drop (suc i) h.blocks) in
    let left_is = region_is h h.tick region left words blocks_are in
    let whole = split_at h.blocks i is_named.1.1.within in
    record {
      is_heap = left_is ∙ sym (ap (with_payload_at h bytes) (named_is name h.blocks i is_named.1.1));
      lawful = subst IsLawful (sym left_is) (lawful_length h (take i h.blocks) (drop (suc i) h.blocks) b bytes live fits (subst (λ (l : List Block). IsLawful (with_blocks h l)) whole lawful));
      places = ap (λ (l : List Block). free_places sli 0 l) blocks_are ∙ places_bytes sli (take i h.blocks) (drop (suc i) h.blocks) b bytes ∙ ap (λ (l : List Block). free_places sli 0 l) (sym whole);
    }

-- bytes behind a header that only says another length stay
pub same_lying : (m v : Image) (at len : ℕ) → OnlyFrom m.words v.words (at + 2) (at + 3) → lying v at len ≡ lying m at len
same_lying m v at len only =
    bytes_in-same m.words v.words (payload_byte at 0) (payload_byte at 0) len (λ k below. byte_in-same m.words v.words (payload_byte at 0 + k) (only.behind ((payload_byte at 0 + k) / 8) (omega arith)))

-- a live block of a name has room for this many bytes, where its payload words hold them
pub length_room : (h k : HeapState) (name : Name) (len : ℕ) → h ≡ k → IsLawful k → IsLive k name → words_for len ≤ 3 + payload_words_at (named name k.blocks)
    → (is_named : IsNamed h name) × (is_free (block_at h.blocks is_named.1.0) ≡ false) × (words_for len ≤ size_of (block_at h.blocks is_named.1.0))
length_room h k name len same lawful live room =
    let found = named_of k name live in
    let i = found.1.0 in
    let is : payload_words_at (named name k.blocks) ≡ payload_words (block_at k.blocks i) = ap payload_words_at (named_is name k.blocks i found.1.1) in
    let four = four_words k.blocks lawful.rooms i found.1.1.within in
    subst (λ (s : HeapState). (is_named : IsNamed s name) × (is_free (block_at s.blocks is_named.1.0) ≡ false) × (words_for len ≤ size_of (block_at s.blocks is_named.1.0))) (sym same)
    (found, named_live name.at name.serial k.blocks i found.1.1, omega (arith, is, room, four))

held_room : (b : Block) → HasRoom b → is_free b ≡ false → want (length (bytes_of b)) ≤ size_of b
held_room (Live m s xs) room live = omega (arith, room.0, room.1)
held_room (Free m s) room live = absurd (false≢true (sym live))

-- its block, where its payload has this many bytes, and has room for them
pub payload_room : (h k : HeapState) (name : Name) (len : ℕ) → h ≡ k → IsLawful k → IsLive k name → length (payload_of k name) ≡ len
    → (is_named : IsNamed h name) × (is_free (block_at h.blocks is_named.1.0) ≡ false) × (length (bytes_of (block_at h.blocks is_named.1.0)) ≡ len) × (want len ≤ size_of (block_at h.blocks is_named.1.0))
payload_room h k name len same lawful live many =
    let found = named_of k name live in
    let i = found.1.0 in
    let is : length (bytes_of (block_at k.blocks i)) ≡ len = sym (ap length (payload_is k name found)) ∙ many in
    let free = named_live name.at name.serial k.blocks i found.1.1 in
    subst (λ (s : HeapState). (is_named : IsNamed s name) × (is_free (block_at s.blocks is_named.1.0) ≡ false) × (length (bytes_of (block_at s.blocks is_named.1.0)) ≡ len) × (want len ≤ size_of (block_at s.blocks is_named.1.0))) (sym same)
    (found, free, is, rw is at (held_room (block_at k.blocks i) (all_right HasRoom (take i k.blocks) (block_at k.blocks i ∷ drop (suc i) k.blocks) (subst (AllByRecursion HasRoom) (split_at k.blocks i found.1.1.within) lawful.rooms)).0 free))
