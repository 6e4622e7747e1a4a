-- The words of a region whose block got a payload of another length.
use Rattle.tlsf_heap.proofs.Common.{◌≡◌, ℕ, ◌+◌, ◌*◌, ◌≤◌, Bool, true, false, List, ◌∷◌, [], ◌++◌, length, take, drop, inl, inr, sym, ap, ◌∙◌, arith, get_or, subst, Contains, false≢true, bytes_in, tag_word, size_in, last_in, back_in, length_word, low_half, ListHeads, Image, HoldsPayload, Shows, Block, Live, Free, size_of, is_free, bytes_of, words_for, StandsAt, HasRoom, block_at, fitted, with_bytes, OnlyFrom, RegionState, list_in}
use Rattle.tlsf_words.proofs.FieldLaws.{tag_word-fields}
use Rattle.tlsf_heap.proofs.lemmas.words.Edit.{Leaves, leaves, one_changed}
use Rattle.tlsf_heap.proofs.lemmas.words.NewBytes.{length-fitted}
use Rattle.tlsf_heap.proofs.lemmas.words.Links.{HoldsState, IsListed, Relists}
use Rattle.tlsf_heap.proofs.lemmas.words.Bytes.{held_bytes, length_read, size_of-with_bytes, is_free-with_bytes, mark_of-with_bytes}
use Rattle.tlsf_heap.proofs.lemmas.words.Says.{at_index, says_here}
use Rattle.tlsf_heap.proofs.lemmas.words.KeptLinks.{one_relisted}
use Rattle.tlsf_heap.proofs.lemmas.words.Image.{word_at, room_here, shown_here}

-- a block is live and has room for `len` bytes
abbrev pub Takes : List Block → ℕ → ℕ → Type 0
Takes bs len i = (is_free (block_at bs i) ≡ false) × (words_for len ≤ size_of (block_at bs i))

-- what the writes of another length leave of the words
pub record Refills (m v : Image) (at len : ℕ) : Type 0 where
  pub length : word_at v (at + 2) ≡ length_word len
  pub bytes : bytes_in v.words (8 * (at + 3)) len ≡ fitted (bytes_in m.words (8 * (at + 3)) (low_half (word_at m (at + 2)))) len
  pub only : OnlyFrom m.words v.words (at + 2) (at + words_for len)
  pub starts : v.starts ≡ m.starts

pub room_for : (b : Block) (bytes : List ℕ) → is_free b ≡ false → words_for (length bytes) ≤ size_of b → HasRoom b → HasRoom (with_bytes b bytes)
room_for (Live size serial old) bytes live fits room = (room.0, fits)
room_for (Free size stamp) bytes live fits room = absurd (false≢true (sym live))

pub holds_for : (words : List ℕ) (at : ℕ) (b : Block) (bytes : List ℕ) → get_or words (at + 2) 0 ≡ length_word (length bytes) → bytes_in words (8 * (at + 3)) (length bytes) ≡ bytes → HoldsPayload words at (with_bytes b bytes)
holds_for words at (Live size serial old) bytes word held = (word, held)
holds_for words at (Free size stamp) bytes word held = tt

module _ {m v : Image} {bs : List Block} {at len : ℕ} (shows : Shows m bs) (found : (i : ℕ) × StandsAt bs at i × Takes bs len i) (refills : Refills m v at len) where
  pub refilled : Leaves v bs at (λ i. take i bs ++ (with_bytes (block_at bs i) (fitted (bytes_of (block_at bs i)) len) ∷ []) ++ drop (i + 1) bs)
  refilled = leaves shows (Takes bs len) found
      (λ i stands takes.
      let b = block_at bs i in
      let bytes = fitted (bytes_of b) len in
      let word = word_at m at in
      let says = says_here shows stands in
      let here = shown_here m bs shows at i stands in
      let room = room_here m bs shows at i stands in
      let many = length-fitted (bytes_of b) len in
      let old = length_read shows stands (i, stands, takes.0) in
      let was : bytes_in m.words (8 * (at + 3)) (low_half (word_at m (at + 2))) ≡ bytes_of b =
      ap (bytes_in m.words (8 * (at + 3))) old ∙ held_bytes m.words at b here.payload in
      let held : bytes_in v.words (8 * (at + 3)) (length bytes) ≡ bytes = ap (bytes_in v.words (8 * (at + 3))) many ∙ refills.bytes ∙ ap (λ (l : List ℕ). fitted l len) was in
      one_changed shows stands (with_bytes b bytes) (record {
        size = size_of-with_bytes b bytes;
        room = room_for b bytes takes.0 (omega (arith, many, takes.1)) room;
        tag = refills.only.before at (omega arith) ∙ sym (tag_word-fields word)
            ∙ ap (λ (free : Bool). tag_word (size_in word) (last_in word) free (back_in word)) (says.free ∙ sym (is_free-with_bytes b bytes));
        mark = refills.only.before (at + 1) (omega arith) ∙ says.mark ∙ sym (mark_of-with_bytes b bytes);
        payload = holds_for v.words at b bytes (refills.length ∙ ap length_word (sym many)) held;
        before = λ k h. refills.only.before k (omega arith);
        behind = λ k h. refills.only.behind k (omega (arith, takes.1));
        length = refills.only.length;
        starts = refills.starts;
      }))

module _ (sli : ℕ) {m v : Image} {l : ListHeads} {r : RegionState} (state : HoldsState sli m l r) {at len : ℕ} (found : (i : ℕ) × StandsAt r.blocks at i × Takes r.blocks len i) (refills : Refills m v at len) where
  -- a live block is in no list
  unlisted : (other : ℕ) → IsListed (list_in r.lists) other → other ≡ at → ⊥
  unlisted other listed same =
      let free = state.free listed.0 other (subst (λ (places : List ℕ). Contains places other) (state.lists listed.0) listed.1) in
      let here = at_index state.shows (λ (j : ℕ). is_free (block_at r.blocks j) ≡ true) (free.0, subst (λ (k : ℕ). StandsAt r.blocks k free.0) same free.1, free.2) found.1 in
      false≢true (sym found.2.0 ∙ here)

  pub relisted_refill : Relists sli v l r.lists
  relisted_refill =
      let i = found.0 in
      let b = block_at r.blocks i in
      let new : ℕ → Block = λ i. with_bytes (block_at r.blocks i) (fitted (bytes_of (block_at r.blocks i)) len) in
      one_relisted sli state found.1 new (refilled state.shows found refills) refills.only.length (size_of-with_bytes b (fitted (bytes_of b) len))
      (λ other listed e free. is_free-with_bytes b (fitted (bytes_of b) len) ∙ free)
      (λ other listed order. elim order [
        | inl same ↦ absurd (unlisted other listed same)
        | inr (inl below) ↦ refills.only.before (other + 2) (omega arith)
        | inr (inr above) ↦ refills.only.behind (other + 2) (omega (arith, above, found.2.1))
      ])
