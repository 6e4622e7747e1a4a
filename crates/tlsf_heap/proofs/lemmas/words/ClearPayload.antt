-- A payload whose words are made zero: the words show the block with zeros.
use Rattle.tlsf_heap.proofs.Common.{◌≡◌, ℕ, ◌+◌, ◌*◌, ◌/◌, ◌<◌, ◌≤◌, Bool, List, [], ◌∷◌, ◌++◌, length, get_or, take, drop, replicate, inl, inr, refl, sym, ap, ◌∙◌, arith, ext_get_or, false≢true, length-replicate, get_or-replicate, bytes_in, tag_word, size_in, last_in, back_in, ListHeads, Block, bytes_of, StandsAt, with_bytes, block_at, Image, Shows, RegionState, AwaitsZeros}
use Rattle.tlsf_words.proofs.FieldLaws.{tag_word-fields}
use Rattle.tlsf_heap.proofs.lemmas.words.Edit.{Leaves, leaves, one_changed}
use Rattle.tlsf_heap.proofs.lemmas.words.Links.{HoldsState, Relists}
use Rattle.tlsf_heap.proofs.lemmas.words.Bytes.{length-bytes_in, get_or-bytes_in, size_of-with_bytes, is_free-with_bytes, mark_of-with_bytes, room-with_bytes, holds-with_bytes}
use Rattle.tlsf_heap.proofs.lemmas.words.Says.{says_here}
use Rattle.tlsf_heap.proofs.lemmas.words.KeptLinks.{one_relisted}
use Rattle.tlsf_heap.proofs.lemmas.words.Image.{word_at, shown_here, room_here}
use Rattle.tlsf_heap.proofs.lemmas.words.Headers.{zeroed_before}
use Rattle.tlsf_heap.proofs.lemmas.words.Zeros.{zero_byte, zeroed_among, zeroed_behind, length-zeroed}

-- n words behind the header of a block at a place are zero, and all others are as they were
pub record ClearsBehind (m v : Image) (at n : ℕ) : Type 0 where
  pub inside : at + 3 + n ≤ length m.words
  pub words : v.words ≡ take (at + 3) m.words ++ replicate n 0 ++ drop (at + 3 + n) m.words
  pub starts : v.starts ≡ m.starts

module _ {m v : Image} {at n : ℕ} (clears : ClearsBehind m v at n) where
  pub clears_before : (k : ℕ) → k < at + 3 → word_at v k ≡ word_at m k
  clears_before k h = ap (λ (l : List ℕ). get_or l k 0) clears.words ∙ zeroed_before m.words (at + 3) n k h (omega (arith, clears.inside))

  clears_among : (k : ℕ) → at + 3 ≤ k → k < at + 3 + n → word_at v k ≡ 0
  clears_among k low high = ap (λ (l : List ℕ). get_or l k 0) clears.words ∙ zeroed_among m.words (at + 3) n clears.inside k low high

  pub clears_behind : (k : ℕ) → at + 3 + n ≤ k → word_at v k ≡ word_at m k
  clears_behind k past = ap (λ (l : List ℕ). get_or l k 0) clears.words ∙ zeroed_behind m.words (at + 3) n clears.inside k past

  pub clears_length : length v.words ≡ length m.words
  clears_length = ap length clears.words ∙ length-zeroed m.words (at + 3) n clears.inside

  -- the bytes of the payload are zero
  zeros : (len : ℕ) → 3 + (len + 7) / 8 ≤ 3 + n → bytes_in v.words (8 * (at + 3)) len ≡ replicate len 0
  zeros len fits =
      let from = 8 * (at + 3) in
      ext_get_or 0 (bytes_in v.words from len) (replicate len 0) (length-bytes_in v.words from len ∙ sym (length-replicate len 0)) (λ k h.
      let inside : k < len = omega (arith, h, length-bytes_in v.words from len) in
      get_or-bytes_in v.words from len k (from + k) inside refl ∙ zero_byte v.words (from + k) (clears_among ((from + k) / 8) (omega arith) (omega arith))
      ∙ sym (get_or-replicate len k 0 0 inside))

-- so the block has zeros
abbrev pub zeroed_block : Block → Block
zeroed_block block = with_bytes block (replicate (length (bytes_of block)) 0)

pub cleared_payload : {m v : Image} {bs : List Block} {at n : ℕ} → Shows m bs → (i : ℕ) × StandsAt bs at i × AwaitsZeros (block_at bs i) n → ClearsBehind m v at n
    → Leaves v bs at (λ i. take i bs ++ (zeroed_block (block_at bs i) ∷ []) ++ drop (i + 1) bs)
cleared_payload {m = m} {v = v} {bs = bs} {at = at} {n = n} shows found clears =
    leaves shows (λ i. AwaitsZeros (block_at bs i) n) found
    (λ i stands is.
    let b = block_at bs i in
    let new : List ℕ = replicate (length (bytes_of b)) 0 in
    let word = word_at m at in
    let says = says_here shows stands in
    let here = shown_here m bs shows at i stands in
    let as_long : length new ≡ length (bytes_of b) = length-replicate (length (bytes_of b)) 0 in
    one_changed shows stands (with_bytes b new) (record {
      size = size_of-with_bytes b new;
      room = room-with_bytes b new as_long (room_here m bs shows at i stands);
      tag = clears_before clears at (omega arith) ∙ sym (tag_word-fields word)
          ∙ ap (λ (free : Bool). tag_word (size_in word) (last_in word) free (back_in word)) (says.free ∙ sym (is_free-with_bytes b new));
      mark = clears_before clears (at + 1) (omega arith) ∙ says.mark ∙ sym (mark_of-with_bytes b new);
      payload = holds-with_bytes m.words v.words at b new as_long (clears_before clears (at + 2) (omega arith)) (zeros clears (length (bytes_of b)) is.payload) here.payload;
      before = λ k h. clears_before clears k (omega arith);
      behind = λ k h. clears_behind clears k (omega (arith, is.within));
      length = clears_length clears;
      starts = clears.starts;
    }))

-- and the lists stay
pub relisted_payload : (sli : ℕ) {m v : Image} {l : ListHeads} {r : RegionState} {at n : ℕ} → HoldsState sli m l r → (i : ℕ) × StandsAt r.blocks at i × AwaitsZeros (block_at r.blocks i) n → ClearsBehind m v at n
    → Leaves v r.blocks at (λ i. take i r.blocks ++ (zeroed_block (block_at r.blocks i) ∷ []) ++ drop (i + 1) r.blocks) → Relists sli v l r.lists
relisted_payload sli {r = r} state (i, stands, is) clears left =
    one_relisted sli state stands (λ j. zeroed_block (block_at r.blocks j)) left (clears_length clears) (size_of-with_bytes (block_at r.blocks i) (replicate (length (bytes_of (block_at r.blocks i))) 0))
    (λ other listed e free. absurd (false≢true (sym is.live ∙ free)))
    (λ other listed order. elim order [
      | inl same ↦ clears_before clears (other + 2) (omega arith)
      | inr (inl below) ↦ clears_before clears (other + 2) (omega arith)
      | inr (inr above) ↦ clears_behind clears (other + 2) (omega (arith, is.within))
    ])
