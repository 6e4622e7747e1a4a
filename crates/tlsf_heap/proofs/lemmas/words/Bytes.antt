-- Payload bytes, as the words of a region have them, and what a write of some leaves.
use Rattle.tlsf_heap.proofs.Common.{◌≡◌, ℕ, ◌+◌, ◌-◌, ◌*◌, ◌^◌, ◌<◌, ◌≤◌, Bool, false, List, ◌∷◌, [], ◌++◌, length, get_or, take, drop, inl, inr, refl, sym, ap, ◌∙◌, arith, rules, length-take, length-drop, get_or-take, get_or-drop, ext_get_or, false≢true, cases_lt, places, byte_in, bytes_in, payload_byte, Image, mark_of, HoldsPayload, Shows, tag_word, size_in, last_in, back_in, length_word, low_half, Block, Live, Free, size_of, is_free, bytes_of, StandsAt, overwritten, with_bytes, block_at, HasRoom}
use Rattle.std.proofs.lemmas.List.FromFn.{length-map-range_with_len, get_or-map-range_with_len}
use Rattle.tlsf_words.proofs.FieldLaws.{tag_word-fields, low_half-length_word}
use Rattle.tlsf_heap.proofs.lemmas.words.Image.{word_at, shown_here, room_here}
use Rattle.tlsf_heap.proofs.lemmas.words.Says.{at_index, says_here}
use Rattle.tlsf_heap.proofs.lemmas.words.Edit.{Leaves, leaves, one_changed}

-- ---- bytes of words

pub length-bytes_in : (words : List ℕ) (from len : ℕ) → length (bytes_in words from len) ≡ len
unfolding bytes_in
length-bytes_in words from len = length-map-range_with_len (byte_in words) from len

pub get_or-bytes_in : (words : List ℕ) (from len i j : ℕ) → i < len → from + i ≡ j → get_or (bytes_in words from len) i 0 ≡ byte_in words j
unfolding bytes_in
get_or-bytes_in words from len i j inside e = get_or-map-range_with_len (byte_in words) from len i j 0 inside e

-- some bytes among others
pub bytes_among : (words : List ℕ) (from len offset n : ℕ) → offset + n ≤ len → bytes_in words (from + offset) n ≡ take n (drop offset (bytes_in words from len))
bytes_among words from len offset n fits =
    let all = bytes_in words from len in
    let many = length-bytes_in words from len in
    let few = length-bytes_in words (from + offset) n in
    ext_get_or 0 (bytes_in words (from + offset) n) (take n (drop offset all)) (omega (arith, length-take n (drop offset all), length-drop offset all)) (λ i h.
    let inside : i < n = omega arith in
    get_or-bytes_in words (from + offset) n i (from + offset + i) inside refl
    ∙ sym (get_or-bytes_in words from len (offset + i) (from + offset + i) (omega arith) (omega arith))
    ∙ sym (get_or-take n (drop offset all) i 0 inside ∙ get_or-drop offset all i 0))

module _ (old : List ℕ) (offset : ℕ) (new : List ℕ) (fits : offset + length new ≤ length old) where
  length-overwritten : length (overwritten old offset new) ≡ length old
  length-overwritten = search (rules, places)

  get_or-overwritten_before : (i : ℕ) → i < offset → get_or (overwritten old offset new) i 0 ≡ get_or old i 0
  get_or-overwritten_before i h = grind (arith, places)

  get_or-overwritten_among : (i : ℕ) → offset ≤ i → i < offset + length new → get_or (overwritten old offset new) i 0 ≡ get_or new (i - offset) 0
  get_or-overwritten_among i low high = grind (arith, places)

  get_or-overwritten_behind : (i : ℕ) → offset + length new ≤ i → get_or (overwritten old offset new) i 0 ≡ get_or old i 0
  get_or-overwritten_behind i h = grind (arith, places)

-- the same bytes but for some new ones among them
bytes_written : (xs ys : List ℕ) (from len offset : ℕ) (new : List ℕ) → offset + length new ≤ len → bytes_in ys (from + offset) (length new) ≡ new
    → ((k : ℕ) → k < from + offset → byte_in ys k ≡ byte_in xs k) → ((k : ℕ) → from + offset + length new ≤ k → byte_in ys k ≡ byte_in xs k)
    → bytes_in ys from len ≡ overwritten (bytes_in xs from len) offset new
bytes_written xs ys from len offset new fits written before behind =
    let old = bytes_in xs from len in
    let many = length-bytes_in xs from len in
    let many_new = length-bytes_in ys from len in
    let within : offset + length new ≤ length old = omega arith in
    let as_long = length-overwritten old offset new within in
    ext_get_or 0 (bytes_in ys from len) (overwritten old offset new) (many_new ∙ sym many ∙ sym as_long) (λ i h.
    let inside : i < len = omega arith in
    let here = get_or-bytes_in ys from len i (from + i) inside refl in
    let there = get_or-bytes_in xs from len i (from + i) inside refl in
    elim (cases_lt i offset) [
      | inl low ↦ here ∙ before (from + i) (omega arith) ∙ sym there ∙ sym (get_or-overwritten_before old offset new within i low)
      | inr past ↦ elim (cases_lt i (offset + length new)) [
        | inl among ↦ here
            ∙ sym (get_or-bytes_in ys (from + offset) (length new) (i - offset) (from + i) (omega arith) (omega arith))
            ∙ ap (λ (l : List ℕ). get_or l (i - offset) 0) written
            ∙ sym (get_or-overwritten_among old offset new within i past among)
        | inr high ↦ here ∙ behind (from + i) (omega arith) ∙ sym there ∙ sym (get_or-overwritten_behind old offset new within i high)
      ]
    ])

-- ---- the payload of a block

-- the bytes behind a header are the payload
pub held_bytes : (words : List ℕ) (at : ℕ) (b : Block) → HoldsPayload words at b → bytes_in words (8 * (at + 3)) (length (bytes_of b)) ≡ bytes_of b
unfolding bytes_in
held_bytes words at (Live size serial bytes) h = h.1
held_bytes words at (Free size stamp) h = refl

-- the third word of a live header is their number
held_length : (words : List ℕ) (at : ℕ) (b : Block) → HasRoom b → size_of b ≤ 2 ^ 24 → is_free b ≡ false → HoldsPayload words at b → low_half (get_or words (at + 2) 0) ≡ length (bytes_of b)
held_length words at (Live size serial bytes) room small live h = ap low_half h.0 ∙ low_half-length_word (length bytes) (omega (arith, room.1))
held_length words at (Free size stamp) room small live h = absurd (false≢true (sym live))

-- they are within the block
pub held_within : (b : Block) → HasRoom b → 24 + length (bytes_of b) ≤ 8 * size_of b
held_within (Live size serial bytes) room = omega (arith, room.1)
held_within (Free size stamp) room = omega arith

module _ {m : Image} {bs : List Block} (shows : Shows m bs) {at i : ℕ} (stands : StandsAt bs at i) where
  pub payload_inside : 8 * (at + 3) + length (bytes_of (block_at bs i)) ≤ 8 * length m.words
  payload_inside = omega (arith, held_within (block_at bs i) (room_here m bs shows at i stands), (says_here shows stands).ends)

  pub length_read : (j : ℕ) × StandsAt bs at j × (is_free (block_at bs j) ≡ false) → low_half (word_at m (at + 2)) ≡ length (bytes_of (block_at bs i))
  length_read found =
      let live = at_index shows (λ j. is_free (block_at bs j) ≡ false) found stands in
      held_length m.words at (block_at bs i) (room_here m bs shows at i stands) (omega (arith, (says_here shows stands).ends, shows.small)) live (shown_here m bs shows at i stands).payload

  pub bytes_read : (offset n : ℕ) → (j : ℕ) × StandsAt bs at j × (offset + n ≤ length (bytes_of (block_at bs j)))
      → bytes_in m.words (payload_byte at offset) n ≡ take n (drop offset (bytes_of (block_at bs i)))
  bytes_read offset n found =
      let fits = at_index shows (λ j. offset + n ≤ length (bytes_of (block_at bs j))) found stands in
      bytes_among m.words (8 * (at + 3)) (length (bytes_of (block_at bs i))) offset n fits
      ∙ ap (λ (bytes : List ℕ). take n (drop offset bytes)) (held_bytes m.words at (block_at bs i) (shown_here m bs shows at i stands).payload)

-- ---- other payload bytes

pub size_of-with_bytes : (b : Block) (bytes : List ℕ) → size_of (with_bytes b bytes) ≡ size_of b
size_of-with_bytes (Live size serial old) bytes = refl
size_of-with_bytes (Free size stamp) bytes = refl

pub is_free-with_bytes : (b : Block) (bytes : List ℕ) → is_free (with_bytes b bytes) ≡ is_free b
is_free-with_bytes (Live size serial old) bytes = refl
is_free-with_bytes (Free size stamp) bytes = refl

pub mark_of-with_bytes : (b : Block) (bytes : List ℕ) → mark_of (with_bytes b bytes) ≡ mark_of b
mark_of-with_bytes (Live size serial old) bytes = refl
mark_of-with_bytes (Free size stamp) bytes = refl

-- equally many bytes have room too
pub room-with_bytes : (b : Block) (bytes : List ℕ) → length bytes ≡ length (bytes_of b) → HasRoom b → HasRoom (with_bytes b bytes)
room-with_bytes (Live size serial old) bytes same room = (room.0, omega (arith, room.1))
room-with_bytes (Free size stamp) bytes same room = room

-- and are held by words that have them, under the same length
pub holds-with_bytes : (xs ys : List ℕ) (at : ℕ) (b : Block) (bytes : List ℕ) → length bytes ≡ length (bytes_of b) → get_or ys (at + 2) 0 ≡ get_or xs (at + 2) 0
    → bytes_in ys (8 * (at + 3)) (length (bytes_of b)) ≡ bytes → HoldsPayload xs at b → HoldsPayload ys at (with_bytes b bytes)
holds-with_bytes xs ys at (Live size serial old) bytes same word held h = (word ∙ h.0 ∙ ap length_word (sym same), rw same held)
holds-with_bytes xs ys at (Free size stamp) bytes same word held h = tt

-- some payload bytes of a block become others
pub rewritten : {m v : Image} {bs : List Block} {at : ℕ} (offset : ℕ) {new : List ℕ} → Shows m bs
    → (i : ℕ) × StandsAt bs at i × (offset + length new ≤ length (bytes_of (block_at bs i)))
    → bytes_in v.words (payload_byte at offset) (length new) ≡ new
    → ((k : ℕ) → k < payload_byte at offset → byte_in v.words k ≡ byte_in m.words k)
    → ((k : ℕ) → payload_byte at offset + length new ≤ k → byte_in v.words k ≡ byte_in m.words k)
    → ((k : ℕ) → 8 * k + 8 ≤ payload_byte at offset → word_at v k ≡ word_at m k)
    → ((k : ℕ) → payload_byte at offset + length new ≤ 8 * k → word_at v k ≡ word_at m k)
    → length v.words ≡ length m.words → v.starts ≡ m.starts
    → Leaves v bs at (λ i. take i bs ++ (with_bytes (block_at bs i) (overwritten (bytes_of (block_at bs i)) offset new) ∷ []) ++ drop (i + 1) bs)
rewritten {m = m} {v = v} {bs = bs} {at = at} offset {new = new} shows found written before behind words_before words_behind same starts =
    leaves shows (λ i. offset + length new ≤ length (bytes_of (block_at bs i))) found
    (λ i stands fits.
    let b = block_at bs i in
    let old = bytes_of b in
    let bytes = overwritten old offset new in
    let word = word_at m at in
    let says = says_here shows stands in
    let here = shown_here m bs shows at i stands in
    let room = room_here m bs shows at i stands in
    let within = held_within b room in
    let as_long = length-overwritten old offset new fits in
    let payload : bytes_in v.words (8 * (at + 3)) (length old) ≡ bytes =
    bytes_written m.words v.words (8 * (at + 3)) (length old) offset new fits written before behind
    ∙ ap (λ (l : List ℕ). overwritten l offset new) (held_bytes m.words at b here.payload) in
    one_changed shows stands (with_bytes b bytes) (record {
      size = size_of-with_bytes b bytes;
      room = room-with_bytes b bytes as_long room;
      tag = words_before at (omega arith) ∙ sym (tag_word-fields word)
          ∙ ap (λ (free : Bool). tag_word (size_in word) (last_in word) free (back_in word)) (says.free ∙ sym (is_free-with_bytes b bytes));
      mark = words_before (at + 1) (omega arith) ∙ says.mark ∙ sym (mark_of-with_bytes b bytes);
      payload = holds-with_bytes m.words v.words at b bytes as_long (words_before (at + 2) (omega arith)) payload here.payload;
      before = λ k h. words_before k (omega arith);
      behind = λ k h. words_behind k (omega arith);
      length = same;
      starts = starts;
    }))
