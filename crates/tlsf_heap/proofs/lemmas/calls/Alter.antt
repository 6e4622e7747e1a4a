-- A block's payload as its words are handed out, and what is left where all its bytes may become others.
use Rattle.tlsf_heap.proofs.Common.{◌≡◌, ℕ, zero, suc, ◌+◌, ◌*◌, ◌/◌, ◌<◌, ◌≤◌, Bool, true, false, cond, List, ◌∷◌, [], ◌++◌, find, Some, length, get_or, take, drop, refl, sym, ap, ◌∙◌, arith, subst, length-take, length-drop, IsSome, drop_all, append-nil, false≢true, bytes_in, payload_byte, tag_word, size_in, last_in, back_in, bytes_at, payload_at, payload_of, ArePayload, IsLive, Image, Shows, IsNamed, Name, Block, HeapState, bytes_of, StandsAt, is_named, overwritten, with_bytes, sites, block_at}
use Rattle.tlsf_heap.proofs.lemmas.calls.Named.{named_is, named_stands}
use Rattle.tlsf_heap.proofs.lemmas.blocks.Sites.{nowhere, length-sites, get_or-sites}
use Rattle.tlsf_words.proofs.Bytes.{bytes_in-part}
use Rattle.tlsf_words.proofs.FieldLaws.{tag_word-fields}
use Rattle.tlsf_heap.proofs.lemmas.words.Image.{word_at, shown_here, room_here}
use Rattle.tlsf_heap.proofs.lemmas.words.Says.{says_here}
use Rattle.tlsf_heap.proofs.lemmas.words.Edit.{Leaves, leaves, one_changed}
use Rattle.tlsf_heap.proofs.lemmas.words.Bytes.{length-bytes_in, held_bytes, held_within, payload_inside, bytes_read, size_of-with_bytes, is_free-with_bytes, mark_of-with_bytes, room-with_bytes, holds-with_bytes}

-- ---- the payload of a name

-- the first of some that passes
record First {X : Type 0} (p : X → Bool) (d : X) (xs : List X) : Type 0 where
  place : ℕ
  within : place < length xs
  here : p (get_or xs place d) ≡ true
  before : (j : ℕ) → j < place → p (get_or xs j d) ≡ false

module _ {X : Type 0} (p : X → Bool) (d : X) where
  before_later : (x : X) (xs : List X) (first : First p d xs) → p x ≡ false → (j : ℕ) → j < suc first.place → p (get_or (x ∷ xs) j d) ≡ false
  before_later x xs first fails zero below = fails
  before_later x xs first fails (suc j) below = first.before j (omega arith)

  first_or_later : (x : X) (xs : List X) (b : Bool) → p x ≡ b → (IsSome (find p xs) → First p d xs) → IsSome (cond b (Some x) (find p xs)) → First p d (x ∷ xs)
  first_or_later x xs true passes later some = record { place = 0; within = omega arith; here = passes; before = λ j below. absurd (omega arith) }
  first_or_later x xs false fails later some =
      let first = later some in
      record { place = suc first.place; within = omega (arith, first.within); here = first.here; before = before_later x xs first fails }

  -- where a search finds something, it finds the first
  first_found : (xs : List X) → IsSome (find p xs) → First p d xs
  first_found [] some = absurd (false≢true some)
  first_found (x ∷ xs) some = first_or_later x xs (p x) refl (first_found xs) some

-- a live name names a block
pub named_of : (h : HeapState) (name : Name) → IsLive h name → IsNamed h name
named_of h name live =
    let found = first_found (is_named name.at name.serial) nowhere (sites h.blocks) live.1 in
    let within : found.place < length h.blocks = omega (arith, found.within, length-sites h.blocks) in (
      live.0,
      (
        found.place,
        record {
          within = within;
          here = ap (is_named name.at name.serial) (sym (get_or-sites nowhere h.blocks found.place within)) ∙ found.here;
          before = λ j below. ap (is_named name.at name.serial) (sym (get_or-sites nowhere h.blocks j (omega (arith, below, within)))) ∙ found.before j below;
        },
      ),
    )

-- its payload is that block's
pub payload_is : (h : HeapState) (name : Name) (is_named : IsNamed h name) → payload_of h name ≡ bytes_of (block_at h.blocks is_named.1.0)
payload_is h name is_named = ap bytes_at (named_is name h.blocks is_named.1.0 is_named.1.1)

-- ---- the words that hold it

-- the words behind the header of a block hold its payload
held_there : {m : Image} {bs : List Block} {at i : ℕ} (len : ℕ) → Shows m bs → StandsAt bs at i → len ≡ length (bytes_of (block_at bs i))
    → (length (payload_at m at len) ≡ (len + 7) / 8) × (bytes_in (payload_at m at len) 0 len ≡ bytes_of (block_at bs i))
held_there {m = m} {bs = bs} {at = at} {i = i} len shows stands e = (
  omega (arith, length-take ((len + 7) / 8) (drop (at + 3) m.words), length-drop (at + 3) m.words, payload_inside shows stands, e),
  bytes_in-part m.words (at + 3) ((len + 7) / 8) len (omega arith)
      ∙ ap (bytes_in m.words (8 * (at + 3))) e
      ∙ held_bytes m.words at (block_at bs i) (shown_here m bs shows at i stands).payload,
)

-- so they are the payload of its name, in a heap that is the same
pub are_payload : {m : Image} (h k : HeapState) (name : Name) (len : ℕ) → h ≡ k → Shows m h.blocks → (is_named : IsNamed k name) → len ≡ length (bytes_of (block_at k.blocks is_named.1.0)) → ArePayload k name (payload_at m name.at len)
are_payload {m = m} h k name len same shows is_named e =
    let held = held_there {m = m} len (subst (λ (s : HeapState). Shows m s.blocks) same shows) (named_stands _ _ _ _ is_named.1.1) e in
    let is = payload_is k name is_named in
    let many : length (payload_of k name) ≡ len = ap length is ∙ sym e in (
      held.0 ∙ ap (λ (n : ℕ). (n + 7) / 8) (sym many),
      ap (bytes_in (payload_at m name.at len) 0) many ∙ held.1 ∙ sym is,
    )

-- the payload's bytes are those behind the header
pub bytes_there : (m : Image) (at len n : ℕ) → n ≡ len → bytes_in (payload_at m at len) 0 n ≡ bytes_in m.words (payload_byte at 0) len
bytes_there m at len n same =
    let from : 8 * (at + 3) ≡ payload_byte at 0 = omega arith in
    ap (bytes_in (payload_at m at len) 0) same ∙ bytes_in-part m.words (at + 3) ((len + 7) / 8) len (omega arith) ∙ ap (λ (k : ℕ). bytes_in m.words k len) from

-- ---- a copy of its first bytes

-- they stand there
pub room_in : (h k : HeapState) (name : Name) (len : ℕ) → h ≡ k → IsLive k name → len ≤ length (payload_of k name) → (i : ℕ) × StandsAt h.blocks name.at i × (len ≤ length (bytes_of (block_at h.blocks i)))
room_in h k name len same live fits =
    let is_named = named_of k name live in
    subst (λ (s : HeapState). (i : ℕ) × StandsAt s.blocks name.at i × (len ≤ length (bytes_of (block_at s.blocks i)))) (sym same)
    (is_named.1.0, named_stands _ _ _ _ is_named.1.1, omega (arith, fits, ap length (payload_is k name is_named)))

-- and are its first bytes
pub first_bytes : {m : Image} (h k : HeapState) (name : Name) (len : ℕ) → h ≡ k → Shows m h.blocks → IsLive k name → len ≤ length (payload_of k name) → bytes_in m.words (payload_byte name.at 0) len ≡ take len (payload_of k name)
first_bytes {m = m} h k name len same shows live fits =
    let is_named = named_of k name live in
    let stands = named_stands _ _ _ _ is_named.1.1 in
    bytes_read (subst (λ (s : HeapState). Shows m s.blocks) same shows) stands 0 len (is_named.1.0, stands, omega (arith, fits, ap length (payload_is k name is_named)))
    ∙ ap (take len) (sym (payload_is k name is_named))

-- ---- other bytes

-- all bytes at once
pub overwritten_all : (old new : List ℕ) → length new ≡ length old → overwritten old 0 new ≡ new
overwritten_all old new same = ap (λ (l : List ℕ). take 0 old ++ new ++ l) (drop_all (0 + length new) old (omega arith)) ∙ append-nil new

-- the block of a name stands in the same heap, and has this many bytes
pub stood_in : (h k : HeapState) (name : Name) (len : ℕ) → h ≡ k → (is_named : IsNamed k name) → len ≡ length (bytes_of (block_at k.blocks is_named.1.0))
    → (i : ℕ) × StandsAt h.blocks name.at i × (len ≡ length (bytes_of (block_at h.blocks i)))
stood_in h k name len same is_named e =
    subst (λ (s : HeapState). (i : ℕ) × StandsAt s.blocks name.at i × (len ≡ length (bytes_of (block_at s.blocks i)))) (sym same)
    (is_named.1.0, named_stands _ _ _ _ is_named.1.1, e)

-- the words behind the header of a block may have changed, as far as its payload goes
pub altered : {m v : Image} {bs : List Block} {at len : ℕ} → Shows m bs
    → (i : ℕ) × StandsAt bs at i × (len ≡ length (bytes_of (block_at bs i)))
    → ((k : ℕ) → k < at + 3 → word_at v k ≡ word_at m k)
    → ((k : ℕ) → at + 3 + (len + 7) / 8 ≤ k → word_at v k ≡ word_at m k)
    → length v.words ≡ length m.words → v.starts ≡ m.starts
    → Leaves v bs at (λ i. take i bs ++ (with_bytes (block_at bs i) (overwritten (bytes_of (block_at bs i)) 0 (bytes_in v.words (payload_byte at 0) len)) ∷ []) ++ drop (i + 1) bs)
altered {m = m} {v = v} {bs = bs} {at = at} {len = len} shows found before behind same starts =
    leaves shows (λ i. len ≡ length (bytes_of (block_at bs i))) found
    (λ i stands fits.
    let b = block_at bs i in
    let old = bytes_of b in
    let new = bytes_in v.words (payload_byte at 0) len in
    let bytes = overwritten old 0 new in
    let word = word_at m at in
    let says = says_here shows stands in
    let here = shown_here m bs shows at i stands in
    let room = room_here m bs shows at i stands in
    let within = held_within b room in
    let long : length new ≡ length old = length-bytes_in v.words (payload_byte at 0) len ∙ fits in
    let all : bytes ≡ new = overwritten_all old new long in
    let as_long : length bytes ≡ length old = ap length all ∙ long in
    let from : payload_byte at 0 ≡ 8 * (at + 3) = omega arith in
    let payload : bytes_in v.words (8 * (at + 3)) (length old) ≡ bytes = ap (λ k. bytes_in v.words k (length old)) (sym from) ∙ ap (bytes_in v.words (payload_byte at 0)) (sym fits) ∙ sym all in
    one_changed shows stands (with_bytes b bytes) (record {
      size = size_of-with_bytes b bytes;
      room = room-with_bytes b bytes as_long room;
      tag = before at (omega arith) ∙ sym (tag_word-fields word)
          ∙ ap (λ (free : Bool). tag_word (size_in word) (last_in word) free (back_in word)) (says.free ∙ sym (is_free-with_bytes b bytes));
      mark = before (at + 1) (omega arith) ∙ says.mark ∙ sym (mark_of-with_bytes b bytes);
      payload = holds-with_bytes m.words v.words at b bytes as_long (before (at + 2) (omega arith)) payload here.payload;
      before = λ k h. before k (omega arith);
      behind = λ k h. behind k (omega arith);
      length = same;
      starts = starts;
    }))
