-- The facts that words which show blocks say of each block, and which words may change.
use Rattle.tlsf_heap.proofs.Common.{◌≡◌, ℕ, zero, suc, ◌+◌, ◌/◌, ◌%◌, ◌^◌, ◌*◌, ◌<◌, ◌≤◌, Bool, true, false, cond, ltb, List, [], ◌∷◌, ◌++◌, length, take, drop, get_or, inl, inr, refl, sym, ap, ◌∙◌, subst, arith, map, append_assoc, add_assoc, add-zero, zero-add, ◌==◌, AllByRecursion, range_with_len, take-append-drop, drop_more, false≢true, cases_lt, nat_tests, Image, HoldsPayload, BlockAt, ShowsFrom, back_behind, Shows, tag_word, size_in, free_in, low_half, Block, Live, Free, size_of, words_in, is_free, StandsAt, IsPlace, HasRoom, block_at, with_back, byte_in, bytes_in, nowhere, block_in, blocks_from, blocks_of}
use Rattle.tlsf_words.proofs.FieldLaws.{size_in-tag_word, last_in-tag_word, free_in-tag_word, low_half-length_word}
use Rattle.tlsf_heap.proofs.lemmas.blocks.Lawful.{words_in-append, all_append, all_left, all_right}

-- the word at a place
abbrev pub word_at : Image → ℕ → ℕ
word_at m k = get_or m.words k 0

-- the start bit of a place
abbrev pub start_at : Image → ℕ → Bool
start_at m k = get_or m.starts k false

-- a block has four words
pub least : (b : Block) → HasRoom b → 4 ≤ size_of b
least (Live size serial bytes) room = room.0
least (Free size stamp) room = room

-- ---- reading the blocks

-- a header says its block
read_block : (m : Image) (at back : ℕ) (b : Block) → HasRoom b → size_of b ≤ 2 ^ 24 → BlockAt m at back b → block_in m.words at ≡ b
unfolding block_in
read_block m at back (Live size serial bytes) room small h =
    let free : free_in (word_at m at) ≡ false = ap free_in h.tag ∙ free_in-tag_word size (at + size == length m.words) false back in
    let sized : size_in (word_at m at) ≡ size = ap size_in h.tag ∙ size_in-tag_word size (at + size == length m.words) false back (omega arith) in
    let long : low_half (word_at m (at + 2)) ≡ length bytes = ap low_half h.payload.0 ∙ low_half-length_word (length bytes) (omega (arith, room.1)) in
    rw (free, sized, h.mark, long, h.payload.1) refl
read_block m at back (Free size stamp) room small h =
    let free : free_in (word_at m at) ≡ true = ap free_in h.tag ∙ free_in-tag_word size (at + size == length m.words) true back in
    let sized : size_in (word_at m at) ≡ size = ap size_in h.tag ∙ size_in-tag_word size (at + size == length m.words) true back (omega arith) in
    rw (free, sized, h.mark) refl

-- what is read is what is shown
read_blocks : (most : ℕ) (m : Image) (at back : ℕ) (bs : List Block) → length m.words ≤ 2 ^ 24 → at + words_in bs ≡ length m.words → words_in bs ≤ most
    → AllByRecursion HasRoom bs → ShowsFrom m at back bs → blocks_from most m.words at ≡ bs
unfolding blocks_from
read_blocks zero m at back [] small whole enough rooms h = refl
read_blocks zero m at back (b ∷ bs) small whole enough rooms h = let four = least b rooms.0 in absurd (omega arith)
read_blocks (suc most) m at back [] small whole enough rooms h =
    let past : ltb at (length m.words) ≡ false = grind (arith, nat_tests) in
    ap (λ (c : Bool). cond c (block_in m.words at ∷ blocks_from most m.words (at + size_of (block_in m.words at))) []) past
read_blocks (suc most) m at back (b ∷ bs) small whole enough rooms h =
    let four = least b rooms.0 in
    let inside : ltb at (length m.words) ≡ true = grind (arith, nat_tests) in
    ap (λ (c : Bool). cond c (block_in m.words at ∷ blocks_from most m.words (at + size_of (block_in m.words at))) []) inside
    ∙ ap (λ (a : Block). a ∷ blocks_from most m.words (at + size_of a)) (read_block m at back b rooms.0 (omega arith) h.0)
    ∙ ap (λ (l : List Block). b ∷ l) (read_blocks most m (at + size_of b) at bs small (omega arith) (omega arith) rooms.1 h.1)

-- the blocks are determined
pub blocks_of-shown : (m : Image) (bs : List Block) → Shows m bs → blocks_of m.words ≡ bs
unfolding blocks_of
blocks_of-shown m bs h = read_blocks (length m.words) m 0 nowhere bs h.small (omega (arith, h.whole)) (omega (arith, h.whole)) h.rooms h.shown

-- parts of a list of blocks show each for itself
pub shows_parts : (m : Image) (at back : ℕ) (xs ys : List Block) → ShowsFrom m at back (xs ++ ys) → ShowsFrom m at back xs × ShowsFrom m (at + words_in xs) (back_behind at back xs) ys
shows_parts m at back [] ys h = (tt, subst (λ (p : ℕ). ShowsFrom m p back ys) (sym (add-zero at)) h)
shows_parts m at back (x ∷ xs) ys h =
    let parts = shows_parts m (at + size_of x) at xs ys h.1 in (
      (h.0, parts.0),
      subst (λ (p : ℕ). ShowsFrom m p (back_behind (at + size_of x) at xs) ys) (add_assoc at (size_of x) (words_in xs)) parts.1,
    )

pub shows_joined : (m : Image) (at back : ℕ) (xs ys : List Block) → ShowsFrom m at back xs → ShowsFrom m (at + words_in xs) (back_behind at back xs) ys → ShowsFrom m at back (xs ++ ys)
shows_joined m at back [] ys g h = subst (λ (p : ℕ). ShowsFrom m p back ys) (add-zero at) h
shows_joined m at back (x ∷ xs) ys g h = (
  g.0,
  shows_joined m (at + size_of x) at xs ys g.1 (subst (λ (p : ℕ). ShowsFrom m p (back_behind (at + size_of x) at xs) ys) (sym (add_assoc at (size_of x) (words_in xs))) h),
)

-- a tag with another place before
pub with_back-tag_word : (size : ℕ) (last free : Bool) (back to : ℕ) → size < 2 ^ 30 → with_back (tag_word size last free back) to ≡ tag_word size last free to
unfolding with_back
with_back-tag_word size last free back to s =
    rw (size_in-tag_word size last free back s, last_in-tag_word size last free back s, free_in-tag_word size last free back) refl

-- ---- a block at its place

-- a list is what stands before a block, the block, and what stands behind it
pub parted : (bs : List Block) (i : ℕ) → i < length bs → take i bs ++ block_at bs i ∷ drop (i + 1) bs ≡ bs
parted bs i within = ap (λ (l : List Block). take i bs ++ l) (sym (drop_more bs i (Free 0 0) within)) ∙ take-append-drop i bs

module _ (m : Image) (bs : List Block) (shows : Shows m bs) (at i : ℕ) (stands : StandsAt bs at i) where
  -- what is shown of the block at a place
  pub shown_here : BlockAt m at (back_behind 0 nowhere (take i bs)) (block_at bs i)
  shown_here =
      let whole = subst (ShowsFrom m 0 nowhere) (sym (parted bs i stands.within)) shows.shown in
      let behind = (shows_parts m 0 nowhere (take i bs) (block_at bs i ∷ drop (i + 1) bs) whole).1 in
      subst (λ (p : ℕ). BlockAt m p (back_behind 0 nowhere (take i bs)) (block_at bs i)) (zero-add (words_in (take i bs)) ∙ stands.place) behind.0

  pub room_here : HasRoom (block_at bs i)
  room_here = (all_right HasRoom (take i bs) (block_at bs i ∷ drop (i + 1) bs) (subst (AllByRecursion HasRoom) (sym (parted bs i stands.within)) shows.rooms)).0

  pub four_here : 4 ≤ size_of (block_at bs i)
  four_here = least (block_at bs i) room_here

  pub ends_here : at + size_of (block_at bs i) ≤ length m.words
  ends_here =
      let sum = ap words_in (parted bs i stands.within) in
      let parts = words_in-append (take i bs) (block_at bs i ∷ drop (i + 1) bs) in
      omega (arith, stands.place, shows.whole)

-- a block has one place
pub stands_once : (bs : List Block) (at i j : ℕ) → AllByRecursion HasRoom bs → StandsAt bs at i → StandsAt bs at j → i ≡ j
stands_once bs at i j rooms g h = once bs i j rooms g.within h.within (g.place ∙ sym h.place)
  where
    once : (bs : List Block) (i j : ℕ) → AllByRecursion HasRoom bs → i < length bs → j < length bs → words_in (take i bs) ≡ words_in (take j bs) → i ≡ j
    once [] i j rooms k l e = absurd (omega (arith, k))
    once (b ∷ bs) zero zero rooms k l e = refl
    once (b ∷ bs) zero (suc j) rooms k l e = let four = least b rooms.0 in absurd (omega arith)
    once (b ∷ bs) (suc i) zero rooms k l e = let four = least b rooms.0 in absurd (omega arith)
    once (b ∷ bs) (suc i) (suc j) rooms k l e = ap suc (once bs i j rooms.1 (omega arith) (omega arith) (omega arith))

-- a start bit is set only where a block begins
pub place_of_start : (m : Image) (bs : List Block) (at : ℕ) → Shows m bs → at < length m.words → start_at m at ≡ true → IsPlace bs at
place_of_start m bs at shows inside set =
    let found = starts m at set 0 nowhere bs shows.shown (omega arith) (omega (arith, shows.whole)) in (found.0, record { within = found.1; place = omega (arith, found.2) })
  where
    starts : (m : Image) (at : ℕ) → start_at m at ≡ true → (p back : ℕ) (bs : List Block) → ShowsFrom m p back bs → p ≤ at → at < p + words_in bs
        → (i : ℕ) × (i < length bs) × (p + words_in (take i bs) ≡ at)
    starts m at set p back [] h low high = absurd (omega arith)
    starts m at set p back (b ∷ bs) h low high = elim (cases_lt p at) [
      | inr here ↦ (0, omega arith, omega arith)
      | inl below ↦ elim (cases_lt at (p + size_of b)) [
        | inl within ↦ absurd (false≢true (sym (h.0.starts.others at below within) ∙ set))
        | inr past ↦ let rest = starts m at set (p + size_of b) p bs h.1 past (omega arith) in (suc rest.0, omega (arith, rest.1), omega (arith, rest.2))
      ]
    ]

-- ---- words that stay

-- the same words make the same bytes
same_bytes : (xs ys : List ℕ) (from len : ℕ) → ((k : ℕ) → from ≤ k → k < from + len → get_or ys (k / 8) 0 ≡ get_or xs (k / 8) 0)
    → map (byte_in ys) (range_with_len from len) ≡ map (byte_in xs) (range_with_len from len)
unfolding byte_in
same_bytes xs ys from zero same = refl
same_bytes xs ys from (suc len) same =
    ap (λ (word : ℕ). word / 256 ^ (from % 8) % 256 ∷ map (byte_in ys) (range_with_len (from + 1) len)) (same from (omega arith) (omega arith))
    ∙ ap (λ (l : List ℕ). byte_in xs from ∷ l) (same_bytes xs ys (from + 1) len (λ k l g. same k (omega arith) (omega arith)))

-- and the same payload
pub same_payload : (xs ys : List ℕ) (at : ℕ) (b : Block) → HasRoom b → ((k : ℕ) → at < k → k < at + size_of b → get_or ys k 0 ≡ get_or xs k 0) → HoldsPayload xs at b → HoldsPayload ys at b
unfolding bytes_in
same_payload xs ys at (Live size serial bytes) room same h = (
  same (at + 2) (omega arith) (omega (arith, room.0)) ∙ h.0,
  same_bytes xs ys (8 * (at + 3)) (length bytes) (λ k l g. same (k / 8) (omega arith) (omega (arith, room.1))) ∙ h.1,
)
same_payload xs ys at (Free size stamp) room same h = tt

-- all but the first word of a block, and its start bits, are the same
record Stays (m v : Image) (at n : ℕ) : Type 0 where
  as_long : length v.words ≡ length m.words
  words : (k : ℕ) → at < k → k < at + n → word_at v k ≡ word_at m k
  starts : (k : ℕ) → at ≤ k → k < at + n → start_at v k ≡ start_at m k

block_stays : (m v : Image) (at back to : ℕ) (b : Block) → HasRoom b → Stays m v at (size_of b) → word_at v at ≡ tag_word (size_of b) (at + size_of b == length m.words) (is_free b) to
    → BlockAt m at back b → BlockAt v at to b
block_stays m v at back to b room stays tag h =
    let four = least b room in
    record {
      tag = tag ∙ ap (λ (n : ℕ). tag_word (size_of b) (at + size_of b == n) (is_free b) to) (sym stays.as_long);
      mark = stays.words (at + 1) (omega arith) (omega arith) ∙ h.mark;
      payload = same_payload m.words v.words at b room stays.words h.payload;
      starts = record {
        first = stays.starts at (omega arith) (omega arith) ∙ h.starts.first;
        others = λ k l g. stays.starts k (omega arith) g ∙ h.starts.others k l g;
      };
    }

-- the same words show the same blocks
shows_stay : (m v : Image) (at back : ℕ) (bs : List Block) → AllByRecursion HasRoom bs → length v.words ≡ length m.words
    → ((k : ℕ) → at ≤ k → k < at + words_in bs → word_at v k ≡ word_at m k) → ((k : ℕ) → at ≤ k → k < at + words_in bs → start_at v k ≡ start_at m k)
    → ShowsFrom m at back bs → ShowsFrom v at back bs
shows_stay m v at back [] rooms as_long words starts h = tt
shows_stay m v at back (b ∷ bs) rooms as_long words starts h =
    let four = least b rooms.0 in (
      block_stays m v at back back b rooms.0 (record { as_long = as_long; words = λ k l g. words k (omega arith) (omega arith); starts = λ k l g. starts k l (omega arith) })
          (words at (omega arith) (omega arith) ∙ h.0.tag) h.0,
      shows_stay m v (at + size_of b) at bs rooms.1 as_long (λ k l g. words k (omega arith) (omega arith)) (λ k l g. starts k (omega arith) (omega arith)) h.1,
    )

-- the block before them has moved
shows_behind : (m v : Image) (at back to : ℕ) (bs : List Block) → AllByRecursion HasRoom bs → length v.words ≡ length m.words → words_in bs ≤ 2 ^ 24
    → (0 < words_in bs → word_at v at ≡ with_back (word_at m at) to)
    → ((k : ℕ) → at < k → k < at + words_in bs → word_at v k ≡ word_at m k) → ((k : ℕ) → at ≤ k → k < at + words_in bs → start_at v k ≡ start_at m k)
    → ShowsFrom m at back bs → ShowsFrom v at to bs
shows_behind m v at back to [] rooms as_long small next words starts h = tt
shows_behind m v at back to (b ∷ bs) rooms as_long small next words starts h =
    let four = least b rooms.0 in
    let tag = next (omega arith) ∙ ap (λ (w : ℕ). with_back w to) h.0.tag ∙ with_back-tag_word (size_of b) (at + size_of b == length m.words) (is_free b) back to (omega arith) in (
      block_stays m v at back to b rooms.0 (record { as_long = as_long; words = λ k l g. words k l (omega arith); starts = λ k l g. starts k l (omega arith) }) tag h.0,
      shows_stay m v (at + size_of b) at bs rooms.1 as_long (λ k l g. words k (omega arith) (omega arith)) (λ k l g. starts k (omega arith) (omega arith)) h.1,
    )

-- some blocks of a region become others: of the words outside, only the header behind them may get another place before
pub record Replaces (m v : Image) (front old new : List Block) : Type 0 where
  pub as_many : words_in new ≡ words_in old
  pub as_long : length v.words ≡ length m.words
  pub mapped : length v.starts ≡ length m.starts
  pub rooms : AllByRecursion HasRoom new
  pub some : 0 < length old
  pub before : (k : ℕ) → k < words_in front → word_at v k ≡ word_at m k
  pub behind : (k : ℕ) → words_in front + words_in old < k → word_at v k ≡ word_at m k
  pub next : words_in front + words_in old < length m.words
      → word_at v (words_in front + words_in old) ≡ with_back (word_at m (words_in front + words_in old)) (back_behind (words_in front) (back_behind 0 nowhere front) new)
  pub starts_before : (k : ℕ) → k < words_in front → start_at v k ≡ start_at m k
  pub starts_behind : (k : ℕ) → words_in front + words_in old ≤ k → start_at v k ≡ start_at m k
  pub shown : ShowsFrom v (words_in front) (back_behind 0 nowhere front) new

replaced : (m v : Image) (front old new after : List Block) → Replaces m v front old new → Shows m (front ++ (old ++ after)) → Shows v (front ++ (new ++ after))
replaced m v front old new after replaces shows =
    let r = replaces in
    let back = back_behind 0 nowhere front in
    let parts = shows_parts m 0 nowhere front (old ++ after) shows.shown in
    let tail = shows_parts m (words_in front) back old after (subst (λ (p : ℕ). ShowsFrom m p back (old ++ after)) (zero-add (words_in front)) parts.1) in
    let sum = words_in-append front (old ++ after) in
    let sum_old = words_in-append old after in
    let sum_new = words_in-append new after in
    let total = words_in-append front (new ++ after) in
    let whole = shows.whole in
    let small = shows.small in
    let front_rooms = all_left HasRoom front (old ++ after) shows.rooms in
    let after_rooms = all_right HasRoom old after (all_right HasRoom front (old ++ after) shows.rooms) in
    let before : ShowsFrom v 0 nowhere front = shows_stay m v 0 nowhere front front_rooms r.as_long (λ k l g. r.before k (omega arith)) (λ k l g. r.starts_before k (omega arith)) parts.0 in
    let behind : ShowsFrom v (words_in front + words_in old) (back_behind (words_in front) back new) after =
    shows_behind m v (words_in front + words_in old) (back_behind (words_in front) back old) (back_behind (words_in front) back new) after after_rooms r.as_long (omega arith)
    (λ some. r.next (omega arith)) (λ k l g. r.behind k l) (λ k l g. r.starts_behind k l) tail.1 in
    let inner : ShowsFrom v (words_in front) back (new ++ after) =
    shows_joined v (words_in front) back new after r.shown (subst (λ (n : ℕ). ShowsFrom v (words_in front + n) (back_behind (words_in front) back new) after) (sym r.as_many) behind) in
    record {
      shown = shows_joined v 0 nowhere front (new ++ after) before (subst (λ (p : ℕ). ShowsFrom v p back (new ++ after)) (sym (zero-add (words_in front))) inner);
      whole = omega (arith, r.as_many, r.as_long);
      mapped = r.mapped ∙ shows.mapped ∙ sym r.as_long;
      rooms = all_append HasRoom front (new ++ after) front_rooms (all_append HasRoom new after r.rooms after_rooms);
      small = omega (arith, r.as_long);
    }

-- the whole region shows them
pub shows_replaced : (m v : Image) (front old new after : List Block) → Replaces m v front old new → Shows m (front ++ old ++ after) → Shows v (front ++ new ++ after)
shows_replaced m v front old new after replaces shows =
    subst (Shows v) (sym (append_assoc front new after)) (replaced m v front old new after replaces (subst (Shows m) (append_assoc front old after) shows))

-- and reads as them
pub blocks_replaced : (m v : Image) (front old new after : List Block) → Replaces m v front old new → Shows m (front ++ old ++ after)
    → (blocks_of v.words ≡ front ++ new ++ after) × Shows v (blocks_of v.words)
blocks_replaced m v front old new after replaces shows =
    let shown = shows_replaced m v front old new after replaces shows in
    let read = blocks_of-shown v (front ++ new ++ after) shown in (read, subst (Shows v) (sym read) shown)
