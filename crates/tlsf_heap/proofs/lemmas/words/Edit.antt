-- The words of a region after an edit.
use Rattle.tlsf_heap.proofs.Common.{◌≡◌, ◌≢◌, ℕ, ◌+◌, ◌<◌, ◌≤◌, Bool, inl, inr, false, List, [], ◌∷◌, ◌++◌, length, get_or, set, take, drop, refl, sym, ap, ◌∙◌, subst, arith, AllByRecursion, length-set, get_or-set_other, set-get_or, cases_lt, Image, mark_of, HoldsPayload, BlockAt, ShowsFrom, back_behind, Shows, tag_word, size_in, last_in, free_in, back_in, Block, size_of, words_in, is_free, StandsAt, block_at, with_back, nowhere, blocks_of, HasRoom}
use Rattle.tlsf_words.proofs.FieldLaws.{tag_word-fields}
use Rattle.tlsf_heap.proofs.lemmas.words.Image.{word_at, start_at, blocks_replaced}
use Rattle.tlsf_heap.proofs.lemmas.blocks.Stands.{around, stands_next, back_next}
use Rattle.tlsf_heap.proofs.lemmas.blocks.Neighbours.{ends_last}
use Rattle.tlsf_heap.proofs.lemmas.words.Says.{at_index, says_here}

-- words show these blocks, and read as them
abbrev pub ReadsAs : Image → List Block → Type 0
ReadsAs v bs = (blocks_of v.words ≡ bs) × Shows v (blocks_of v.words)

-- words show what an edit at a place leaves, which is said by the index of the block there
pub record Leaves (v : Image) (bs : List Block) (at : ℕ) (new : ℕ → List Block) : Type 0 where
  pub blocks : (i : ℕ) → StandsAt bs at i → blocks_of v.words ≡ new i
  pub shows : Shows v (blocks_of v.words)

-- only the words from a place to an end change, the place before in the header behind them, and one start bit
pub record Keeps (m v : Image) (at end back bit : ℕ) (starts_there : Bool) : Type 0 where
  pub before : (k : ℕ) → k < at → word_at v k ≡ word_at m k
  pub behind : (k : ℕ) → end < k → word_at v k ≡ word_at m k
  pub next : end < length m.words → word_at v end ≡ with_back (word_at m end) back
  pub length : length v.words ≡ length m.words
  pub starts : v.starts ≡ set m.starts bit starts_there

pub other_start : {m v : Image} {at end back bit : ℕ} {starts_there : Bool} → Keeps m v at end back bit starts_there → (k : ℕ) → k ≢ bit → start_at v k ≡ start_at m k
other_start {m = m} {bit = bit} {starts_there = starts_there} keeps k ne = ap (λ (s : List Bool). get_or s k false) keeps.starts ∙ get_or-set_other m.starts bit k starts_there false ne

-- from a place to an end, the words of some blocks become those of others
pub record Edit (v : Image) (at back end bit : ℕ) (old new : List Block) : Type 0 where
  pub some : 0 < length old
  pub as_many : words_in new ≡ words_in old
  pub rooms : AllByRecursion HasRoom new
  pub ends : end ≡ at + words_in old
  pub from : at ≤ bit
  pub below : bit < end
  pub shown : ShowsFrom v at back new

module _ {m v : Image} {bs : List Block} (shows : Shows m bs) {at : ℕ} where
  -- an edit of the words at a place is one of the blocks
  pub edited : {i : ℕ} → StandsAt bs at i → (old new after : List Block) → take i bs ++ old ++ after ≡ bs → {end bit : ℕ} {starts_there : Bool}
      → Keeps m v at end (back_behind at (back_behind 0 nowhere (take i bs)) new) bit starts_there → Edit v at (back_behind 0 nowhere (take i bs)) end bit old new
      → ReadsAs v (take i bs ++ new ++ after)
  edited {i = i} stands old new after whole {bit = bit} {starts_there = starts_there} keeps edit =
      let back = back_behind 0 nowhere (take i bs) in
      let ended = subst (λ (e : ℕ). Keeps m v at e (back_behind at back new) bit starts_there) edit.ends keeps in
      let kept = subst (λ (p : ℕ). Keeps m v p (p + words_in old) (back_behind p back new) bit starts_there) (sym stands.place) ended in
      blocks_replaced m v (take i bs) old new after
      (record {
        as_many = edit.as_many;
        as_long = kept.length;
        mapped = ap length kept.starts ∙ length-set m.starts bit starts_there;
        rooms = edit.rooms;
        some = edit.some;
        before = kept.before;
        behind = kept.behind;
        next = kept.next;
        starts_before = λ k l. other_start kept k (λ h. omega (arith, edit.from, stands.place));
        starts_behind = λ k l. other_start kept k (λ h. omega (arith, edit.ends, edit.below, stands.place));
        shown = subst (λ (p : ℕ). ShowsFrom v p back new) (sym stands.place) edit.shown;
      })
      (subst (Shows m) (sym whole) shows)

  -- what is shown where the place's index has a property is shown at each
  pub leaves : {new : ℕ → List Block} (P : ℕ → Type 0) → (i : ℕ) × StandsAt bs at i × P i
      → ((i : ℕ) → StandsAt bs at i → P i → ReadsAs v (new i)) → Leaves v bs at new
  leaves P found each = record {
    blocks = λ i stands. (each i stands (at_index shows P found stands)).0;
    shows = (each found.0 found.1 found.2).1;
  }

-- the header behind a block says where it begins
pub next_same : {m : Image} {bs : List Block} (shows : Shows m bs) {at i : ℕ} (stands : StandsAt bs at i) → at + size_of (block_at bs i) < length m.words
    → word_at m (at + size_of (block_at bs i)) ≡ with_back (word_at m (at + size_of (block_at bs i))) at
unfolding with_back
next_same {m = m} {bs = bs} shows {at = at} {i = i} stands inside = elim (cases_lt (i + 1) (length bs)) [
  | inl more ↦
      let word = word_at m (at + size_of (block_at bs i)) in
      sym (tag_word-fields word) ∙ ap (tag_word (size_in word) (last_in word) (free_in word)) ((says_here shows (stands_next stands more)).before ∙ back_next stands)
  | inr none ↦ absurd (omega (arith, ends_last shows.whole stands none))
]

-- the words of one block become those of another of its size
pub record Changes (m v : Image) (at : ℕ) (old new : Block) : Type 0 where
  pub size : size_of new ≡ size_of old
  pub room : HasRoom new
  pub tag : word_at v at ≡ tag_word (size_in (word_at m at)) (last_in (word_at m at)) (is_free new) (back_in (word_at m at))
  pub mark : word_at v (at + 1) ≡ mark_of new
  pub payload : HoldsPayload v.words at new
  pub before : (k : ℕ) → k < at → word_at v k ≡ word_at m k
  pub behind : (k : ℕ) → at + size_of old ≤ k → word_at v k ≡ word_at m k
  pub length : length v.words ≡ length m.words
  pub starts : v.starts ≡ m.starts

module _ {m v : Image} {bs : List Block} (shows : Shows m bs) {at i : ℕ} (stands : StandsAt bs at i) (new : Block) (changes : Changes m v at (block_at bs i) new) where
  -- the block that its words show
  shown_changed : BlockAt v at (back_behind 0 nowhere (take i bs)) new
  shown_changed =
      let says = says_here shows stands in
      record {
        tag = changes.tag ∙ rw (says.size, says.last, says.before, changes.size, changes.length) refl;
        mark = changes.mark;
        payload = changes.payload;
        starts = rw (changes.starts, changes.size) says.starts;
      }

  pub one_changed : ReadsAs v (take i bs ++ (new ∷ []) ++ drop (i + 1) bs)
  one_changed =
      let says = says_here shows stands in
      let keeps : Keeps m v at (at + size_of (block_at bs i)) at at (start_at m at) = record {
        before = changes.before;
        behind = λ k l. changes.behind k (omega arith);
        next = λ l. changes.behind (at + size_of (block_at bs i)) (omega arith) ∙ next_same shows stands l;
        length = changes.length;
        starts = changes.starts ∙ sym (set-get_or m.starts at false);
      } in
      edited shows stands (block_at bs i ∷ []) (new ∷ []) (drop (i + 1) bs) (around bs i stands.within) keeps (record {
        some = omega arith;
        as_many = omega (arith, changes.size);
        rooms = (changes.room, tt);
        ends = omega arith;
        from = omega arith;
        below = omega arith;
        shown = (shown_changed, tt);
      })
