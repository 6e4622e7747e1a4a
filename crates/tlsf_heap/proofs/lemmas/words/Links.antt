-- The free lists of a region, and what an edit of its words leaves of them.
use Rattle.tlsf_heap.proofs.Common.{◌≡◌, ◌≢◌, ℕ, suc, zero, ◌+◌, ◌<◌, ◌≤◌, ◌⊎◌, inl, inr, Bool, true, List, [], ◌∷◌, ◌++◌, length, take, get_or, refl, sym, ap, ◌∙◌, subst, arith, append_assoc, ◌==◌, Contains, AllByRecursion, false≢true, cases_eq, cases_lt, cases_order, classes, Extents, tag_word, Image, HoldsPayload, StartsOnce, BlockAt, ShowsFrom, Shows, ListHeads, nowhere, places_from, list_of, without_place, LinkedFrom, AreThreaded, OnlyLinksChange, Block, Live, Free, size_of, words_in, is_free, StandsAt, block_at, blocks_of, HasRoom, AreMarked, RegionState, SameLists, AreUnlisted, AreLinked, list_in}
use Rattle.std.proofs.Math.ListN.{get_or-map}
use Rattle.tlsf_words.proofs.ListedClasses.{are_some, some-cons}
use Rattle.tlsf_words.proofs.PlaceLists.{member_cases, without_within}
use Rattle.tlsf_words.proofs.Threads.{kept}
use Rattle.tlsf_heap.specs.Listed.{AreFreeBlocks, lists_of, HoldsLists}
use Rattle.tlsf_heap.proofs.lemmas.lists.FreeLists.{from_filter, to_filter}
use Rattle.tlsf_heap.proofs.lemmas.blocks.Order.{ends_before}
use Rattle.tlsf_heap.proofs.lemmas.words.Image.{Replaces, word_at, least, same_payload, four_here, blocks_of-shown, blocks_replaced}
use Rattle.tlsf_heap.proofs.lemmas.blocks.Lawful.{all_left, all_right}

-- ---- the lists of all classes

-- the list of a class is that which begins at its head
pub list_in-lists_of : (heads words : List ℕ) (class : ℕ) → list_in (lists_of heads words) class ≡ list_of heads words class
unfolding lists_of list_of places_from
list_in-lists_of heads words class = get_or-map (places_from (suc (length words)) words) heads class nowhere

-- the links of a region that holds lists thread them
pub linked_lists : (sli : ℕ) (m : Image) (l : ListHeads) → HoldsLists sli m l → AreLinked (list_in (lists_of l.heads m.words)) m.words
linked_lists sli m l holds class = subst (LinkedFrom m.words nowhere) (sym (list_in-lists_of l.heads m.words class)) (holds.threaded.linked class)

-- and its bits mark them
pub marked_lists : (sli : ℕ) (m : Image) (l : ListHeads) → HoldsLists sli m l → AreMarked l.members (list_in (lists_of l.heads m.words))
marked_lists sli m l holds class =
    let lists = list_of l.heads m.words in
    let some : ℕ → Bool = λ other. are_some (lists other) in
    let here = list_in-lists_of l.heads m.words class in (
      λ listed none.
          let full = (from_filter some (classes sli) class (subst (λ (members : List ℕ). Contains members class) holds.threaded.marked listed)).1 in
          false≢true (sym (ap are_some (sym here ∙ none)) ∙ full),
      λ full.
          let filled : ¬ (lists class ≡ []) = λ none. full (here ∙ none) in
          subst (λ (members : List ℕ). Contains members class) (sym holds.threaded.marked)
          (to_filter some (classes sli) class (holds.threaded.in_use class filled) (are_filled (lists class) filled)),
    )
  where
    are_filled : (places : List ℕ) → ¬ (places ≡ []) → are_some places ≡ true
    are_filled [] full = absurd (full refl)
    are_filled (at ∷ places) full = some-cons at places

-- the words of a region hold the blocks and the lists that it shows
pub record HoldsState (sli : ℕ) (m : Image) (l : ListHeads) (r : RegionState) : Type 0 where
  pub shows : Shows m r.blocks
  pub threaded : AreThreaded sli l.heads l.members m.words
  pub free : AreFreeBlocks (list_of l.heads m.words) r.blocks
  pub lists : (class : ℕ) → list_in r.lists class ≡ list_of l.heads m.words class

pub holds_state : (sli : ℕ) {m : Image} {l : ListHeads} {r : RegionState} {extents : Extents} {touches : ℕ} {touched : List ℕ} → HoldsLists sli m l
    → record { words = length m.words; blocks = blocks_of m.words; lists = lists_of l.heads m.words; marked = l.members; stored = m; extents = extents; touches = touches; touched = touched } ≡ r → HoldsState sli m l r
holds_state sli {m = m} {l = l} holds same =
    subst (HoldsState sli m l) same (record { shows = holds.shows; threaded = holds.threaded; free = holds.free; lists = list_in-lists_of l.heads m.words })

-- ---- places of free blocks

-- a free block begins at a place
abbrev pub IsFreeAt : List Block → ℕ → Type 0
IsFreeAt bs at = (i : ℕ) × StandsAt bs at i × (is_free (block_at bs i) ≡ true)

-- behind one more block
free_in_rest : (b : Block) (bs : List Block) (at : ℕ) → IsFreeAt bs at → IsFreeAt (b ∷ bs) (size_of b + at)
free_in_rest b bs at h = (suc h.0, record { within = omega (arith, h.1.within); place = ap (λ (n : ℕ). size_of b + n) h.1.place }, h.2)

free_first : (b : Block) (bs : List Block) → is_free b ≡ true → IsFreeAt (b ∷ bs) 0
free_first b bs free = (0, record { within = omega arith; place = refl }, free)

-- the first block, or one of the others
free_cases : (b : Block) (bs : List Block) (at : ℕ) → IsFreeAt (b ∷ bs) at → ((at ≡ 0) × (is_free b ≡ true)) ⊎ ((q : ℕ) × (at ≡ size_of b + q) × IsFreeAt bs q)
free_cases b bs at (zero, stands, free) = inl (sym stands.place, free)
free_cases b bs at (suc i, stands, free) =
    inr (words_in (take i bs), sym stands.place, (i, record { within = omega (arith, stands.within); place = refl }, free))

-- a place in the first of two lists, or behind it
free_parts : (xs ys : List Block) (at : ℕ) → IsFreeAt (xs ++ ys) at → IsFreeAt xs at ⊎ ((q : ℕ) × (at ≡ words_in xs + q) × IsFreeAt ys q)
free_parts [] ys at h = inr (at, omega arith, h)
free_parts (x ∷ xs) ys at h = elim (free_cases x (xs ++ ys) at h) [
  | inl here ↦ inl (subst (IsFreeAt (x ∷ xs)) (sym here.0) (free_first x xs here.1))
  | inr more ↦ elim (free_parts xs ys more.0 more.2) [
    | inl left ↦ inl (subst (IsFreeAt (x ∷ xs)) (sym more.1) (free_in_rest x xs more.0 left))
    | inr right ↦ inr (right.0, omega (arith, more.1, right.1), right.2)
  ]
]

free_left : (xs ys : List Block) (at : ℕ) → IsFreeAt xs at → IsFreeAt (xs ++ ys) at
free_left [] ys at (i, stands, free) = absurd (omega (arith, stands.within))
free_left (x ∷ xs) ys at h = elim (free_cases x xs at h) [
  | inl here ↦ subst (IsFreeAt (x ∷ xs ++ ys)) (sym here.0) (free_first x (xs ++ ys) here.1)
  | inr more ↦ subst (IsFreeAt (x ∷ xs ++ ys)) (sym more.1) (free_in_rest x (xs ++ ys) more.0 (free_left xs ys more.0 more.2))
]

free_right : (xs ys : List Block) (at q : ℕ) → at ≡ words_in xs + q → IsFreeAt ys q → IsFreeAt (xs ++ ys) at
free_right [] ys at q e h = subst (IsFreeAt ys) (let same : q ≡ at = omega arith in same) h
free_right (x ∷ xs) ys at q e h =
    let same : size_of x + (words_in xs + q) ≡ at = omega arith in
    subst (IsFreeAt (x ∷ xs ++ ys)) same (free_in_rest x (xs ++ ys) (words_in xs + q) (free_right xs ys (words_in xs + q) q refl h))

-- where some blocks become others of equally many words, a free block stays where the others have it too
free_replaced : (front old new after : List Block) (at : ℕ) → words_in new ≡ words_in old → ((q : ℕ) → at ≡ words_in front + q → IsFreeAt old q → IsFreeAt new q)
    → IsFreeAt (front ++ (old ++ after)) at → IsFreeAt (front ++ (new ++ after)) at
free_replaced front old new after at as_many stays h = elim (free_parts front (old ++ after) at h) [
  | inl before ↦ free_left front (new ++ after) at before
  | inr here ↦ free_right front (new ++ after) at here.0 here.1 (elim (free_parts old after here.0 here.2) [
    | inl inside ↦ free_left new after here.0 (stays here.0 here.1 inside)
    | inr behind ↦ free_right new after here.0 behind.0 (omega (arith, behind.1)) behind.2
  ])
]

-- a free block among others has four of their words
four_within : (bs : List Block) → AllByRecursion HasRoom bs → (at : ℕ) → IsFreeAt bs at → at + 4 ≤ words_in bs
four_within [] rooms at h = absurd (omega (arith, h.1.within))
four_within (b ∷ bs) rooms at h = elim (free_cases b bs at h) [
  | inl here ↦ omega (arith, here.0, least b rooms.0)
  | inr more ↦ omega (arith, more.1, four_within bs rooms.1 more.0 more.2)
]

-- of one block, its place alone
pub only_first : (b : Block) (q : ℕ) → IsFreeAt (b ∷ []) q → (q ≡ 0) × (is_free b ≡ true)
only_first b q h = elim (free_cases b [] q h) [
  | inl here ↦ here
  | inr more ↦ absurd (omega (arith, more.2.1.within))
]

-- a free block alone has its place
pub free_only : (b : Block) (q : ℕ) → q ≡ 0 → is_free b ≡ true → IsFreeAt (b ∷ []) q
free_only b q e free = subst (IsFreeAt (b ∷ [])) (sym e) (free_first b [] free)

-- ---- blocks in their order

-- of two blocks one ends where the other begins or before, and each has four words
pub in_order : {m : Image} {bs : List Block} → Shows m bs → {at i other j : ℕ} → StandsAt bs at i → StandsAt bs other j
    → (other ≡ at) ⊎ ((other + 4 ≤ at) ⊎ (at + size_of (block_at bs i) ≤ other))
in_order {m = m} {bs = bs} shows {at = at} {i = i} {other = other} {j = j} here there = elim (cases_order j i) [
  | inl e ↦ inl (sym there.place ∙ ap (λ (k : ℕ). words_in (take k bs)) e ∙ here.place)
  | inr (inl below) ↦ inr (inl (omega (arith, ends_before bs j i below here.within, four_here m bs shows other j there, here.place, there.place)))
  | inr (inr above) ↦ inr (inr (omega (arith, ends_before bs i j above there.within, here.place, there.place)))
]

-- ---- edits

-- a place in a list
abbrev pub IsListed : (ℕ → List ℕ) → ℕ → Type 0
IsListed lists at = (class : ℕ) × Contains (lists class) at

-- the words hold the lists, and each class has the list that it had
pub record Relists (sli : ℕ) (v : Image) (l : ListHeads) (lists : List (List ℕ)) : Type 0 where
  pub holds : HoldsLists sli v l
  pub same : SameLists (list_in (lists_of l.heads v.words)) (list_in lists)

module _ (sli : ℕ) {m : Image} {l : ListHeads} {r : RegionState} (state : HoldsState sli m l r) (v : Image) where
  -- lists stay where an edit keeps the links of listed places, and the blocks there free
  pub relisted : Shows v (blocks_of v.words) → length v.words ≡ length m.words
      → ((at : ℕ) → IsListed (list_in r.lists) at → IsFreeAt r.blocks at → (word_at v (at + 2) ≡ word_at m (at + 2)) × IsFreeAt (blocks_of v.words) at)
      → Relists sli v l r.lists
  relisted shows as_long keeps =
      let listed = λ (class at : ℕ) (c : Contains (list_of l.heads m.words class) at). keeps at (class, subst (λ (places : List ℕ). Contains places at) (sym (state.lists class)) c) (state.free class at c) in
      let all = kept sli l.heads l.members m.words v.words state.threaded as_long (λ class at c. (listed class at c).0) in
      record {
        holds = record {
          shows = shows;
          threaded = all.0;
          free = λ class at c. (listed class at (subst (λ (places : List ℕ). Contains places at) (all.1 class) c)).1;
        };
        same = λ class. list_in-lists_of l.heads v.words class ∙ all.1 class ∙ sym (state.lists class);
      }

  -- the blocks of an edit at a place
  pub free_edited : {at i : ℕ} → StandsAt r.blocks at i → (old new after : List Block) → take i r.blocks ++ old ++ after ≡ r.blocks → blocks_of v.words ≡ take i r.blocks ++ new ++ after
      → words_in new ≡ words_in old → (other : ℕ) → ((q : ℕ) → other ≡ at + q → IsFreeAt old q → IsFreeAt new q) → IsFreeAt r.blocks other → IsFreeAt (blocks_of v.words) other
  free_edited {at = at} {i = i} stands old new after whole blocks as_many other stays h =
      subst (λ (bs : List Block). IsFreeAt bs other) (sym (blocks ∙ append_assoc (take i r.blocks) new after))
      (free_replaced (take i r.blocks) old new after other as_many (λ q e inside. stays q (omega (arith, e, stands.place)) inside)
      (subst (λ (bs : List Block). IsFreeAt bs other) (sym whole ∙ append_assoc (take i r.blocks) old after) h))

-- words show these blocks, and each class has the list that it had
pub record Reshapes (sli : ℕ) (v : Image) (l : ListHeads) (left : List Block) (lists : List (List ℕ)) : Type 0 where
  pub blocks : blocks_of v.words ≡ left
  pub holds : HoldsLists sli v l
  pub same : SameLists (list_in (lists_of l.heads v.words)) (list_in lists)

-- where the first of some blocks is listed, it keeps its links, and the first of those that they become is free
abbrev pub KeepsFirst : (ℕ → List ℕ) → ℕ → Image → Image → List Block → Type 0
KeepsFirst lists at m v new = IsListed lists at → (word_at v (at + 2) ≡ word_at m (at + 2)) × IsFreeAt new 0

-- lists stay where blocks in whose words no other listed place is become others
pub reshaped_first : (sli : ℕ) {m : Image} {l : ListHeads} {r : RegionState} → HoldsState sli m l r → (v : Image) → (front old new after : List Block) → front ++ old ++ after ≡ r.blocks → Replaces m v front old new
    → KeepsFirst (list_in r.lists) (words_in front) m v new → AreUnlisted (list_in r.lists) (words_in front + 1) (words_in front + words_in old) → Reshapes sli v l (front ++ new ++ after) r.lists
reshaped_first sli {m = m} {l = l} {r = r} state v front old new after whole replaces first unlisted =
    let parts : front ++ (old ++ after) ≡ r.blocks = sym (append_assoc front old after) ∙ whole in
    let shown = blocks_replaced m v front old new after replaces (subst (Shows m) (sym whole) state.shows) in
    let rooms = subst (AllByRecursion HasRoom) (sym parts) state.shows.rooms in
    let front_rooms = all_left HasRoom front (old ++ after) rooms in
    let old_rooms = all_left HasRoom old after (all_right HasRoom front (old ++ after) rooms) in
    let left : (at : ℕ) → IsFreeAt (front ++ (new ++ after)) at → IsFreeAt (blocks_of v.words) at = λ at h. subst (λ (bs : List Block). IsFreeAt bs at) (sym (shown.0 ∙ append_assoc front new after)) h in
    let begins : (at : ℕ) → IsListed (list_in r.lists) at → at ≡ words_in front → (word_at v (at + 2) ≡ word_at m (at + 2)) × IsFreeAt (blocks_of v.words) at = λ at listed e.
    let kept = first (subst (IsListed (list_in r.lists)) e listed) in
    (subst (λ (k : ℕ). word_at v (k + 2) ≡ word_at m (k + 2)) (sym e) kept.0, left at (free_right front (new ++ after) at 0 (omega (arith, e)) (free_left new after 0 kept.1))) in
    let relists : Relists sli v l r.lists = relisted sli state v shown.1 replaces.as_long (λ at listed h.
    elim (free_parts front (old ++ after) at (subst (λ (bs : List Block). IsFreeAt bs at) (sym parts) h)) [
      | inl ahead ↦ let four = four_within front front_rooms at ahead in (replaces.before (at + 2) (omega arith), left at (free_left front (new ++ after) at ahead))
      | inr here ↦ elim (free_parts old after here.0 here.2) [
        | inl inside ↦ elim (cases_lt 0 here.0) [
          | inl some ↦ absurd (unlisted at (omega (arith, here.1, some)) (omega (arith, here.1, four_within old old_rooms here.0 inside)) listed.0 listed.1)
          | inr none ↦ begins at listed (omega (arith, here.1, none))
        ]
        | inr behind ↦ (
          replaces.behind (at + 2) (omega (arith, here.1, behind.1)),
          left at (free_right front (new ++ after) at here.0 here.1 (free_right new after here.0 behind.0 (omega (arith, behind.1, replaces.as_many)) behind.2)),
        )
      ]
    ]) in
    record { blocks = shown.0; holds = relists.holds; same = relists.same }

some_words : (bs : List Block) → AllByRecursion HasRoom bs → 0 < length bs → 0 < words_in bs
some_words [] rooms some = absurd (omega (arith, some))
some_words (b ∷ bs) rooms some = omega (arith, least b rooms.0)

-- so they do where no listed place is
pub reshaped : (sli : ℕ) {m : Image} {l : ListHeads} {r : RegionState} → HoldsState sli m l r → (v : Image) → (front old new after : List Block) → front ++ old ++ after ≡ r.blocks → Replaces m v front old new
    → AreUnlisted (list_in r.lists) (words_in front) (words_in front + words_in old) → Reshapes sli v l (front ++ new ++ after) r.lists
reshaped sli {m = m} {l = l} {r = r} state v front old new after whole replaces unlisted =
    let rooms = subst (AllByRecursion HasRoom) (sym (sym (append_assoc front old after) ∙ whole)) state.shows.rooms in
    let some = some_words old (all_left HasRoom old after (all_right HasRoom front (old ++ after) rooms)) replaces.some in
    reshaped_first sli state v front old new after whole replaces
    (λ listed. absurd (unlisted (words_in front) (omega arith) (omega (arith, some)) listed.0 listed.1))
    (λ k low high. unlisted k (omega (arith, low)) high)

-- ---- other links

-- a payload is none but of a live block, whose words stay
payload_linked : (xs ys : List ℕ) (at : ℕ) (b : Block) → HasRoom b → ((k : ℕ) → at ≤ k → k < at + size_of b → (is_free b ≡ true → k ≢ at + 2) → get_or ys k 0 ≡ get_or xs k 0)
    → HoldsPayload xs at b → HoldsPayload ys at b
payload_linked xs ys at (Live size serial bytes) room same h =
    same_payload xs ys at (Live size serial bytes) room (λ k l g. same k (omega arith) g (λ free. absurd (false≢true free))) h
payload_linked xs ys at (Free size stamp) room same h = tt

module _ (m v : Image) (as_long : length v.words ≡ length m.words) (same_starts : v.starts ≡ m.starts) where
  block_linked : (at back : ℕ) (b : Block) → HasRoom b → ((k : ℕ) → at ≤ k → k < at + size_of b → (is_free b ≡ true → k ≢ at + 2) → word_at v k ≡ word_at m k)
      → BlockAt m at back b → BlockAt v at back b
  block_linked at back b room same h =
      let four = least b room in
      record {
        tag = same at (omega arith) (omega arith) (λ free. omega arith) ∙ h.tag ∙ ap (λ (n : ℕ). tag_word (size_of b) (at + size_of b == n) (is_free b) back) (sym as_long);
        mark = same (at + 1) (omega arith) (omega arith) (λ free. omega arith) ∙ h.mark;
        payload = payload_linked m.words v.words at b room same h.payload;
        starts = subst (λ (starts : List Bool). StartsOnce starts at (size_of b)) (sym same_starts) h.starts;
      }

  from_linked : (at back : ℕ) (bs : List Block) → AllByRecursion HasRoom bs
      → ((k : ℕ) → at ≤ k → k < at + words_in bs → ((q : ℕ) → k ≡ at + q + 2 → ¬ (IsFreeAt bs q)) → word_at v k ≡ word_at m k) → ShowsFrom m at back bs → ShowsFrom v at back bs
  from_linked at back [] rooms same h = tt
  from_linked at back (b ∷ bs) rooms same h =
      let four = least b rooms.0 in (
        block_linked at back b rooms.0 (λ k low high apart. same k low (omega arith) (λ q e free. elim (free_cases b bs q free) [
          | inl here ↦ apart here.1 (omega (arith, e, here.0))
          | inr more ↦ absurd (omega (arith, e, more.1))
        ])) h.0,
        from_linked (at + size_of b) at bs rooms.1 (λ k low high apart. same k (omega arith) (omega arith) (λ q e free. elim (free_cases b bs q free) [
          | inl here ↦ absurd (omega (arith, e, here.0))
          | inr more ↦ apart more.0 (omega (arith, e, more.1)) more.2
        ])) h.1,
      )

  -- the links of free blocks may change
  pub shows_linked : (bs : List Block) → Shows m bs → ((k : ℕ) → ((at : ℕ) → IsFreeAt bs at → k ≢ at + 2) → word_at v k ≡ word_at m k) → Shows v bs
  shows_linked bs shows same = record {
    shown = from_linked 0 nowhere bs shows.rooms (λ k low high apart. same k (λ at free e. apart at (omega (arith, e)) free)) shows.shown;
    whole = shows.whole ∙ sym as_long;
    mapped = ap length same_starts ∙ shows.mapped ∙ sym as_long;
    rooms = shows.rooms;
    small = omega (arith, shows.small);
  }

-- where only links of listed places change, the blocks stay
pub record Relinks (sli : ℕ) (v : Image) (l : ListHeads) (blocks : List Block) : Type 0 where
  pub holds : HoldsLists sli v l
  pub same : blocks_of v.words ≡ blocks

pub relinked : (sli : ℕ) {m v : Image} {l new : ListHeads} {r : RegionState} → HoldsState sli m l r → AreThreaded sli new.heads new.members v.words → AreFreeBlocks (list_of new.heads v.words) r.blocks
    → OnlyLinksChange (list_of new.heads v.words) m.words v.words → length v.words ≡ length m.words → v.starts ≡ m.starts → Relinks sli v new r.blocks
relinked sli {m = m} {v = v} {l = l} {new = new} {r = r} state threaded free links as_long starts =
    let shown = shows_linked m v as_long starts r.blocks state.shows (λ k apart. links k (λ class at c. apart at (free class at c))) in
    let read = blocks_of-shown v r.blocks shown in
    record {
      holds = record {
        shows = subst (Shows v) (sym read) shown;
        threaded = threaded;
        free = subst (AreFreeBlocks (list_of new.heads v.words)) (sym read) free;
      };
      same = read;
    }

-- ---- one more place, and one less

module _ (sli : ℕ) {m : Image} {l : ListHeads} {r : RegionState} (state : HoldsState sli m l r) (v : Image) (new : ListHeads) (class at : ℕ)
    (others : (other : ℕ) → other ≢ class → list_of new.heads v.words other ≡ list_of l.heads m.words other) where
  -- what is in the list of a class, where that of another class is what it was
  free_there : (other place : ℕ) → ((Contains (list_of new.heads v.words class) place) → IsFreeAt r.blocks place) → Contains (list_of new.heads v.words other) place → IsFreeAt r.blocks place
  free_there other place here c = elim (cases_eq other class) [
    | inl e ↦ here (subst (λ (k : ℕ). Contains (list_of new.heads v.words k) place) e c)
    | inr n ↦ state.free other place (subst (λ (places : List ℕ). Contains places place) (others other n) c)
  ]

  pub free_pushed : IsFreeAt r.blocks at → list_of new.heads v.words class ≡ at ∷ list_of l.heads m.words class → AreFreeBlocks (list_of new.heads v.words) r.blocks
  free_pushed here list other place c =
      free_there other place (λ d. elim (member_cases at (list_of l.heads m.words class) place (subst (λ (places : List ℕ). Contains places place) list d)) [
        | inl e ↦ subst (IsFreeAt r.blocks) e here
        | inr old ↦ state.free class place old
      ]) c

  pub free_removed : list_of new.heads v.words class ≡ without_place at (list_of l.heads m.words class) → AreFreeBlocks (list_of new.heads v.words) r.blocks
  free_removed list other place c =
      free_there other place (λ d. state.free class place (without_within at (list_of l.heads m.words class) place (subst (λ (places : List ℕ). Contains places place) list d))) c
