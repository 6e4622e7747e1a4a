-- The lists of the free blocks when a live block becomes one with its free neighbours.
use Rattle.tlsf_heap.proofs.Common.{◌≡◌, ◌≢◌, ℕ, zero, suc, ◌+◌, ◌-◌, ◌<◌, ◌≤◌, ◌^◌, true, false, List, [], ◌∷◌, ◌++◌, length, take, drop, refl, sym, ap, ◌∙◌, subst, arith, append_assoc, Contains, false≢true, class_of, Block, Live, Free, size_of, words_in, is_free, StandsAt, IsRegion, RegionState, AreRegions, AwaitsTick, AreTagsAround, AreUnlisted, EachAt, SameLists, TakenOut, IsWithout, IsTagOf, IsNextTag, list_in, withheld, block_at, site_at, without_place, Tag, coalesced, first_free, past_free, last_free, before_free, FreePlace, free_places, AreFreeLists, most_words}
use Rattle.tlsf_class.proofs.TwoLevels.{most_words_any}
use Rattle.tlsf_heap.proofs.lemmas.blocks.Replace.{first_free-words}
use Rattle.tlsf_heap.proofs.lemmas.lists.FreeLists.{AreListed, IsFresh, fresh_both, contains_own, not_listed, same_lists, taken, given}
use Rattle.tlsf_heap.proofs.lemmas.blocks.Around.{Around, around, around_first, around_last, one_index, block_around, stands_around, words_around, region_around, regions_front, regions_back, next_is, next_none, last_is, last_none, last_words, past_regions, before_regions, place, places_behind, fresh_front, fresh_back, ArePast, past_around, newest, past_past, before_past}

-- ---- a free block that is taken out of the list of its class where there is one

-- what taking out a block ensures, where there is one: not where the size is 0
pub record Forgets (sli size at : ℕ) (old new : ℕ → List ℕ) : Type 0 where
  pub out : 0 < size → new (class_of sli size) ≡ without_place at (old (class_of sli size))
  pub others : (other : ℕ) → other ≢ class_of sli size → new other ≡ old other
  pub none : size ≡ 0 → SameLists new old

-- a free block that was taken out, and where there is none to take
pub taken_out : (sli : ℕ) {size to class at : ℕ} {old new : ℕ → List ℕ} → 0 < size → class ≡ class_of sli size → to ≡ at → new class ≡ without_place to (old class) → ((other : ℕ) → other ≢ class → new other ≡ old other)
    → Forgets sli size at old new
taken_out sli some is_class same list others = record {
  out = λ h. rw (sym is_class, sym same) list;
  others = rw (sym is_class) others;
  none = λ e. absurd (omega (arith, some, e));
}

pub nothing_out : (sli : ℕ) {size at : ℕ} {old : ℕ → List ℕ} → size ≡ 0 → Forgets sli size at old old
nothing_out sli none = record { out = λ h. absurd (omega (arith, none, h)); others = λ other n. refl; none = λ e class. refl }

forgotten : (sli : ℕ) {size at : ℕ} {old new : ℕ → List ℕ} → Forgets sli size at old new → (front back : List FreePlace) → (0 < size → IsFresh at (front ++ back))
    → (0 < size → (stamp : ℕ) × AreListed (front ++ place sli size at stamp ∷ back) old) → (size ≡ 0 → AreListed (front ++ back) old) → AreListed (front ++ back) new
forgotten sli {size = size} {at = at} {old = old} {new = new} f front back fresh some kept =
    by_size size
    (λ h. let listed = some h in taken (place sli size at listed.0) front back old new f.others (fresh h) (f.out h) listed.1)
    (λ e. same_lists (front ++ back) old new (f.none e) (kept e))
  where
    by_size : (n : ℕ) → (0 < n → AreListed (front ++ back) new) → (n ≡ 0 → AreListed (front ++ back) new) → AreListed (front ++ back) new
    by_size zero more none = none refl
    by_size (suc n) more none = more (omega arith)

-- ---- a live block between its neighbours

-- a live block begins at a place, its free neighbours have these sizes, and these are the lists of the free blocks, all past
pub record IsBetween (sli : ℕ) (bs : List Block) (at i before size after tick : ℕ) (lists : ℕ → List ℕ) : Type 0 where
  pub stands : StandsAt bs at i
  pub live : is_free (block_at bs i) ≡ false
  pub sized : AreRegions sli bs
  pub is_size : size ≡ size_of (block_at bs i)
  pub is_before : before ≡ last_free (take i bs)
  pub is_after : after ≡ first_free (drop (suc i) bs)
  pub past : ArePast tick bs
  pub listed : AreFreeLists sli bs lists

pub is_between : (sli : ℕ) {r : RegionState} {at tick : ℕ} → (live : (i : ℕ) × StandsAt r.blocks at i × (is_free (block_at r.blocks i) ≡ false)) → AwaitsTick sli tick r
    → IsBetween sli r.blocks at live.0 (last_free (take live.0 r.blocks)) (size_of (block_at r.blocks live.0)) (first_free (drop (suc live.0) r.blocks)) tick (list_in r.lists)
is_between sli live region = record {
  stands = live.1;
  live = live.2;
  sized = region.order.sized;
  is_size = refl;
  is_before = refl;
  is_after = refl;
  past = region.stamped;
  listed = region.order.listed;
}

live_places : (sli at : ℕ) (b : Block) (back : List Block) → is_free b ≡ false → free_places sli at (b ∷ back) ≡ free_places sli (at + size_of b) back
live_places sli at (Live m s xs) back e = refl
live_places sli at (Free m s) back e = absurd (false≢true (sym e))

-- the blocks behind one, whose first may be free
next_places : (sli : ℕ) (back : List Block) (at : ℕ) → (h : 0 < first_free back) → free_places sli at back ≡ place sli (first_free back) at (next_is back h).0 ∷ free_places sli (at + first_free back) (past_free back)
next_places sli back at h = ap (free_places sli at) (next_is back h).1

next_no_places : (sli : ℕ) (back : List Block) (at : ℕ) → AreRegions sli back → first_free back ≡ 0 → free_places sli at back ≡ free_places sli (at + first_free back) (past_free back)
next_no_places sli back at sized e =
    let same : at ≡ at + first_free back = omega (arith, e) in
    ap (λ (n : ℕ). free_places sli n back) same ∙ ap (free_places sli (at + first_free back)) (sym (next_none sli back sized e))

-- the blocks before one, whose last may be free
last_places : (sli : ℕ) (front : List Block) (at : ℕ) → words_in front ≡ at → (h : 0 < last_free front)
    → free_places sli 0 front ≡ free_places sli 0 (before_free front) ++ place sli (last_free front) (at - last_free front) (last_is front h).0 ∷ []
last_places sli front at e h =
    let begins : words_in (before_free front) ≡ at - last_free front = omega (arith, last_words front, e) in
    ap (free_places sli 0) (last_is front h).1 ∙ places_behind sli (before_free front) (Free (last_free front) (last_is front h).0 ∷ []) (at - last_free front) begins

module _ (sli : ℕ) {bs : List Block} {at i before size after tick : ℕ} {lists : ℕ → List ℕ} (f : IsBetween sli bs at i before size after tick lists) where
  abbrev front : List Block
  front = take i bs

  abbrev back : List Block
  back = drop (suc i) bs

  pub between : Around bs at i front (block_at bs i) back
  between = around bs at i f.stands

  pub size_region : IsRegion sli size
  size_region = subst (IsRegion sli) (sym f.is_size) (region_around sli between f.sized)

  pub end_within : at + size + after ≤ words_in bs
  end_within = omega (arith, words_around between, f.is_size, f.is_after, first_free-words back)

  pub before_within : before ≤ at
  before_within = omega (arith, f.is_before, last_words front, f.stands.place)

  begins : words_in (before_free front) ≡ at - before
  begins = omega (arith, f.is_before, last_words front, f.stands.place)

  -- the free blocks before the block, and before the free one before it
  abbrev ahead : List FreePlace
  ahead = free_places sli 0 front

  abbrev first : List FreePlace
  first = free_places sli 0 (before_free front)

  -- those behind the block and the free one behind it
  abbrev behind : List FreePlace
  behind = free_places sli (at + size + after) (past_free back)

  pub fresh_behind : (k : ℕ) → k < at + size + after → IsFresh k behind
  fresh_behind k h = fresh_back sli (past_free back) (at + size + after) k (past_regions sli back (regions_back sli between f.sized)) h

  fresh_next : 0 < after → IsFresh (at + size) (ahead ++ behind)
  fresh_next h =
      fresh_both (at + size) ahead behind (fresh_front sli front (at + size) (regions_front sli between f.sized) (omega (arith, f.stands.place))) (fresh_behind (at + size) (omega (arith, h)))

  -- none begins in their words
  fresh_merged : (k : ℕ) → at - before ≤ k → k < at + size + after → IsFresh k (first ++ behind)
  fresh_merged k low high =
      fresh_both k first behind (fresh_front sli (before_free front) k (before_regions sli front (regions_front sli between f.sized)) (omega (arith, begins, low))) (fresh_behind k high)

  listed_between : AreListed (ahead ++ free_places sli (at + size) back) lists
  listed_between =
      subst (λ (l : List FreePlace). AreListed l lists)
      (ap (free_places sli 0) between.is ∙ places_behind sli front (block_at bs i ∷ back) at between.place
      ∙ ap (λ (l : List FreePlace). ahead ++ l) (live_places sli at (block_at bs i) back f.live)
      ∙ ap (λ (n : ℕ). ahead ++ free_places sli (at + n) back) (sym f.is_size)) f.listed

  listed_next : 0 < after → (stamp : ℕ) × AreListed (ahead ++ place sli after (at + size) stamp ∷ behind) lists
  listed_next h =
      let some : 0 < first_free back = omega (arith, h, f.is_after) in (
        (next_is back some).0,
        subst (λ (n : ℕ). AreListed (ahead ++ place sli n (at + size) (next_is back some).0 ∷ free_places sli (at + size + n) (past_free back)) lists) (sym f.is_after)
            (subst (λ (l : List FreePlace). AreListed (ahead ++ l) lists) (next_places sli back (at + size) some) listed_between),
      )

  kept_next : after ≡ 0 → AreListed (ahead ++ behind) lists
  kept_next e =
      subst (λ (n : ℕ). AreListed (ahead ++ free_places sli (at + size + n) (past_free back)) lists) (sym f.is_after)
      (subst (λ (l : List FreePlace). AreListed (ahead ++ l) lists) (next_no_places sli back (at + size) (regions_back sli between f.sized) (omega (arith, e, f.is_after))) listed_between)

  -- where no free block is before it, all blocks there are
  pub none_ahead : last_free front ≡ 0 → before_free front ≡ front
  none_ahead e = last_none sli front (regions_front sli between f.sized) e

  pub next_region : 0 < after → IsRegion sli after
  next_region h = rw f.is_after (region_around sli (around_first between (omega (arith, h, f.is_after))) f.sized)

  pub previous_region : 0 < before → IsRegion sli before
  previous_region h = rw f.is_before (region_around sli (around_last between (omega (arith, h, f.is_before))) f.sized)

  pub contains_next : 0 < after → Contains (lists (class_of sli after)) (at + size)
  contains_next h = let listed = listed_next h in contains_own (place sli after (at + size) listed.0) ahead behind (lists (class_of sli after)) (listed.1 (class_of sli after))

  abbrev total : ℕ
  total = before + size + after

  -- the free blocks, while the block and its neighbours are in no list
  withheld_places : free_places sli 0 (withheld (site_at bs i)) ≡ first ++ behind
  withheld_places =
      let sum : last_free front + size_of (block_at bs i) + first_free back ≡ total = omega (arith, f.is_before, f.is_size, f.is_after) in
      let ends : at - before + total ≡ at + size + after = omega (arith, before_within) in
      ap (λ (n : ℕ). free_places sli 0 (before_free front ++ Live n 0 [] ∷ past_free back)) sum
      ∙ places_behind sli (before_free front) (Live total 0 [] ∷ past_free back) (at - before) begins
      ∙ ap (λ (n : ℕ). first ++ free_places sli n (past_free back)) ends

  -- once the block behind is out
  module _ {left : ℕ → List ℕ} (out : Forgets sli after (at + size) lists left) where
    pub left_next : AreListed (ahead ++ behind) left
    left_next = forgotten sli out ahead behind fresh_next listed_next kept_next

    listed_previous : 0 < before → (stamp : ℕ) × AreListed (first ++ place sli before (at - before) stamp ∷ behind) left
    listed_previous h =
        let some : 0 < last_free front = omega (arith, h, f.is_before) in
        let stamp = (last_is front some).0 in (
          stamp,
          subst (λ (n : ℕ). AreListed (first ++ place sli n (at - n) stamp ∷ behind) left) (sym f.is_before)
              (subst (λ (l : List FreePlace). AreListed l left)
              (ap (λ (l : List FreePlace). l ++ behind) (last_places sli front at f.stands.place some)
              ∙ append_assoc first (place sli (last_free front) (at - last_free front) stamp ∷ []) behind) left_next),
        )

    kept_previous : before ≡ 0 → AreListed (first ++ behind) left
    kept_previous e =
        subst (λ (l : List Block). AreListed (free_places sli 0 l ++ behind) left) (sym (last_none sli front (regions_front sli between f.sized) (omega (arith, e, f.is_before)))) left_next

    pub contains_previous : 0 < before → Contains (left (class_of sli before)) (at - before)
    contains_previous h =
        let listed = listed_previous h in contains_own (place sli before (at - before) listed.0) first behind (left (class_of sli before)) (listed.1 (class_of sli before))

    -- once that before it is out too
    module _ {rest : ℕ → List ℕ} (out_too : Forgets sli before (at - before) left rest) where
      pub rest_listed : AreListed (first ++ behind) rest
      rest_listed = forgotten sli out_too first behind (λ h. fresh_merged (at - before) (omega arith) (omega (arith, size_region.0))) listed_previous kept_previous

      -- the lists are of the other blocks
      pub withheld_listed : {kept : ℕ → List ℕ} → SameLists kept rest → (j : ℕ) → StandsAt bs at j → AreFreeLists sli (withheld (site_at bs j)) kept
      withheld_listed {kept = kept} same j there =
          subst (λ (k : ℕ). AreFreeLists sli (withheld (site_at bs k)) kept) (one_index sli bs at i j f.sized f.stands there)
          (subst (λ (l : List FreePlace). AreListed l kept) (sym withheld_places) (same_lists (first ++ behind) rest kept same rest_listed))

  module _ {rest : ℕ → List ℕ} where
    module _ (others_listed : AreFreeLists sli (withheld (site_at bs i)) rest) where
      listed_others : AreListed (first ++ behind) rest
      listed_others = subst (λ (l : List FreePlace). AreListed l rest) withheld_places others_listed

      -- no place in their words is listed
      pub rest_unlisted : AreUnlisted rest (at - before) (at + size + after)
      rest_unlisted k low high = not_listed (first ++ behind) rest k listed_others (fresh_merged k low high)

      module _ (new : List Block) (is_new : new ≡ coalesced tick (site_at bs i)) where
        is_merged : new ≡ before_free front ++ Free total tick ∷ past_free back
        is_merged =
            let sum : last_free front + size_of (block_at bs i) + first_free back ≡ total = omega (arith, f.is_before, f.is_size, f.is_after) in
            is_new ∙ ap (λ (n : ℕ). before_free front ++ Free n tick ∷ past_free back) sum

        -- the merged block is a free one
        pub merged_free : (j : ℕ) × StandsAt new (at - before) j × (is_free (block_at new j) ≡ true)
        merged_free =
            let a : Around new (at - before) (length (before_free front)) (before_free front) (Free total tick) (past_free back) = record { is = is_merged; before = refl; place = begins } in
            (length (before_free front), stands_around a, ap is_free (block_around a))

        -- and once it is in the list of its class
        pub merged_listed : (class : ℕ) (kept all : ℕ → List ℕ) → class ≡ class_of sli total → SameLists kept rest → all class ≡ (at - before) ∷ kept class → ((other : ℕ) → other ≢ class → all other ≡ kept other) → AreFreeLists sli new all
        merged_listed class kept all is_class stay came others =
            let ends : at + size + after ≡ at - before + total = omega (arith, before_within) in
            let e : FreePlace = record { class = class; at = at - before; stamp = tick } in
            let past = past_around between tick f.past in
            let listed : AreListed (first ++ e ∷ behind) all =
            given e first behind kept all others (newest sli tick (at + size + after) (before_free front) (past_free back) (before_past tick front past.0) (past_past tick back past.1)) came
            (same_lists (first ++ behind) rest kept stay listed_others) in
            subst (λ (l : List FreePlace). AreListed l all) (sym (ap (free_places sli 0) is_merged ∙ places_behind sli (before_free front) (Free total tick ∷ past_free back) (at - before) begins))
            (subst (λ (n : ℕ). AreListed (first ++ place sli total (at - before) tick ∷ free_places sli n (past_free back)) all) ends
            (subst (λ (n : ℕ). AreListed (first ++ record { class = n; at = at - before; stamp = tick } ∷ behind) all) is_class listed))

-- ---- a live block and its neighbours, whose tags were read

pub record Tagged (sli words at tick : ℕ) (bs : List Block) (lists : ℕ → List ℕ) (own next previous : Tag) : Type 0 where
  pub i : ℕ
  pub tags : AreTagsAround words (site_at bs i) own next previous
  pub between : IsBetween sli bs at i (last_free (take i bs)) (size_of (block_at bs i)) (first_free (drop (suc i) bs)) tick lists

pub tagged : (sli : ℕ) {r : RegionState} {at tick : ℕ} {own next previous : Tag} → (live : (i : ℕ) × StandsAt r.blocks at i × (is_free (block_at r.blocks i) ≡ false))
    → EachAt r.blocks at (λ s. AreTagsAround r.words s own next previous) → AwaitsTick sli tick r → Tagged sli r.words at tick r.blocks (list_in r.lists) own next previous
tagged sli live tags region = record { i = live.0; tags = tags live.0 live.1; between = is_between sli live region }

-- where no free block is before it, as with the tag of a live one
abbrev pub live_tag : Tag
live_tag = record { word = 0; size = 0; free = false; last = false; back = 0 }

pub tagged_next : (sli : ℕ) {r : RegionState} {at tick : ℕ} {own next : Tag} → (live : (i : ℕ) × StandsAt r.blocks at i × (is_free (block_at r.blocks i) ≡ false))
    → EachAt r.blocks at (λ s. IsTagOf r.words s own) → EachAt r.blocks at (λ s. IsNextTag r.words s next) → EachAt r.blocks at (λ s. last_free s.before ≡ 0) → AwaitsTick sli tick r
    → Tagged sli r.words at tick r.blocks (list_in r.lists) own next live_tag
tagged_next sli live own next none region =
    tagged sli live
    (λ i stands. record {
      is_own = own i stands;
      is_next = next i stands;
      is_previous = record { live = λ _. none i stands; some = λ e. absurd (false≢true e); size = λ e. absurd (false≢true e); last = λ e. absurd (false≢true e); back = λ e. absurd (false≢true e) };
    })
    region

-- a live block and the free one behind it, whose tags were read
pub record HasBehind (sli words at tick : ℕ) (bs : List Block) (lists : ℕ → List ℕ) (own next : Tag) : Type 0 where
  pub i : ℕ
  pub is_own : IsTagOf words (site_at bs i) own
  pub between : IsBetween sli bs at i (last_free (take i bs)) (size_of (block_at bs i)) (first_free (drop (suc i) bs)) tick lists
  pub some : 0 < first_free (drop (suc i) bs)
  pub size : next.size ≡ first_free (drop (suc i) bs)
  pub within : at + (own.size + next.size) ≤ most_words sli
  pub small : at + (own.size + next.size) ≤ 2 ^ 24

pub has_behind : (sli : ℕ) {r : RegionState} {at tick : ℕ} {own next : Tag} → (live : (i : ℕ) × StandsAt r.blocks at i × (is_free (block_at r.blocks i) ≡ false))
    → EachAt r.blocks at (λ s. IsTagOf r.words s own) → EachAt r.blocks at (λ s. IsNextTag r.words s next) → next.free ≡ true → AwaitsTick sli tick r → HasBehind sli r.words at tick r.blocks (list_in r.lists) own next
has_behind sli live own next free region =
    let is = own live.0 live.1 in
    let behind = next live.0 live.1 in
    let between = is_between sli live region in
    let size = behind.size free in
    record {
      i = live.0;
      is_own = is;
      between = between;
      some = behind.some free;
      size = size;
      within = omega (arith, is.size, size, end_within sli between, region.order.small);
      small = omega (arith, is.size, size, end_within sli between, region.order.small, most_words_any sli);
    }

module _ (sli : ℕ) {words at tick : ℕ} {bs : List Block} {lists : ℕ → List ℕ} {own next previous : Tag} (t : Tagged sli words at tick bs lists own next previous) where
  -- the block before it is free, and its size was read
  module _ (some : previous.free ≡ true) {read : ℕ} (is : read ≡ previous.size) where
    pub ahead_is : read ≡ last_free (take t.i bs)
    ahead_is = is ∙ t.tags.is_previous.size some

    pub ahead_within : read ≤ at
    ahead_within = omega (arith, ahead_is, before_within sli t.between)

    pub ahead_region : IsRegion sli read
    ahead_region = rw ahead_is (previous_region sli t.between (t.tags.is_previous.some some))

    -- it is taken out of its list
    pub ahead_out : {lists left : ℕ → List ℕ} → IsWithout lists (class_of sli read) (at - read) left → Forgets sli (last_free (take t.i bs)) (at - last_free (take t.i bs)) lists left
    ahead_out out = taken_out sli (t.tags.is_previous.some some) (ap (class_of sli) ahead_is) (ap (λ n. at - n) ahead_is) out.out out.others

  -- that after it is
  module _ (some : next.free ≡ true) {read : ℕ} (is : read ≡ next.size) where
    pub behind_is : read ≡ first_free (drop (suc t.i) bs)
    behind_is = is ∙ t.tags.is_next.size some

    pub behind_region : IsRegion sli read
    behind_region = rw behind_is (next_region sli t.between (t.tags.is_next.some some))

    module _ {size : ℕ} (is_own : size ≡ own.size) where
      pub behind_listed : Contains (lists (class_of sli read)) (at + size)
      behind_listed = rw (behind_is, is_own, t.tags.is_own.size) (contains_next sli t.between (t.tags.is_next.some some))

      pub behind_out : {old new : RegionState} {most : ℕ} → TakenOut old new (class_of sli read) (at + size) most
          → Forgets sli (first_free (drop (suc t.i) bs)) (at + size_of (block_at bs t.i)) (list_in old.lists) (list_in new.lists)
      behind_out out = taken_out sli (t.tags.is_next.some some) (ap (class_of sli) behind_is) (ap (λ n. at + n) (is_own ∙ t.tags.is_own.size)) out.list out.others
