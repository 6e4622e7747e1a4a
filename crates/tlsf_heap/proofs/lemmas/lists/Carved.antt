-- A free block that becomes a live one, and the lists of the free blocks.
use Rattle.tlsf_heap.proofs.Common.{◌≡◌, ◌≢◌, ℕ, suc, ◌+◌, ◌-◌, ◌*◌, ◌<◌, ◌≤◌, true, List, [], ◌∷◌, ◌++◌, length, take, drop, Option, Some, None, sym, ap, ◌∙◌, subst, arith, append_assoc, slice_get, Contains, class_of, Block, Live, Free, size_of, words_in, is_free, bytes_of, stamp_of, StandsAt, IsHead, IsRegion, RegionState, AreRegions, AreUnlisted, SameLists, EachAt, HasAt, IsTagOf, Rewrites, PutInFront, TakenOut, list_in, withheld_alone, block_at, site_at, cut, lying, Image, Shows, bytes_in, payload_byte, FreePlace, free_places, AreFreeLists, IsUnlisted, without_place, Tag}
use Rattle.tlsf_heap.proofs.lemmas.lists.FreeLists.{AreListed, IsFresh, fresh_both, contains_own, not_listed, same_lists, unlisted_same, taken, given}
use Rattle.tlsf_heap.proofs.lemmas.words.Recut.{cut_small, cut_large}
use Rattle.tlsf_heap.proofs.lemmas.words.Bytes.{held_bytes}
use Rattle.tlsf_heap.proofs.lemmas.words.Image.{shown_here}
use Rattle.tlsf_heap.specs.CarvedUnset.{CarvedUnset}
use Rattle.tlsf_heap.proofs.lemmas.blocks.Around.{Around, around, around_next, block_around, stands_around, words_around, regions_front, regions_back, region_around, one_index, free_as, places_behind, fresh_front, fresh_back, ArePast, past_around, newest, place}

-- a free block begins at a place, among blocks of sizes that a region may have
pub record IsFreeHere (sli : ℕ) (bs : List Block) (at i : ℕ) : Type 0 where
  pub stands : StandsAt bs at i
  pub free : is_free (block_at bs i) ≡ true
  pub regions : AreRegions sli bs

-- the head of a list is one place
pub head_stands : (sli : ℕ) {bs : List Block} {lists : ℕ → List ℕ} {class at result i : ℕ} → IsHead sli bs lists class at i → slice_get (lists class) 0 ≡ Some result → StandsAt bs result i
head_stands sli {bs = bs} {i = i} head is = subst (λ (k : ℕ). StandsAt bs k i) (ap place (sym head.first ∙ is)) head.stands
  where
    place : Option ℕ → ℕ
    place None = 0
    place (Some at) = at

-- the bytes of a live block lie behind its header
lies_there : {m : Image} {bs front back : List Block} {at i size tick len : ℕ} {bytes : List ℕ} → Shows m bs → Around bs at i front (Live size tick bytes) back → length bytes ≡ len → lying m at len ≡ bytes
lies_there {m = m} {bs = bs} {at = at} {i = i} {bytes = bytes} shows a many =
    let from : payload_byte at 0 ≡ 8 * (at + 3) = omega arith in
    let held = held_bytes m.words at (block_at bs i) (shown_here m bs shows at i (stands_around a)).payload in
    ap (bytes_in m.words (payload_byte at 0)) (sym many)
    ∙ ap (λ (k : ℕ). bytes_in m.words k (length bytes)) from
    ∙ subst (λ (b : Block). bytes_in m.words (8 * (at + 3)) (length (bytes_of b)) ≡ bytes_of b) (block_around a) held

module _ (sli : ℕ) {bs : List Block} {at i : ℕ} (f : IsFreeHere sli bs at i) where
  abbrev size : ℕ
  size = size_of (block_at bs i)

  abbrev stamp : ℕ
  stamp = stamp_of (block_at bs i)

  abbrev entry : FreePlace
  entry = place sli size at stamp

  abbrev before : List FreePlace
  before = free_places sli 0 (take i bs)

  abbrev behind : List FreePlace
  behind = free_places sli (at + size) (drop (suc i) bs)

  around_free : Around bs at i (take i bs) (Free size stamp) (drop (suc i) bs)
  around_free = subst (λ (b : Block). Around bs at i (take i bs) b (drop (suc i) bs)) (free_as (block_at bs i) f.free) (around bs at i f.stands)

  listed_free : {lists : ℕ → List ℕ} → AreFreeLists sli bs lists → AreListed (before ++ entry ∷ behind) lists
  listed_free {lists = lists} listed =
      let a = around_free in
      subst (λ (l : List FreePlace). AreListed l lists) (ap (free_places sli 0) a.is ∙ places_behind sli (take i bs) (Free size stamp ∷ drop (suc i) bs) at a.place) listed

  -- it is in the list of its class
  pub contains_here : {lists : ℕ → List ℕ} → AreFreeLists sli bs lists → Contains (lists (class_of sli size)) at
  contains_here {lists = lists} listed = contains_own entry before behind (lists (class_of sli size)) (listed_free listed (class_of sli size))

  pub end_within : at + size ≤ words_in bs
  end_within = omega (arith, words_around around_free)

  -- no other free block begins in its words
  fresh_here : (k : ℕ) → at ≤ k → k < at + size → IsFresh k (before ++ behind)
  fresh_here k low high =
      fresh_both k before behind (fresh_front sli (take i bs) k (regions_front sli around_free f.regions) (omega (arith, f.stands.place, low)))
      (fresh_back sli (drop (suc i) bs) (at + size) k (regions_back sli around_free f.regions) high)

  some_size : 4 ≤ size
  some_size = (region_around sli around_free f.regions).0

  pub region_here : IsRegion sli size
  region_here = region_around sli around_free f.regions

  -- the free blocks, while it is in no list
  withheld_places : free_places sli 0 (withheld_alone (site_at bs i)) ≡ before ++ behind
  withheld_places = places_behind sli (take i bs) (Live size 0 [] ∷ drop (suc i) bs) at f.stands.place

  -- once it is out of the list of its class
  pub taken_listed : {class : ℕ} {lists left : ℕ → List ℕ} → class ≡ class_of sli size → AreFreeLists sli bs lists → left class ≡ without_place at (lists class) → ((other : ℕ) → other ≢ class → left other ≡ lists other)
      → AreFreeLists sli (withheld_alone (site_at bs i)) left
  taken_listed {class = class} {lists = lists} {left = left} is_class listed out others =
      subst (λ (l : List FreePlace). AreListed l left) (sym withheld_places)
      (taken entry before behind lists left (rw (sym is_class) others) (fresh_here at (omega arith) (omega (arith, some_size))) (rw (sym is_class) out) (listed_free listed))

  module _ (tick : ℕ) (past_all : ArePast tick bs) (left : ℕ → List ℕ) (withheld : AreFreeLists sli (withheld_alone (site_at bs i)) left) where
    left_listed : AreListed (before ++ behind) left
    left_listed = subst (λ (l : List FreePlace). AreListed l left) withheld_places withheld

    -- no place in its words is listed
    pub left_unlisted : AreUnlisted left at (at + size)
    left_unlisted k low high = not_listed (before ++ behind) left k left_listed (fresh_here k low high)

    pub left_unlisted_each : (j : ℕ) → StandsAt bs at j → AreUnlisted left at (at + size_of (block_at bs j))
    left_unlisted_each j other = subst (λ (k : ℕ). AreUnlisted left at (at + size_of (block_at bs k))) (one_index sli bs at i j f.regions f.stands other) left_unlisted

    -- and whole a live block
    pub whole_listed : (bytes : List ℕ) (r : RegionState) → r.blocks ≡ take i bs ++ (Live size tick bytes ∷ []) ++ drop (suc i) bs → SameLists (list_in r.lists) left → AreFreeLists sli r.blocks (list_in r.lists)
    whole_listed bytes r is stay =
        subst (λ (l : List FreePlace). AreListed l (list_in r.lists))
        (sym (ap (free_places sli 0) (is ∙ append_assoc (take i bs) (Live size tick bytes ∷ []) (drop (suc i) bs)) ∙ places_behind sli (take i bs) (Live size tick bytes ∷ drop (suc i) bs) at around_free.place))
        (same_lists (before ++ behind) left (list_in r.lists) stay left_listed)

    -- or split
    module _ (words : ℕ) (bytes : List ℕ) (large : words + 4 ≤ size) (new : List Block) (is : new ≡ take i bs ++ (Live words tick bytes ∷ Free (size - words) tick ∷ []) ++ drop (suc i) bs) (kept : ℕ → List ℕ) (stay : SameLists kept left) where
      split : Around new at i (take i bs) (Live words tick bytes) (Free (size - words) tick ∷ drop (suc i) bs)
      split = record { is = is ∙ append_assoc (take i bs) (Live words tick bytes ∷ Free (size - words) tick ∷ []) (drop (suc i) bs); before = around_free.before; place = around_free.place }

      -- its rest is a free block, in no list
      pub rest_free : (j : ℕ) × StandsAt new (at + words) j × (is_free (block_at new j) ≡ true)
      rest_free = let next = around_next split in (i + 1, stands_around next, ap is_free (block_around next))

      pub rest_unlisted : IsUnlisted kept (at + words)
      rest_unlisted = unlisted_same left kept (at + words) stay (left_unlisted (at + words) (omega arith) (omega (arith, large)))

      -- and once that is in the list of its class
      rest_listed : (came : ℕ) (more : ℕ → List ℕ) → came ≡ class_of sli (size - words) → more came ≡ (at + words) ∷ kept came → ((other : ℕ) → other ≢ came → more other ≡ kept other)
          → AreFreeLists sli new more
      rest_listed came more is_class is_more rest_stays =
          let split_off : FreePlace = record { class = came; at = at + words; stamp = tick } in
          let past = past_around around_free tick past_all in
          let listed : AreListed (before ++ split_off ∷ behind) more =
          given split_off before behind kept more rest_stays (newest sli tick (at + size) (take i bs) (drop (suc i) bs) past.0 past.1) is_more (same_lists (before ++ behind) left kept stay left_listed) in
          let rest : at + words + (size - words) ≡ at + size = omega (arith, large) in
          subst (λ (l : List FreePlace). AreListed l more)
          (sym (ap (free_places sli 0) split.is ∙ places_behind sli (take i bs) (Live words tick bytes ∷ Free (size - words) tick ∷ drop (suc i) bs) at split.place
          ∙ ap (λ (n : ℕ). before ++ record { class = class_of sli (size - words); at = at + words; stamp = tick } ∷ free_places sli n (drop (suc i) bs)) rest
          ∙ ap (λ (n : ℕ). before ++ record { class = n; at = at + words; stamp = tick } ∷ behind) (sym is_class))) listed

      pub split_listed : (r : RegionState) → r.blocks ≡ new → (came : ℕ) → came ≡ class_of sli (size - words) → list_in r.lists came ≡ (at + words) ∷ kept came
          → ((other : ℕ) → other ≢ came → list_in r.lists other ≡ kept other) → AreFreeLists sli r.blocks (list_in r.lists)
      split_listed r same came is_class is_more rest_stays = subst (λ (bs : List Block). AreFreeLists sli bs (list_in r.lists)) (sym same) (rest_listed came (list_in r.lists) is_class is_more rest_stays)

-- ---- a block that is given, step by step

-- the free block at a place is in no list, and has this tag
pub record IsOut (sli : ℕ) (old : RegionState) (at i tick : ℕ) (own : Tag) : Type 0 where
  pub here : IsFreeHere sli old.blocks at i
  pub past : ArePast tick old.blocks
  pub withheld : AreFreeLists sli (withheld_alone (site_at old.blocks i)) (list_in old.lists)
  pub is_own : IsTagOf old.words (site_at old.blocks i) own

pub is_out : (sli : ℕ) {old : RegionState} {at tick words : ℕ} {own : Tag} → (free : HasAt old.blocks at (λ s. (is_free s.block ≡ true) × (words ≤ size_of s.block))) → EachAt old.blocks at (λ s. IsTagOf old.words s own)
    → AreRegions sli old.blocks → EachAt old.blocks at (λ s. AreFreeLists sli (withheld_alone s) (list_in old.lists)) → ArePast tick old.blocks → IsOut sli old at free.0 tick own
is_out sli free own regions listed past = record { here = record { stands = free.1; free = free.2.0; regions = regions }; past = past; withheld = listed free.0 free.1; is_own = own free.0 free.1 }

module _ (sli : ℕ) {old : RegionState} {at i tick : ℕ} {own : Tag} (t : IsOut sli old at i tick own) where
  pub out_unlisted : (j : ℕ) → StandsAt old.blocks at j → AreUnlisted (list_in old.lists) at (at + size_of (block_at old.blocks j))
  out_unlisted = left_unlisted_each sli t.here tick t.past (list_in old.lists) t.withheld

  module _ (words len : ℕ) where
    -- it was given whole
    pub by_grant : {v : RegionState} → own.size < words + 4 → EachAt old.blocks at (λ s. Rewrites old v (s.before ++ (Live (size_of s.block) tick (lying v.stored at len) ∷ []) ++ s.after) 3)
        → CarvedUnset sli old v (site_at old.blocks i) at words tick len 15
    by_grant {v = v} small each =
        let w = each i t.here.stands in
        let bytes = lying v.stored at len in
        record {
          blocks = w.blocks ∙ ap (λ (l : List Block). take i old.blocks ++ l ++ drop (suc i) old.blocks) (sym (cut_small (size_of (block_at old.blocks i)) words tick tick bytes (omega (arith, t.is_own.size, small))));
          listed = whole_listed sli t.here tick t.past (list_in old.lists) t.withheld bytes v w.blocks w.lists;
          edits = record { words = w.edits.words; shows = w.edits.shows; linked = w.edits.linked; bits = w.edits.bits; stays = w.edits.stays; touches = omega (arith, w.edits.touches); rise = w.edits.rise };
        }

    -- or split
    module _ (bytes : List ℕ) (large : words + 4 ≤ own.size) {v : RegionState} (each : EachAt old.blocks at (λ s. Rewrites old v (s.before ++ (Live words tick bytes ∷ Free (size_of s.block - words) tick ∷ []) ++ s.after) 8)) where
      written : Rewrites old v (take i old.blocks ++ (Live words tick bytes ∷ Free (size_of (block_at old.blocks i) - words) tick ∷ []) ++ drop (suc i) old.blocks) 8
      written = each i t.here.stands

      wide : words + 4 ≤ size_of (block_at old.blocks i)
      wide = omega (arith, t.is_own.size, large)

      pub split_rest_free : (j : ℕ) × StandsAt v.blocks (at + words) j × (is_free (block_at v.blocks j) ≡ true)
      split_rest_free = rest_free sli t.here tick t.past (list_in old.lists) t.withheld words bytes wide v.blocks written.blocks (list_in v.lists) written.lists

      pub split_rest_unlisted : IsUnlisted (list_in v.lists) (at + words)
      split_rest_unlisted = rest_unlisted sli t.here tick t.past (list_in old.lists) t.withheld words bytes wide v.blocks written.blocks (list_in v.lists) written.lists

      -- and the rest is listed
      pub by_split : {u : RegionState} {came : ℕ} → length bytes ≡ len → came ≡ class_of sli (own.size - words) → PutInFront v u came (at + words) 7 → CarvedUnset sli old u (site_at old.blocks i) at words tick len 15
      by_split {u = u} {came = came} many is_class push =
          let w = written in
          let size = size_of (block_at old.blocks i) in
          let a = around old.blocks at i t.here.stands in
          let now : Around u.blocks at i (take i old.blocks) (Live words tick bytes) (Free (size - words) tick ∷ drop (suc i) old.blocks) = record {
            is = push.blocks ∙ w.blocks ∙ append_assoc (take i old.blocks) (Live words tick bytes ∷ Free (size - words) tick ∷ []) (drop (suc i) old.blocks);
            before = a.before;
            place = a.place;
          } in
          let same : bytes ≡ lying u.stored at len = sym (lies_there push.edits.shows now many) in
          record {
            blocks = push.blocks ∙ w.blocks
                ∙ ap (λ (l : List Block). take i old.blocks ++ l ++ drop (suc i) old.blocks) (sym (cut_large size words tick tick bytes wide))
                ∙ ap (λ (l : List ℕ). take i old.blocks ++ cut size words tick tick l ++ drop (suc i) old.blocks) same;
            listed = split_listed sli t.here tick t.past (list_in old.lists) t.withheld words bytes wide v.blocks w.blocks (list_in v.lists) w.lists u push.blocks came (is_class ∙ ap (λ (k : ℕ). class_of sli (k - words)) t.is_own.size) push.list push.others;
            edits = record { words = push.edits.words ∙ w.edits.words; shows = push.edits.shows; linked = push.edits.linked; bits = push.edits.bits; stays = push.edits.stays ∙ w.edits.stays; touches = omega (arith, push.edits.touches, w.edits.touches); rise = omega (arith, push.edits.rise, w.edits.rise) };
          }

-- a free block that is taken out of the list of its class
pub taken_each : (sli : ℕ) {old r : RegionState} {at i class most : ℕ} → IsFreeHere sli old.blocks at i → class ≡ class_of sli (size_of (block_at old.blocks i)) → AreFreeLists sli old.blocks (list_in old.lists)
    → TakenOut old r class at most → EachAt r.blocks at (λ s. AreFreeLists sli (withheld_alone s) (list_in r.lists))
taken_each sli {old = old} {r = r} {at = at} {i = i} f is_class listed out =
    let left = taken_listed sli f is_class listed out.list out.others in
    rw out.blocks (λ j stands. subst (λ (k : ℕ). AreFreeLists sli (withheld_alone (site_at old.blocks k)) (list_in r.lists)) (one_index sli old.blocks at i j f.regions f.stands stands) left)
