-- The facts that a call keeps, by the words that are stored of a heap before it and after.
use Rattle.tlsf_heap.proofs.Common.{◌≡◌, ℕ, ◌+◌, ◌-◌, ◌≤◌, List, refl, ap, ◌∙◌, subst, arith, max, Block, RegionState, OnlyReads, Edits, Shown, IsStored, state_of, Inside}
use Rattle.tlsf_heap.specs.Kept.{Keeps}
use Rattle.tlsf_heap.specs.WordsInUse.{words_used}
use Rattle.tlsf_heap.specs.declared.usage.Usage.{Usage}
use Rattle.tlsf_heap.proofs.lemmas.blocks.Lawful.{with_region}
use Rattle.tlsf_heap.proofs.lemmas.lists.FreeLists.{stored_lists}

-- what a heap shows
abbrev pub shown_of : (sli : ℕ) → Inside sli → Shown
shown_of sli h = record { heap = state_of sli h; stored = h.region.stored; marked = h.region.marked; extents = h.region.extents; most_in_use = h.usage.most; touches = h.region.touches; touched = h.region.touched }

-- what is counted of these blocks, and that the most is as before or what is in use now
pub record IsUsed (old : Shown) (u : Usage) (bs : List Block) : Type 0 where
  pub words : u.words ≡ words_used bs
  pub most : u.words ≤ u.most
  pub peak : u.most ≡ max old.most_in_use (words_used bs)

-- two calls in turn
pub keeps_both : {sli : ℕ} {first between last : Shown} → Keeps sli first between → Keeps sli between last → Keeps sli first last
keeps_both a b = record { level = a.level; was_lawful = a.was_lawful; lawful = b.lawful; shows = b.shows; lists = b.lists; stays = b.stays ∙ a.stays; touches_rise = omega (arith, a.touches_rise, b.touches_rise); was_reached = a.was_reached; reached = b.reached }

module _ (sli : ℕ) (h : Inside sli) {old : Shown} (same : shown_of sli h ≡ old) (was : IsStored sli h) where
  -- the heap is stored in another way
  pub keeps_stored : (k : Inside sli) → IsStored sli k → h.region.touches ≤ k.region.touches → k.region.extents ≡ h.region.extents → Keeps sli old (shown_of sli k)
  keeps_stored k is rise stays =
      subst (λ (s : Shown). Keeps sli s (shown_of sli k)) same (record { level = was.level; was_lawful = was.lawful; lawful = is.lawful; shows = is.shows; lists = stored_lists sli k is; stays = stays; touches_rise = rise; was_reached = omega (arith, was.in_use, was.most_in_use); reached = omega (arith, is.in_use, is.most_in_use) })

  -- the region was only read
  pub stored_read : (region : RegionState) {n : ℕ} → OnlyReads h.region region n → IsStored sli (record h { region = region })
  stored_read region reads = record {
    level = was.level;
    lawful = rw (reads.words, reads.blocks) was.lawful;
    shows = rw (reads.stored, reads.blocks) was.shows;
    small = omega (arith, reads.words, was.small);
    listed = rw (reads.blocks, reads.lists) was.listed;
    linked = rw (reads.lists, reads.stored) was.linked;
    bits = rw (reads.marked, reads.lists) was.bits;
    in_use = rw reads.blocks was.in_use;
    most_in_use = was.most_in_use;
  }

  pub keeps_read : (region : RegionState) {n : ℕ} → OnlyReads h.region region n → Keeps sli old (record { heap = with_region (state_of sli h) h.tick region; stored = region.stored; marked = region.marked; extents = region.extents; most_in_use = h.usage.most; touches = region.touches; touched = region.touched })
  keeps_read region reads = subst (λ (s : Shown). Keeps sli s (record { heap = with_region (state_of sli h) h.tick region; stored = region.stored; marked = region.marked; extents = region.extents; most_in_use = h.usage.most; touches = region.touches; touched = region.touched })) same (record {
    level = was.level;
    was_lawful = was.lawful;
    lawful = rw (reads.words, reads.blocks) was.lawful;
    shows = rw (reads.stored, reads.blocks) was.shows;
    lists = rw (reads.stored, reads.marked, reads.blocks) (stored_lists sli h was);
    stays = reads.stays;
    touches_rise = reads.rise;
    was_reached = omega (arith, was.in_use, was.most_in_use);
    reached = omega (arith, was.in_use, was.most_in_use, ap words_used reads.blocks);
  })

  -- nothing was done
  pub keeps_same : Keeps sli old old
  keeps_same = subst (λ (s : Shown). Keeps sli s s) same (record { level = was.level; was_lawful = was.lawful; lawful = was.lawful; shows = was.shows; lists = stored_lists sli h was; stays = refl; touches_rise = omega arith; was_reached = omega (arith, was.in_use, was.most_in_use); reached = omega (arith, was.in_use, was.most_in_use) })

  -- as many words are in use as before
  pub same_use : (bs : List Block) → words_used bs ≡ words_used h.region.blocks → IsUsed old h.usage bs
  same_use bs is = record { words = omega (arith, is, was.in_use); most = omega (arith, is, was.most_in_use); peak = omega (arith, ap (λ (s : Shown). s.most_in_use) same, is, was.in_use, was.most_in_use) }

  -- more are
  pub more_use : (bs : List Block) (more : ℕ) (u : Usage) → words_used bs ≡ words_used h.region.blocks + more → u ≡ record { words = h.usage.words + more; most = max h.usage.most (h.usage.words + more) } → IsUsed old u bs
  more_use bs more u sum is =
      let words = ap (λ (v : Usage). v.words) is in
      let most = ap (λ (v : Usage). v.most) is in
      record { words = omega (arith, sum, words, was.in_use); most = omega (arith, words, most); peak = omega (arith, ap (λ (s : Shown). s.most_in_use) same, sum, most, was.in_use) }

  -- some came back
  pub less_use : (bs : List Block) (less : ℕ) (u : Usage) → words_used bs + less ≡ words_used h.region.blocks → u ≡ record h.usage { words = h.usage.words - less } → IsUsed old u bs
  less_use bs less u sum is =
      let words = ap (λ (v : Usage). v.words) is in
      let most = ap (λ (v : Usage). v.most) is in
      record { words = omega (arith, sum, words, was.in_use); most = omega (arith, sum, words, most, was.in_use, was.most_in_use); peak = omega (arith, ap (λ (s : Shown). s.most_in_use) same, sum, most, was.in_use, was.most_in_use) }

-- a region that was read twice
pub reads_both : {first between last : RegionState} {n k : ℕ} → OnlyReads first between n → OnlyReads between last k → OnlyReads first last (n + k)
reads_both a b = record {
  words = b.words ∙ a.words;
  blocks = b.blocks ∙ a.blocks;
  lists = b.lists ∙ a.lists;
  marked = b.marked ∙ a.marked;
  stored = b.stored ∙ a.stored;
  stays = b.stays ∙ a.stays;
  touches = omega (arith, a.touches, b.touches);
  rise = omega (arith, a.rise, b.rise);
}

-- a region that was edited twice
pub edits_both : {first between last : RegionState} {n k most : ℕ} → n + k ≤ most → Edits first between n → Edits between last k → Edits first last most
edits_both within a b = record {
  words = b.words ∙ a.words;
  shows = b.shows;
  linked = b.linked;
  bits = b.bits;
  stays = b.stays ∙ a.stays;
  touches = omega (arith, within, a.touches, b.touches);
  rise = omega (arith, a.rise, b.rise);
}
