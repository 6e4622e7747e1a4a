-- A live block that becomes free, alone or with its free neighbours: the words show the blocks, and leave the lists.
use Rattle.tlsf_heap.proofs.Common.{◌≡◌, ℕ, suc, ◌+◌, ◌-◌, false, true, eqb, List, [], ◌∷◌, length, take, drop, sym, ap, ◌∙◌, refl, subst, arith, AllByRecursion, ListHeads, nowhere, Tag, Block, Free, size_of, words_in, StandsAt, coalesced, first_free, last_free, before_free, Site, block_at, site_at, place_of, HasFree, Merges, OnlyFrom, with_back, without_start, Image, Shows, back_behind, HasRoom, RegionState, AreNeighbours, AreTagsAround, AreUnlisted, IsTagOf, list_in}
use Rattle.tlsf_heap.proofs.lemmas.blocks.Coalesce.{by_last}
use Rattle.tlsf_heap.proofs.lemmas.words.Edit.{next_same}
use Rattle.tlsf_heap.proofs.lemmas.blocks.Lawful.{all_left, all_right}
use Rattle.tlsf_heap.proofs.lemmas.words.Links.{HoldsState, Reshapes, reshaped_first, free_only}
use Rattle.tlsf_heap.proofs.lemmas.words.Merge.{merge_begins, merge_is, merge_links, merge_parts, merge_range, merge_replaces}
use Rattle.tlsf_heap.proofs.lemmas.words.Says.{says_here}
use Rattle.tlsf_heap.proofs.lemmas.words.Image.{word_at}
use Rattle.tlsf_heap.proofs.lemmas.blocks.Around.{around}

-- the blocks and the lists that a merge leaves: the first of the blocks may be listed
pub merged : (sli : ℕ) {m v : Image} {l : ListHeads} {r : RegionState} → HoldsState sli m l r → {at i stamp before after : ℕ} {tag : Tag} → StandsAt r.blocks at i → AreNeighbours (length m.words) (site_at r.blocks i) before after tag
    → Merges m v at before after tag stamp → AreUnlisted (list_in r.lists) (at - before + 1) (at - before + tag.size) → Reshapes sli v l (coalesced stamp (site_at r.blocks i)) r.lists
merged sli {v = v} {l = l} {r = r} state {i = i} {stamp = stamp} stands is merges unlisted =
    let shows = state.shows in
    subst (λ (bs : List Block). Reshapes sli v l bs r.lists) (merge_is shows stands is merges)
    (reshaped_first sli state v _ _ _ _ (merge_parts shows stands is merges) (merge_replaces shows stands is merges) (λ listed. (merge_links shows stands is merges, free_only _ 0 refl refl))
    (λ k low high. unlisted k (omega (arith, low, merge_begins shows stands is merges)) (omega (arith, high, merge_range shows stands is merges))))

-- ---- a block alone

-- blocks that end with no free one
none_free : (bs : List Block) → AllByRecursion HasRoom bs → last_free bs ≡ 0 → before_free bs ≡ bs
none_free bs =
    by_last (λ all size rest. AllByRecursion HasRoom all → size ≡ 0 → rest ≡ all) bs (λ a e. refl) (λ front m s xs a e. refl)
    (λ front m s a e. absurd (omega (arith, e, (all_right HasRoom front (Free m s ∷ []) a).0)))

module _ {m : Image} {bs : List Block} (shows : Shows m bs) {at i : ℕ} (stands : StandsAt bs at i) where
  -- the tag that it gets
  pub alone_are : {own tag : Tag} → IsTagOf (length m.words) (site_at bs i) own → last_free (take i bs) ≡ 0 → first_free (drop (suc i) bs) ≡ 0 → tag.size ≡ own.size → tag.free ≡ true → tag.last ≡ own.last
      → tag.back ≡ own.back → AreNeighbours (length m.words) (site_at bs i) 0 0 tag
  alone_are is before after size free last back = record {
    before = sym before;
    after = sym after;
    size = omega (arith, size, is.size, before, after);
    free = free;
    last = last ∙ is.last
        ∙ ap (λ (n : ℕ). eqb n (length m.words)) (let sum : words_in (take i bs) + size_of (block_at bs i) ≡ words_in (take i bs) + size_of (block_at bs i) + first_free (drop (suc i) bs) = omega (arith, after) in sum);
    back = back ∙ is.back
        ∙ ap (back_behind 0 nowhere) (sym (none_free (take i bs) (all_left HasRoom (take i bs) (block_at bs i ∷ drop (suc i) bs) (subst (AllByRecursion HasRoom) (around bs at i stands).is shows.rooms)) before));
  }

  -- the header after it names it already
  pub merges_alone : {v : Image} {tag : Tag} {stamp : ℕ} → AreNeighbours (length m.words) (site_at bs i) 0 0 tag → HasFree v.words at tag.size tag.last tag.back stamp → OnlyFrom m.words v.words at (at + 2)
      → v.starts ≡ m.starts → Merges m v at 0 0 tag stamp
  unfolding without_start
  merges_alone {v = v} {tag = tag} {stamp = stamp} is header only starts =
      let here : at ≡ at - 0 = omega arith in
      let least = (says_here shows stands).least in
      let end : at + size_of (block_at bs i) ≡ at - 0 + tag.size = omega (arith, is.size, is.before, is.after) in
      record {
        free = subst (λ (k : ℕ). HasFree v.words k tag.size tag.last tag.back stamp) here header;
        next = λ inside. subst (λ (k : ℕ). word_at v k ≡ with_back (word_at m k) (at - 0)) end
            (subst (λ (p : ℕ). word_at v (at + size_of (block_at bs i)) ≡ with_back (word_at m (at + size_of (block_at bs i))) p) here
            (only.behind (at + size_of (block_at bs i)) (omega (arith, least)) ∙ next_same shows stands (omega (arith, inside, end))));
        links = subst (λ (k : ℕ). word_at v (k + 2) ≡ word_at m (k + 2)) here (only.behind (at + 2) (omega arith));
        only = record { before = λ k h. only.before k (omega (arith, h)); behind = λ k h. only.behind k (omega (arith, h, end, least)); length = only.length };
        starts = starts;
      }

-- ---- a block and its free neighbours

module _ {words : ℕ} {s : Site} {own next previous tag : Tag} (tags : AreTagsAround words s own next previous) (free : tag.free ≡ true) where
  -- the tag that it gets with the one before it
  pub with_previous_are : {before : ℕ} → before ≡ previous.size → next.free ≡ false → previous.free ≡ true → tag.size ≡ previous.size + own.size → tag.last ≡ own.last → tag.back ≡ previous.back
      → AreNeighbours words s before 0 tag
  with_previous_are ahead live some size last back =
      let none = tags.is_next.live live in
      record {
        before = ahead ∙ tags.is_previous.size some;
        after = sym none;
        size = omega (arith, size, tags.is_own.size, tags.is_previous.size some, none);
        free = free;
        last = last ∙ tags.is_own.last ∙ ap (λ (n : ℕ). eqb n words) (let sum : place_of s + size_of s.block ≡ place_of s + size_of s.block + first_free s.after = omega (arith, none) in sum);
        back = back ∙ tags.is_previous.back some;
      }

  -- with the one after it
  pub with_next_are : {after : ℕ} → after ≡ next.size → next.free ≡ true → previous.free ≡ false → before_free s.before ≡ s.before → tag.size ≡ own.size + next.size → tag.last ≡ next.last → tag.back ≡ own.back
      → AreNeighbours words s 0 after tag
  with_next_are behind some live all size last back =
      let none = tags.is_previous.live live in
      record {
        before = sym none;
        after = behind ∙ tags.is_next.size some;
        size = omega (arith, size, tags.is_own.size, tags.is_next.size some, none);
        free = free;
        last = last ∙ tags.is_next.last some;
        back = back ∙ tags.is_own.back ∙ ap (back_behind 0 nowhere) (sym all);
      }

  -- and with both
  pub with_both_are : {before after : ℕ} → before ≡ previous.size → after ≡ next.size → next.free ≡ true → previous.free ≡ true → tag.size ≡ previous.size + (own.size + next.size) → tag.last ≡ next.last
      → tag.back ≡ previous.back → AreNeighbours words s before after tag
  with_both_are ahead behind next_free previous_free size last back = record {
    before = ahead ∙ tags.is_previous.size previous_free;
    after = behind ∙ tags.is_next.size next_free;
    size = omega (arith, size, tags.is_own.size, tags.is_next.size next_free, tags.is_previous.size previous_free);
    free = free;
    last = last ∙ tags.is_next.last next_free;
    back = back ∙ tags.is_previous.back previous_free;
  }
