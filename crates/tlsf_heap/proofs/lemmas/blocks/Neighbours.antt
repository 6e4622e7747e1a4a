-- The blocks on either side of one, and what their tags say of them.
use Rattle.tlsf_heap.proofs.Common.{◌≡◌, ◌≢◌, ℕ, zero, suc, ◌+◌, ◌^◌, ◌<◌, ◌≤◌, inl, inr, Bool, true, false, eqb, List, [], ◌∷◌, ◌++◌, length, take, drop, refl, sym, ap, ◌∙◌, subst, arith, eq-eqb, drop_more, take_all, take_more, false≢true, cases_lt, cases_eq, eqb-true, ne_eqb, nowhere, Tag, Block, Live, Free, size_of, words_in, is_free, StandsAt, IsPlace, first_free, last_free, Site, block_at, site_at, place_of, back_behind, AreRegions, EachAt, IsTagOf, IsNextTag, IsPreviousTag, IsTagBehind, IsWhole}
use Rattle.tlsf_heap.proofs.lemmas.blocks.Replace.{first_free-words}
use Rattle.tlsf_heap.proofs.lemmas.blocks.LastFree.{ends_free, ends_live}
use Rattle.tlsf_heap.proofs.lemmas.blocks.Lawful.{words_in-append}
use Rattle.tlsf_heap.proofs.lemmas.blocks.Around.{around, one_index, region_around, words_around, last_words}
use Rattle.tlsf_heap.proofs.lemmas.blocks.Stands.{words_up_to, stands_next, back_next}

-- where no two blocks begin at one place, a tag of the block there is that of each
pub tag_at : (sli : ℕ) {bs : List Block} {words at i : ℕ} (own : Tag) → AreRegions sli bs → (has : (j : ℕ) × StandsAt bs at j × IsTagOf words (site_at bs j) own) → StandsAt bs at i → IsTagOf words (site_at bs i) own
tag_at sli {bs = bs} {words = words} {at = at} {i = i} own sized has stands = subst (λ (k : ℕ). IsTagOf words (site_at bs k) own) (one_index sli bs at has.0 i sized has.1 stands) has.2

-- the tag of a live block says that no free one is there
pub live_next : {words : ℕ} {s : Site} {tag : Tag} → first_free s.after ≡ 0 → tag.free ≡ false → IsNextTag words s tag
live_next none live = record {
  live = λ e. none;
  some = λ e. absurd (false≢true (sym live ∙ e));
  size = λ e. absurd (false≢true (sym live ∙ e));
  last = λ e. absurd (false≢true (sym live ∙ e));
}

pub live_previous : {s : Site} {tag : Tag} → last_free s.before ≡ 0 → tag.free ≡ false → IsPreviousTag s tag
live_previous none live = record {
  live = λ e. none;
  some = λ e. absurd (false≢true (sym live ∙ e));
  size = λ e. absurd (false≢true (sym live ∙ e));
  last = λ e. absurd (false≢true (sym live ∙ e));
  back = λ e. absurd (false≢true (sym live ∙ e));
}

-- the tag of a live block and the free block behind it as one, and that of a block with none behind it
pub whole_next : {words after : ℕ} {s : Site} {own next : Tag} (tag : Tag) → IsTagOf words s own → IsNextTag words s next → next.free ≡ true → after ≡ next.size → tag.size ≡ own.size + next.size → tag.free ≡ true → tag.last ≡ next.last → tag.back ≡ own.back
    → IsWhole words s tag after
whole_next tag is behind some read size free last back = record { after = read ∙ behind.size some; size = omega (arith, size, is.size, read); free = free; last = last ∙ behind.last some; back = back ∙ is.back }

pub whole_alone : {words : ℕ} {s : Site} {own next : Tag} (tag : Tag) → IsTagOf words s own → IsNextTag words s next → next.free ≡ false → tag.size ≡ own.size → tag.free ≡ true → tag.last ≡ own.last → tag.back ≡ own.back → IsWhole words s tag 0
whole_alone {words = words} {s = s} tag is behind live size free last back =
    let none = behind.live live in
    let sum : place_of s + size_of s.block ≡ place_of s + size_of s.block + first_free s.after = omega (arith, none) in
    record { after = sym none; size = omega (arith, size, is.size); free = free; last = last ∙ is.last ∙ ap (λ (n : ℕ). eqb n words) sum; back = back ∙ is.back }

-- that of the free block behind is free where it has words
pub behind_free : {words : ℕ} {s : Site} {tag : Tag} → IsTagBehind words s tag → 0 < tag.size → tag.free ≡ true
behind_free {tag = tag} is some = by_free tag.free refl
  where
    by_free : (free : Bool) → tag.free ≡ free → tag.free ≡ true
    by_free true e = e
    by_free false e = let none = is.next.live e in absurd (omega (arith, is.size, some, none))

-- the tag of the block behind a block, by what it is
says_next : (before : List Block) (block b : Block) (blocks : List Block) (words : ℕ) (tag : Tag) → 0 < size_of b → tag.size ≡ size_of b → tag.free ≡ is_free b
    → tag.last ≡ eqb (words_in before + size_of block + size_of b) words → IsNextTag words (record { before = before; block = block; after = b ∷ blocks }) tag
says_next before block (Live m s xs) blocks words tag some size free last = live_next refl free
says_next before block (Free m s) blocks words tag some size free last = record {
  live = λ e. absurd (false≢true (sym e ∙ free));
  some = λ e. some;
  size = λ e. size;
  last = λ e. last;
}

-- and that of the block before one
says_previous : (before : List Block) (b block : Block) (blocks : List Block) (tag : Tag) → 0 < size_of b → tag.size ≡ size_of b → tag.free ≡ is_free b → tag.last ≡ false
    → tag.back ≡ back_behind 0 nowhere before → IsPreviousTag (record { before = before ++ b ∷ []; block = block; after = blocks }) tag
says_previous before (Live m s xs) block blocks tag some size free last back = live_previous (ends_live before m s xs).0 free
says_previous before (Free m s) block blocks tag some size free last back =
    let ends = ends_free before m s in
    record {
      live = λ e. absurd (false≢true (sym e ∙ free));
      some = λ e. omega (arith, ends.0, some);
      size = λ e. size ∙ sym ends.0;
      last = λ e. last;
      back = λ e. back ∙ ap (back_behind 0 nowhere) (sym ends.1);
    }

module _ {bs : List Block} {words : ℕ} (whole : words_in bs ≡ words) where
  module _ {at i : ℕ} (stands : StandsAt bs at i) where
    abbrev end : ℕ
    end = at + size_of (block_at bs i)

    -- the region ends with the last block
    pub ends_last : length bs ≤ i + 1 → end ≡ words
    ends_last none = let all = ap words_in (take_all (i + 1) bs none) in omega (arith, words_up_to stands, all, whole)

    -- a block begins where it ends, unless the region does
    pub behind_within : end < words → i + 1 < length bs
    behind_within short = elim (cases_lt (i + 1) (length bs)) [ inl within ↦ within | inr past ↦ absurd (omega (arith, ends_last past, short)) ]

    pub place_behind : end < words → IsPlace bs end
    place_behind short = (i + 1, stands_next stands (behind_within short))

    -- it ends within the region
    pub ends_within : end ≤ words
    ends_within = omega (arith, words_around (around bs at i stands), whole)

    -- and its tag says whether there
    pub end_is : {tag : Tag} → IsTagOf words (site_at bs i) tag → tag.last ≡ true → end ≡ words
    end_is is last = omega (arith, eqb-true (words_in (take i bs) + size_of (block_at bs i)) words (sym is.last ∙ last), stands.place)

    pub short_end : {tag : Tag} → IsTagOf words (site_at bs i) tag → tag.last ≡ false → end < words
    short_end is inner = elim (cases_eq (words_in (take i bs) + size_of (block_at bs i)) words) [
      | inl same ↦ absurd (false≢true (sym inner ∙ is.last ∙ eq-eqb (words_in (take i bs) + size_of (block_at bs i)) words same))
      | inr other ↦ omega (arith, ends_within, other, stands.place)
    ]

    -- nothing is behind the last block
    pub none_behind : end ≡ words → first_free (drop (suc i) bs) ≡ 0
    none_behind e = omega (arith, words_around (around bs at i stands), first_free-words (drop (suc i) bs), whole, e)

    -- before a free block it isn't the last
    pub inner_is : {tag : Tag} → IsTagOf words (site_at bs i) tag → 0 < first_free (drop (suc i) bs) → tag.last ≡ false
    inner_is is some =
        is.last ∙ ne_eqb (words_in (take i bs) + size_of (block_at bs i)) words (λ e. omega (arith, e, some, words_around (around bs at i stands), first_free-words (drop (suc i) bs), whole, stands.place))

  -- the block before one, at its place, and the blocks before that one which ends with it
  before_here : {at j : ℕ} → StandsAt bs at (suc j) → StandsAt bs (words_in (take j bs)) j × (take (suc j) bs ≡ take j bs ++ block_at bs j ∷ []) × (back_behind 0 nowhere (take (suc j) bs) ≡ words_in (take j bs))
  before_here {j = j} stands =
      let more : j + 1 ≡ suc j = omega arith in
      let within : j < length bs = omega (arith, stands.within) in
      let before : StandsAt bs (words_in (take j bs)) j = record { within = within; place = refl } in (
        before,
        ap (λ (k : ℕ). take k bs) (sym more) ∙ take_more bs j (Free 0 0) within,
        ap (λ (k : ℕ). back_behind 0 nowhere (take k bs)) (sym more) ∙ back_next before,
      )

  -- nothing is before the block at place 0
  pub none_before : {at i : ℕ} → StandsAt bs at i → at ≡ 0 → last_free (take i bs) ≡ 0
  none_before {i = i} stands first = omega (arith, last_words (take i bs), stands.place, first)

  -- the tag of any other names a block before it
  pub some_before : words_in bs ≤ 2 ^ 24 → {at i : ℕ} → StandsAt bs at i → at ≢ 0 → back_behind 0 nowhere (take i bs) ≢ nowhere
  some_before small {i = zero} stands later = absurd (later (sym stands.place))
  some_before small {i = suc j} stands later = let b = before_here stands in (λ none. omega (arith, b.2, none, small, words_around (around bs _ j b.0)))

  -- and one begins there
  pub place_before : {at i : ℕ} → StandsAt bs at i → back_behind 0 nowhere (take i bs) ≢ nowhere → IsPlace bs (back_behind 0 nowhere (take i bs))
  place_before {i = zero} stands some = absurd (some refl)
  place_before {i = suc j} stands some = let b = before_here stands in (j, subst (λ (k : ℕ). StandsAt bs k j) (sym b.2) b.0)

  module _ (sli : ℕ) (sized : AreRegions sli bs) where
    -- what the tag of the block behind a block says
    pub next_is : {at i : ℕ} {tag : Tag} → StandsAt bs at i → at + size_of (block_at bs i) < words → EachAt bs (at + size_of (block_at bs i)) (λ s. IsTagOf words s tag) → IsNextTag words (site_at bs i) tag
    next_is {at = at} {i = i} {tag = tag} stands short each =
        let more : suc i ≡ i + 1 = omega arith in
        let within = behind_within stands short in
        let there = stands_next stands within in
        let is = each (i + 1) there in
        subst (λ (blocks : List Block). IsNextTag words (record { before = take i bs; block = block_at bs i; after = blocks }) tag)
        (sym (ap (λ (k : ℕ). drop k bs) more ∙ drop_more bs (i + 1) (Free 0 0) within))
        (says_next (take i bs) (block_at bs i) (block_at bs (i + 1)) (drop (i + 1 + 1) bs) words tag (omega (arith, (region_around sli (around bs _ (i + 1) there) sized).0)) is.size is.free
        (is.last ∙ ap (λ (n : ℕ). eqb (n + size_of (block_at bs (i + 1))) words) (there.place ∙ ap (λ (n : ℕ). n + size_of (block_at bs i)) (sym stands.place))))

    -- and that of the block before it
    pub previous_is : {at i : ℕ} {tag : Tag} → StandsAt bs at i → back_behind 0 nowhere (take i bs) ≢ nowhere → EachAt bs (back_behind 0 nowhere (take i bs)) (λ s. IsTagOf words s tag) → IsPreviousTag (site_at bs i) tag
    previous_is {i = zero} stands some each = absurd (some refl)
    previous_is {at = at} {i = suc j} {tag = tag} stands some each =
        let b = before_here stands in
        let is = each j (subst (λ (k : ℕ). StandsAt bs k j) (sym b.2) b.0) in
        let here = around bs at (suc j) stands in
        let ends : words_in (take j bs) + size_of (block_at bs j) ≡ at = omega (arith, ap words_in b.1, words_in-append (take j bs) (block_at bs j ∷ []), stands.place) in
        subst (λ (blocks : List Block). IsPreviousTag (record { before = blocks; block = block_at bs (suc j); after = drop (suc (suc j)) bs }) tag) (sym b.1)
        (says_previous (take j bs) (block_at bs j) (block_at bs (suc j)) (drop (suc (suc j)) bs) tag (omega (arith, (region_around sli (around bs _ j b.0) sized).0)) is.size is.free
        (is.last ∙ ne_eqb _ words (λ e. omega (arith, e, ends, words_around here, (region_around sli here sized).0, whole))) is.back)
