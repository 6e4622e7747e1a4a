-- The words of a region whose block was merged with its free neighbours show the one block.
use Rattle.tlsf_heap.proofs.Common.{◌≡◌, ℕ, zero, suc, ◌+◌, ◌-◌, ◌<◌, ◌≤◌, inl, inr, Bool, true, false, cond, eqb, List, [], ◌∷◌, ◌++◌, length, take, drop, get_or, set, refl, sym, ap, ◌∙◌, subst, arith, append_assoc, length-append, cases_lt, cases_order, ne_eqb, length-set, get_or-set_same, get_or-set_other, Image, BlockAt, StartsOnce, back_behind, Shows, nowhere, Block, Free, size_of, words_in, StandsAt, first_free, past_free, last_free, before_free, coalesced, block_at, site_at, place_of, Merges, without_start, AreNeighbours, Tag}
use Rattle.tlsf_heap.proofs.lemmas.blocks.Lawful.{words_in-append}
use Rattle.tlsf_heap.proofs.lemmas.words.Image.{Replaces, start_at, word_at}
use Rattle.tlsf_heap.proofs.lemmas.words.Says.{says_here}
use Rattle.tlsf_heap.proofs.lemmas.blocks.Around.{Around, around, around_first, around_last, block_around, stands_around, last_words, last_part, first_part}

-- ---- a start bit that is taken away

-- the start map without a start, or as it was
pub record Cleared (old new : List Bool) (at size : ℕ) : Type 0 where
  pub others : (k : ℕ) → (k ≡ at → size ≡ 0) → get_or new k false ≡ get_or old k false
  pub gone : 0 < size → at < length old → get_or new at false ≡ false
  pub as_long : length new ≡ length old

without_some : (starts : List Bool) (at size : ℕ) → without_start starts at (suc size) ≡ set starts at false
unfolding without_start
without_some starts at size = ap (λ (b : Bool). cond b starts (set starts at false)) (ne_eqb (suc size) 0 (λ e. omega (arith, e)))

without_none : (starts : List Bool) (at : ℕ) → without_start starts at 0 ≡ starts
unfolding without_start
without_none starts at = refl

pub cleared : (starts : List Bool) (at size : ℕ) → Cleared starts (without_start starts at size) at size
cleared starts at zero = subst (λ (s : List Bool). Cleared starts s at 0) (sym (without_none starts at)) (record { others = λ k h. refl; gone = λ h. absurd (omega (arith, h)); as_long = refl })
cleared starts at (suc size) = subst (λ (s : List Bool). Cleared starts s at (suc size)) (sym (without_some starts at size)) (record {
  others = λ k h. get_or-set_other starts at k false false (λ e. omega (arith, h e));
  gone = λ h inside. get_or-set_same starts at false false inside;
  as_long = length-set starts at false;
})

-- ---- a block and its neighbours

-- where a block and its neighbours lie, and that no block starts in their words but at their places
record Lies (m : Image) (at size before after : ℕ) : Type 0 where
  first : start_at m (at - before) ≡ true
  ahead : (k : ℕ) → at - before < k → k < at → start_at m k ≡ false
  own : (k : ℕ) → at < k → k < at + size → start_at m k ≡ false
  next : (k : ℕ) → at + size < k → k < at + size + after → start_at m k ≡ false
  least : 4 ≤ size
  within : before ≤ at
  ends : at + size + after ≤ length m.words

module _ {m : Image} {bs : List Block} (shows : Shows m bs) {at i : ℕ} (stands : StandsAt bs at i) where
  abbrev front : List Block
  front = take i bs

  abbrev block : Block
  block = block_at bs i

  abbrev back : List Block
  back = drop (suc i) bs

  here : Around bs at i front block back
  here = around bs at i stands

  -- the free block behind ends in the region, and no block starts within
  pub next_starts : 0 < first_free back → (at + size_of block + first_free back ≤ length m.words) × StartsOnce m.starts (at + size_of block) (first_free back)
  next_starts h =
      let a = around_first here h in
      let says = says_here shows (stands_around a) in
      let size = ap size_of (block_around a) in
      (omega (arith, says.ends, size), subst (StartsOnce m.starts (at + size_of block)) size says.starts)

  -- nor within the one before
  previous_starts : 0 < last_free front → StartsOnce m.starts (at - last_free front) (last_free front)
  previous_starts h = let a = around_last here h in subst (StartsOnce m.starts (at - last_free front)) (ap size_of (block_around a)) (says_here shows (stands_around a)).starts

  lies : Lies m at (size_of block) (last_free front) (first_free back)
  lies =
      let says = says_here shows stands in
      let inside : last_free front ≤ at = omega (arith, last_words front, stands.place) in
      record {
        first = elim (cases_lt 0 (last_free front)) [
          | inl some ↦ (previous_starts some).first
          | inr none ↦ subst (λ (k : ℕ). start_at m k ≡ true) (let same : at ≡ at - last_free front = omega (arith, none) in same) says.starts.first
        ];
        ahead = λ k l g. (previous_starts (omega (arith, l, g))).others k l (omega (arith, g, inside));
        own = says.starts.others;
        next = λ k l g. (next_starts (omega (arith, l, g))).1.others k l g;
        least = says.least;
        within = inside;
        ends = elim (cases_lt 0 (first_free back)) [ inl some ↦ (next_starts some).0 | inr none ↦ omega (arith, none, says.ends) ];
      }

  module _ {before after : ℕ} {tag : Tag} (is : AreNeighbours (length m.words) (site_at bs i) before after tag) where
    -- what the writes of a merge ask for
    pub merge_within : at - before + tag.size ≤ length m.words
    merge_within = omega (arith, lies.ends, lies.within, is.before, is.size)

    pub merge_last : tag.last ≡ eqb (at - before + tag.size) (length m.words)
    merge_last =
        let e : place_of (site_at bs i) + size_of block + first_free back ≡ at - before + tag.size = omega (arith, stands.place, lies.within, is.before, is.size) in
        is.last ∙ ap (λ n. eqb n (length m.words)) e

    pub merge_before : before ≤ at
    merge_before = omega (arith, lies.within, is.before)

    pub merge_after : before + after + 4 ≤ tag.size
    merge_after = omega (arith, lies.least, is.before, is.after, is.size)

    module _ {v : Image} {stamp : ℕ} (merges : Merges m v at before after tag stamp) where
      abbrev place : ℕ
      place = at - before

      abbrev end : ℕ
      end = place + tag.size

      one : Cleared m.starts (without_start m.starts at before) at before
      one = cleared m.starts at before

      two : Cleared (without_start m.starts at before) v.starts (end - after) after
      two = subst (λ (s : List Bool). Cleared (without_start m.starts at before) s (end - after) after) (sym merges.starts)
          (cleared (without_start m.starts at before) (end - after) after)

      start_kept : (k : ℕ) → (k ≡ at → before ≡ 0) → (k ≡ end - after → after ≡ 0) → start_at v k ≡ start_at m k
      start_kept k f g = two.others k g ∙ one.others k f

      -- the place behind the block
      middle : end - after ≡ at + size_of block
      middle = omega (arith, lies.within, is.before, is.after, is.size)

      no_start : (k : ℕ) → place < k → k < end → start_at v k ≡ false
      no_start k l g = elim (cases_order k at) [
        | inl e ↦ subst (λ (j : ℕ). start_at v j ≡ false) (sym e)
            (two.others at (λ f. omega (arith, f, middle, lies.least)) ∙ one.gone (omega (arith, e, l)) (omega (arith, shows.mapped, lies.ends, lies.least)))
        | inr (inl below) ↦ start_kept k (λ f. omega (arith, f, below)) (λ f. omega (arith, f, below, middle)) ∙ lies.ahead k (omega (arith, l, is.before)) below
        | inr (inr above) ↦ elim (cases_order k (at + size_of block)) [
          | inl e ↦ subst (λ (j : ℕ). start_at v j ≡ false) (sym (e ∙ sym middle))
              (two.gone (omega (arith, e, g, middle)) (omega (arith, one.as_long, shows.mapped, lies.ends, middle, e, g, is.after)))
          | inr (inl below) ↦ start_kept k (λ f. omega (arith, f, above)) (λ f. omega (arith, f, below, middle)) ∙ lies.own k above below
          | inr (inr past) ↦ start_kept k (λ f. omega (arith, f, above)) (λ f. omega (arith, f, past, middle)) ∙ lies.next k past (omega (arith, g, middle, is.after, merge_after))
        ]
      ]

      merged_shown : BlockAt v place (back_behind 0 nowhere (before_free front)) (Free tag.size stamp)
      merged_shown =
          let joined : words_in front + size_of block + first_free back ≡ end = omega (arith, stands.place, lies.within, is.before, is.size) in
          let last : tag.last ≡ eqb end (length v.words) = is.last ∙ rw (joined, merges.only.length) refl in
          record {
            tag = merges.free.tag ∙ rw (last, is.back) refl;
            mark = merges.free.mark;
            payload = tt;
            starts = record {
              first = start_kept place (λ e. omega (arith, e, lies.within, is.before)) (λ e. omega (arith, e, middle, lies.least))
                  ∙ subst (λ (k : ℕ). start_at m (at - k) ≡ true) (sym is.before) lies.first;
              others = no_start;
            };
          }

      -- the blocks that become one
      abbrev old : List Block
      old = (last_part front).0 ++ block ∷ (first_part back).0

      words_old : words_in old ≡ tag.size
      words_old = omega (arith, words_in-append (last_part front).0 (block ∷ (first_part back).0), (last_part front).2, (first_part back).2, is.size)

      begins : words_in (before_free front) ≡ place
      begins = omega (arith, last_words front, stands.place, is.before)

      pub merge_parts : before_free front ++ old ++ past_free back ≡ bs
      merge_parts =
          let xs = (last_part front).0 in
          let ys = (first_part back).0 in
          append_assoc (before_free front) (xs ++ block ∷ ys) (past_free back)
          ∙ ap (λ (l : List Block). before_free front ++ l) (append_assoc xs (block ∷ ys) (past_free back))
          ∙ sym (append_assoc (before_free front) xs (block ∷ (ys ++ past_free back)))
          ∙ ap (λ (l : List Block). l ++ block ∷ (ys ++ past_free back)) (sym (last_part front).1)
          ∙ ap (λ (l : List Block). front ++ block ∷ l) (sym (first_part back).1)
          ∙ sym here.is

      pub merge_replaces : Replaces m v (before_free front) old (Free tag.size stamp ∷ [])
      merge_replaces = record {
        as_many = omega (arith, words_old);
        as_long = merges.only.length;
        mapped = two.as_long ∙ one.as_long;
        rooms = (omega (arith, merge_after), tt);
        some = omega (arith, length-append (last_part front).0 (block ∷ (first_part back).0));
        before = λ k h. merges.only.before k (omega (arith, h, begins));
        behind = λ k h. merges.only.behind k (omega (arith, h, begins, words_old));
        next = rw (begins, words_old) merges.next;
        starts_before = λ k h. start_kept k (λ e. omega (arith, e, h, begins)) (λ e. omega (arith, e, h, begins, middle));
        starts_behind = λ k h. start_kept k (λ e. omega (arith, e, h, begins, words_old, merge_after)) (λ e. omega (arith, e, h, begins, words_old, merge_after));
        shown = rw begins (merged_shown, tt);
      }

      pub merge_range : words_in (before_free front) + words_in old ≡ end
      merge_range = omega (arith, begins, words_old)

      pub merge_begins : words_in (before_free front) ≡ place
      merge_begins = begins

      -- the links of the first of them stay
      pub merge_links : word_at v (words_in (before_free front) + 2) ≡ word_at m (words_in (before_free front) + 2)
      merge_links = rw begins merges.links

      pub merge_is : before_free front ++ (Free tag.size stamp ∷ []) ++ past_free back ≡ coalesced stamp (site_at bs i)
      merge_is = append_assoc (before_free front) (Free tag.size stamp ∷ []) (past_free back) ∙ ap (λ (n : ℕ). before_free front ++ Free n stamp ∷ past_free back) is.size
