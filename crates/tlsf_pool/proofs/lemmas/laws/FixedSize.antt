-- Blocks of a fixed size: each begins at a multiple of it, so each free block but the last one serves.
use Rattle.tlsf_pool.proofs.Common.{◌≡◌, ℕ, ◌+◌, ◌-◌, ◌*◌, ◌<◌, ◌≤◌, true, List, [], ◌∷◌, ◌++◌, length, refl, sym, ap, ◌∙◌, subst, inl, inr, arith, append_assoc, AllByRecursion, option_map_or, mul-le-mul_right, cases_lt, false≢true, IsLevel, most_words, low, classes, search_of, Block, Live, Free, HeapState, size_of, words_in, bytes_of, Site, fits, IsLawful, HasRoom, allocated_words, released, written, carved, past_free, before_free, first_free, last_free, with_bytes, has_serial, refitted, overwritten, live_among, Name, live_count, sure, IsMultiple, BeginAtMultiples, IsFixedSize, HasFixedSize, SureIsSure, NewHasFixedSize, FixedSizeIsKept, FixedSizeFindsRoom, FixedSizeIsTight, IsWhole, BlocksAreWhole}
use Rattle.tlsf_class.proofs.TwoLevels.{by_level}
use Rattle.tlsf_class.proofs.Lows.{low-rises, low-rises_or_same, low-first}
use Rattle.tlsf_class.proofs.ClassOfSize.{IsSearchOf, search_of-is, search_of-above, search_of-between}
use Rattle.tlsf_heap.specs.Calls.{resized_words}
use Rattle.tlsf_heap.proofs.lemmas.blocks.Coalesce.{by_last}
use Rattle.tlsf_heap.proofs.lemmas.blocks.Find.{and_left}
use Rattle.tlsf_heap.proofs.lemmas.blocks.Replace.{carved_small, carved_large}
use Rattle.tlsf_heap.proofs.lemmas.calls.Outcomes.{IsSiteOf, by_allocated_words, by_released, by_resized_words, by_written}
use Rattle.tlsf_heap.proofs.lemmas.laws.NoFit.{no_fit_words}
use Rattle.tlsf_pool.proofs.lemmas.laws.Around.{Suits, all_allocated, all_released, all_resized, all_written}
use Rattle.tlsf_pool.proofs.lemmas.laws.FreeRoom.{IsHole, holes_where_none, sure_is}
use Rattle.tlsf_pool.proofs.lemmas.laws.Refits.{by_refit}
use Rattle.tlsf_heap.proofs.lemmas.words.Bytes.{size_of-with_bytes}
use Rattle.tlsf_heap.proofs.lemmas.calls.Allocate.{fits_size}

-- ---- the least size of a class

-- it is in the class that it is the least size of
sure_low : (sli : ℕ) (level : IsLevel sli) (n c : ℕ) → IsSearchOf sli level n c → sure sli (low sli c) ≡ low sli c
sure_low sli level n c is =
    let found = search_of-between sli level (low sli c) c is.least is.most (omega arith) (λ more. low-rises sli level (c - 1) c (omega (arith, more)) (omega (arith, is.most))) in
    ap (λ o. option_map_or (low sli) o 0) found

pub sure_again : (sli : ℕ) (level : IsLevel sli) → SureIsSure sli
sure_again sli level n region =
    let search = search_of-is sli level n region in
    let is = sure_is sli level n search.0 search.1 in
    ap (sure sli) is ∙ sure_low sli level n search.0 search.1 ∙ sym is

-- for four words it is four
sure_4 : sure 4 4 ≡ 4
unfolding low classes search_of
sure_4 = refl

sure_5 : sure 5 4 ≡ 4
unfolding low classes search_of
sure_5 = refl

pub sure_four : (sli : ℕ) → IsLevel sli → sure sli 4 ≡ 4
sure_four = by_level (λ sli. sure sli 4 ≡ 4) sure_4 sure_5

-- such a size is that of a block, and a region may have this many words
pub sure_region : (sli : ℕ) (level : IsLevel sli) (s : ℕ) → sure sli s ≡ s → (4 ≤ s) × (s ≤ most_words sli)
sure_region sli level s is = elim (cases_lt (most_words sli) s) [
  | inl above ↦
      let none : sure sli s ≡ 0 = ap (λ o. option_map_or (low sli) o 0) (search_of-above sli level s above) in
      absurd (omega (arith, is, none, above))
  | inr within ↦
      let search = search_of-is sli level s within in
      let least = low-rises_or_same sli level 4 search.0 search.1.least (omega (arith, search.1.most)) in
      (omega (arith, is, sure_is sli level s search.0 search.1, least, low-first sli level), within)
]

-- ---- places

multiple_at : (s i j : ℕ) → i ≡ j → IsMultiple s i → IsMultiple s j
multiple_at s i j same all = (all.0, omega (arith, same, all.1))

multiple_next : (s i : ℕ) → IsMultiple s i → IsMultiple s (i + s)
multiple_next s i all = (all.0 + 1, omega (arith, all.1))

begin_at : (s i j : ℕ) (bs : List Block) → i ≡ j → BeginAtMultiples s i bs → BeginAtMultiples s j bs
begin_at s i j bs same all = subst (λ (k : ℕ). BeginAtMultiples s k bs) same all

module _ (s : ℕ) where
  begin_left : (i : ℕ) (xs ys : List Block) → BeginAtMultiples s i (xs ++ ys) → BeginAtMultiples s i xs
  begin_left i [] ys all = tt
  begin_left i (b ∷ xs) ys all = (all.0, begin_left (i + size_of b) xs ys all.1)

  begin_right : (i : ℕ) (xs ys : List Block) → BeginAtMultiples s i (xs ++ ys) → BeginAtMultiples s (i + words_in xs) ys
  begin_right i [] ys all = begin_at s i (i + 0) ys (omega arith) all
  begin_right i (b ∷ xs) ys all = begin_at s (i + size_of b + words_in xs) (i + (size_of b + words_in xs)) ys (omega arith) (begin_right (i + size_of b) xs ys all.1)

  begin_append : (i : ℕ) (xs ys : List Block) → BeginAtMultiples s i xs → BeginAtMultiples s (i + words_in xs) ys → BeginAtMultiples s i (xs ++ ys)
  begin_append i [] ys all more = begin_at s (i + 0) i ys (omega arith) more
  begin_append i (b ∷ xs) ys all more =
      (all.0, begin_append (i + size_of b) xs ys all.1 (begin_at s (i + (size_of b + words_in xs)) (i + size_of b + words_in xs) ys (omega arith) more))

  -- what stands behind the free block that a list begins with
  begin_past : (i : ℕ) (bs : List Block) → BeginAtMultiples s i bs → BeginAtMultiples s (i + first_free bs) (past_free bs)
  begin_past i [] all = tt
  begin_past i (Live m u xs ∷ bs) all = begin_at s i (i + 0) (Live m u xs ∷ bs) (omega arith) all
  begin_past i (Free m u ∷ bs) all = all.1

  -- a block that is joined with the free one before it begins where that one does
  begin_before : (i m t : ℕ) (bs rest : List Block) → IsMultiple s (i + words_in bs) → BeginAtMultiples s i bs → BeginAtMultiples s (i + words_in bs + m) rest → BeginAtMultiples s i (before_free bs ++ Free (last_free bs + m) t ∷ rest)
  begin_before i m t bs rest = by_last (λ all size left. IsMultiple s (i + words_in all) → BeginAtMultiples s i all → BeginAtMultiples s (i + words_in all + m) rest → BeginAtMultiples s i (left ++ Free (size + m) t ∷ rest)) bs
      (λ here all more. (multiple_at s (i + 0) i (omega arith) here, begin_at s (i + 0 + m) (i + (0 + m)) rest (omega arith) more))
      (λ front n u xs here all more.
      begin_append i (front ++ Live n u xs ∷ []) (Free (0 + m) t ∷ rest) all (here, begin_at s (i + words_in (front ++ Live n u xs ∷ []) + m) (i + words_in (front ++ Live n u xs ∷ []) + (0 + m)) rest (omega arith) more))
      (λ front n u here all more.
      let joined : words_in (front ++ Free n u ∷ []) ≡ words_in front + n = words_last front n u in
      begin_append i front (Free (n + m) t ∷ rest) (begin_left i front (Free n u ∷ []) all)
      ((begin_right i front (Free n u ∷ []) all).0, begin_at s (i + words_in (front ++ Free n u ∷ []) + m) (i + words_in front + (n + m)) rest (omega (arith, joined)) more))
    where
      words_last : (front : List Block) (n u : ℕ) → words_in (front ++ Free n u ∷ []) ≡ words_in front + n
      words_last [] n u = omega arith
      words_last (b ∷ front) n u = let e = words_last front n u in omega (arith, e)

  -- ---- what the calls leave of places

  record IsAround (h : HeapState) (t : Site) : Type 0 where
    front : BeginAtMultiples s 0 t.before
    here : IsMultiple s (words_in t.before)
    back : BeginAtMultiples s (words_in t.before + size_of t.block) t.after

  around : (h : HeapState) (t : Site) → IsSiteOf h.blocks t → BeginAtMultiples s 0 h.blocks → IsAround h t
  around h t site all =
      let whole = subst (BeginAtMultiples s 0) (sym site) all in
      let back = begin_right 0 t.before (t.block ∷ t.after) whole in record {
        front = begin_left 0 t.before (t.block ∷ t.after) whole;
        here = multiple_at s (0 + words_in t.before) (words_in t.before) (omega arith) back.0;
        back = begin_at s (0 + words_in t.before + size_of t.block) (words_in t.before + size_of t.block) t.after (omega arith) back.1;
      }

  -- other blocks in the place of one
  put : (h : HeapState) (t : Site) (new : List Block) → IsSiteOf h.blocks t → BeginAtMultiples s 0 h.blocks → BeginAtMultiples s (words_in t.before) new → BeginAtMultiples s 0 (t.before ++ new)
  put h t new site all begin = begin_append 0 t.before new (around h t site all).front (begin_at s (words_in t.before) (0 + words_in t.before) new (omega arith) begin)

  pub begin_given : (tick len : ℕ) (h : HeapState) (t : Site) → IsSiteOf h.blocks t → BeginAtMultiples s 0 h.blocks → BeginAtMultiples s 0 (t.before ++ carved (size_of t.block) s tick len ++ t.after)
  begin_given tick len h t site all =
      let a = around h t site all in
      let place : ℕ = words_in t.before in
      let size : ℕ = size_of t.block in
      let new : BeginAtMultiples s place (carved size s tick len ++ t.after) = elim (cases_lt size (s + 4)) [
        | inl small ↦ subst (λ (l : List Block). BeginAtMultiples s place (l ++ t.after)) (sym (carved_small size s tick len small)) (a.here, a.back)
        | inr large ↦ subst (λ (l : List Block). BeginAtMultiples s place (l ++ t.after)) (sym (carved_large size s tick len large))
            (a.here, (multiple_next s place a.here, begin_at s (place + size) (place + s + (size - s)) t.after (omega (arith, large)) a.back))
      ] in
      subst (BeginAtMultiples s 0) (sym (append_assoc t.before (carved size s tick len) t.after)) (put h t (carved size s tick len ++ t.after) site all new)

  begin_refitted : (i tick len serial : ℕ) (b : Block) (bs : List Block) → has_serial serial b ≡ true → IsMultiple s i → BeginAtMultiples s (i + size_of b) bs → BeginAtMultiples s i (refitted tick s len b bs)
  begin_refitted i tick len serial (Free m u) bs e here all = absurd (false≢true e)
  begin_refitted i tick len serial (Live m u xs) bs e here all =
      let past = begin_past (i + m) bs all in
      by_refit (BeginAtMultiples s i) tick s len m u xs bs (λ enough few. (here, all))
      (λ large. (here, (multiple_next s i here, begin_at s (i + m + first_free bs) (i + s + (m + first_free bs - s)) (past_free bs) (omega (arith, large)) past)))
      (λ small. (here, begin_at s (i + m + first_free bs) (i + (m + first_free bs)) (past_free bs) (omega arith) past))

  pub begin_resized : (tick len serial : ℕ) (h : HeapState) (t : Site) → has_serial serial t.block ≡ true → IsSiteOf h.blocks t → BeginAtMultiples s 0 h.blocks → BeginAtMultiples s 0 (t.before ++ refitted tick s len t.block t.after)
  begin_resized tick len serial h t own site all =
      let a = around h t site all in put h t (refitted tick s len t.block t.after) site all (begin_refitted (words_in t.before) tick len serial t.block t.after own a.here a.back)

  pub begin_released : (h : HeapState) (t : Site) (tick : ℕ) → IsSiteOf h.blocks t → BeginAtMultiples s 0 h.blocks
      → BeginAtMultiples s 0 (before_free t.before ++ Free (last_free t.before + size_of t.block + first_free t.after) tick ∷ past_free t.after)
  begin_released h t tick site all =
      let a = around h t site all in
      let place : ℕ = words_in t.before in
      let merged : ℕ = size_of t.block + first_free t.after in
      let rest = begin_at s (place + size_of t.block + first_free t.after) (0 + place + merged) (past_free t.after) (omega arith) (begin_past (place + size_of t.block) t.after a.back) in
      let sum : last_free t.before + merged ≡ last_free t.before + size_of t.block + first_free t.after = omega arith in
      subst (λ (k : ℕ). BeginAtMultiples s 0 (before_free t.before ++ Free k tick ∷ past_free t.after)) sum
      (begin_before 0 merged tick t.before (past_free t.after) (multiple_at s place (0 + place) (omega arith) a.here) a.front rest)

  pub begin_written : (h : HeapState) (t : Site) (new : List ℕ) → IsSiteOf h.blocks t → BeginAtMultiples s 0 h.blocks → BeginAtMultiples s 0 (t.before ++ with_bytes t.block new ∷ t.after)
  begin_written h t new site all =
      let a = around h t site all in
      put h t (with_bytes t.block new ∷ t.after) site all
      (a.here, begin_at s (words_in t.before + size_of t.block) (words_in t.before + size_of (with_bytes t.block new)) t.after (omega (arith, size_of-with_bytes t.block new)) a.back)

  -- ---- and of sizes

  free_any : (m u : ℕ) → IsFixedSize s (Free m u)
  free_any m u f = absurd (false≢true (sym f))

  sizes_suit : (len : ℕ) → Suits (IsFixedSize s) s s len
  sizes_suit len m t xs enough few long = λ _. (enough, few)

  sizes_with : (b : Block) (xs : List ℕ) → length xs ≡ length (bytes_of b) → IsFixedSize s b → IsFixedSize s (with_bytes b xs)
  sizes_with (Live m u ys) xs e h = h
  sizes_with (Free m u) xs e h = h

pub new_fixed : NewHasFixedSize
new_fixed s id words first = record { sizes = (free_any s words first, tt); places = ((0, omega arith), tt) }

module _ (sli : ℕ) (level : IsLevel sli) (s : ℕ) (h : HeapState) (fixed : HasFixedSize s h) where
  abbrev Of : HeapState → Type 0
  Of = HasFixedSize s

  on_allocate : (len : ℕ) → Of (allocated_words sli h s len).heap
  on_allocate len = record {
    sizes = all_allocated (IsFixedSize s) (free_any s) sli s h s len (fits_size sli level s) (omega arith) (sizes_suit s len) fixed.sizes;
    places = by_allocated_words sli (λ o. BeginAtMultiples s 0 o.heap.blocks) h s len (λ why. fixed.places) (λ t site fit. begin_given s h.tick len h t site fixed.places);
  }

  on_release : (name : Name) → Of (released h name).heap
  on_release name = record {
    sizes = all_released (IsFixedSize s) (free_any s) h name fixed.sizes;
    places = by_released (λ o. BeginAtMultiples s 0 o.heap.blocks) h name (λ why. fixed.places) (λ t own site is. begin_released s h t h.tick site fixed.places);
  }

  on_write : (name : Name) (at : ℕ) (bytes : List ℕ) → Of (written h name at bytes).heap
  on_write name at bytes = record {
    sizes = all_written (IsFixedSize s) (free_any s) (sizes_with s) h name at bytes fixed.sizes;
    places = by_written (λ o. BeginAtMultiples s 0 o.heap.blocks) h name at bytes (λ why. fixed.places) (λ t site has. begin_written s h t (overwritten (bytes_of t.block) at bytes) site fixed.places);
  }

  on_resize : (name : Name) (len : ℕ) → Of (resized_words h name s len).heap
  on_resize name len = record {
    sizes = all_resized (IsFixedSize s) (free_any s) h name s len (sizes_suit s len) fixed.sizes;
    places = by_resized_words (λ o. BeginAtMultiples s 0 o.heap.blocks) h name s len (λ why. fixed.places) (λ t own site is room. begin_resized s h.tick len name.serial h t (and_left _ _ is) site fixed.places);
  }

pub fixed_kept : (sli : ℕ) (level : IsLevel sli) → FixedSizeIsKept sli
fixed_kept sli level s h fixed = record { allocate = on_allocate sli level s h fixed; release = on_release sli level s h fixed; write = on_write sli level s h fixed; resize = on_resize sli level s h fixed }

-- ---- how many blocks there are

next : (a b : ℕ) → a < b → a + 1 ≤ b
next a b h = omega (arith, h)

-- between two multiples there are no words or at least s, and fewer than 2 * s are just s
none_between : (s a b m : ℕ) → a * s + m ≡ b * s → m < s → m ≡ 0
none_between s a b m is few = elim (cases_lt a b) [
  | inl more ↦ let most = mul-le-mul_right s (next a b more) in absurd (omega (arith, most, is, few))
  | inr less ↦ let most = mul-le-mul_right s less in omega (arith, most, is)
]

one_between : (s a b m : ℕ) → a * s + m ≡ b * s → s ≤ m → m < s + s → m ≡ s
one_between s a b m is enough few =
    let left : m - s ≡ 0 = none_between s (a + 1) b (m - s) (omega (arith, is, enough)) (omega (arith, few, enough)) in omega (arith, left, enough)

-- where no free block serves, the blocks have less than the words of one more than are live
packed : (s i : ℕ) (bs : List Block) → 4 ≤ s → BeginAtMultiples s i bs → AllByRecursion (IsFixedSize s) bs → AllByRecursion HasRoom bs → AllByRecursion (IsHole (s - 1)) bs
    → words_in bs < (length (live_among bs) + 1) * s
packed s i [] four begin sizes rooms holes = omega (arith, four)
packed s i (Live m u xs ∷ []) four begin sizes rooms holes = let size = sizes.0 refl in omega (arith, four, size.1)
packed s i (Free m u ∷ []) four begin sizes rooms holes = let few = holes.0 refl in omega (arith, four, few)
packed s i (Live m u xs ∷ b ∷ bs) four begin sizes rooms holes =
    let size = sizes.0 refl in
    let same : m ≡ s = one_between s begin.0.0 begin.1.0.0 m (omega (arith, begin.0.1, begin.1.0.1)) size.0 (omega (arith, four, size.1)) in
    omega (arith, same, packed s (i + m) (b ∷ bs) four begin.1 sizes.1 rooms.1 holes.1)
packed s i (Free m u ∷ b ∷ bs) four begin sizes rooms holes =
    let few = holes.0 refl in
    let none : m ≡ 0 = none_between s begin.0.0 begin.1.0.0 m (omega (arith, begin.0.1, begin.1.0.1)) (omega (arith, four, few)) in
    absurd (omega (arith, none, rooms.0))

module _ (sli : ℕ) (level : IsLevel sli) (n s most : ℕ) (h : HeapState) where
  -- a request finds room where s is the least size from which each free block serves it
  pub finds_sure : IsLawful h → HasFixedSize s h → n ≤ most_words sli → sure sli n ≡ s → most * s ≤ h.words → live_count h < most → ¬ (fits sli n h.blocks ≡ [])
  finds_sure lawful fixed class is enough few none =
      let four = (sure_region sli level (sure sli n) (sure_again sli level n class)).0 in
      let holes = subst (λ (k : ℕ). AllByRecursion (IsHole (k - 1)) h.blocks) is (holes_where_none sli level n class h.blocks lawful.rooms none) in
      let full = packed s 0 h.blocks (omega (arith, four, is)) fixed.places fixed.sizes lawful.rooms holes in
      omega (arith, full, mul-le-mul_right s (next (live_count h) most few), enough, lawful.whole)

pub finds_fixed : (sli : ℕ) (level : IsLevel sli) (s most : ℕ) (h : HeapState) → IsLawful h → HasFixedSize s h → sure sli s ≡ s → most * s ≤ h.words → live_count h < most → ¬ (fits sli s h.blocks ≡ [])
finds_fixed sli level s most h lawful fixed is = finds_sure sli level s s most h lawful fixed (sure_region sli level s is).1 is

pub fixed_room : (sli : ℕ) (level : IsLevel sli) → FixedSizeFindsRoom sli
fixed_room sli level s most len h lawful fixed is enough few e = finds_fixed sli level s most h lawful fixed is enough few ((no_fit_words sli h s len).0 e)

pub live_least : (s : ℕ) (bs : List Block) → AllByRecursion (IsFixedSize s) bs → length (live_among bs) * s ≤ words_in bs
live_least s [] sizes = omega arith
live_least s (Live m u xs ∷ bs) sizes = let size = sizes.0 refl in let rest = live_least s bs sizes.1 in omega (arith, size.0, rest)
live_least s (Free m u ∷ bs) sizes = let rest = live_least s bs sizes.1 in omega (arith, rest)

pub fixed_tight : FixedSizeIsTight
fixed_tight s most h lawful fixed few = elim (cases_lt (live_count h) most) [
  | inl fewer ↦ fewer
  | inr more ↦ let words = mul-le-mul_right s more in absurd (omega (arith, words, live_least s h.blocks fixed.sizes, lawful.whole, few))
]

-- ---- where the region is a multiple too

multiple_left : (s a b m : ℕ) → a * s + m ≡ b * s → IsMultiple s m
multiple_left s a b m is = elim (cases_lt a b) [
  | inl more ↦ (b - a, by_rest (b - a) (omega (arith, more)))
  | inr less ↦ let most = mul-le-mul_right s less in (0, omega (arith, most, is))
]
  where
    by_rest : (d : ℕ) → b ≡ a + d → m ≡ d * s
    by_rest d e = let there : a * s + m ≡ (a + d) * s = is ∙ ap (λ (k : ℕ). k * s) e in omega (arith, there)

whole_from : (s i : ℕ) (bs : List Block) → 4 ≤ s → BeginAtMultiples s i bs → AllByRecursion (IsFixedSize s) bs → IsMultiple s (i + words_in bs) → AllByRecursion (IsWhole s) bs
whole_from s i [] four begin sizes end = tt
whole_from s i (b ∷ bs) four begin sizes end =
    let behind : IsMultiple s (i + size_of b) = next bs begin.1 (multiple_at s (i + (size_of b + words_in bs)) (i + size_of b + words_in bs) (omega arith) end) in
    let there : begin.0.0 * s + size_of b ≡ behind.0 * s = omega (arith, begin.0.1, behind.1) in (
      ((λ live. let size = sizes.0 live in one_between s begin.0.0 behind.0 (size_of b) there size.0 (omega (arith, four, size.1))), multiple_left s begin.0.0 behind.0 (size_of b) there),
      whole_from s (i + size_of b) bs four begin.1 sizes.1 (multiple_at s (i + (size_of b + words_in bs)) (i + size_of b + words_in bs) (omega arith) end),
    )
  where
    next : (rest : List Block) → BeginAtMultiples s (i + size_of b) rest → IsMultiple s (i + size_of b + words_in rest) → IsMultiple s (i + size_of b)
    next [] all at_end = multiple_at s (i + size_of b + 0) (i + size_of b) (omega arith) at_end
    next (c ∷ cs) all at_end = all.0

pub blocks_whole : BlocksAreWhole
blocks_whole s h four lawful fixed end = whole_from s 0 h.blocks four fixed.places fixed.sizes (multiple_at s h.words (0 + words_in h.blocks) (omega (arith, lawful.whole)) end)
