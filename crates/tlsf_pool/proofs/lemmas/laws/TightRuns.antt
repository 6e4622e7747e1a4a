-- Calls that leave holes just too small for a request, each between two live blocks.
use Rattle.tlsf_pool.proofs.Common.{◌≡◌, ℕ, zero, suc, ◌+◌, ◌-◌, ◌*◌, ◌^◌, ◌<◌, ◌≤◌, ◌||◌, ◌&&◌, ◌==◌, Bool, true, false, cond, nat_le, nat_lt, List, [], ◌∷◌, ◌++◌, length, replicate, filter, find, Option, Some, None, Ok, refl, sym, ap, ap₂, ◌∙◌, subst, arith, append_assoc, append-nil, eq-eqb, AllByRecursion, list_all, ne_eqb, nat_tests, IsLevel, class_of, most_words, Block, Live, Free, HeapState, words_in, is_free, serials, want, Site, sites_behind, place_of, is_fit, is_as_good, fits, choice, NoneFits, Outcome, Call, Allocate, Release, carved, allocated_at, answered, before_free, last_free, first_free, past_free, is_named, refused, released_at, opened, run, last_tick, live_among, free_among, Name, Worn, live_count, free_words, sure, RoomIsTight}
use Rattle.tlsf_class.proofs.TwoLevels.{most_words_any}
use Rattle.tlsf_class.proofs.ClassOfSize.{search_of-is}
use Rattle.tlsf_heap.proofs.lemmas.blocks.Replace.{carved_large}
use Rattle.tlsf_heap.proofs.lemmas.blocks.LastFree.{ends_live}
use Rattle.tlsf_heap.proofs.lemmas.blocks.Lawful.{all_weaker, serials-append, words_in-append, all_append}
use Rattle.tlsf_heap.proofs.lemmas.calls.Outcomes.{takes}
use Rattle.tlsf_heap.proofs.lemmas.blocks.Sites.{fits_nothing}
use Rattle.tlsf_pool.proofs.lemmas.laws.Comb.{too_small}
use Rattle.tlsf_pool.proofs.lemmas.laws.FreeRoom.{serves_sure, sure_is, sure_upto}
use Rattle.tlsf_pool.proofs.lemmas.laws.FixedSize.{sure_four}

abbrev one_site : Site → List Site
one_site s = s ∷ []

abbrev some_site : Site → Option Site
some_site s = Some s

-- ---- a request where one block is free, behind live ones

module _ (sli n m t : ℕ) (fit : is_fit sli n (Free m t) ≡ true) where
  alone : (p front : List Block) → AllByRecursion (λ b. is_free b ≡ false) front
      → filter (λ s. is_fit sli n s.block) (sites_behind p (front ++ Free m t ∷ [])) ≡ one_site (record { before = p ++ front; block = Free m t; after = [] })
  alone p [] live =
      ap (λ (c : Bool). cond c (one_site (record { before = p; block = Free m t; after = [] })) []) fit
      ∙ ap (λ (l : List Block). one_site (record { before = l; block = Free m t; after = [] })) (sym (append-nil p))
  alone p (Live a b c ∷ front) live =
      alone (p ++ Live a b c ∷ []) front live.1 ∙ ap (λ (l : List Block). one_site (record { before = l; block = Free m t; after = [] })) (append_assoc p (Live a b c ∷ []) front)
  alone p (Free a b ∷ front) live = absurd (let no : true ≡ false = live.0 in cc)

  as_itself : (a b : ℕ) → (nat_lt a a || (a == a && nat_le b b)) ≡ true
  as_itself a b = grind (arith, nat_tests)

  chosen_alone : (front : List Block) → AllByRecursion (λ b. is_free b ≡ false) front → choice sli n (front ++ Free m t ∷ []) ≡ Some (record { before = front; block = Free m t; after = [] })
  chosen_alone front live =
      let s : Site = record { before = front; block = Free m t; after = [] } in
      ap (λ (fs : List Site). find (λ s. list_all (λ t. is_as_good sli s.block t.block) fs) fs) (alone [] front live)
      ∙ ap (λ (c : Bool). cond {A = Option Site} (c && true) (Some s) None) (as_itself (class_of sli m) t)

abbrev heap_with : (words tick : ℕ) → List Block → HeapState
heap_with words tick blocks = record { id = 0; words = words; tick = tick; blocks = blocks }

given : (sli len n m t words tick : ℕ) (front : List Block) → want len ≡ n → is_fit sli n (Free m t) ≡ true → n + 4 ≤ m → tick < last_tick → AllByRecursion (λ b. is_free b ≡ false) front
    → (answered sli (heap_with words tick (front ++ Free m t ∷ [])) (Allocate len)).1 ≡ heap_with words (tick + 1) ((front ++ Live n tick (replicate len 0) ∷ []) ++ Free (m - n) tick ∷ [])
given sli len n m t words tick front wanted fit large fresh live =
    let h : HeapState = heap_with words tick (front ++ Free m t ∷ []) in
    let s : Site = record { before = front; block = Free m t; after = [] } in
    ap (λ (k : ℕ). (allocated_at h k len (choice sli k h.blocks)).heap) wanted
    ∙ (ap (λ (o : Option Site). (allocated_at h n len o).heap) (chosen_alone sli n m t fit front live)
    ∙ (ap (λ (c : Bool). (cond {A = Outcome Name} c (refused h Worn) (record { answer = Ok (record { heap = 0; at = place_of s; serial = tick }); heap = heap_with words (tick + 1) (front ++ carved m n tick len ++ []) })).heap)
    (ne_eqb tick last_tick (λ e. omega (arith, e, fresh)))
    ∙ ap (λ (l : List Block). heap_with words (tick + 1) l)
    (append-nil (front ++ carved m n tick len) ∙ (ap (λ (l : List Block). front ++ l) (carved_large m n tick len large) ∙ sym (append_assoc front (Live n tick (replicate len 0) ∷ []) (Free (m - n) tick ∷ []))))))

-- ---- blocks by pairs, of k words and of four

abbrev asks : ℕ → ℕ → List Call
asks k zero = []
asks k (suc n) = Allocate (8 * (k - 3)) ∷ Allocate 0 ∷ asks k n

abbrev pairs : (k n tick : ℕ) → List Block
pairs k zero tick = []
pairs k (suc n) tick = Live k tick (replicate (8 * (k - 3)) 0) ∷ Live 4 (tick + 1) [] ∷ pairs k n (tick + 1 + 1)

-- the stamp of what is left free after them
abbrev left_at : (n t tick : ℕ) → ℕ
left_at zero t tick = t
left_at (suc n) t tick = left_at n (tick + 1) (tick + 1 + 1)

-- the releases of the first of each pair, and what is left
abbrev digs : (k n at t : ℕ) → List Call
digs k zero at t = []
digs k (suc n) at t = Release (record { heap = 0; at = at; serial = t }) ∷ digs k n (at + (k + 4)) (t + 1 + 1)

abbrev holes : (k n t tick : ℕ) → List Block
holes k zero t tick = []
holes k (suc n) t tick = Free k tick ∷ Live 4 (t + 1) [] ∷ holes k n (t + 1 + 1) (tick + 1)

-- a payload of this many bytes wants k words
pub wants : (k : ℕ) → 4 ≤ k → want (8 * (k - 3)) ≡ k
wants k least = omega (arith, least)

-- ---- a release between live blocks

found : (at t m : ℕ) (bytes : List ℕ) (after p front : List Block) → words_in (p ++ front) ≡ at → AllByRecursion (λ y. y < t) (serials front)
    → find (is_named at t) (sites_behind p (front ++ Live m t bytes ∷ after)) ≡ Some (record { before = p ++ front; block = Live m t bytes; after = after })
found at t m bytes after p [] place older =
    let here : words_in p ≡ at = sym (ap words_in (append-nil p)) ∙ place in
    ap₂ (λ (c d : Bool). cond {A = Option Site} (c && d) (Some (record { before = p; block = Live m t bytes; after = after })) (find (is_named at t) (sites_behind (p ++ Live m t bytes ∷ []) after))) (eq-eqb t t refl) (eq-eqb (words_in p) at here)
    ∙ ap (λ (l : List Block). some_site (record { before = l; block = Live m t bytes; after = after })) (sym (append-nil p))
found at t m bytes after p (Live a s xs ∷ front) place older =
    ap (λ (c : Bool). cond {A = Option Site} (c && (words_in p == at)) (Some (record { before = p; block = Live a s xs; after = front ++ Live m t bytes ∷ after })) (find (is_named at t) (sites_behind (p ++ Live a s xs ∷ []) (front ++ Live m t bytes ∷ after))))
    (ne_eqb s t (λ e. omega (arith, e, older.0)))
    ∙ (found at t m bytes after (p ++ Live a s xs ∷ []) front (ap words_in (append_assoc p (Live a s xs ∷ []) front) ∙ place) older.1
    ∙ ap (λ (l : List Block). some_site (record { before = l; block = Live m t bytes; after = after })) (append_assoc p (Live a s xs ∷ []) front))
found at t m bytes after p (Free a s ∷ front) place older =
    found at t m bytes after (p ++ Free a s ∷ []) front (ap words_in (append_assoc p (Free a s ∷ []) front) ∙ place) older
    ∙ ap (λ (l : List Block). some_site (record { before = l; block = Live m t bytes; after = after })) (append_assoc p (Free a s ∷ []) front)

abbrev EndsLive : List Block → Type 0
EndsLive front = (last_free front ≡ 0) × (before_free front ≡ front)

taken : (sli at t m words tick : ℕ) (bytes : List ℕ) (front after : List Block) → words_in front ≡ at → AllByRecursion (λ y. y < t) (serials front) → EndsLive front → tick < last_tick → first_free after ≡ 0 → past_free after ≡ after
    → (answered sli (heap_with words tick (front ++ Live m t bytes ∷ after)) (Release (record { heap = 0; at = at; serial = t }))).1 ≡ heap_with words (tick + 1) (front ++ Free m tick ∷ after)
taken sli at t m words tick bytes front after place older ends fresh first past =
    let h : HeapState = heap_with words tick (front ++ Live m t bytes ∷ after) in
    let s : Site = record { before = front; block = Live m t bytes; after = after } in
    let sum : last_free front + m + first_free after ≡ m = omega (arith, ends.0, first) in
    ap (λ (o : Option Site). (released_at h o).heap) (found at t m bytes after [] front place older)
    ∙ (ap (λ (c : Bool). (cond {A = Outcome (Unit {0})} c (refused h Worn) (takes h s)).heap) (ne_eqb tick last_tick (λ e. omega (arith, e, fresh)))
    ∙ (ap (λ (n : ℕ). heap_with words (tick + 1) (before_free front ++ Free n tick ∷ past_free after)) sum
    ∙ ap₂ (λ (x y : List Block). heap_with words (tick + 1) (x ++ Free m tick ∷ y)) ends.1 past))

module _ (sli : ℕ) (level : IsLevel sli) (k words : ℕ) (least : 4 ≤ k) (class : k ≤ most_words sli) (upto : sure sli k ≤ k + 1) where
  served : (n m t : ℕ) → n ≤ most_words sli → 4 ≤ m → sure sli n ≤ m → is_fit sli n (Free m t) ≡ true
  served n m t region four enough = let search = search_of-is sli level n region in serves_sure sli level n search.0 m t search.1 four (omega (arith, enough, sure_is sli level n search.0 search.1))

  asked : (n m t tick last : ℕ) (front : List Block) → m ≡ n * (k + 4) + k → last ≡ tick + 2 * n → last ≤ last_tick → AllByRecursion (λ b. is_free b ≡ false) front
      → (run sli (heap_with words tick (front ++ Free m t ∷ [])) (asks k n)).1 ≡ heap_with words last ((front ++ pairs k n tick) ++ Free k (left_at n t tick) ∷ [])
  asked zero m t tick last front size end fresh live =
      let size_is : m ≡ k = omega (arith, size) in
      let end_is : tick ≡ last = omega (arith, end) in
      ap₂ (λ (a b : ℕ). heap_with words a (front ++ Free b t ∷ [])) end_is size_is ∙ ap (λ (l : List Block). heap_with words last (l ++ Free k t ∷ [])) (sym (append-nil front))
  asked (suc n) m t tick last front size end fresh live =
      let bytes : ℕ = 8 * (k - 3) in
      let one : List Block = front ++ Live k tick (replicate bytes 0) ∷ [] in
      let both : List Block = one ++ Live 4 (tick + 1) [] ∷ [] in
      let rest : List Block = pairs k n (tick + 1 + 1) in
      let large : k + 4 + k ≤ m = sized n m size in
      let one_live : AllByRecursion (λ b. is_free b ≡ false) one = all_append (λ b. is_free b ≡ false) front (Live k tick (replicate bytes 0) ∷ []) live (refl, tt) in
      let both_live : AllByRecursion (λ b. is_free b ≡ false) both = all_append (λ b. is_free b ≡ false) one (Live 4 (tick + 1) [] ∷ []) one_live (refl, tt) in
      let four_class : 4 ≤ most_words sli = omega (arith, least, class) in
      let first = given sli bytes k m t words tick front (wants k least) (served k m t class (omega (arith, large, least)) (omega (arith, large, upto))) (omega (arith, large, least)) (omega (arith, end, fresh)) live in
      let second = given sli 0 4 (m - k) tick words (tick + 1) one refl (served 4 (m - k) tick four_class (omega (arith, large, least)) (omega (arith, large, least, sure_four sli level))) (omega (arith, large, least)) (omega (arith, end, fresh)) one_live in
      ap (λ (h : HeapState). (run sli (answered sli h (Allocate 0)).1 (asks k n)).1) first
      ∙ (ap (λ (h : HeapState). (run sli h (asks k n)).1) second
      ∙ (asked n (m - k - 4) (tick + 1) (tick + 1 + 1) last both (shorter n m size) (omega (arith, end)) fresh both_live
      ∙ ap (λ (l : List Block). heap_with words last (l ++ Free k (left_at n (tick + 1) (tick + 1 + 1)) ∷ []))
      (append_assoc one (Live 4 (tick + 1) [] ∷ []) rest ∙ append_assoc front (Live k tick (replicate bytes 0) ∷ []) (Live 4 (tick + 1) [] ∷ rest))))
    where
      sized : (n m : ℕ) → m ≡ suc n * (k + 4) + k → k + 4 + k ≤ m
      sized n m size = omega (arith, size)

      shorter : (n m : ℕ) → m ≡ suc n * (k + 4) + k → m - k - 4 ≡ n * (k + 4) + k
      shorter n m size = omega (arith, size)

  dug : (n at t tick last : ℕ) (front rest : List Block) → words_in front ≡ at → AllByRecursion (λ y. y < t) (serials front) → EndsLive front → last ≡ tick + n → last ≤ last_tick
      → (run sli (heap_with words tick ((front ++ pairs k n t) ++ rest)) (digs k n at t)).1 ≡ heap_with words last ((front ++ holes k n t tick) ++ rest)
  dug zero at t tick last front rest place older ends end fresh =
      let end_is : tick ≡ last = omega (arith, end) in ap (λ (a : ℕ). heap_with words a ((front ++ []) ++ rest)) end_is
  dug (suc n) at t tick last front rest place older ends end fresh =
      let bytes : List ℕ = replicate (8 * (k - 3)) 0 in
      let more : List Block = pairs k n (t + 1 + 1) in
      let pair : List Block = Free k tick ∷ Live 4 (t + 1) [] ∷ [] in
      let next : List Block = front ++ pair in
      let first = taken sli at t k words tick bytes front (Live 4 (t + 1) [] ∷ (more ++ rest)) place older ends (omega (arith, end, fresh)) refl refl in
      let serials_are = serials-append front pair in
      ap (λ (l : List Block). (run sli (answered sli (heap_with words tick l) (Release (record { heap = 0; at = at; serial = t }))).1 (digs k n (at + (k + 4)) (t + 1 + 1))).1)
      (append_assoc front (pairs k (suc n) t) rest)
      ∙ (ap (λ (h : HeapState). (run sli h (digs k n (at + (k + 4)) (t + 1 + 1))).1) (first ∙ ap (heap_with words (tick + 1)) (sym (append_assoc next more rest ∙ append_assoc front pair (more ++ rest))))
      ∙ (dug n (at + (k + 4)) (t + 1 + 1) (tick + 1) last next rest (omega (arith, words_in-append front pair, place))
      (subst (AllByRecursion (λ y. y < t + 1 + 1)) (sym serials_are) (all_append (λ y. y < t + 1 + 1) (serials front) ((t + 1) ∷ []) (all_weaker (λ y. y < t) (λ y. y < t + 1 + 1) (λ y h. omega (arith, h)) (serials front) older) (omega arith, tt)))
      (subst EndsLive (append_assoc front (Free k tick ∷ []) (Live 4 (t + 1) [] ∷ [])) (ends_live (front ++ Free k tick ∷ []) 4 (t + 1) [])) (omega (arith, end)) fresh
      ∙ ap (λ (l : List Block). heap_with words last (l ++ rest)) (append_assoc front pair (holes k n (t + 1 + 1) (tick + 1)))))

-- ---- what is left

live : (k n t tick u : ℕ) → length (live_among (holes k n t tick ++ Free k u ∷ [])) ≡ n
live k zero t tick u = refl
live k (suc n) t tick u = let e = live k n (t + 1 + 1) (tick + 1) u in omega (arith, e)

free : (k n t tick u : ℕ) → words_in (free_among (holes k n t tick ++ Free k u ∷ [])) ≡ (n + 1) * k
free k zero t tick u = omega arith
free k (suc n) t tick u = let e = free k n (t + 1 + 1) (tick + 1) u in omega (arith, e)

none_fits : (sli w k n t tick u : ℕ) → ((s : ℕ) → is_fit sli w (Free k s) ≡ false) → NoneFits sli w (holes k n t tick ++ Free k u ∷ [])
none_fits sli w k zero t tick u h zero l = h u
none_fits sli w k zero t tick u h (suc i) l = absurd (omega (arith, l))
none_fits sli w k (suc n) t tick u h zero l = h tick
none_fits sli w k (suc n) t tick u h (suc zero) l = refl
none_fits sli w k (suc n) t tick u h (suc (suc i)) l = none_fits sli w k n (t + 1 + 1) (tick + 1) u h i (omega arith)

run_append : (sli : ℕ) (h : HeapState) (xs ys : List Call) → (run sli h (xs ++ ys)).1 ≡ (run sli (run sli h xs).1 ys).1
run_append sli h [] ys = refl
run_append sli h (call ∷ xs) ys = run_append sli (answered sli h call).1 xs ys

few_ticks : (live k most last : ℕ) → 4 ≤ k → (live + 1) * k + live * 4 ≤ most → most ≤ 2 ^ 24 → last ≤ 1 + 2 * live + live → last ≤ last_tick
few_ticks live k most last least few region h = omega (arith, h, few, region)

pub room_tight : (sli : ℕ) (level : IsLevel sli) → RoomIsTight sli
room_tight sli level count len region more few =
    let k : ℕ = sure sli (want len) - 1 in
    let words : ℕ = (count + 1) * k + count * 4 in
    let class : k ≤ most_words sli = omega (arith, few) in
    let least : 4 ≤ k = omega (arith, more) in
    let upto : sure sli k ≤ k + 1 = omega (arith, more, sure_upto sli level k (want len) (omega (arith, more)) class region) in
    let middle : ℕ = 1 + 2 * count in
    let last : ℕ = middle + count in
    let fresh : last ≤ last_tick = few_ticks count k (most_words sli) last least few (most_words_any sli) (omega arith) in
    let u : ℕ = left_at count 0 1 in
    let end : List Block = holes k count 1 middle ++ Free k u ∷ [] in
    let calls : List Call = asks k count ++ digs k count 0 1 in
    let start : HeapState = opened 0 words 0 in
    let left : (run sli start calls).1 ≡ heap_with words last end
    = run_append sli start (asks k count) (digs k count 0 1)
    ∙ (ap (λ (h : HeapState). (run sli h (digs k count 0 1)).1) (asked sli level k words least class upto count words 0 1 middle [] (omega arith) (omega arith) (omega (arith, fresh)) tt)
    ∙ dug sli level k words least class upto count 0 1 middle last [] (Free k u ∷ []) refl tt (refl, refl) refl fresh) in
    let all : (live_count (heap_with words last end) ≡ count) × (free_words (heap_with words last end) ≡ (count + 1) * k) × (fits sli (want len) end ≡ [])
    = (
      live k count 1 middle u,
      free k count 1 middle u,
      fits_nothing sli (want len) end (none_fits sli (want len) k count 1 middle u (λ s. too_small sli level (want len) k s region (omega (arith, more)))),
    ) in
    (calls, subst (λ (h : HeapState). (live_count h ≡ count) × (free_words h ≡ (count + 1) * k) × (fits sli (want len) h.blocks ≡ [])) (sym left) all)
