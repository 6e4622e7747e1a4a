-- The bytes under a name, by a look through the blocks from the first on.
use Rattle.tlsf_pool.proofs.Common.{◌≤◌, Result, arith, length-take-le, take, drop, ◌≡◌, ◌≢◌, ℕ, ◌+◌, ◌<◌, Bool, true, false, cond, eqb, ◌&&◌, List, [], ◌∷◌, ◌++◌, length, replicate, find, Option, Some, None, Ok, Err, refl, sym, ap, ◌∙◌, subst, inl, inr, append_assoc, eq-eqb, ◌↔◌, IsSome, AllByRecursion, option_map, is_some, drop_at, take_at, IsLevel, le-leb, lt-leb, eqb-true, false≢true, cases_lt, cases_eq, ne_eqb, Block, Live, Free, HeapState, size_of, words_in, serials, bytes_of, want, Site, sites_behind, place_of, is_fit, IsLawful, refused, carved, has_serial, is_named, named, first_free, past_free, last_free, before_free, coalesced, fitted, refitted, overwritten, with_bytes, has_bytes, written, written_at, read_of, read_at, Call, Allocate, Release, Write, Resize, Read, Answer, Allocated, Released, Written, Resized, answered, opened, run, Name, Refusal, Foreign, Range, Contents, bytes_there, contents, is_same, with_contents, after, after_all, got, HasWhatIsLive, ChangesOneName, part, WritesIntoContents, ReadsBack, ReadsWhatWasWritten}
use Rattle.tlsf_heap.proofs.lemmas.calls.Write.{length-overwritten}
use Rattle.tlsf_words.specs.Lists.{AreDistinct}
use Rattle.tlsf_heap.proofs.lemmas.blocks.Find.{and_left, and_right}
use Rattle.tlsf_heap.proofs.lemmas.blocks.Lawful.{all_left, all_right, all_weaker, words_in-append, serials-append, opened_lawful}
use Rattle.tlsf_heap.proofs.lemmas.blocks.Replace.{carved_small, carved_large}
use Rattle.tlsf_heap.proofs.lemmas.blocks.Coalesce.{by_last}
use Rattle.tlsf_heap.proofs.lemmas.blocks.Around.{last_words}
use Rattle.tlsf_heap.proofs.lemmas.calls.Outcomes.{by_test, IsSiteOf, gives, by_allocated, takes, by_released, resizes, by_resized_words, writes, by_written_named, lawful_run}
use Rattle.tlsf_pool.proofs.lemmas.laws.Names.{same_self}
use Rattle.tlsf_pool.specs.laws.Contents.{part_of}
use Rattle.tlsf_pool.proofs.lemmas.laws.Refits.{by_refit}

abbrev or_else : {X : Type 0} → Option X → Option X → Option X
or_else None y = y
or_else (Some x) y = Some x

or_none : {X : Type 0} (x : Option X) → or_else x None ≡ x
or_none None = refl
or_none (Some x) = refl

module _ (at serial : ℕ) where
  -- the bytes of the first block, of those from a place on, with this place and this serial
  abbrev look : ℕ → List Block → Option (List ℕ)
  look place [] = None
  look place (b ∷ bs) = cond (has_serial serial b && eqb place at) (Some (bytes_of b)) (look (place + size_of b) bs)

  moved : (j k : ℕ) (bs : List Block) → j ≡ k → look j bs ≡ look k bs
  moved j k bs e = ap (λ (i : ℕ). look i bs) e

  there : (c : Bool) (s : Site) (rest : Option Site) → bytes_there (cond c (Some s) rest) ≡ cond c (Some (bytes_of s.block)) (bytes_there rest)
  there true s rest = refl
  there false s rest = refl

  look_sites : (p bs : List Block) → bytes_there (find (is_named at serial) (sites_behind p bs)) ≡ look (words_in p) bs
  look_sites p [] = refl
  look_sites p (b ∷ bs) =
      let c : Bool = has_serial serial b && eqb (words_in p) at in
      there c (record { before = p; block = b; after = bs }) (find (is_named at serial) (sites_behind (p ++ b ∷ []) bs))
      ∙ ap (λ (o : Option (List ℕ)). cond c (Some (bytes_of b)) o) (look_sites (p ++ b ∷ []) bs ∙ moved _ _ bs (omega (arith, words_in-append p (b ∷ []))))

  either : {X : Type 0} (c : Bool) (x : X) (y z : Option X) → cond c (Some x) (or_else y z) ≡ or_else (cond c (Some x) y) z
  either true x y z = refl
  either false x y z = refl

  look-append : (place : ℕ) (xs ys : List Block) → look place (xs ++ ys) ≡ or_else (look place xs) (look (place + words_in xs) ys)
  look-append place [] ys = moved _ _ ys (omega arith)
  look-append place (b ∷ xs) ys =
      let c : Bool = has_serial serial b && eqb place at in
      ap (λ (o : Option (List ℕ)). cond c (Some (bytes_of b)) o) (look-append (place + size_of b) xs ys ∙ ap (or_else (look (place + size_of b) xs)) (moved _ _ ys (omega arith)))
      ∙ either c (bytes_of b) (look (place + size_of b) xs) _

  -- nothing is found where no block has the serial
  look_none : (place : ℕ) (bs : List Block) → AllByRecursion (λ y. y ≢ serial) (serials bs) → look place bs ≡ None
  look_none place [] all = refl
  look_none place (Live m s xs ∷ bs) all =
      ap (λ (c : Bool). cond (c && eqb place at) (Some xs) (look (place + m) bs)) (ne_eqb s serial all.0) ∙ look_none (place + m) bs all.1
  look_none place (Free m s ∷ bs) all = look_none (place + m) bs all

  -- free blocks don't count
  look_past : (place : ℕ) (bs : List Block) → look (place + first_free bs) (past_free bs) ≡ look place bs
  look_past place [] = refl
  look_past place (Live m s xs ∷ bs) = moved _ _ (Live m s xs ∷ bs) (omega arith)
  look_past place (Free m s ∷ bs) = refl

  look_before : (place : ℕ) (bs : List Block) → look place (before_free bs) ≡ look place bs
  look_before place bs = by_last (λ all k left. look place left ≡ look place all) bs refl (λ front m s xs. refl)
      (λ front m s. sym (look-append place front (Free m s ∷ []) ∙ or_none (look place front)))

  -- whether a block with this place and this serial is the one that is looked for
  abbrev asked : ℕ → ℕ → Bool
  asked place own = eqb own serial && eqb place at

  -- ---- an edit of the blocks behind `front`, of which the first was or becomes the one with the serial `own`

  look_front : (front bs : List Block) → look 0 (front ++ bs) ≡ or_else (look 0 front) (look (words_in front) bs)
  look_front front bs =
      let place : 0 + words_in front ≡ words_in front = omega arith in look-append 0 front bs ∙ ap (λ (i : ℕ). or_else (look 0 front) (look i bs)) place

  -- what it changes, where no block of `front` has that serial
  look_behind : (front left old : List Block) (own : ℕ) (new : Option (List ℕ)) → AllByRecursion (λ y. y ≢ own) (serials front)
      → look (words_in front) left ≡ cond (asked (words_in front) own) new (look (words_in front) old) → look 0 (front ++ left) ≡ cond (asked (words_in front) own) new (look 0 (front ++ old))
  look_behind front left old own new others e =
      let c : Bool = asked (words_in front) own in
      look_front front left
      ∙ ap (or_else (look 0 front)) e
      ∙ into c (look 0 front) (look (words_in front) old) (λ t. look_none 0 front (subst (λ (i : ℕ). AllByRecursion (λ y. y ≢ i) (serials front)) (eqb-true own serial (and_left _ _ t)) others))
      ∙ ap (λ (o : Option (List ℕ)). cond c new o) (sym (look_front front old))
    where
      into : (c : Bool) (x z : Option (List ℕ)) → (c ≡ true → x ≡ None) → or_else x (cond c new z) ≡ cond c new (or_else x z)
      into true x z f = ap (λ (o : Option (List ℕ)). or_else o new) (f refl)
      into false x z f = refl

  again : (c : Bool) (new old z : Option (List ℕ)) → cond c new z ≡ cond c new (cond c old z)
  again true new old z = refl
  again false new old z = refl

  -- a block with other bytes
  look_with : (front back : List Block) (m own : ℕ) (old new : List ℕ) → AllByRecursion (λ y. y ≢ own) (serials front)
      → look 0 (front ++ Live m own new ∷ back) ≡ cond (asked (words_in front) own) (Some new) (look 0 (front ++ Live m own old ∷ back))
  look_with front back m own old new others =
      look_behind front (Live m own new ∷ back) (Live m own old ∷ back) own (Some new) others (again (asked (words_in front) own) (Some new) (Some old) (look (words_in front + m) back))

  -- a block with another length, which may take in the free block behind it and leave a free rest
  look_refitted : (front back : List Block) (m own tick n len : ℕ) (old : List ℕ) → AllByRecursion (λ y. y ≢ own) (serials front)
      → look 0 (front ++ refitted tick n len (Live m own old) back) ≡ cond (asked (words_in front) own) (Some (fitted old len)) (look 0 (front ++ Live m own old ∷ back))
  look_refitted front back m own tick n len old others =
      let p = words_in front in
      let c : Bool = asked p own in
      let new : Option (List ℕ) = Some (fitted old len) in
      look_behind front (refitted tick n len (Live m own old) back) (Live m own old ∷ back) own new others
      (by_refit (λ l. look p l ≡ cond c new (look (p + m) back)) tick n len m own old back (λ enough few. refl)
      (λ large. ap (λ (o : Option (List ℕ)). cond c new o) (moved _ _ (past_free back) (omega (arith, large)) ∙ look_past (p + m) back))
      (λ small. ap (λ (o : Option (List ℕ)). cond c new o) (moved _ _ (past_free back) (omega arith) ∙ look_past (p + m) back)) ∙ again c new (Some old) (look (p + m) back))

  -- a free block becomes live
  look_given : (front back : List Block) (m s n own len : ℕ) → AllByRecursion (λ y. y ≢ own) (serials front)
      → look 0 (front ++ carved m n own len ++ back) ≡ cond (asked (words_in front) own) (Some (replicate len 0)) (look 0 (front ++ Free m s ∷ back))
  look_given front back m s n own len others =
      let zeros : List ℕ = replicate len 0 in
      let first : look (words_in front) (carved m n own len ++ back) ≡ cond (asked (words_in front) own) (Some zeros) (look (words_in front + m) back) = elim (cases_lt m (n + 4)) [
        | inl small ↦ ap (λ (l : List Block). look (words_in front) (l ++ back)) (carved_small m n own len small)
        | inr large ↦ ap (λ (l : List Block). look (words_in front) (l ++ back)) (carved_large m n own len large)
            ∙ ap (λ (o : Option (List ℕ)). cond (asked (words_in front) own) (Some zeros) o) (moved _ _ back (omega (arith, large)))
      ] in
      ap (look 0) (append_assoc front (carved m n own len) back) ∙ look_behind front (carved m n own len ++ back) (Free m s ∷ back) own (Some zeros) others first

  -- a live block becomes free, and one with its free neighbours
  look_taken : (front back : List Block) (m own tick : ℕ) (old : List ℕ) → AllByRecursion (λ y. y ≢ own) (serials front) → AllByRecursion (λ y. y ≢ own) (serials back)
      → look 0 (coalesced tick (record { before = front; block = Live m own old; after = back })) ≡ cond (asked (words_in front) own) None (look 0 (front ++ Live m own old ∷ back))
  look_taken front back m own tick old others behind =
      let ends : 0 + words_in (before_free front) + (last_free front + m + first_free back) ≡ words_in front + m + first_free back = omega (arith, last_words front) in
      let none : (bs : List Block) (i : ℕ) → AllByRecursion (λ y. y ≢ own) (serials bs) → asked (words_in front) own ≡ true → look i bs ≡ None = λ bs i all t.
      look_none i bs (subst (λ (i : ℕ). AllByRecursion (λ y. y ≢ i) (serials bs)) (eqb-true own serial (and_left _ _ t)) all) in
      look-append 0 (before_free front) (Free (last_free front + m + first_free back) tick ∷ past_free back)
      ∙ ap (λ (o : Option (List ℕ)). or_else o (look (0 + words_in (before_free front) + (last_free front + m + first_free back)) (past_free back))) (look_before 0 front)
      ∙ ap (or_else (look 0 front)) (moved _ _ (past_free back) ends ∙ look_past (words_in front + m) back)
      ∙ gone (asked (words_in front) own) (look 0 front) (Some old) (look (words_in front + m) back) (none front 0 others) (none back (words_in front + m) behind)
      ∙ ap (λ (o : Option (List ℕ)). cond (asked (words_in front) own) None o) (sym (look_front front (Live m own old ∷ back)))
    where
      gone : (c : Bool) (x y z : Option (List ℕ)) → (c ≡ true → x ≡ None) → (c ≡ true → z ≡ None) → or_else x z ≡ cond c None (or_else x (cond c y z))
      gone true x y z f g = ap (λ (o : Option (List ℕ)). or_else o z) (f refl) ∙ g refl
      gone false x y z f g = refl

-- ---- serials differ

distinct_front : (s : ℕ) (xs ys : List ℕ) → AreDistinct (xs ++ s ∷ ys) → AllByRecursion (λ y. y ≢ s) xs
distinct_front s [] ys d = tt
distinct_front s (x ∷ xs) ys d = ((all_right (λ y. x ≢ y) xs (s ∷ ys) d.0).0, distinct_front s xs ys d.1)

distinct_back : (s : ℕ) (xs ys : List ℕ) → AreDistinct (xs ++ s ∷ ys) → AllByRecursion (λ y. y ≢ s) ys
distinct_back s [] ys d = all_weaker (λ y. s ≢ y) (λ y. y ≢ s) (λ y n e. n (sym e)) ys d.0
distinct_back s (x ∷ xs) ys d = distinct_back s xs ys d.1

module _ (front back : List Block) (m s : ℕ) (xs : List ℕ) (differ : AreDistinct (serials (front ++ Live m s xs ∷ back))) where
  own_front : AllByRecursion (λ y. y ≢ s) (serials front)
  own_front = distinct_front s (serials front) (serials back) (subst AreDistinct (serials-append front (Live m s xs ∷ back)) differ)

  own_back : AllByRecursion (λ y. y ≢ s) (serials back)
  own_back = distinct_back s (serials front) (serials back) (subst AreDistinct (serials-append front (Live m s xs ∷ back)) differ)

-- a past serial is not that of the tick
new_front : (tick : ℕ) (front back : List Block) → AllByRecursion (λ s. s < tick) (serials (front ++ back)) → AllByRecursion (λ y. y ≢ tick) (serials front)
new_front tick front back past =
    all_weaker (λ s. s < tick) (λ y. y ≢ tick) (λ y l e. omega (arith, l, e)) (serials front)
    (all_left (λ s. s < tick) (serials front) (serials back) (subst (AllByRecursion (λ s. s < tick)) (serials-append front back) past))

-- ---- the map

-- what the heap's own names have is found by a look, and others have nothing
by_heap : (P : Bool → Option (List ℕ) → Option (List ℕ) → Type 0) (x y : ℕ) (new old : Option (List ℕ)) → P true new old → P false None None → P (eqb y x) (cond (eqb x y) new None) (cond (eqb x y) old None)
by_heap P x y new old f g = elim (cases_eq x y) [
  | inl e ↦ subst (λ (c : Bool). P (eqb y x) (cond c new None) (cond c old None)) (sym (eq-eqb x y e)) (subst (λ (c : Bool). P c new old) (sym (eq-eqb y x (sym e))) f)
  | inr n ↦ subst (λ (c : Bool). P (eqb y x) (cond c new None) (cond c old None)) (sym (ne_eqb x y n)) (subst (λ (c : Bool). P c None None) (sym (ne_eqb y x (λ e. n (sym e)))) g)
]

-- the blocks change under one name
changes : (h : HeapState) (tick : ℕ) (bs : List Block) (bytes : Option (List ℕ)) (own name : Name) → own.heap ≡ h.id
    → look name.at name.serial 0 bs ≡ cond (eqb own.serial name.serial && eqb own.at name.at) bytes (look name.at name.serial 0 h.blocks)
    → contents (record { id = h.id; words = h.words; tick = tick; blocks = bs }) name ≡ with_contents (contents h) own bytes name
changes h tick bs bytes own name here e =
    let c : Bool = eqb own.serial name.serial && eqb own.at name.at in
    let found : bytes_there (named name bs) ≡ cond c bytes (bytes_there (named name h.blocks)) =
    look_sites name.at name.serial [] bs ∙ e ∙ ap (λ (o : Option (List ℕ)). cond c bytes o) (sym (look_sites name.at name.serial [] h.blocks)) in
    subst (λ (i : ℕ). contents (record { id = h.id; words = h.words; tick = tick; blocks = bs }) name ≡ cond (eqb i name.heap && c) bytes (contents h name)) (sym here)
    (by_heap (λ d new old. new ≡ cond (d && c) bytes old) name.heap h.id (bytes_there (named name bs)) (bytes_there (named name h.blocks)) found refl)

-- the look at the blocks of a heap, by those around a site
at_site : (h : HeapState) (s : Site) (at serial : ℕ) (c : Bool) (new bytes : Option (List ℕ)) → IsSiteOf h.blocks s → new ≡ cond c bytes (look at serial 0 (s.before ++ s.block ∷ s.after)) → new ≡ cond c bytes (look at serial 0 h.blocks)
at_site h s at serial c new bytes site e = subst (λ (l : List Block). new ≡ cond c bytes (look at serial 0 l)) site e

-- what a call changes, where it is done at a site
pub given_name : (sli : ℕ) (h : HeapState) (len : ℕ) (s : Site) (name : Name) → IsLawful h → IsSiteOf h.blocks s → is_fit sli (want len) s.block ≡ true
    → contents (gives h len s).heap name ≡ with_contents (contents h) (record { heap = h.id; at = place_of s; serial = h.tick }) (Some (replicate len 0)) name
given_name sli h len s name lawful site fit =
    changes h (h.tick + 1) (s.before ++ carved (size_of s.block) (want len) h.tick len ++ s.after) (Some (replicate len 0)) (record { heap = h.id; at = place_of s; serial = h.tick }) name refl
    (at_site h s name.at name.serial _ _ (Some (replicate len 0)) site (by_block s.block fit))
  where
    others : AllByRecursion (λ y. y ≢ h.tick) (serials s.before)
    others = new_front h.tick s.before (s.block ∷ s.after) (subst (λ (l : List Block). AllByRecursion (λ x. x < h.tick) (serials l)) (sym site) lawful.serials_past)

    by_block : (b : Block) → is_fit sli (want len) b ≡ true
        → look name.at name.serial 0 (s.before ++ carved (size_of b) (want len) h.tick len ++ s.after)
        ≡ cond (eqb h.tick name.serial && eqb (place_of s) name.at) (Some (replicate len 0)) (look name.at name.serial 0 (s.before ++ b ∷ s.after))
    by_block (Live m t xs) fit = absurd (false≢true fit)
    by_block (Free m t) fit = look_given name.at name.serial s.before s.after m t (want len) h.tick len others

-- the block of a name is edited, by a look at a live block with its serial
edited : (h : HeapState) (s : Site) (tick : ℕ) (own_name name : Name) (edit : Block → List Block) (new : List ℕ → Option (List ℕ)) → IsLawful h → own_name.heap ≡ h.id → IsSiteOf h.blocks s
    → is_named own_name.at own_name.serial s ≡ true
    → ((m t : ℕ) (xs : List ℕ) → AreDistinct (serials (s.before ++ Live m t xs ∷ s.after))
    → look name.at name.serial 0 (edit (Live m t xs)) ≡ cond (asked name.at name.serial (words_in s.before) t) (new xs) (look name.at name.serial 0 (s.before ++ Live m t xs ∷ s.after)))
    → contents (record { id = h.id; words = h.words; tick = tick; blocks = edit s.block }) name ≡ with_contents (contents h) own_name (new (bytes_of s.block)) name
edited h s tick own_name name edit new lawful own site is each =
    changes h tick (edit s.block) (new (bytes_of s.block)) own_name name own
    (at_site h s name.at name.serial _ _ (new (bytes_of s.block)) site (by_block s.block (and_left _ _ is) (subst (λ (l : List Block). AreDistinct (serials l)) (sym site) lawful.serials_differ)))
  where
    at_place : place_of s ≡ own_name.at
    at_place = eqb-true _ _ (and_right (has_serial own_name.serial s.block) _ is)

    by_block : (b : Block) → has_serial own_name.serial b ≡ true → AreDistinct (serials (s.before ++ b ∷ s.after))
        → look name.at name.serial 0 (edit b) ≡ cond (eqb own_name.serial name.serial && eqb own_name.at name.at) (new (bytes_of b)) (look name.at name.serial 0 (s.before ++ b ∷ s.after))
    by_block (Live m t xs) e differ =
        rw (← (eqb-true t own_name.serial e), ← at_place) (each m t xs differ)
    by_block (Free m t) e differ = absurd (false≢true e)

pub taken_name : (h : HeapState) (s : Site) (taken name : Name) → IsLawful h → taken.heap ≡ h.id → IsSiteOf h.blocks s → is_named taken.at taken.serial s ≡ true
    → contents (takes h s).heap name ≡ with_contents (contents h) taken None name
taken_name h s taken name lawful own site is =
    edited h s (h.tick + 1) taken name (λ b. coalesced h.tick (record { before = s.before; block = b; after = s.after })) (λ _. None) lawful own site is
    (λ m t xs differ. look_taken name.at name.serial s.before s.after m t h.tick xs (own_front s.before s.after m t xs differ) (own_back s.before s.after m t xs differ))

pub written_name : (h : HeapState) (s : Site) (at : ℕ) (bytes : List ℕ) (own_name name : Name) → IsLawful h → own_name.heap ≡ h.id → IsSiteOf h.blocks s
    → is_named own_name.at own_name.serial s ≡ true → contents (writes h at bytes s).heap name ≡ with_contents (contents h) own_name (Some (overwritten (bytes_of s.block) at bytes)) name
written_name h s at bytes own_name name lawful own site is =
    let new : List ℕ = overwritten (bytes_of s.block) at bytes in
    edited h s h.tick own_name name (λ b. s.before ++ with_bytes b new ∷ s.after) (λ _. Some new) lawful own site is
    (λ m t xs differ. look_with name.at name.serial s.before s.after m t xs new (own_front s.before s.after m t xs differ))

pub resized_name : (h : HeapState) (s : Site) (own_name : Name) (len : ℕ) (name : Name) → IsLawful h → own_name.heap ≡ h.id → IsSiteOf h.blocks s → is_named own_name.at own_name.serial s ≡ true
    → contents (resizes h (want len) len s).heap name ≡ with_contents (contents h) own_name (Some (fitted (bytes_of s.block) len)) name
resized_name h s own_name len name lawful own site is =
    edited h s (h.tick + 1) own_name name (λ b. s.before ++ refitted h.tick (want len) len b s.after) (λ xs. Some (fitted xs len)) lawful own site is
    (λ m t xs differ. look_refitted name.at name.serial s.before s.after m t h.tick (want len) len xs (own_front s.before s.after m t xs differ))

-- the bytes under the name of a block
pub found_bytes : (h : HeapState) (own_name : Name) (s : Site) → IsLawful h → own_name.heap ≡ h.id → IsSiteOf h.blocks s → is_named own_name.at own_name.serial s ≡ true → contents h own_name ≡ Some (bytes_of s.block)
found_bytes h own_name s lawful own site is =
    subst (λ (bs : List Block). contents (record { id = h.id; words = h.words; tick = h.tick; blocks = bs }) own_name ≡ Some (bytes_of s.block)) site
    (edited h s h.tick own_name own_name (λ b. s.before ++ b ∷ s.after) (λ xs. Some xs) lawful own site is
    (λ m t xs differ. look_with own_name.at own_name.serial s.before s.after m t xs xs (own_front s.before s.after m t xs differ))
    ∙ ap (λ (c : Bool). cond c (Some (bytes_of s.block)) (contents h own_name)) (same_self own_name))

-- ---- the laws

write_changes : (h : HeapState) (own_name : Name) (at : ℕ) (bytes : List ℕ) (name : Name) → IsLawful h
    → contents (written h own_name at bytes).heap name ≡ after (contents h) (Write own_name at bytes) (Written (written h own_name at bytes).answer) name
write_changes h own_name at bytes name lawful =
    by_written_named (λ o. contents o.heap name ≡ after (contents h) (Write own_name at bytes) (Written o.answer) name) h own_name at bytes (λ why. refl) (λ s own site is has.
    written_name h s at bytes own_name name lawful own site is
    ∙ ap (λ (o : Option (List ℕ)). with_contents (contents h) own_name (option_map (λ old. overwritten old at bytes) o) name) (sym (found_bytes h own_name s lawful own site is)))

pub change : (sli : ℕ) → ChangesOneName sli
change sli h (Allocate len) name lawful =
    by_allocated sli (λ o. contents o.heap name ≡ after (contents h) (Allocate len) (Allocated o.answer) name) h len (λ why. refl) (λ s site fit. given_name sli h len s name lawful site fit)
change sli h (Release taken) name lawful =
    by_released (λ o. contents o.heap name ≡ after (contents h) (Release taken) (Released o.answer) name) h taken (λ why. refl) (λ s own site is. taken_name h s taken name lawful own site is)
change sli h (Write own_name at bytes) name lawful = write_changes h own_name at bytes name lawful
change sli h (Resize own_name len) name lawful =
    by_resized_words (λ o. contents o.heap name ≡ after (contents h) (Resize own_name len) (Resized o.answer) name) h own_name (want len) len (λ why. refl) (λ s own site is room.
    resized_name h s own_name len name lawful own site is
    ∙ ap (λ (o : Option (List ℕ)). with_contents (contents h) own_name (option_map (λ old. fitted old len) o) name) (sym (found_bytes h own_name s lawful own site is)))
change sli h (Read own_name at n) name lawful = refl

-- equal maps stay equal
all_same : (f g : Contents) → ((name : Name) → f name ≡ g name) → (calls : List Call) (answers : List Answer) (name : Name) → after_all f calls answers name ≡ after_all g calls answers name
all_same f g e calls answers name = let same : f ≡ g = λ i other. e other i in ap (λ (m : Contents). after_all m calls answers name) same

told : (sli : ℕ) (level : IsLevel sli) (h : HeapState) (calls : List Call) (name : Name) → IsLawful h → contents (run sli h calls).1 name ≡ after_all (contents h) calls (run sli h calls).0 name
told sli level h [] name lawful = refl
told sli level h (call ∷ calls) name lawful =
    let step = answered sli h call in
    told sli level step.1 calls name (lawful_run sli level h (call ∷ []) lawful)
    ∙ all_same (contents step.1) (after (contents h) call step.0) (λ other. change sli h call other lawful) calls (run sli step.1 calls).0 name

-- no block has the serial of the tick
pub fresh : (h : HeapState) (at : ℕ) → IsLawful h → contents h (record { heap = h.id; at = at; serial = h.tick }) ≡ None
fresh h at lawful =
    ap (λ (c : Bool). cond c (bytes_there (named (record { heap = h.id; at = at; serial = h.tick }) h.blocks)) None) (eq-eqb h.id h.id refl)
    ∙ (look_sites at h.tick [] h.blocks
    ∙ look_none at h.tick 0 h.blocks (all_weaker (λ s. s < h.tick) (λ y. y ≢ h.tick) (λ y l e. omega (arith, l, e)) (serials h.blocks) lawful.serials_past))

-- nothing is live in a new heap
pub new_empty : (id words first : ℕ) (name : Name) → contents (opened id words first) name ≡ None
new_empty id words first name = by_test (λ (o : Option (List ℕ)). o ≡ None) (eqb name.heap id) None None (λ _. refl) refl

pub reads : (h : HeapState) (name : Name) (at n : ℕ) → got (read_of h name at n) ≡ part_of at n (contents h name)
reads h name at n = at_name (eqb name.heap h.id) (named name h.blocks)
  where
    ends : (c : Bool) (bytes : List ℕ) → got (cond c (Ok bytes) (Err Range)) ≡ cond c (Some bytes) None
    ends true bytes = refl
    ends false bytes = refl

    at_name : (c : Bool) (o : Option Site) → got (cond c (read_at at n o) (Err Foreign)) ≡ part_of at n (cond c (bytes_there o) None)
    at_name true None = refl
    at_name true (Some s) = ends (has_bytes s.block at n) (take n (drop at (bytes_of s.block)))
    at_name false o = refl

-- the bytes under a name, after calls on a new heap
pub told_new : (sli : ℕ) (level : IsLevel sli) (id words first : ℕ) (calls : List Call) (name : Name) → 4 ≤ words
    → let end = run sli (opened id words first) calls in contents end.1 name ≡ after_all (λ other. None) calls end.0 name
told_new sli level id words first calls name four =
    told sli level (opened id words first) calls name (opened_lawful id words first four)
    ∙ all_same (contents (opened id words first)) (λ other. None) (new_empty id words first) calls (run sli (opened id words first) calls).0 name

pub history : (sli : ℕ) (level : IsLevel sli) → ReadsWhatWasWritten sli
history sli level id words first calls name at n four =
    reads (run sli (opened id words first) calls).1 name at n ∙ ap (part_of at n) (told_new sli level id words first calls name four)

pub live : HasWhatIsLive
live h name = elim (cases_eq name.heap h.id) [
  | inl own ↦
      let test : contents h name ≡ bytes_there (named name h.blocks) = ap (λ (c : Bool). cond c (bytes_there (named name h.blocks)) None) (eq-eqb name.heap h.id own) in
      rw test (λ l. some (named name h.blocks) l.1, λ b. (own, is (named name h.blocks) b))
  | inr other ↦
      let test : contents h name ≡ None = ap (λ (c : Bool). cond c (bytes_there (named name h.blocks)) None) (ne_eqb name.heap h.id other) in
      rw test (λ l. absurd (other l.0), λ b. absurd (false≢true b))
]
  where
    some : (o : Option Site) → IsSome o → IsSome (bytes_there o)
    some None e = e
    some (Some s) e = refl

    is : (o : Option Site) → IsSome (bytes_there o) → IsSome o
    is None e = e
    is (Some s) e = refl

pub write : WritesIntoContents
write h name at bytes = at_name (eqb name.heap h.id) (named name h.blocks)
  where
    at_range : (s : Site) (c : Bool) → ((cond c (writes h at bytes s) (refused h Range)).answer ≡ Ok tt) ↔ IsSome (cond c (Some (take (length bytes) (drop at (bytes_of s.block)))) None)
    at_range s true = (λ e. refl, λ e. refl)
    at_range s false = (λ e. absurd cc, λ e. absurd (false≢true e))

    at_name : (c : Bool) (o : Option Site) → ((cond c (written_at h at bytes o) (refused h Foreign)).answer ≡ Ok tt) ↔ IsSome (part_of at (length bytes) (cond c (bytes_there o) None))
    at_name true None = (λ e. absurd cc, λ e. absurd (false≢true e))
    at_name true (Some s) = at_range s (has_bytes s.block at (length bytes))
    at_name false o = (λ e. absurd cc, λ e. absurd (false≢true e))

-- the part that was replaced is what replaced it
part_overwritten : (old new : List ℕ) (at : ℕ) → at + length new ≤ length old → part at (length new) (overwritten old at new) ≡ Some new
part_overwritten old new at h =
    let front = length-take-le at old (omega arith) in
    let rest : List ℕ = drop (at + length new) old in
    ap (λ (c : Bool). cond c (Some (take (length new) (drop at (overwritten old at new)))) None) (le-leb (at + length new) (length (overwritten old at new)) (omega (arith, h, length-overwritten old new at h)))
    ∙ ap (λ (l : List ℕ). Some (take (length new) (drop at l))) (append_assoc (take at old) new rest)
    ∙ ap (λ (l : List ℕ). Some (take (length new) l)) (drop_at (take at old) (new ++ rest) at front)
    ∙ ap Some (take_at new rest (length new) refl)

pub back : ReadsBack
back h name at bytes lawful done =
    got_is _ bytes (reads (written h name at bytes).heap name at (length bytes)
    ∙ ap (part_of at (length bytes)) (write_changes h name at bytes name lawful ∙ ap (λ (r : Result (Unit {0}) Refusal). after (contents h) (Write name at bytes) (Written r) name) done)
    ∙ told_part (contents h name) ((write h name at bytes).0 done))
  where
    got_is : (r : Result (List ℕ) Refusal) (bytes : List ℕ) → got r ≡ Some bytes → r ≡ Ok bytes
    got_is (Ok xs) bytes e = let same : xs ≡ bytes = cc in ap Ok same
    got_is (Err why) bytes e = absurd cc

    range : (old : List ℕ) → IsSome (part at (length bytes) old) → at + length bytes ≤ length old
    range old some = elim (cases_lt (length old) (at + length bytes)) [
      | inl short ↦ absurd (false≢true (sym (ap (λ (c : Bool). is_some (cond {A = Option (List ℕ)} c (Some (take (length bytes) (drop at old))) None)) (lt-leb (at + length bytes) (length old) short)) ∙ some))
      | inr fine ↦ fine
    ]

    told_part : (o : Option (List ℕ)) → IsSome (part_of at (length bytes) o)
        → part_of at (length bytes) (cond (is_same name name) (option_map (λ old. overwritten old at bytes) o) o) ≡ Some bytes
    told_part None some = absurd (false≢true some)
    told_part (Some old) some =
        ap (λ (c : Bool). part_of at (length bytes) (cond c (Some (overwritten old at bytes)) (Some old))) (same_self name) ∙ part_overwritten old bytes at (range old some)
