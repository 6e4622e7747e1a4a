-- Which names are live.
use Rattle.tlsf_heap.proofs.Common.{◌≡◌, ◌≢◌, ℕ, ◌+◌, ◌<◌, Bool, true, cond, nat_le, List, [], ◌∷◌, ◌++◌, ◌&&◌, find, Option, Some, None, Ok, Err, refl, sym, ap, ◌∙◌, subst, inl, inr, arith, append_assoc, eq-eqb, IsSome, AllByRecursion, eqb-true, false≢true, cases_lt, Block, Live, Free, HeapState, size_of, bytes_of, words_in, serials, want, Site, sites_behind, place_of, IsLawful, Outcome, refused, is_worn, carved, allocated, allocated_words, has_serial, is_named, named, released, released_at, overwritten, with_bytes, refitted, resized_words, Call, Allocate, Release, Resize, Write, Read, answered, IsLive, IsGiven, IsTaken, TakesBack, Name, Worn, Foreign, Stale, Fill, Fit, Give, GiveFrom, IsOfOtherBlocks, IsOk, Look, Put, Reset, Step, Take, is_free, stepped, ⊤, ◌⊎◌, IsOfOthers}
use Rattle.tlsf_heap.specs.Calls.{reset}
use Rattle.tlsf_heap.proofs.lemmas.words.Bytes.{size_of-with_bytes}
use Rattle.tlsf_heap.proofs.lemmas.blocks.Find.{and_left, and_right}
use Rattle.tlsf_heap.proofs.lemmas.laws.Lasting.{HasFrom, moved, in_left, in_right, in_either, edited, released_lasts, refitted_lasts}
use Rattle.tlsf_heap.proofs.lemmas.blocks.Lawful.{words_in-append}
use Rattle.tlsf_heap.proofs.lemmas.blocks.Replace.{carved_small, carved_large}
use Rattle.tlsf_heap.proofs.lemmas.calls.Outcomes.{by_test, first_or, or_first, IsSiteOf, gives_words, by_allocated_words, by_words_from, takes, by_released, by_resized_words, by_written_named, by_filled, by_reset, ids_step}

-- ---- live blocks by their places

-- it is live with this serial
abbrev Has : ℕ → Block → Type 0
Has serial b = has_serial serial b ≡ true

not_free : (serial m s : ℕ) → Has serial (Free m s) → ⊥
not_free serial m s e = false≢true e

module _ (at serial : ℕ) where
  -- of these blocks, the first of which begins at `place`, a live one has the place `at` and this serial
  abbrev LivesFrom : ℕ → List Block → Type 0
  LivesFrom = HasFrom (Has serial) at

  from_search : (p bs : List Block) → IsSome (find (is_named at serial) (sites_behind p bs)) → LivesFrom (words_in p) bs
  from_search p [] h = absurd (false≢true h)
  from_search p (b ∷ bs) h =
      let s : Site = record { before = p; block = b; after = bs } in
      first_or (is_named at serial s) s (find (is_named at serial) (sites_behind (p ++ b ∷ []) bs))
      (λ t. (and_left _ _ t, eqb-true _ _ (and_right (has_serial serial b) _ t)))
      (λ r. moved (Has serial) at _ _ bs (omega (arith, words_in-append p (b ∷ []))) (from_search (p ++ b ∷ []) bs r)) h

  to_search : (p bs : List Block) → LivesFrom (words_in p) bs → IsSome (find (is_named at serial) (sites_behind p bs))
  to_search p [] h = absurd h
  to_search p (b ∷ bs) h =
      let s : Site = record { before = p; block = b; after = bs } in
      or_first (is_named at serial s) s (find (is_named at serial) (sites_behind (p ++ b ∷ []) bs)) (elim h [
        | inl e ↦ inl (named_by e.0 (eq-eqb _ _ e.1))
        | inr t ↦ inr (to_search (p ++ b ∷ []) bs (moved (Has serial) at _ _ bs (omega (arith, words_in-append p (b ∷ []))) t))
      ])
    where
      named_by : {c d : Bool} → c ≡ true → d ≡ true → (c && d) ≡ true
      named_by e f = cc

  -- what holds of all serials holds of this one
  pub serial_of : (P : ℕ → Type 0) (place : ℕ) (bs : List Block) → AllByRecursion P (serials bs) → LivesFrom place bs → P serial
  serial_of P place [] all h = absurd h
  serial_of P place (Live m s xs ∷ bs) all h = elim h [ inl e ↦ subst P (eqb-true s serial e.0) all.0 | inr t ↦ serial_of P (place + m) bs all.1 t ]
  serial_of P place (Free m s ∷ bs) all h = elim h [ inl e ↦ absurd (false≢true e.0) | inr t ↦ serial_of P (place + m) bs all t ]

pub words_carved : (size n tick len : ℕ) → size + 0 ≡ words_in (carved size n tick len)
words_carved size n tick len =
    elim (cases_lt size (n + 4)) [
      | inl small ↦ sym (ap words_in (carved_small size n tick len small))
      | inr large ↦ omega (arith, ap words_in (carved_large size n tick len large))
    ]

-- ---- a given name is live, and stays so until it is released

pub lives : (h : HeapState) (name : Name) → IsLive h name → LivesFrom name.at name.serial 0 h.blocks
lives h name live = from_search name.at name.serial [] h.blocks live.1

pub shown : (h : HeapState) (name : Name) → name.heap ≡ h.id → LivesFrom name.at name.serial 0 h.blocks → IsLive h name
shown h name own l = (own, to_search name.at name.serial [] h.blocks l)

pub given_words : (sli : ℕ) (h : HeapState) (n len : ℕ) (name : Name) → (allocated_words sli h n len).answer ≡ Ok name → IsLive (allocated_words sli h n len).heap name
given_words sli h n len name = by_allocated_words sli (λ o. o.answer ≡ Ok name → IsLive o.heap name) h n len (λ why e. absurd cc) (λ s site fit e.
    let new : List Block = carved (size_of s.block) n h.tick len in
    let same : record { heap = h.id; at = place_of s; serial = h.tick } ≡ name = cc in
    let first : LivesFrom (place_of s) h.tick (0 + place_of s) new =
    by_test (LivesFrom (place_of s) h.tick (0 + place_of s)) (nat_le (n + 4) (size_of s.block)) _ _ (λ _. inl (eq-eqb h.tick h.tick refl, omega arith)) (inl (eq-eqb h.tick h.tick refl, omega arith)) in
    subst (λ (given : Name). IsLive (gives_words h n len s).heap given) same
    (shown (gives_words h n len s).heap _ refl (subst (LivesFrom (place_of s) h.tick 0) (sym (append_assoc s.before new s.after)) (in_right (Has h.tick) (place_of s) 0 s.before (new ++ s.after) (in_left (Has h.tick) (place_of s) _ new s.after first)))))

pub given : (sli : ℕ) (h : HeapState) (len : ℕ) (name : Name) → IsGiven sli h len name → IsLive (allocated sli h len).heap name
given sli h len = given_words sli h (want len) len

pub new_words : (sli : ℕ) (h : HeapState) (n len : ℕ) (name : Name) → IsLawful h → (allocated_words sli h n len).answer ≡ Ok name → ¬ (IsLive h name)
new_words sli h n len name lawful = by_allocated_words sli (λ o. o.answer ≡ Ok name → ¬ (IsLive h name)) h n len (λ why e. absurd cc) (λ s site fit e live.
    let same : h.tick ≡ name.serial = cc in
    let past = serial_of name.at name.serial (λ x. x < h.tick) 0 h.blocks lawful.serials_past (lives h name live) in omega (arith, past))

pub one_serial : (a c : ℕ) (b : Block) → has_serial a b ≡ true → has_serial c b ≡ true → a ≡ c
one_serial a c (Live m s xs) e f = sym (eqb-true s a e) ∙ eqb-true s c f
one_serial a c (Free m s) e f = absurd (false≢true e)

pub same_name : (x y : Name) → x.heap ≡ y.heap → x.at ≡ y.at → x.serial ≡ y.serial → x ≡ y
same_name x y a b c =
    let e : ◌≡◌ {A = Name} (record { heap = x.heap; at = x.at; serial = x.serial }) (record { heap = y.heap; at = y.at; serial = y.serial }) = cc in e

-- ---- what holds of the live block at a place lasts through each step that spares it

module _ (P : Block → Type 0) (at : ℕ) where
  -- the block of a name is another
  abbrev pub IsApart : Name → Type 0
  IsApart other = (b : Block) → has_serial other.serial b ≡ true → P b → other.at ≢ at

  -- it holds with any bytes
  abbrev pub Stays : Type 0
  Stays = (m s : ℕ) (xs ys : List ℕ) → P (Live m s xs) → P (Live m s ys)

  abbrev pub Spares : HeapState → Step → Type 0
  Spares h (Take other) = IsTaken h other → other.heap ≡ h.id → IsApart other
  Spares h (Fit other n len) = (other.heap ≡ h.id → IsApart other) ⊎ ((m s k : ℕ) (xs ys : List ℕ) → P (Live m s xs) → P (Live k s ys))
  Spares h (Put other from bytes) = (other.heap ≡ h.id → IsApart other) ⊎ Stays
  Spares h (Fill other bytes) = IsApart other ⊎ Stays
  Spares h Reset = ¬ (IsOk (reset h).answer)
  Spares h step = ⊤

  module _ (not_free : (m s : ℕ) → P (Free m s) → ⊥) where
    at_site : (h : HeapState) (s : Site) → IsSiteOf h.blocks s → HasFrom P at 0 h.blocks → HasFrom P at 0 (s.before ++ s.block ∷ s.after)
    at_site h s site held = subst (HasFrom P at 0) (sym site) held

    is_live : (b : Block) → is_free b ≡ true → P b → ⊥
    is_live (Live m s xs) free p = false≢true free
    is_live (Free m s) free p = not_free m s p

    given_lasts : (h : HeapState) (s : Site) (n len : ℕ) → IsSiteOf h.blocks s → is_free s.block ≡ true → HasFrom P at 0 h.blocks → HasFrom P at 0 (gives_words h n len s).heap.blocks
    given_lasts h s n len site free held =
        let new : List Block = carved (size_of s.block) n h.tick len in
        subst (HasFrom P at 0) (sym (append_assoc s.before new s.after))
        (edited P at 0 s.before (s.block ∷ []) new s.after (words_carved (size_of s.block) n h.tick len)
        (λ k l. elim l [ inl e ↦ absurd (is_live s.block free e.0) | inr none ↦ absurd none ]) (at_site h s site held))

    elsewhere : (other : Name) (s : Site) → IsApart other → is_named other.at other.serial s ≡ true → P s.block → words_in s.before ≡ at → ⊥
    elsewhere other s apart is p there = apart s.block (and_left _ _ is) p (sym (eqb-true _ _ (and_right (has_serial other.serial s.block) _ is)) ∙ there)

    with_stays : (b : Block) (new : List ℕ) → Stays → P b → P (with_bytes b new)
    with_stays (Live m s xs) new stays p = stays m s xs new p
    with_stays (Free m s) new stays p = p

    set_lasts : (h : HeapState) (other : Name) (s : Site) (new : List ℕ) → IsSiteOf h.blocks s → is_named other.at other.serial s ≡ true → IsApart other ⊎ Stays → HasFrom P at 0 h.blocks
        → HasFrom P at 0 (s.before ++ with_bytes s.block new ∷ s.after)
    set_lasts h other s new site is spares held = elim (in_either P at 0 s.before (s.block ∷ s.after) (at_site h s site held)) [
      | inl ahead ↦ in_left P at 0 s.before (with_bytes s.block new ∷ s.after) ahead
      | inr here ↦ in_right P at 0 s.before (with_bytes s.block new ∷ s.after) (elim here [
        | inl e ↦ inl (elim spares [ inl apart ↦ absurd (elsewhere other s apart is e.0 (omega (arith, e.1))) | inr stays ↦ with_stays s.block new stays e.0 ], e.1)
        | inr there ↦ inr (moved P at _ _ s.after (ap (λ (k : ℕ). 0 + words_in s.before + k) (sym (size_of-with_bytes s.block new))) there)
      ])
    ]

    pub lasts : (sli : ℕ) (h : HeapState) (step : Step) → Spares h step → HasFrom P at 0 h.blocks → HasFrom P at 0 (stepped sli h step).blocks
    lasts sli h (Give n len) spares held = by_allocated_words sli (λ o. HasFrom P at 0 o.heap.blocks) h n len (λ why. held) (λ s site fit. given_lasts h s n len site (and_left _ _ fit) held)
    lasts sli h (GiveFrom from n) spares held = by_words_from (λ o. HasFrom P at 0 o.heap.blocks) h from n (λ why. held) (λ s site is room. given_lasts h s n 0 site (and_left _ _ is) held)
    lasts sli h (Take other) spares held = by_released (λ o. (o.answer ≡ Ok tt → other.heap ≡ h.id → IsApart other) → HasFrom P at 0 o.heap.blocks) h other (λ why _. held)
        (λ s own site is apart. released_lasts P at not_free h.tick s.before s.after s.block (elsewhere other s (apart refl own) is) (at_site h s site held)) spares
    lasts sli h (Fit other n len) spares held = by_resized_words (λ o. HasFrom P at 0 o.heap.blocks) h other n len (λ why. held) (λ s own site is room.
        let new : List Block = refitted h.tick n len s.block s.after in
        elim (in_either P at 0 s.before (s.block ∷ s.after) (at_site h s site held)) [
          | inl ahead ↦ in_left P at 0 s.before new ahead
          | inr here ↦ in_right P at 0 s.before new (refitted_lasts P at not_free h.tick n len (0 + words_in s.before) s.block s.after room
              (λ m t k xs ys e holds there. elim spares [ inl apart ↦ absurd (elsewhere other s (apart own) is holds (omega (arith, there))) | inr stays ↦ stays m t k xs ys (subst P e holds) ]) here)
        ])
    lasts sli h (Put other from bytes) spares held = by_written_named (λ o. HasFrom P at 0 o.heap.blocks) h other from bytes (λ why. held) (λ s own site is fits.
        set_lasts h other s (overwritten (bytes_of s.block) from bytes) site is (elim spares [ inl apart ↦ inl (apart own) | inr stays ↦ inr stays ]) held)
    lasts sli h (Fill other bytes) spares held = by_filled (λ k. HasFrom P at 0 k.blocks) h other bytes held (λ s site is. set_lasts h other s bytes site is spares held)
    lasts sli h Reset spares held = by_reset (λ o. ¬ (IsOk o.answer) → HasFrom P at 0 o.heap.blocks) h (λ late worn. held) (λ fresh worn. absurd (worn refl)) spares
    lasts sli h Look spares held = held

-- and of the block of a name through each step about other names, or about others' blocks where it holds with any bytes
module _ (P : Block → Type 0) (name : Name) (not_free : (m s : ℕ) → P (Free m s) → ⊥) (one : (a : ℕ) (b : Block) → has_serial a b ≡ true → P b → a ≡ name.serial) where
  abbrev pub Lasts : HeapState → Type 0
  Lasts h = (name.heap ≡ h.id) × HasFrom P name.at 0 h.blocks

  pub lasts_named : (sli : ℕ) (h : HeapState) (step : Step) → IsOfOthers name step ⊎ (Stays P name.at × IsOfOtherBlocks name step) → Lasts h → Lasts (stepped sli h step)
  lasts_named sli h step others held = (held.0 ∙ sym (ids_step sli h step), lasts P name.at not_free sli h step (spares step others) held.1)
    where
      apart : (other : Name) → other.heap ≡ name.heap → other ≢ name → IsApart P name.at other
      apart other own differ b e p at = differ (same_name other name own at (one other.serial b e p))

      spares : (step : Step) → IsOfOthers name step ⊎ (Stays P name.at × IsOfOtherBlocks name step) → Spares P name.at h step
      spares (Give n len) o = tt
      spares (GiveFrom from n) o = tt
      spares (Take other) o = λ done own. apart other (own ∙ sym held.0) (elim o [ inl differ ↦ differ | inr stays ↦ stays.1 ])
      spares (Fit other n len) o = inl (λ own. apart other (own ∙ sym held.0) (elim o [ inl differ ↦ differ | inr stays ↦ stays.1 ]))
      spares (Put other from bytes) o = elim o [ inl differ ↦ inl (λ own. apart other (own ∙ sym held.0) differ) | inr stays ↦ inr stays.0 ]
      spares (Fill other bytes) o = elim o [ inl differ ↦ inl (apart other differ.0 differ.1) | inr stays ↦ inr stays.0 ]
      spares Reset o = elim o [ inl other ↦ absurd other | inr other ↦ absurd other.1 ]
      spares Look o = tt

-- ---- so a name stays live

pub kept_step : (sli : ℕ) (h : HeapState) (name : Name) (step : Step) → ¬ (TakesBack h name step) → IsLive h name → IsLive (stepped sli h step) name
kept_step sli h name step other live =
    shown (stepped sli h step) name (live.0 ∙ sym (ids_step sli h step)) (lasts (Has name.serial) name.at (not_free name.serial) sli h step (spares step other) (lives h name live))
  where
    spares : (step : Step) → ¬ (TakesBack h name step) → Spares (Has name.serial) name.at h step
    spares (Give n len) other = tt
    spares (GiveFrom from n) other = tt
    spares (Take taken) other = λ done own b e has at.
        let same = same_name taken name (own ∙ sym live.0) at (one_serial taken.serial name.serial b e has) in other (same, subst (λ (n : Name). IsTaken h n) same done)
    spares (Fit at_name n len) other = inr (λ m s k xs ys e. e)
    spares (Put at_name from bytes) other = inr (λ m s xs ys e. e)
    spares (Fill at_name bytes) other = inr (λ m s xs ys e. e)
    spares Reset other = other
    spares Look other = tt

pub kept_others : (sli : ℕ) (h : HeapState) (name : Name) (step : Step) → IsOfOtherBlocks name step → IsLive h name → IsLive (stepped sli h step) name
kept_others sli h name step other = kept_step sli h name step (not_back step other)
  where
    not_back : (step : Step) → IsOfOtherBlocks name step → ¬ (TakesBack h name step)
    not_back (Take taken) other = λ back. other back.0
    not_back Reset other = absurd other
    not_back step other = λ back. back

pub kept_resized : (h : HeapState) (name at_name : Name) (n len : ℕ) → IsLive h name → IsLive (resized_words h at_name n len).heap name
kept_resized h name at_name n len = kept_step 0 h name (Fit at_name n len) (λ back. back)

pub kept : (sli : ℕ) (h : HeapState) (name : Name) (call : Call) → ¬ ((call ≡ Release name) × IsTaken h name) → IsLive h name → IsLive (answered sli h call).1 name
kept sli h name (Allocate len) other = kept_others sli h name (Give (want len) len) tt
kept sli h name (Release taken) other = kept_step sli h name (Take taken) (λ back. other (ap Release back.0, back.1))
kept sli h name (Resize at_name len) other = kept_resized h name at_name (want len) len
kept sli h name (Write at_name at bytes) other = kept_others sli h name (Put at_name at bytes) tt
kept sli h name (Read at_name at n) other = λ live. live

-- ---- what a release answers

is_none : (o : Option Site) → ¬ (IsSome o) → o ≡ None
is_none None n = refl
is_none (Some s) n = absurd (n refl)

pub stale : (h : HeapState) (name : Name) → name.heap ≡ h.id → ¬ (IsLive h name) → (released h name).answer ≡ Err Stale
stale h name own dead = ap (λ (b : Bool). (cond b (released_at h (named name h.blocks)) (refused h Foreign)).answer) (eq-eqb name.heap h.id own)
    ∙ ap (λ (o : Option Site). (released_at h o).answer) (is_none (named name h.blocks) (λ some. dead (own, some)))

abbrev IsKnown : Outcome (Unit {0}) → Type 0
IsKnown o = (o.answer ≢ Err Stale) × (o.answer ≢ Err Foreign)

known_at : (h : HeapState) (o : Option Site) → IsSome o → IsKnown (released_at h o)
known_at h None some = absurd (false≢true some)
known_at h (Some s) some = by_test IsKnown (is_worn h) (refused h Worn) (takes h s) (λ _. (λ e. cc, λ e. cc)) (λ e. cc, λ e. cc)

pub known : (h : HeapState) (name : Name) → IsLive h name → ((released h name).answer ≢ Err Stale) × ((released h name).answer ≢ Err Foreign)
known h name live = subst (λ (b : Bool). IsKnown (cond b (released_at h (named name h.blocks)) (refused h Foreign))) (sym (eq-eqb name.heap h.id live.0)) (known_at h (named name h.blocks) live.1)
