-- A block where it stands, and the words, free neighbours and places around it.
use Rattle.tlsf_heap.proofs.Common.{inl, inr, ◌≡◌, ℕ, zero, suc, ◌+◌, ◌-◌, ◌<◌, ◌≤◌, true, List, [], ◌∷◌, ◌++◌, length, get_or, take, drop, refl, sym, ap, ◌∙◌, subst, arith, append_assoc, length-take-le, length-append, Contains, AllByRecursion, Contains-append_cases, take_at, drop_at, get_or_at, append-nil, false≢true, class_of, Block, Live, Free, size_of, words_in, is_free, stamp_of, stamps, StandsAt, IsRegion, AreRegions, block_at, FreePlace, free_places, first_free, past_free, last_free, before_free}
use Rattle.tlsf_heap.proofs.lemmas.blocks.Lawful.{all_left, all_right, words_in-append, stamps-append}
use Rattle.tlsf_heap.proofs.lemmas.calls.Allocate.{split_at}
use Rattle.tlsf_heap.proofs.lemmas.blocks.Coalesce.{by_last}
use Rattle.tlsf_heap.proofs.lemmas.lists.FreePlaces.{free_places-append, places_within, stamps_below}
use Rattle.tlsf_heap.proofs.lemmas.lists.FreeLists.{IsFresh}

-- block i of a list begins at a place, behind the blocks `front` and before the blocks `back`
pub record Around (blocks : List Block) (at i : ℕ) (front : List Block) (block : Block) (back : List Block) : Type 0 where
  pub is : blocks ≡ front ++ block ∷ back
  pub before : length front ≡ i
  pub place : words_in front ≡ at

pub around : (blocks : List Block) (at i : ℕ) → StandsAt blocks at i → Around blocks at i (take i blocks) (block_at blocks i) (drop (suc i) blocks)
around blocks at i stands = record {
  is = split_at blocks i stands.within;
  before = let within = stands.within in length-take-le i blocks (omega arith);
  place = stands.place;
}

-- a block of sizes that a region may have begins at one place
index_at : (sli : ℕ) (bs : List Block) (i j : ℕ) → AreRegions sli bs → i < length bs → j < length bs → words_in (take i bs) ≡ words_in (take j bs) → i ≡ j
index_at sli [] i j sized h g e = absurd (omega (arith, h))
index_at sli (b ∷ bs) zero zero sized h g e = refl
index_at sli (b ∷ bs) zero (suc j) sized h g e = absurd (omega (arith, sized.0.0, e))
index_at sli (b ∷ bs) (suc i) zero sized h g e = absurd (omega (arith, sized.0.0, e))
index_at sli (b ∷ bs) (suc i) (suc j) sized h g e = ap suc (index_at sli bs i j sized.1 (omega (arith, h)) (omega (arith, g)) (omega (arith, e)))

pub one_index : (sli : ℕ) (bs : List Block) (at i j : ℕ) → AreRegions sli bs → StandsAt bs at i → StandsAt bs at j → i ≡ j
one_index sli bs at i j sized s t = index_at sli bs i j sized s.within t.within (s.place ∙ sym t.place)

module _ {bs : List Block} {at i : ℕ} {front : List Block} {b : Block} {back : List Block} (a : Around bs at i front b back) where
  pub take_around : take i bs ≡ front
  take_around = ap (take i) a.is ∙ take_at front (b ∷ back) i a.before

  pub block_around : block_at bs i ≡ b
  block_around = ap (λ (l : List Block). get_or l i (Free 0 0)) a.is ∙ get_or_at front b back (Free 0 0) i a.before

  pub drop_around : drop (suc i) bs ≡ back
  drop_around = ap (drop (suc i)) (a.is ∙ sym (append_assoc front (b ∷ []) back)) ∙ drop_at (front ++ b ∷ []) back (suc i) (omega (arith, length-append front (b ∷ []), a.before))

  pub stands_around : StandsAt bs at i
  stands_around = record {
    within = omega (arith, ap length a.is, length-append front (b ∷ back), a.before);
    place = ap words_in take_around ∙ a.place;
  }

  pub words_around : words_in bs ≡ at + size_of b + words_in back
  words_around = ap words_in a.is ∙ omega (arith, words_in-append front (b ∷ back), a.place)

-- and the sizes, where each is one that a region may have
module _ (sli : ℕ) {bs : List Block} {at i : ℕ} {front : List Block} {b : Block} {back : List Block} (a : Around bs at i front b back) where
  pub region_around : AreRegions sli bs → IsRegion sli (size_of b)
  region_around sized = (all_right (λ x. IsRegion sli (size_of x)) front (b ∷ back) (subst (AreRegions sli) a.is sized)).0

  pub regions_front : AreRegions sli bs → AreRegions sli front
  regions_front sized = all_left (λ x. IsRegion sli (size_of x)) front (b ∷ back) (subst (AreRegions sli) a.is sized)

  pub regions_back : AreRegions sli bs → AreRegions sli back
  regions_back sized = (all_right (λ x. IsRegion sli (size_of x)) front (b ∷ back) (subst (AreRegions sli) a.is sized)).1

-- the block behind
pub around_next : {bs : List Block} {at i : ℕ} {front : List Block} {b c : Block} {back : List Block} → Around bs at i front b (c ∷ back) → Around bs (at + size_of b) (i + 1) (front ++ b ∷ []) c back
around_next {front = front} {b = b} {c = c} {back = back} a = record {
  is = a.is ∙ sym (append_assoc front (b ∷ []) (c ∷ back));
  before = omega (arith, length-append front (b ∷ []), a.before);
  place = omega (arith, words_in-append front (b ∷ []), a.place);
}

pub free_as : (b : Block) → is_free b ≡ true → b ≡ Free (size_of b) (stamp_of b)
free_as (Live m s xs) e = absurd (false≢true e)
free_as (Free m s) e = refl

-- ---- free neighbours

-- the free block that a list begins with, and those behind it
pub next_is : (bs : List Block) → 0 < first_free bs → (s : ℕ) × (bs ≡ Free (first_free bs) s ∷ past_free bs)
next_is [] h = absurd (omega (arith, h))
next_is (Live m s xs ∷ bs) h = absurd (omega (arith, h))
next_is (Free m s ∷ bs) h = (s, refl)

pub next_none : (sli : ℕ) (bs : List Block) → AreRegions sli bs → first_free bs ≡ 0 → past_free bs ≡ bs
next_none sli [] sized e = refl
next_none sli (Live m s xs ∷ bs) sized e = refl
next_none sli (Free m s ∷ bs) sized e = absurd (omega (arith, sized.0.0, e))

-- the free block that a list ends with, and those before it
pub last_is : (bs : List Block) → 0 < last_free bs → (s : ℕ) × (bs ≡ before_free bs ++ Free (last_free bs) s ∷ [])
last_is bs = by_last (λ all size rest. 0 < size → (s : ℕ) × (all ≡ rest ++ Free size s ∷ [])) bs
    (λ h. absurd (omega (arith, h)))
    (λ front m s xs h. absurd (omega (arith, h)))
    (λ front m s h. (s, refl))

pub last_none : (sli : ℕ) (bs : List Block) → AreRegions sli bs → last_free bs ≡ 0 → before_free bs ≡ bs
last_none sli bs = by_last (λ all size rest. AreRegions sli all → size ≡ 0 → rest ≡ all) bs
    (λ a e. refl)
    (λ front m s xs a e. refl)
    (λ front m s a e. absurd (omega (arith, e, (all_right (λ b. IsRegion sli (size_of b)) front (Free m s ∷ []) a).0.0)))

pub last_words : (bs : List Block) → words_in (before_free bs) + last_free bs ≡ words_in bs
last_words bs = by_last (λ all size rest. words_in rest + size ≡ words_in all) bs
    (omega arith)
    (λ front m s xs. omega arith)
    (λ front m s. omega (arith, words_in-append front (Free m s ∷ [])))

pub past_regions : (sli : ℕ) (bs : List Block) → AreRegions sli bs → AreRegions sli (past_free bs)
past_regions sli [] sized = sized
past_regions sli (Live m s xs ∷ bs) sized = sized
past_regions sli (Free m s ∷ bs) sized = sized.1

pub before_regions : (sli : ℕ) (bs : List Block) → AreRegions sli bs → AreRegions sli (before_free bs)
before_regions sli bs = by_last (λ all size rest. AreRegions sli all → AreRegions sli rest) bs
    (λ a. a)
    (λ front m s xs a. a)
    (λ front m s a. all_left (λ b. IsRegion sli (size_of b)) front (Free m s ∷ []) a)

-- the free block behind a block
pub around_first : {bs : List Block} {at i : ℕ} {front : List Block} {b : Block} {back : List Block} → Around bs at i front b back → (h : 0 < first_free back)
    → Around bs (at + size_of b) (i + 1) (front ++ b ∷ []) (Free (first_free back) (next_is back h).0) (past_free back)
around_first {front = front} {b = b} {back = back} a h =
    around_next (record { is = a.is ∙ ap (λ (l : List Block). front ++ b ∷ l) (next_is back h).1; before = a.before; place = a.place })

-- the free block before it
pub around_last : {bs : List Block} {at i : ℕ} {front : List Block} {b : Block} {back : List Block} → Around bs at i front b back → (h : 0 < last_free front)
    → Around bs (at - last_free front) (length (before_free front)) (before_free front) (Free (last_free front) (last_is front h).0) (b ∷ back)
around_last {front = front} {b = b} {back = back} a h = record {
  is = a.is ∙ ap (λ (l : List Block). l ++ b ∷ back) (last_is front h).1 ∙ append_assoc (before_free front) (Free (last_free front) (last_is front h).0 ∷ []) (b ∷ back);
  before = refl;
  place = omega (arith, last_words front, a.place);
}

-- what a list has before or behind the free block that it may end or begin with
pub last_part : (front : List Block) → (xs : List Block) × (front ≡ before_free front ++ xs) × (words_in xs ≡ last_free front)
last_part front = by_last (λ all size rest. (xs : List Block) × (all ≡ rest ++ xs) × (words_in xs ≡ size)) front
    ([], refl, refl)
    (λ bs m s xs. ([], sym (append-nil (bs ++ Live m s xs ∷ [])), refl))
    (λ bs m s. (Free m s ∷ [], refl, omega arith))

pub first_part : (back : List Block) → (xs : List Block) × (back ≡ xs ++ past_free back) × (words_in xs ≡ first_free back)
first_part [] = ([], refl, refl)
first_part (Live m s xs ∷ back) = ([], refl, refl)
first_part (Free m s ∷ back) = (Free m s ∷ [], refl, omega arith)

-- ---- places of free blocks

-- a free block of `size` words
abbrev pub place : ℕ → ℕ → ℕ → ℕ → FreePlace
place sli size at stamp = record { class = class_of sli size; at = at; stamp = stamp }

-- the places behind the blocks `front`, which end at a place
pub places_behind : (sli : ℕ) (front back : List Block) (at : ℕ) → words_in front ≡ at → free_places sli 0 (front ++ back) ≡ free_places sli 0 front ++ free_places sli at back
places_behind sli front back at e = free_places-append sli 0 front back ∙ ap (λ (n : ℕ). free_places sli 0 front ++ free_places sli n back) (omega (arith, e))

-- a place behind these blocks, or before them, is that of no free one
pub fresh_front : (sli : ℕ) (front : List Block) (at : ℕ) → AreRegions sli front → words_in front ≤ at → IsFresh at (free_places sli 0 front)
fresh_front sli front at sized h place c e = let lies = places_within sli 0 front place sized c in omega (arith, lies.1, e)

pub fresh_back : (sli : ℕ) (back : List Block) (from at : ℕ) → AreRegions sli back → at < from → IsFresh at (free_places sli from back)
fresh_back sli back from at sized h place c e = let lies = places_within sli from back place sized c in omega (arith, lies.0, e)

-- no stamp is above the tick
abbrev pub ArePast : ℕ → List Block → Type 0
ArePast tick blocks = AllByRecursion (λ s. s < tick) (stamps blocks)

-- what stands before a block and behind it is past where all is
pub past_around : {bs : List Block} {at i : ℕ} {front : List Block} {b : Block} {back : List Block} → Around bs at i front b back → (tick : ℕ) → ArePast tick bs → ArePast tick front × ArePast tick back
past_around {front = front} {b = b} {back = back} a tick past =
    let P : ℕ → Type 0 = λ s. s < tick in
    let both = subst (AllByRecursion P) (stamps-append front (b ∷ back)) (subst (ArePast tick) a.is past) in
    (all_left P (stamps front) (stamps (b ∷ back)) both, rest b (all_right P (stamps front) (stamps (b ∷ back)) both))
  where
    rest : (b : Block) → ArePast tick (b ∷ back) → ArePast tick back
    rest (Live m s xs) h = h
    rest (Free m s) h = h.1

-- a free block that gets the tick is newer than all that are past
pub newest : (sli tick from : ℕ) (front back : List Block) → ArePast tick front → ArePast tick back → (place : FreePlace) → Contains (free_places sli 0 front ++ free_places sli from back) place → place.stamp < tick
newest sli tick from front back f g place c = elim (Contains-append_cases (free_places sli 0 front) (free_places sli from back) place c) [
  | inl in_front ↦ stamps_below sli tick 0 front place f in_front
  | inr in_back ↦ stamps_below sli tick from back place g in_back
]

pub past_past : (tick : ℕ) (bs : List Block) → ArePast tick bs → ArePast tick (past_free bs)
past_past tick [] past = past
past_past tick (Live m s xs ∷ bs) past = past
past_past tick (Free m s ∷ bs) past = past.1

pub before_past : (tick : ℕ) (bs : List Block) → ArePast tick bs → ArePast tick (before_free bs)
before_past tick bs = by_last (λ all size rest. ArePast tick all → ArePast tick rest) bs
    (λ p. p)
    (λ front m s xs p. p)
    (λ front m s p. all_left (λ x. x < tick) (stamps front) (s ∷ []) (subst (AllByRecursion (λ x. x < tick)) (stamps-append front (Free m s ∷ [])) p))
