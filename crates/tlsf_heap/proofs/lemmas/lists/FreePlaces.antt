-- The free blocks of a list by their places: where they lie, and their classes and stamps.
use Rattle.tlsf_heap.proofs.Common.{◌≡◌, ℕ, zero, suc, ◌+◌, ◌<◌, ◌≤◌, true, List, [], ◌∷◌, ◌++◌, length, get_or, take, refl, ap, ◌∙◌, subst, arith, Contains, AllByRecursion, false≢true, class_of, Block, Live, Free, size_of, words_in, is_free, stamp_of, stamps, AreRegions, block_at, FreePlace, free_places}

-- the same places, counted from another place
from_place : (sli a b : ℕ) (blocks : List Block) → a ≡ b → free_places sli a blocks ≡ free_places sli b blocks
from_place sli a b blocks e = ap (λ at. free_places sli at blocks) e

pub free_places-append : (sli at : ℕ) (xs ys : List Block) → free_places sli at (xs ++ ys) ≡ free_places sli at xs ++ free_places sli (at + words_in xs) ys
free_places-append sli at [] ys = from_place sli at (at + 0) ys (omega arith)
free_places-append sli at (Live size serial bytes ∷ xs) ys =
    free_places-append sli (at + size) xs ys ∙ ap (λ rest. free_places sli (at + size) xs ++ rest) (from_place sli (at + size + words_in xs) (at + (size + words_in xs)) ys (omega arith))
free_places-append sli at (Free size stamp ∷ xs) ys =
    ap (λ rest. record { class = class_of sli size; at = at; stamp = stamp } ∷ rest)
    (free_places-append sli (at + size) xs ys ∙ ap (λ rest. free_places sli (at + size) xs ++ rest) (from_place sli (at + size + words_in xs) (at + (size + words_in xs)) ys (omega arith)))

-- the free block at an index
abbrev pub place_at : ℕ → ℕ → List Block → ℕ → FreePlace
place_at sli at blocks i = record { class = class_of sli (size_of (block_at blocks i)); at = at + words_in (take i blocks); stamp = stamp_of (block_at blocks i) }

-- an element of a list stands in a longer one
pub later : {X : Type 0} (y : X) (xs : List X) (x : X) → Contains xs x → Contains (y ∷ xs) x
later y xs x c = (suc c.0, omega (arith, c.1), c.2)

moved : (p q : FreePlace) (xs : List FreePlace) → p ≡ q → Contains xs p → Contains xs q
moved p q xs e c = subst (λ place. Contains xs place) e c

same_place : (class a b stamp : ℕ) → a ≡ b → (let p : FreePlace = record { class = class; at = a; stamp = stamp } in p) ≡ record { class = class; at = b; stamp = stamp }
same_place class a b stamp e = ap (λ at. record { class = class; at = at; stamp = stamp }) e

-- each free block is listed
pub place_listed : (sli at : ℕ) (blocks : List Block) (i : ℕ) → i < length blocks → is_free (block_at blocks i) ≡ true → Contains (free_places sli at blocks) (place_at sli at blocks i)
place_listed sli at [] i h free = absurd (omega (arith, h))
place_listed sli at (Live size serial bytes ∷ blocks) zero h free = absurd (false≢true free)
place_listed sli at (Free size stamp ∷ blocks) zero h free = (0, omega arith, same_place (class_of sli size) at (at + 0) stamp (omega arith))
place_listed sli at (Live size serial bytes ∷ blocks) (suc i) h free =
    moved (place_at sli (at + size) blocks i) (place_at sli at (Live size serial bytes ∷ blocks) (suc i)) (free_places sli (at + size) blocks)
    (same_place (class_of sli (size_of (block_at blocks i))) (at + size + words_in (take i blocks)) (at + (size + words_in (take i blocks))) (stamp_of (block_at blocks i)) (omega arith))
    (place_listed sli (at + size) blocks i (omega arith) free)
place_listed sli at (Free size stamp ∷ blocks) (suc i) h free =
    later (record { class = class_of sli size; at = at; stamp = stamp }) (free_places sli (at + size) blocks) (place_at sli at (Free size stamp ∷ blocks) (suc i))
    (moved (place_at sli (at + size) blocks i) (place_at sli at (Free size stamp ∷ blocks) (suc i)) (free_places sli (at + size) blocks)
    (same_place (class_of sli (size_of (block_at blocks i))) (at + size + words_in (take i blocks)) (at + (size + words_in (take i blocks))) (stamp_of (block_at blocks i)) (omega arith))
    (place_listed sli (at + size) blocks i (omega arith) free))

-- the block i is the free one that begins at a place, of this class and stamp
pub record IsListed (sli at : ℕ) (blocks : List Block) (place : FreePlace) (i : ℕ) : Type 0 where
  pub within : i < length blocks
  pub place_is : at + words_in (take i blocks) ≡ place.at
  pub free : is_free (block_at blocks i) ≡ true
  pub classed : class_of sli (size_of (block_at blocks i)) ≡ place.class
  pub stamped : stamp_of (block_at blocks i) ≡ place.stamp

one_later : (sli at : ℕ) (block : Block) (blocks : List Block) (place : FreePlace) → (i : ℕ) × IsListed sli (at + size_of block) blocks place i → (i : ℕ) × IsListed sli at (block ∷ blocks) place i
one_later sli at block blocks place l =
    let r = l.1 in
    (suc l.0, record { within = omega (arith, r.within); place_is = omega (arith, r.place_is); free = r.free; classed = r.classed; stamped = r.stamped })

-- what is listed is a free block
pub listed_place : (sli at : ℕ) (blocks : List Block) (place : FreePlace) → Contains (free_places sli at blocks) place → (i : ℕ) × IsListed sli at blocks place i
listed_place sli at blocks place c = found at blocks c.0 c.1 c.2
  where
    found : (at : ℕ) (blocks : List Block) (k : ℕ) → k < length (free_places sli at blocks) → get_or (free_places sli at blocks) k place ≡ place → (i : ℕ) × IsListed sli at blocks place i
    found at [] k h e = absurd (omega (arith, h))
    found at (Live size serial bytes ∷ blocks) k h e = one_later sli at (Live size serial bytes) blocks place (found (at + size) blocks k h e)
    found at (Free size stamp ∷ blocks) zero h e = (
      0,
      record {
        within = omega arith;
        place_is = let same = ap (λ (p : FreePlace). p.at) e in omega (arith, same);
        free = refl;
        classed = ap (λ (p : FreePlace). p.class) e;
        stamped = ap (λ (p : FreePlace). p.stamp) e;
      },
    )
    found at (Free size stamp ∷ blocks) (suc k) h e = one_later sli at (Free size stamp) blocks place (found (at + size) blocks k (omega arith) e)

-- a free block of these lies in their words
pub places_within : (sli at : ℕ) (blocks : List Block) (place : FreePlace) → AreRegions sli blocks → Contains (free_places sli at blocks) place → (at ≤ place.at) × (place.at < at + words_in blocks)
places_within sli at blocks place sized c =
    let l = (listed_place sli at blocks place c).1 in
    let inside = index_within blocks (listed_place sli at blocks place c).0 sized l.within in
    (omega (arith, l.place_is), omega (arith, l.place_is, inside))
  where
    index_within : (blocks : List Block) (i : ℕ) → AreRegions sli blocks → i < length blocks → words_in (take i blocks) < words_in blocks
    index_within [] i sized h = absurd (omega (arith, h))
    index_within (b ∷ blocks) zero sized h = omega (arith, sized.0.0)
    index_within (b ∷ blocks) (suc i) sized h = let e = index_within blocks i sized.1 (omega arith) in omega (arith, e)

-- and its stamp is one of their stamps
pub stamps_below : (sli tick at : ℕ) (blocks : List Block) (place : FreePlace) → AllByRecursion (λ s. s < tick) (stamps blocks) → Contains (free_places sli at blocks) place → place.stamp < tick
stamps_below sli tick at blocks place past c =
    let l = (listed_place sli at blocks place c).1 in
    let below = stamp_below blocks (listed_place sli at blocks place c).0 past l.within l.free in
    omega (arith, l.stamped, below)
  where
    stamp_below : (blocks : List Block) (i : ℕ) → AllByRecursion (λ s. s < tick) (stamps blocks) → i < length blocks → is_free (block_at blocks i) ≡ true → stamp_of (block_at blocks i) < tick
    stamp_below [] i past h free = absurd (omega (arith, h))
    stamp_below (Live m s xs ∷ blocks) zero past h free = absurd (false≢true free)
    stamp_below (Free m s ∷ blocks) zero past h free = past.0
    stamp_below (Live m s xs ∷ blocks) (suc i) past h free = stamp_below blocks i past (omega arith) free
    stamp_below (Free m s ∷ blocks) (suc i) past h free = stamp_below blocks i past.1 (omega arith) free
