-- The head of the list of a class: the free block that became free last.
use Rattle.tlsf_heap.proofs.Common.{◌≡◌, ℕ, suc, ◌+◌, ◌<◌, ◌≤◌, inl, inr, Bool, true, false, cond, eqb, not, ◌||◌, List, [], ◌∷◌, length, map, Option, refl, sym, ap, ◌∙◌, subst, arith, ◌==◌, ◌&&◌, slice_get, Contains, IsPermutation, MatchOption, list_any, and_parts, and_from, eqb-true, eq-eqb, nat_tests, IsPermutation-sym, Contains-permutation, length_permutation, class_of, Block, Live, Free, size_of, is_free, stamp_of, StandsAt, block_at, FreePlace, free_places, of_class, AreFalling, IsFreeList}
use Rattle.tlsf_heap.proofs.lemmas.blocks.Find.{not_true}
use Rattle.tlsf_heap.proofs.lemmas.lists.FreePlaces.{place_at, place_listed, listed_place}
use Rattle.tlsf_heap.proofs.lemmas.lists.FreeLists.{is_of, first_of, first_or_later, at_all, from_filter, to_filter, contains_map}

-- whether it is a free block of this class
abbrev pub is_free_of : ℕ → ℕ → Block → Bool
is_free_of sli class block = is_free block && class_of sli (size_of block) == class

-- no block is free and of this class
abbrev pub NoneOf : ℕ → ℕ → List Block → Type 0
NoneOf sli class blocks = (i : ℕ) → i < length blocks → is_free_of sli class (block_at blocks i) ≡ false

-- the block at i is free and of this class, and no other such block became free later
pub record IsLastFreed (sli class : ℕ) (blocks : List Block) (i : ℕ) : Type 0 where
  pub within : i < length blocks
  pub here : is_free_of sli class (block_at blocks i) ≡ true
  pub last : (j : ℕ) → j < length blocks → is_free_of sli class (block_at blocks j) ≡ true → stamp_of (block_at blocks j) ≤ stamp_of (block_at blocks i)

-- the place of the free block of a class that became free last, if there is one
abbrev pub IsLastFreedAt : ℕ → ℕ → List Block → Option ℕ → Type 0
IsLastFreedAt sli class blocks found = MatchOption found (NoneOf sli class blocks) (λ at. (i : ℕ) × StandsAt blocks at i × IsLastFreed sli class blocks i)

pub free_and_of : (sli class : ℕ) (b : Block) → is_free_of sli class b ≡ true → (is_free b ≡ true) × (class_of sli (size_of b) ≡ class)
free_and_of sli class b h = let both = and_parts (is_free b) (eqb (class_of sli (size_of b)) class) h in (both.0, eqb-true (class_of sli (size_of b)) class both.1)

-- whether a list has an element
abbrev pub is_some_list : {X : Type 0} → List X → Bool
is_some_list xs = not (length xs == 0)

some_more : (n : ℕ) → not (suc n == 0) ≡ true
some_more n = let some : (suc n == 0) ≡ false = grind (arith, nat_tests) in ap not some

-- a class has a free block exactly where one of the blocks is
any_free : (sli class at : ℕ) (blocks : List Block) → is_some_list (of_class class (free_places sli at blocks)) ≡ list_any (is_free_of sli class) blocks
any_free sli class at [] = refl
any_free sli class at (Live size serial bytes ∷ blocks) = any_free sli class (at + size) blocks
any_free sli class at (Free size stamp ∷ blocks) = by_class (eqb (class_of sli size) class) (any_free sli class (at + size) blocks)
  where
    e : FreePlace
    e = record { class = class_of sli size; at = at; stamp = stamp }

    rest : List FreePlace
    rest = of_class class (free_places sli (at + size) blocks)

    by_class : (b : Bool) → is_some_list rest ≡ list_any (is_free_of sli class) blocks → is_some_list (cond b (e ∷ rest) rest) ≡ (b || list_any (is_free_of sli class) blocks)
    by_class true h = some_more (length rest)
    by_class false h = h

module _ (sli class : ℕ) (blocks : List Block) where
  -- the list of a class isn't empty exactly where one of the blocks is free and of it
  pub some_listed : (places : List ℕ) → IsFreeList class (free_places sli 0 blocks) places → is_some_list places ≡ list_any (is_free_of sli class) blocks
  some_listed places list =
      let long : length places ≡ length (of_class class (free_places sli 0 blocks)) =
      ap length list.are ∙ length_places list.order ∙ sym (length_permutation list.order (of_class class (free_places sli 0 blocks)) list.same) in
      ap (λ (n : ℕ). not (n == 0)) long ∙ any_free sli class 0 blocks
    where
      length_places : (xs : List FreePlace) → length (map (λ (p : FreePlace). p.at) xs) ≡ length xs
      length_places [] = refl
      length_places (x ∷ xs) = ap suc (length_places xs)

  -- each free block of the class is in its list
  listed_at : (order : List FreePlace) → IsPermutation order (of_class class (free_places sli 0 blocks)) → (j : ℕ) → j < length blocks → is_free_of sli class (block_at blocks j) ≡ true
      → Contains order (place_at sli 0 blocks j)
  listed_at order same j h free =
      let own = free_and_of sli class (block_at blocks j) free in
      Contains-permutation (of_class class (free_places sli 0 blocks)) order (place_at sli 0 blocks j) (IsPermutation-sym order (of_class class (free_places sli 0 blocks)) same)
      (to_filter (is_of class) (free_places sli 0 blocks) (place_at sli 0 blocks j) (place_listed sli 0 blocks j h own.0) (eq-eqb (class_of sli (size_of (block_at blocks j))) class own.1))

  -- the head of the list is the block that became free last
  pub head_is_last : (places : List ℕ) → IsFreeList class (free_places sli 0 blocks) places → IsLastFreedAt sli class blocks (slice_get places 0)
  head_is_last places list = subst (λ (l : List ℕ). IsLastFreedAt sli class blocks (slice_get l 0)) (sym list.are) (head list.order list.same list.falling)
    where
      head : (order : List FreePlace) → IsPermutation order (of_class class (free_places sli 0 blocks)) → AreFalling (map (λ (p : FreePlace). p.stamp) order)
          → IsLastFreedAt sli class blocks (slice_get (map (λ (p : FreePlace). p.at) order) 0)
      head [] same falling = λ i h. not_true _ (λ free. let none = listed_at [] same i h free in absurd (omega (arith, none.1)))
      head (e ∷ order) same falling =
          let there = from_filter (is_of class) (free_places sli 0 blocks) e (Contains-permutation (e ∷ order) (of_class class (free_places sli 0 blocks)) e same (first_of e order)) in
          let found = listed_place sli 0 blocks e there.0 in
          let l = found.1 in (
            found.0,
            record { within = l.within; place = omega (arith, l.place_is) },
            record {
              within = l.within;
              here = and_from (is_free (block_at blocks found.0)) _ l.free (eq-eqb _ class (l.classed ∙ eqb-true e.class class there.1));
              last = λ j h free.
                  let stamp : FreePlace → ℕ = λ p. p.stamp in
                  elim (first_or_later e order (place_at sli 0 blocks j) (listed_at (e ∷ order) same j h free)) [
                    | inl own ↦ let equal = ap stamp own in omega (arith, equal, l.stamped)
                    | inr rest ↦ let below = at_all (λ s. s < e.stamp) (map stamp order) falling.0 (stamp_of (block_at blocks j)) (contains_map stamp order (place_at sli 0 blocks j) rest) in omega (arith, below, l.stamped)
                  ];
            },
          )
