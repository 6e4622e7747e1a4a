-- The block at the place of a name that is held.
use Rattle.tlsf_arena.proofs.Common.{◌≡◌, ℕ, ◌+◌, ◌*◌, ◌/◌, ◌<◌, ◌≢◌, true, eqb, Bool, List, ◌∷◌, length, Option, Some, None, sym, ap, subst, ◌∙◌, arith, AllByRecursion, eqb-true, false≢true, Block, Live, Free, HeapState, words_in, Site, place_of, block_at, has_serial, named, IsLawful, HasRoom, placed_at, placed, Name, Holds, IsMapped, free_map, held_at}
use Rattle.tlsf_heap.proofs.lemmas.blocks.Find.{and_left, and_right}
use Rattle.tlsf_heap.proofs.lemmas.blocks.Lawful.{all_right, words_in-append}
use Rattle.tlsf_heap.proofs.lemmas.calls.Outcomes.{named_site}
use Rattle.tlsf_heap.proofs.lemmas.blocks.ByPlace.{placed_found}
use Rattle.tlsf_heap.specs.ByPlace.{serial_at, serial_in}
use Rattle.tlsf_arena.proofs.Maps.{held_of, length-map, stands}
use Rattle.tlsf_arena.proofs.Spread.{length-spread}
use Rattle.tlsf_arena.proofs.UnitCases.{by_unit, units_apart}
use Rattle.tlsf_heap.proofs.lemmas.words.Image.{least}

module _ (h : HeapState) (name : Name) (s : Site) (lawful : IsLawful h) (found : named name h.blocks ≡ Some s) where
  has : has_serial name.serial s.block ≡ true
  has = and_left (has_serial name.serial s.block) (eqb (place_of s) name.at) (named_site name h.blocks s found).1

  place : place_of s ≡ name.at
  place = eqb-true (place_of s) name.at (and_right (has_serial name.serial s.block) (eqb (place_of s) name.at) (named_site name h.blocks s found).1)

  -- its serial is seen there
  pub serial_of : serial_at h.blocks name.at ≡ Some name.serial
  serial_of =
      let there = stands h.blocks s (named_site name h.blocks s found).0 in
      let seen : placed_at h.blocks name.at ≡ Some (placed name.at s.block) =
      subst (λ (p : ℕ). placed_at h.blocks p ≡ Some (placed p (block_at h.blocks (length s.before)))) place (placed_found lawful.rooms there.0) ∙ ap (λ (b : Block). Some (placed name.at b)) there.1 in
      ap serial_in seen ∙ own s.block has
    where
      own : (b : Block) → has_serial name.serial b ≡ true → serial_in (Some (placed name.at b)) ≡ Some name.serial
      own (Live m t xs) e = ap Some (eqb-true t name.serial e)
      own (Free m t) e = absurd (false≢true e)

  -- it is one of the heap's words
  pub place_within : name.at < words_in h.blocks
  place_within =
      let site = (named_site name h.blocks s found).0 in
      let rooms = all_right HasRoom s.before (s.block ∷ s.after) (subst (AllByRecursion HasRoom) (sym site) lawful.rooms) in
      omega (arith, place, ap words_in site, words_in-append s.before (s.block ∷ s.after), least s.block rooms.0)

-- an arena has a unit for each word of its heap
pub words_mapped : (sli u units : ℕ) (h : HeapState) (free : List Bool) → IsMapped sli u units h free → IsLawful h → words_in h.blocks ≡ units
words_mapped sli u units h free mapped lawful =
    by_unit (λ u. u / 16 * words_in h.blocks ≡ u / 16 * units → words_in h.blocks ≡ units) (λ e. omega (arith, e)) (λ e. omega (arith, e)) (λ e. omega (arith, e)) u mapped.unit
    (ap (λ (k : ℕ). u / 16 * k) (sym (length-map h.blocks lawful.rooms)) ∙ sym (length-spread (u / 16) (free_map h.blocks)) ∙ sym (ap length mapped.map) ∙ mapped.whole)

-- ---- a block that a state as h holds, sought by its address p in memory from `start` on, which lies at b

module _ (sli u units : ℕ) (h : HeapState) (free : List Bool) (mapped : IsMapped sli u units h free) (lawful : IsLawful h) (now : HeapState) (same : h ≡ now) (b start p : ℕ) (base : b ≡ start) (name : Name) (k : ℕ)
    (there : p ≡ start + u * name.at) (its : Holds now name k) where
  here : p ≡ b + u * name.at
  here = there ∙ ap (λ (j : ℕ). j + u * name.at) (sym base)

  holds : Holds h name k
  holds = subst (λ (h : HeapState). Holds h name k) (sym same) its

  -- it is one of the units
  one_unit : name.at < units
  one_unit = subst (λ (m : ℕ). name.at < m) (words_mapped sli u units h free mapped lawful) (place_within h name holds.0 lawful holds.2)

  -- it begins at a unit
  pub at_a_unit : ((at : ℕ) → at < units → p ≢ b + u * at) → ⊥
  at_a_unit none = none name.at one_unit here

  -- a guess that is the place is one of the units, and right
  pub right_guess : (guess : ℕ) → guess ≡ name.at → (guess < units) × (p ≡ b + u * guess)
  right_guess guess is = (subst (λ (j : ℕ). j < units) (sym is) one_unit, here ∙ ap (λ (j : ℕ). b + u * j) (sym is))

  module _ (at : ℕ) (found : p ≡ b + u * at) where
    same_place : at ≡ name.at
    same_place = units_apart u at name.at mapped.unit (omega (arith, here, found))

    held : held_at h.blocks at ≡ Some k
    held = ap (held_at h.blocks) same_place ∙ held_of h name k holds.0 lawful holds.2 holds.3

    -- a look there shows a block
    pub seen_there : held_at h.blocks at ≡ None → ⊥
    seen_there none = let no : None ≡ Some k = sym none ∙ held in cc

    -- and it is the one
    pub the_one : (id serial n : ℕ) → id ≡ h.id → held_at h.blocks at ≡ Some n → serial_at h.blocks at ≡ Some serial → ◌≡◌ {A = Option (Name × ℕ)} (Some (record { heap = id; at = at; serial = serial }, n)) (Some (name, k))
    the_one id serial n own is told =
        let units : Some n ≡ Some k = sym is ∙ held in
        let serials : Some serial ≡ Some name.serial = sym told ∙ ap (serial_at h.blocks) same_place ∙ serial_of h name holds.0 lawful holds.2 in
        let n_is : n ≡ k = cc in
        let serial_is : serial ≡ name.serial = cc in
        λ i. Some (record { heap = (own ∙ sym holds.1) i; at = same_place i; serial = serial_is i }, n_is i)
