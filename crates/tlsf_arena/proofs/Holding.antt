-- Blocks that are held stay held through calls on others.
use Rattle.tlsf_arena.proofs.Common.{◌≡◌, ◌≢◌, ℕ, ◌+◌, true, List, [], ◌∷◌, ◌++◌, length, Some, refl, sym, ap, subst, arith, inl, inr, eqb-true, false≢true, Block, Live, Free, HeapState, size_of, bytes_of, words_in, place_of, has_serial, released, resized_words, IsLawful, IsLive, Name, Holds, held_at, held_units}
use Rattle.tlsf_heap.specs.Steps.{Step, Take, Fit, stepped, IsOfOthers}
use Rattle.tlsf_heap.proofs.lemmas.blocks.Find.{and_left, and_right}
use Rattle.tlsf_heap.proofs.lemmas.laws.Lasting.{HasFrom, in_right}
use Rattle.tlsf_heap.proofs.lemmas.laws.Live.{shown, one_serial, lasts_named}
use Rattle.tlsf_heap.proofs.lemmas.calls.Outcomes.{named_site}
use Rattle.tlsf_arena.proofs.Maps.{holds_live, stands_held}

-- the live block of that serial; n units of it are held
abbrev pub IsBlockOf : ℕ → ℕ → Block → Type 0
IsBlockOf serial n b = (has_serial serial b ≡ true) × (held_units (size_of b) (length (bytes_of b)) ≡ n)

-- ---- a block that is held, by its place

-- the blocks before it and behind it
abbrev Split : (Block → Type 0) → ℕ → ℕ → List Block → Type 0
Split P at from bs = (f : List Block) × (b : Block) × (r : List Block) × (f ++ b ∷ r ≡ bs) × P b × (from + words_in f ≡ at)

split : (P : Block → Type 0) (at from : ℕ) (bs : List Block) → HasFrom P at from bs → Split P at from bs
split P at from [] h = absurd h
split P at from (b ∷ bs) h = elim h [
  | inl e ↦ ([], b, bs, refl, e.0, omega (arith, e.1))
  | inr t ↦ let s = split P at (from + size_of b) bs t in (b ∷ s.0, s.1, s.2, ap (λ (l : List Block). b ∷ l) s.3, s.4, omega (arith, s.5))
]

by_name : (h : HeapState) (name : Name) (n : ℕ) → Holds h name n → HasFrom (IsBlockOf name.serial n) name.at 0 h.blocks
by_name h name n holds =
    let s = holds.0 in
    let P : Block → Type 0 = IsBlockOf name.serial n in
    let site = named_site name h.blocks s holds.2 in
    let place : place_of s ≡ name.at = eqb-true (place_of s) name.at (and_right (has_serial name.serial s.block) _ site.1) in
    subst (HasFrom P name.at 0) site.0 (in_right P name.at 0 s.before (s.block ∷ s.after) (inl ((and_left (has_serial name.serial s.block) _ site.1, holds.3), omega (arith, place))))

pub by_place : (h : HeapState) (name : Name) (n : ℕ) → IsLawful h → name.heap ≡ h.id → HasFrom (IsBlockOf name.serial n) name.at 0 h.blocks → Holds h name n
by_place h name n lawful own there = on s.1 refl
  where
    s : Split (IsBlockOf name.serial n) name.at 0 h.blocks
    s = split (IsBlockOf name.serial n) name.at 0 h.blocks there

    place : words_in s.0 ≡ name.at
    place = omega (arith, s.5)

    alive : IsLive h name
    alive = shown h name own (subst (HasFrom (λ b. has_serial name.serial b ≡ true) name.at 0) s.3 (in_right (λ b. has_serial name.serial b ≡ true) name.at 0 s.0 (s.1 ∷ s.2) (inl (s.4.0, omega (arith, place)))))

    on : (b : Block) → s.1 ≡ b → Holds h name n
    on (Live m t xs) e =
        let units : held_units m (length xs) ≡ n = subst (λ (b : Block). held_units (size_of b) (length (bytes_of b)) ≡ n) e s.4.1 in
        let seen = stands_held h (record { before = s.0; block = s.1; after = s.2 }) m t n xs lawful e s.3 units in
        holds_live h name n lawful alive (subst (λ (p : ℕ). held_at h.blocks p ≡ Some n) place seen)
    on (Free m t) e = absurd (false≢true (subst (λ (b : Block). has_serial name.serial b ≡ true) e s.4.0))

-- ---- what a step on others leaves of it

no_free : (serial n m s : ℕ) → IsBlockOf serial n (Free m s) → ⊥
no_free serial n m s e = false≢true e.0

pub kept : (sli : ℕ) (old new : HeapState) (name : Name) (n : ℕ) (step : Step) → IsOfOthers name step → new ≡ stepped sli old step → IsLawful new → Holds old name n → Holds new name n
kept sli old new name n step others is lawful holds =
    let P : Block → Type 0 = IsBlockOf name.serial n in
    let lasts = lasts_named P name (no_free name.serial n) (λ a b e f. one_serial a name.serial b e f.0) sli old step (inl others) (holds.1, by_name old name n holds) in
    let there = subst (λ (h : HeapState). (name.heap ≡ h.id) × HasFrom P name.at 0 h.blocks) (sym is) lasts in by_place new name n lawful there.0 there.1

module _ (old new : HeapState) (name other : Name) (units : ℕ) (lawful : IsLawful new) (apart : name ≢ other) (holds : Holds old name units) where
  pub stays_released : new ≡ (released old other).heap → Holds new name units
  stays_released is = kept 0 old new name units (Take other) (λ same. apart (sym same)) is lawful holds

  pub stays_resized : (n len : ℕ) → new ≡ (resized_words old other n len).heap → Holds new name units
  stays_resized n len is = kept 0 old new name units (Fit other n len) (λ same. apart (sym same)) is lawful holds
