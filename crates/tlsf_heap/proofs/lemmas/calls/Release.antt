-- The answer and the effect of a release, by the index of the named block.
use Rattle.tlsf_heap.proofs.Common.{◌≡◌, ℕ, suc, Bool, true, false, cond, eqb, List, ◌∷◌, ◌++◌, take, drop, Ok, refl, ap, ◌∙◌, subst, arith, eq-eqb, false≢true, nat_tests, Block, Live, Free, HeapState, IsLawful, block_at, site_at, with_blocks, Outcome, has_serial, coalesced, ticked, released, released_at, refused, last_tick, IsFirst, RefusesName, Name, Refusal, Worn}
use Rattle.tlsf_heap.proofs.lemmas.blocks.Find.{and_left, not_true}
use Rattle.tlsf_heap.proofs.lemmas.calls.Named.{refused_name, at_name}
use Rattle.tlsf_heap.proofs.lemmas.calls.Allocate.{split_at}
use Rattle.tlsf_heap.proofs.lemmas.blocks.Coalesce.{lawful_coalesced}

-- a named block is live
pub lawful_at : (h : HeapState) (front back : List Block) (b : Block) (serial : ℕ) → has_serial serial b ≡ true → IsLawful (with_blocks h (front ++ b ∷ back))
    → IsLawful (ticked h (coalesced h.tick (record { before = front; block = b; after = back })))
lawful_at h front back (Live m s xs) serial e lawful = lawful_coalesced h front back m s xs lawful
lawful_at h front back (Free m s) serial e lawful = absurd (false≢true e)

module _ (h : HeapState) (name : Name) where
  pub released_refused : (why : Refusal) → RefusesName h name why → released h name ≡ refused h why
  released_refused why r = refused_name h name (released_at h) (refused h) refl why r

  module _ (own : name.heap ≡ h.id) (i : ℕ) (first : IsFirst name.at name.serial h.blocks i) where
    abbrev left : List Block
    left = coalesced h.tick (site_at h.blocks i)

    abbrev freed : Outcome (Unit {0})
    freed = record { answer = Ok tt; heap = ticked h left }

    pub released_worn : h.tick ≡ last_tick → released h name ≡ refused h Worn
    released_worn w =
        at_name h name (released_at h) (refused h) own i first ∙ ap (λ (b : Bool). cond b (refused h Worn) freed) (eq-eqb h.tick last_tick w)

    pub released_is : (h.tick ≡ last_tick → ⊥) → released h name ≡ freed
    released_is n =
        let t : eqb h.tick last_tick ≡ false = not_true _ (λ w. n (grind (arith, nat_tests))) in
        at_name h name (released_at h) (refused h) own i first ∙ ap (λ (b : Bool). cond b (refused h Worn) freed) t

    pub released_lawful : IsLawful h → IsLawful (ticked h left)
    released_lawful lawful =
        lawful_at h (take i h.blocks) (drop (suc i) h.blocks) (block_at h.blocks i) name.serial (and_left _ _ first.here)
        (subst (λ (l : List Block). IsLawful (with_blocks h l)) (split_at h.blocks i first.within) lawful)
