-- The block that begins at a place, by its index.
use Rattle.tlsf_heap.proofs.Common.{◌≡◌, ℕ, zero, suc, ◌+◌, ◌<◌, Bool, true, false, cond, List, [], ◌∷◌, length, take, find, Some, None, refl, sym, ap, ◌∙◌, arith, eq-eqb, ◌==◌, AllByRecursion, eqb-true, false≢true, Block, Live, Free, size_of, words_in, is_free, bytes_of, StandsAt, IsPlace, HasRoom, block_at, mark_of}
use Rattle.tlsf_heap.specs.Placed.{content_of, placed, placed_from, placed_at}
use Rattle.tlsf_heap.specs.declared.placed_block.Content.TheVariants as content
use Rattle.tlsf_heap.proofs.lemmas.blocks.Find.{not_true}
use Rattle.tlsf_heap.proofs.lemmas.words.Image.{least}

found_from : (at from i : ℕ) (bs : List Block) → AllByRecursion HasRoom bs → i < length bs → from + words_in (take i bs) ≡ at
    → find (λ b. b.at == at) (placed_from from bs) ≡ Some (placed at (block_at bs i))
found_from at from i [] rooms within e = absurd (omega (arith, within))
found_from at from zero (b ∷ bs) rooms within e =
    let here : from ≡ at = omega (arith, e) in
    ap (λ (c : Bool). cond c (Some (placed from b)) (find (λ b. b.at == at) (placed_from (from + size_of b) bs))) (eq-eqb from at here) ∙ ap (λ (p : ℕ). Some (placed p b)) here
found_from at from (suc i) (b ∷ bs) rooms within e =
    let four = least b rooms.0 in
    ap (λ (c : Bool). cond c (Some (placed from b)) (find (λ b. b.at == at) (placed_from (from + size_of b) bs)))
    (not_true (from == at) (λ f. let same = eqb-true from at f in absurd (omega (arith, e, four, same))))
    ∙ found_from at (from + size_of b) i bs rooms.1 (omega arith) (omega (arith, e))

none_from : (at from : ℕ) (bs : List Block) → ((i : ℕ) → i < length bs → from + words_in (take i bs) ≡ at → ⊥) → find (λ b. b.at == at) (placed_from from bs) ≡ None
none_from at from [] none = refl
none_from at from (b ∷ bs) none =
    ap (λ (c : Bool). cond c (Some (placed from b)) (find (λ b. b.at == at) (placed_from (from + size_of b) bs)))
    (not_true (from == at) (λ f. let same = eqb-true from at f in none 0 (omega arith) (omega (arith, same))))
    ∙ none_from at (from + size_of b) bs (λ i within e. none (suc i) (omega (arith, within)) (omega (arith, e)))

-- the block that stands at a place
pub placed_found : {bs : List Block} {at i : ℕ} → AllByRecursion HasRoom bs → StandsAt bs at i → placed_at bs at ≡ Some (placed at (block_at bs i))
placed_found {bs = bs} {at = at} {i = i} rooms stands = found_from at 0 i bs rooms stands.within (omega (arith, stands.place))

-- and where none stands
pub placed_none : {bs : List Block} {at : ℕ} → (IsPlace bs at → ⊥) → placed_at bs at ≡ None
placed_none {bs = bs} {at = at} none = none_from at 0 bs (λ i within e. none (i, record { within = within; place = omega (arith, e) }))

-- what a block holds, by its mark and its length
pub content-free : (b : Block) → is_free b ≡ true → content_of b ≡ content.Free (mark_of b)
content-free (Live size serial bytes) free = absurd (false≢true free)
content-free (Free size stamp) free = refl

pub content-live : (b : Block) → is_free b ≡ false → content_of b ≡ content.Live (mark_of b) (length (bytes_of b))
content-live (Live size serial bytes) live = refl
content-live (Free size stamp) live = absurd (false≢true (sym live))
