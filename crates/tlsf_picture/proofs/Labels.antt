-- The labels of blocks, one event after another.
use Rattle.tlsf_picture.proofs.Common.{◌≡◌, ℕ, zero, suc, ◌<◌, List, [], ◌∷◌, length, drop, get_or, Option, None, refl, ap, ◌∙◌, arith, slice_index_or, label_of, with_label}
use mathlib.Core.Path.{fun_ext}
use Rattle.tlsf_heap.specs.declared.name.Name.{Name}

none_left : (i : ℕ) → drop {A = Option ℕ} i [] ≡ []
none_left zero = refl
none_left (suc i) = refl

event_more : (heap : ℕ) (made : List (Option Name)) (labels : List (Option ℕ)) (i serial : ℕ) → i < length made
    → with_label heap (label_of heap (drop (suc i) made) (drop (suc i) labels)) (get_or made i None) (slice_index_or labels i None) serial
    ≡ label_of heap (drop i made) (drop i labels) serial
event_more heap [] labels i serial lt = absurd (omega (arith, lt))
event_more heap (m ∷ made) labels zero serial lt = refl
event_more heap (m ∷ made) [] (suc i) serial lt =
    event_more heap made [] i serial (omega (arith, lt)) ∙ ap (λ (l : List (Option ℕ)). label_of heap (drop i made) l serial) (none_left i)
event_more heap (m ∷ made) (l ∷ labels) (suc i) serial lt = event_more heap made labels i serial (omega (arith, lt))

-- the labels by the events from a number on, by those after it
pub one_more : (heap : ℕ) (made : List (Option Name)) (labels : List (Option ℕ)) (k i : ℕ) (known : ℕ → Option ℕ) (label : Option ℕ) (name : Option Name) → i < length made → k ≡ suc i
    → known ≡ label_of heap (drop k made) (drop k labels) → name ≡ get_or made i None → label ≡ slice_index_or labels i None
    → with_label heap known name label ≡ label_of heap (drop i made) (drop i labels)
one_more heap made labels k i known label name lt is knows named labelled =
    fun_ext (λ serial. rw (knows, named, labelled, is) (event_more heap made labels i serial lt))
