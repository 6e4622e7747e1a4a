-- The free block that a list ends with.
use Rattle.tlsf_heap.proofs.Common.{◌≡◌, ℕ, List, [], ◌∷◌, ◌++◌, sym, ap, ◌∙◌, reverse, reverse-append, reverse-reverse, Block, Live, Free, first_free, past_free, last_free, before_free}

turned : (front : List Block) (b : Block) → reverse (front ++ b ∷ []) ≡ b ∷ reverse front
turned front b = reverse-append front (b ∷ [])

pub ends_free : (front : List Block) (m s : ℕ) → (last_free (front ++ Free m s ∷ []) ≡ m) × (before_free (front ++ Free m s ∷ []) ≡ front)
ends_free front m s = (ap first_free (turned front (Free m s)), ap (λ (l : List Block). reverse (past_free l)) (turned front (Free m s)) ∙ reverse-reverse front)

pub ends_live : (front : List Block) (m s : ℕ) (xs : List ℕ) → (last_free (front ++ Live m s xs ∷ []) ≡ 0) × (before_free (front ++ Live m s xs ∷ []) ≡ front ++ Live m s xs ∷ [])
ends_live front m s xs =
    let t = turned front (Live m s xs) in
    (ap first_free t, ap (λ (l : List Block). reverse (past_free l)) t ∙ ap reverse (sym t) ∙ reverse-reverse (front ++ Live m s xs ∷ []))
