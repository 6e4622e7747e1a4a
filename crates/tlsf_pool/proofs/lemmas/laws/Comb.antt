-- The bound for one block can't be lowered: a heap that has one word less refuses.
use Rattle.tlsf_pool.proofs.Common.{◌≡◌, ℕ, zero, suc, ◌<◌, ◌≤◌, false, [], ◌∷◌, sym, ◌∙◌, inl, inr, arith, cases_lt, leb-true, IsLevel, class_of, most_words, Free, want, is_fit, NoneFits, opened, sure, mixed_words, OneBlockIsTight}
use Rattle.tlsf_class.proofs.Lows.{low-rises_or_same}
use Rattle.tlsf_class.proofs.ClassOfSize.{class_of-is, class_of-small, search_of-is, serves-from}
use Rattle.tlsf_heap.proofs.lemmas.blocks.Find.{not_true}
use Rattle.tlsf_heap.proofs.lemmas.blocks.Sites.{fits_nothing}
use Rattle.tlsf_pool.proofs.lemmas.laws.FreeRoom.{sure_enough, sure_is}
use Rattle.tlsf_pool.proofs.lemmas.laws.ModestCalls.{mixed_of_fours, mixed_of_more}
use Rattle.tlsf_heap.proofs.lemmas.laws.NoFit.{no_fit}

-- a free block below the least size of the search class doesn't serve
pub too_small : (sli : ℕ) (level : IsLevel sli) (n m s : ℕ) → n ≤ most_words sli → m < sure sli n → is_fit sli n (Free m s) ≡ false
too_small sli level n m s region below = not_true _ (λ fit.
    let search = search_of-is sli level n region in
    let under : search.0 ≤ class_of sli m = leb-true search.0 (class_of sli m) (sym (serves-from sli level n search.0 (class_of sli m) search.1.found) ∙ fit) in
    elim (cases_lt m 4) [
      | inl small ↦ omega (arith, search.1.least, under, class_of-small sli level m small)
      | inr large ↦ let own = class_of-is sli level m large in omega (arith, below, sure_is sli level n search.0 search.1, own.reached, low-rises_or_same sli level search.0 (class_of sli m) under (omega (arith, own.most)))
    ])

-- the words for one block
one_block_words : (sli : ℕ) (level : IsLevel sli) (len : ℕ) → want len ≤ most_words sli → mixed_words sli 1 len ≤ sure sli (want len)
one_block_words sli level len region = elim (cases_lt 8 len) [
  | inl more ↦ omega (arith, mixed_of_more sli 1 len more, sure_enough sli level (want len) region)
  | inr four ↦ omega (arith, mixed_of_fours sli 1 len four, sure_enough sli level (want len) region)
]

pub one_block_tight : (sli : ℕ) (level : IsLevel sli) → OneBlockIsTight sli
one_block_tight sli level id words first len region below =
    (no_fit sli (opened id words first) len).1 (fits_nothing sli (want len) (Free words first ∷ []) (none sli (want len) words first (too_small sli level (want len) words first region (omega (arith, below, one_block_words sli level len region)))))
  where
    none : (sli w m t : ℕ) → is_fit sli w (Free m t) ≡ false → NoneFits sli w (Free m t ∷ [])
    none sli w m t small zero l = small
    none sli w m t small (suc i) l = absurd (omega (arith, l))
