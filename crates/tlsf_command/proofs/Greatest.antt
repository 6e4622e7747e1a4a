-- The most bytes for this many blocks.
use Rattle.tlsf_command.proofs.Common.{◌≡◌, ◌≤◌, ℕ, zero, suc, Option, Some, None, inl, inr, refl, arith, le_trans, IfSome, unwrap_or, IsLevel, most_words, want, IsGreatest, IsReached}
use Rattle.tlsf_pool.specs.laws.MixedSizes.{mixed_words}
use Rattle.tlsf_pool.proofs.lemmas.sizes.Bounds.{words_rise}

least : (k : ℕ) → 0 ≤ k
least k = omega arith

some_byte : (n : ℕ) → 1 ≤ suc n
some_byte n = omega arith

-- what is found is the greatest, and 0 stands for none
pub longest_is : (sli : ℕ) → IsLevel sli → (most : ℕ) (found : Option ℕ) → 1 ≤ most
    → IfSome found (λ len. (want len ≤ most_words sli) × (mixed_words sli most len ≤ most_words sli))
    → IfSome found (λ longest. (len : ℕ) → want len ≤ most_words sli → mixed_words sli most len ≤ most_words sli → len ≤ longest)
    → (found ≡ None → ¬ (mixed_words sli most 0 ≤ most_words sli))
    → IsGreatest (λ len. IsReached sli most len) (unwrap_or found 0)
longest_is sli level most None some reached greatest none = (
  inr refl,
  λ k is. absurd (none refl (le_trans (words_rise sli level most 0 k (least k) is.2) is.3)),
)
longest_is sli level most (Some zero) some reached greatest none = (inr refl, λ k is. greatest k is.2 is.3)
longest_is sli level most (Some (suc n)) some reached greatest none = (inl (some, some_byte n, reached.0, reached.1), λ k is. greatest k is.2 is.3)
