-- The words of the parts of a table, as they are kept.
use Rattle.tlsf_held.proofs.Common.{◌≡◌, ℕ, zero, suc, ◌+◌, ◌-◌, ◌^◌, ◌<◌, ◌≤◌, List, [], ◌∷◌, get_or, length, replicate, set, refl, sym, ap, ap₂, ◌∙◌, subst, arith, get_or-set_same, cost_in, lens_of, part_words, rows_by, words_by, AreCosts, Divide, IsBest, IsCheapest, Row, Step, Split}
use Rattle.tlsf_held.proofs.Divided.{how_many}

pub zeros : (n k : ℕ) → get_or (replicate n 0) k 0 ≤ 2 ^ 32
zeros zero k = omega arith
zeros (suc n) zero = omega arith
zeros (suc n) (suc k) = zeros n k

pub set_here : (costs : List ℕ) (i k v : ℕ) → i < length costs → k ≡ i → get_or (set costs i v) k 0 ≡ v
set_here costs i k v inside is = ap (λ (n : ℕ). get_or (set costs i v) n 0) is ∙ get_or-set_same costs i v 0 inside

module _ (sli : ℕ) (steps : List Step) (table : List Row) (costs : List (List ℕ)) (are : AreCosts sli steps table costs) where
  same_words : (at : ℕ) (lens : List ℕ) → Divide (length table) at lens → words_by (cost_in costs) at lens ≡ words_by (part_words sli steps table) at lens
  same_words at [] divide = refl
  same_words at (n ∷ lens) divide =
      let place : at + n - 1 + 1 ≡ at + n = omega (arith, divide.0) in
      let first = are.are at (at + n - 1) (omega (arith, divide.0)) (omega (arith, divide.0, divide.1)) in
      ap₂ (λ (a b : ℕ). a + b)
      (subst (λ (end : ℕ). cost_in costs at end ≡ part_words sli steps table at end) place first)
      (same_words (at + n) lens divide.2)

  pub cheapest_told : (most : ℕ) (split : Split) (rows : List Row) → IsBest (cost_in costs) (length costs) most 0 split → rows ≡ rows_by steps table 0 (lens_of split)
      → IsCheapest sli most steps table rows
  cheapest_told most split rows best is =
      let divide = subst (λ (n : ℕ). Divide n 0 (lens_of split)) are.many best.divide in
      let words = same_words 0 (lens_of split) divide in
      record {
        lens = lens_of split;
        divide = divide;
        rows_are = is;
        few = omega (arith, how_many split.heaps split.lens, best.few);
        least = λ others divides few.
            let other = same_words 0 others divides in
            let upto = best.least others (subst (λ (n : ℕ). Divide n 0 others) (sym are.many) divides) few in
            omega (arith, words, other, best.words, upto);
      }
