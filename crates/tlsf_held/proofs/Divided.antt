-- The division of the fewest words, found from its end.
use Rattle.tlsf_held.proofs.Common.{◌≡◌, ◌≢◌, ℕ, zero, suc, ◌+◌, ◌-◌, ◌^◌, ◌<◌, ◌≤◌, ◌⊎◌, Bool, true, false, cond, List, [], ◌∷◌, length, get_or, set, inl, inr, refl, sym, ap, ◌∙◌, subst, arith, add-one, get_or-set_other, get_or-set_same, length-set, nat_lt, cases_eq, cases_lt, nat_tests, cheaper, lens_in, lens_of, no_split, nothing, with_first, words_by, AreBest, Divide, HasAtMost, HasFirst, IsBest, IsBestAmong, Split}

-- ---- a first part more

lens_past : (heaps k n : ℕ) (lens : List ℕ) → heaps ≤ k → lens_in heaps (set lens k n) ≡ lens_in heaps lens
lens_past zero k n lens below = refl
lens_past (suc h) k n lens below =
    let ne : h ≢ k = omega arith in
    rw (get_or-set_other lens k h n 0 ne) (ap (λ (rest : List ℕ). get_or lens h 0 ∷ rest) (lens_past h k n lens (omega arith)))

lens_first : (heaps n : ℕ) (lens : List ℕ) → heaps < length lens → lens_in (heaps + 1) (set lens heaps n) ≡ n ∷ lens_in heaps lens
lens_first heaps n lens inside =
    rw (add-one, get_or-set_same lens heaps n 0 inside) (ap (λ (rest : List ℕ). n ∷ rest) (lens_past heaps heaps n lens (omega arith)))

pub how_many : (heaps : ℕ) (lens : List ℕ) → length (lens_in heaps lens) ≡ heaps
how_many zero lens = refl
how_many (suc h) lens = ap suc (how_many h lens)

-- the first part has just this many places
abbrev HasJust : ℕ → ℕ → List ℕ → Type 0
HasJust heaps n [] = ⊥
HasJust heaps n (m ∷ lens) = (m ≡ n) × (length lens ≤ heaps)

module _ (cost : ℕ → ℕ → ℕ) (count : ℕ) where
  abbrev Best : ℕ → ℕ → Split → Type 0
  Best heaps at split = IsBest cost count heaps at split

  -- a split is also the best of others, where it has no more words than each of these
  also : {few heaps at : ℕ} {P Q : List ℕ → Type 0} {split : Split} → IsBestAmong cost count few at P split → few ≤ heaps
      → ((lens : List ℕ) → Divide count at lens → Q lens → split.words ≤ words_by cost at lens) → IsBestAmong cost count heaps at Q split
  also best more least = record {
    divide = best.divide;
    words = best.words;
    least = least;
    few = omega (arith, best.few, more);
    room = best.room;
    small = best.small;
  }

  module _ (heaps at n : ℕ) (rest : Split) (some : 0 < n) (within : at + n ≤ count) (few : heaps ≤ 7) (best : Best heaps (at + n) rest) where
    least_just : (lens : List ℕ) → Divide count at lens → HasJust heaps n lens → rest.words + cost at (at + n) ≤ words_by cost at lens
    least_just [] divide just = absurd just
    least_just (m ∷ lens) divide just =
        let behind = best.least lens (subst (λ (k : ℕ). Divide count (at + k) lens) just.0 divide.2) just.1 in
        subst (λ (k : ℕ). rest.words + cost at (at + n) ≤ cost at (at + k) + words_by cost (at + k) lens) (sym just.0) (omega (arith, behind))

    first_best : cost at (at + n) ≤ 2 ^ 32 → IsBestAmong cost count (heaps + 1) at (HasJust heaps n) (with_first rest n (cost at (at + n)))
    first_best small =
        let whole : lens_of (with_first rest n (cost at (at + n))) ≡ n ∷ lens_of rest = lens_first rest.heaps n rest.lens (omega (arith, few, best.few, best.room)) in
        let words = ap (words_by cost at) whole in
        record {
          divide = subst (Divide count at) (sym whole) (some, within, best.divide);
          words = omega (arith, best.words, words);
          least = least_just;
          few = omega (arith, best.few);
          room = length-set rest.lens rest.heaps n ∙ best.room;
          small = omega (arith, best.small, small);
        }

  -- a first part that ends here
  pub best_with : (heaps at end words : ℕ) (rest : Split) → at < end → end ≤ count → heaps ≤ 7 → Best heaps end rest → words ≡ cost at end → cost at end ≤ 2 ^ 32
      → IsBestAmong cost count (heaps + 1) at (HasJust heaps (end - at)) (with_first rest (end - at) words)
  best_with heaps at end words rest before within few best is small =
      let place : at + (end - at) ≡ end = omega (arith, before) in
      let found = first_best heaps at (end - at) rest (omega (arith, before)) (omega (arith, before, within)) few (subst (λ (e : ℕ). Best heaps e rest) (sym place) best)
      (subst (λ (e : ℕ). cost at e ≤ 2 ^ 32) (sym place) small) in
      subst (λ (w : ℕ). IsBestAmong cost count (heaps + 1) at (HasJust heaps (end - at)) (with_first rest (end - at) w)) (ap (λ (e : ℕ). cost at e) place ∙ sym is) found

  -- ---- the cheaper of two

  module _ (heaps at : ℕ) (P Q R : List ℕ → Type 0) (either : (lens : List ℕ) → R lens → P lens ⊎ Q lens) where
    chosen : (a b : Split) (t : Bool) → (t ≡ true → b.words ≤ a.words) → (t ≡ false → a.words ≤ b.words) → IsBestAmong cost count heaps at P a → IsBestAmong cost count heaps at Q b
        → IsBestAmong cost count heaps at R (cond t b a)
    chosen a b true less more one other = also other (omega arith) (λ lens divide sought. elim (either lens sought) [
      | inl p ↦ omega (arith, less refl, one.least lens divide p)
      | inr q ↦ other.least lens divide q
    ])
    chosen a b false less more one other = also one (omega arith) (λ lens divide sought. elim (either lens sought) [
      | inl p ↦ one.least lens divide p
      | inr q ↦ omega (arith, more refl, other.least lens divide q)
    ])

    cheaper_best : (a b : Split) → IsBestAmong cost count heaps at P a → IsBestAmong cost count heaps at Q b → IsBestAmong cost count heaps at R (cheaper a b)
    cheaper_best a b one other = chosen a b (nat_lt b.words a.words) (λ is. grind (arith, nat_tests)) (λ is. grind (arith, nat_tests)) one other

  -- ---- the best from one place on

  either_first : (heaps at last : ℕ) (lens : List ℕ) → HasFirst heaps at (last + 1) lens → HasFirst heaps at last lens ⊎ HasJust heaps (last + 1 - at) lens
  either_first heaps at last [] first = inl tt
  either_first heaps at last (n ∷ lens) (inl few) = inl (inl few)
  either_first heaps at last (n ∷ lens) (inr first) = elim (cases_eq (at + n) (last + 1)) [
    | inl is ↦ inr (omega (arith, is), first.1)
    | inr ne ↦ inl (inr (omega (arith, ne, first.0), first.1))
  ]

  none_first : (heaps at : ℕ) (lens : List ℕ) → Divide count at lens → HasFirst heaps at at lens → HasAtMost heaps lens
  none_first heaps at [] divide first = omega arith
  none_first heaps at (n ∷ lens) divide (inl few) = omega (arith, few)
  none_first heaps at (n ∷ lens) divide (inr first) = absurd (omega (arith, divide.0, first.0))

  all_first : (heaps at : ℕ) (lens : List ℕ) → Divide count at lens → HasAtMost (heaps + 1) lens → HasFirst heaps at count lens
  all_first heaps at [] divide few = tt
  all_first heaps at (n ∷ lens) divide few = inr (divide.1, omega (arith, few))

  pub first_begun : (heaps at : ℕ) (split : Split) → Best heaps at split → IsBestAmong cost count (heaps + 1) at (HasFirst heaps at at) split
  first_begun heaps at split best = also best (omega arith) (λ lens divide first. best.least lens divide (none_first heaps at lens divide first))

  pub first_more : (heaps at last words : ℕ) (split rest : Split) → at ≤ last → last < count → heaps ≤ 7 → IsBestAmong cost count (heaps + 1) at (HasFirst heaps at last) split
      → Best heaps (last + 1) rest → words ≡ cost at (last + 1) → cost at (last + 1) ≤ 2 ^ 32
      → IsBestAmong cost count (heaps + 1) at (HasFirst heaps at (last + 1)) (cheaper split (with_first rest (last + 1 - at) words))
  first_more heaps at last words split rest from inside few so_far best is small =
      cheaper_best (heaps + 1) at (HasFirst heaps at last) (HasJust heaps (last + 1 - at)) (HasFirst heaps at (last + 1)) (either_first heaps at last) split (with_first rest (last + 1 - at) words)
      so_far (best_with heaps at (last + 1) words rest (omega (arith, from)) (omega (arith, inside)) few best is small)

  pub first_done : (heaps at : ℕ) (split : Split) → IsBestAmong cost count (heaps + 1) at (HasFirst heaps at count) split → Best (heaps + 1) at split
  first_done heaps at split best = also best (omega arith) (λ lens divide few. best.least lens divide (all_first heaps at lens divide few))

  -- ---- one part

  pub nothing_best : (heaps : ℕ) → Best heaps count nothing
  nothing_best heaps = record {
    divide = refl;
    words = refl;
    least = λ lens divide few. omega arith;
    few = omega arith;
    room = refl;
    small = omega arith;
  }

  just_one : (at : ℕ) (lens : List ℕ) → at < count → Divide count at lens → HasAtMost 1 lens → HasJust 0 (count - at) lens
  just_one at [] before divide few = absurd (omega (arith, before, divide))
  just_one at (n ∷ []) before divide few = (omega (arith, divide.2), omega arith)
  just_one at (n ∷ (m ∷ lens)) before divide few = absurd (omega (arith, few))

  pub one_best : (at words : ℕ) → at < count → words ≡ cost at count → cost at count ≤ 2 ^ 32 → Best 1 at (with_first nothing (count - at) words)
  one_best at words before is small =
      let best = best_with 0 at count words nothing before (omega arith) (omega arith) (nothing_best 0) is small in
      also best (omega arith) (λ lens divide few. best.least lens divide (just_one at lens before divide few))

  -- ---- a row of the best

  no_more : (heaps : ℕ) (lens : List ℕ) → Divide count count lens → HasAtMost heaps lens
  no_more heaps [] divide = omega arith
  no_more heaps (n ∷ lens) divide = absurd (omega (arith, divide.0, divide.1))

  more_at_end : (heaps : ℕ) (split : Split) → Best heaps count split → Best (heaps + 1) count split
  more_at_end heaps split best = also best (omega arith) (λ lens divide few. best.least lens divide (no_more heaps lens divide))

  pub row_done : (heaps at : ℕ) (row : List Split) → count ≤ at → ((k : ℕ) → k < at → Best (heaps + 1) k (get_or row k no_split))
      → ((k : ℕ) → at ≤ k → k ≤ count → Best heaps k (get_or row k no_split)) → AreBest cost count (heaps + 1) row
  row_done heaps at row end more before k inside = elim (cases_lt k at) [
    | inl below ↦ more k below
    | inr from ↦
        let place : k ≡ count = omega (arith, from, end, inside) in
        subst (λ (n : ℕ). Best (heaps + 1) n (get_or row k no_split)) (sym place)
        (more_at_end heaps (get_or row k no_split) (subst (λ (n : ℕ). Best heaps n (get_or row k no_split)) place (before k from inside)))
  ]

  -- one place more has its best
  pub row_more : (heaps at : ℕ) (row : List Split) (new : Split) → at < length row → Best heaps at new → ((k : ℕ) → k < at → Best heaps k (get_or row k no_split))
      → (k : ℕ) → k < at + 1 → Best heaps k (get_or (set row at new) k no_split)
  row_more heaps at row new inside best so_far k below = elim (cases_eq k at) [
    | inl is ↦ subst (λ (n : ℕ). Best heaps n (get_or (set row at new) n no_split)) (sym is) (subst (λ (s : Split). Best heaps at s) (sym (get_or-set_same row at new no_split inside)) best)
    | inr ne ↦ subst (λ (s : Split). Best heaps k s) (sym (get_or-set_other row at k new no_split ne)) (so_far k (omega (arith, ne, below)))
  ]

  -- and the last one has that of no place
  pub row_begun : (row : List Split) → count < length row → ((k : ℕ) → k < count → Best 1 k (get_or row k no_split)) → AreBest cost count 1 (set row count nothing)
  row_begun row inside so_far k upto = row_more 1 count row nothing inside (nothing_best 1) so_far k (omega (arith, upto))

-- ---- the lengths of a split

pub lens_step : (left : ℕ) (lens : List ℕ) → 0 < left → lens_in left lens ≡ get_or lens (left - 1) 0 ∷ lens_in (left - 1) lens
lens_step zero lens some = absurd (omega (arith, some))
lens_step (suc k) lens some = let place : suc k - 1 ≡ k = omega arith in rw place refl
