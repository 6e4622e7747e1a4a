-- The least way of cutting kinds, from its end.
use Rattle.tlsf_pool.proofs.Common.{◌≡◌, ◌≢◌, ℕ, zero, suc, ◌+◌, ◌-◌, ◌^◌, ◌<◌, ◌≤◌, ◌⊎◌, inl, inr, Bool, true, false, cond, List, [], ◌∷◌, ◌++◌, length, get_or, set, take, drop, Option, Some, None, refl, ap, ap₂, sym, ◌∙◌, subst, arith, add-one, get_or-set_other, get_or-set_same, take-append-drop, length-take, length-drop, length-set, length-append, drop_of_length-le, drop-drop, get_or-drop, take_all, nat_lt, IfSome, IsLevel, cases_eq, cases_lt, nat_tests, fixed_kinds_words, Kind, cheaper, with_first, AreBest, AreSmall, HasFirst, IsBest, IsBestAmong, cut_by, joined, parts_of, words_together, HasAtMost, HasWords, IsCut, IsLeast, IsLeastAmong, IsNoLater, IsPart, CutAlike, Split}
use Rattle.tlsf_class.proofs.TwoLevels.{most_words_any}
use Rattle.tlsf_pool.specs.sizes.Cheapest.{IsSmall}
use Rattle.std.proofs.lemmas.List.{drop_at, take_at}

-- ---- a first heap more

cut_past : (heaps k n : ℕ) (lens : List ℕ) (kinds : List Kind) → heaps ≤ k → cut_by heaps (set lens k n) kinds ≡ cut_by heaps lens kinds
cut_past zero k n lens kinds below = refl
cut_past (suc h) k n lens kinds below =
    let ne : h ≢ k = omega arith in
    rw (get_or-set_other lens k h n 0 ne) (ap (λ (rest : List (List Kind)). take (get_or lens h 0) kinds ∷ rest) (cut_past h k n lens (drop (get_or lens h 0) kinds) (omega arith)))

cut_first : (heaps n : ℕ) (lens : List ℕ) (kinds : List Kind) → heaps < length lens → cut_by (heaps + 1) (set lens heaps n) kinds ≡ take n kinds ∷ cut_by heaps lens (drop n kinds)
cut_first heaps n lens kinds inside =
    rw (add-one, get_or-set_same lens heaps n 0 inside) (ap (λ (rest : List (List Kind)). take n kinds ∷ rest) (cut_past heaps heaps n lens (drop n kinds) (omega arith)))

-- ---- a part and what is behind it

record Begins (n : ℕ) (kinds part rest : List Kind) : Type 0 where
  first : part ≡ take n kinds
  behind : rest ≡ drop n kinds

begins : (n : ℕ) (kinds part rest : List Kind) → part ++ rest ≡ kinds → length part ≡ n → Begins n kinds part rest
begins n kinds part rest joins long = record {
  first = sym (ap₂ (λ (k : ℕ) (xs : List Kind). take k xs) (sym long) (sym joins) ∙ take_at part rest (length part) refl);
  behind = sym (ap₂ (λ (k : ℕ) (xs : List Kind). drop k xs) (sym long) (sym joins) ∙ drop_at part rest (length part) refl);
}

-- the first heap has just this many kinds
abbrev HasJust : ℕ → ℕ → List (List Kind) → Type 0
HasJust heaps n [] = ⊥
HasJust heaps n (part ∷ parts) = (length part ≡ n) × (length parts ≤ heaps)

-- the words of the first heap, where a region has them
pub record AreWordsOf (sli : ℕ) (part : List Kind) (words : Option ℕ) : Type 0 where
  pub some : (n : ℕ) → words ≡ Some n → HasWords sli part × (n ≡ fixed_kinds_words sli part)
  pub none : words ≡ None → ¬ (HasWords sli part)

module _ (sli heaps n : ℕ) (kinds : List Kind) (some : 0 < n) (within : n ≤ length kinds) where
  no_words : ¬ (HasWords sli (take n kinds)) → (parts : List (List Kind)) → IsCut sli kinds parts → ¬ (HasJust heaps n parts)
  no_words lacks [] cut just = just
  no_words lacks (part ∷ parts) cut just = lacks (subst (HasWords sli) (begins n kinds part (joined parts) cut.0 just.0).first cut.1.0.1)

  no_rest : ((parts : List (List Kind)) → IsCut sli (drop n kinds) parts → ¬ (HasAtMost heaps parts)) → (parts : List (List Kind)) → IsCut sli kinds parts → ¬ (HasJust heaps n parts)
  no_rest lacks [] cut just = just
  no_rest lacks (part ∷ parts) cut just = lacks parts ((begins n kinds part (joined parts) cut.0 just.0).behind, cut.1.1) just.1

  least_with : (words : ℕ) (rest : Split) → words ≡ fixed_kinds_words sli (take n kinds) → IsLeastAmong sli (HasAtMost heaps) (drop n kinds) rest
      → (parts : List (List Kind)) → IsCut sli kinds parts → HasJust heaps n parts → words + rest.words ≤ words_together sli parts
  least_with words rest is best [] cut just = absurd just
  least_with words rest is best (part ∷ parts) cut just =
      let begin = begins n kinds part (joined parts) cut.0 just.0 in
      omega (arith, is, ap (fixed_kinds_words sli) begin.first, best.least parts (begin.behind, cut.1.1) just.1)

  first_with : (words : ℕ) (rest : Split) → words ≡ fixed_kinds_words sli (take n kinds) → IsLeastAmong sli (HasAtMost heaps) (drop n kinds) rest
      → (parts : List (List Kind)) → IsCut sli kinds parts → HasJust heaps n parts → words_together sli parts ≡ words + rest.words → IsNoLater (take n kinds ∷ parts_of rest (drop n kinds)) parts
  first_with words rest is best [] cut just same = just
  first_with words rest is best (part ∷ parts) cut just same =
      let begin = begins n kinds part (joined parts) cut.0 just.0 in
      let first = ap (fixed_kinds_words sli) begin.first in
      inr (ap (λ (kinds : List Kind). length kinds) (sym begin.first), best.first parts (begin.behind, cut.1.1) just.1 (omega (arith, is, first, same)))

  with_first_best : (words : Option ℕ) (rest : Option Split) → AreWordsOf sli (take n kinds) words → IsBest sli heaps (drop n kinds) rest → AreSmall 7 rest
      → IsBestAmong sli (HasJust heaps n) kinds (with_first n words rest)
  with_first_best None rest are best small = no_words (are.none refl)
  with_first_best (Some words) None are best small = no_rest best
  with_first_best (Some words) (Some rest) are best small =
      let has = are.some words refl in
      let parts = parts_of rest (drop n kinds) in
      let whole = cut_first rest.heaps n rest.lens kinds (omega (arith, small.few, small.room)) in
      let part : IsPart sli (take n kinds) = (omega (arith, length-take n kinds), has.0) in
      record {
        cut = subst (IsCut sli kinds) (sym whole) (ap (λ (behind : List Kind). take n kinds ++ behind) best.cut.0 ∙ take-append-drop n kinds, (part, best.cut.1));
        sought = subst (HasJust heaps n) (sym whole) (omega (arith, length-take n kinds), best.sought);
        words = ap₂ (λ (a b : ℕ). a + b) has.1 best.words ∙ sym (ap (words_together sli) whole);
        least = least_with words rest has.1 best;
        first = λ ways cut just same. subst (λ (own : List (List Kind)). IsNoLater own ways) (sym whole) (first_with words rest has.1 best ways cut just same);
      }

pub are_words : (sli : ℕ) (part : List Kind) (words : Option ℕ) → IfSome words (λ n. HasWords sli part × (n ≡ fixed_kinds_words sli part)) → (words ≡ None → ¬ (HasWords sli part)) → AreWordsOf sli part words
are_words sli part None some none = record { some = λ n is. absurd cc; none = none }
are_words sli part (Some words) some none = record { some = λ n is. let same : words ≡ n = cc in subst (λ (k : ℕ). HasWords sli part × (k ≡ fixed_kinds_words sli part)) same some; none = λ is. absurd cc }

pub words_most : (sli : ℕ) → IsLevel sli → (part : List Kind) (words : Option ℕ) → AreWordsOf sli part words → (n : ℕ) → words ≡ Some n → n ≤ 2 ^ 24
words_most sli level part words are n is = let has = are.some n is in omega (arith, has.0.1, has.1, most_words_any sli)

-- ---- the cheaper of two

module _ (sli : ℕ) (P R : List (List Kind) → Type 0) (kinds : List Kind) where
  -- what is the best of some is the best of others, where no way tells them apart
  pub same_best : (best : Option Split) → ((parts : List (List Kind)) → IsCut sli kinds parts → R parts → P parts) → ((parts : List (List Kind)) → P parts → R parts)
      → IsBestAmong sli P kinds best → IsBestAmong sli R kinds best
  same_best None to from is = λ parts cut sought. is parts cut (to parts cut sought)
  same_best (Some split) to from is = record {
    cut = is.cut;
    sought = from _ is.sought;
    words = is.words;
    least = λ parts cut sought. is.least parts cut (to parts cut sought);
    first = λ parts cut sought. is.first parts cut (to parts cut sought);
  }

-- of the first ways each comes before each of the others
module _ (sli : ℕ) (P Q R : List (List Kind) → Type 0) (kinds : List Kind)
    (either : (parts : List (List Kind)) → R parts → P parts ⊎ Q parts) (of_one : (parts : List (List Kind)) → P parts → R parts) (of_other : (parts : List (List Kind)) → Q parts → R parts)
    (before : (parts others : List (List Kind)) → P parts → Q others → IsNoLater parts others) where
  first_best : (split : Split) → IsLeastAmong sli P kinds split → ((parts : List (List Kind)) → IsCut sli kinds parts → Q parts → split.words ≤ words_together sli parts) → IsLeastAmong sli R kinds split
  first_best split is more = record {
    cut = is.cut;
    sought = of_one _ is.sought;
    words = is.words;
    least = λ parts cut sought. elim (either parts sought) [ inl one ↦ is.least parts cut one | inr other ↦ more parts cut other ];
    first = λ parts cut sought same. elim (either parts sought) [ inl one ↦ is.first parts cut one same | inr other ↦ before (parts_of split kinds) parts is.sought other ];
  }

  other_best : (split : Split) → IsLeastAmong sli Q kinds split → ((parts : List (List Kind)) → IsCut sli kinds parts → P parts → split.words < words_together sli parts) → IsLeastAmong sli R kinds split
  other_best split is more = record {
    cut = is.cut;
    sought = of_other _ is.sought;
    words = is.words;
    least = λ parts cut sought. elim (either parts sought) [ inl one ↦ omega (arith, more parts cut one) | inr other ↦ is.least parts cut other ];
    first = λ parts cut sought same. elim (either parts sought) [ inl one ↦ absurd (omega (arith, more parts cut one, same)) | inr other ↦ is.first parts cut other same ];
  }

  chosen : (a b : Split) (t : Bool) → (t ≡ true → b.words < a.words) → (t ≡ false → a.words ≤ b.words) → IsLeastAmong sli P kinds a → IsLeastAmong sli Q kinds b
      → IsBestAmong sli R kinds (cond t (Some b) (Some a))
  chosen a b true less more one other = other_best b other (λ parts cut sought. let below = less refl in omega (arith, below, one.least parts cut sought))
  chosen a b false less more one other = first_best a one (λ parts cut sought. let upto = more refl in omega (arith, upto, other.least parts cut sought))

  cheaper_best : (a b : Option Split) → IsBestAmong sli P kinds a → IsBestAmong sli Q kinds b → IsBestAmong sli R kinds (cheaper a b)
  cheaper_best None None one other = λ parts cut sought. elim (either parts sought) [ inl p ↦ one parts cut p | inr q ↦ other parts cut q ]
  cheaper_best None (Some b) one other = other_best b other (λ parts cut sought. absurd (one parts cut sought))
  cheaper_best (Some a) None one other = first_best a one (λ parts cut sought. absurd (other parts cut sought))
  cheaper_best (Some a) (Some b) one other = chosen a b (nat_lt b.words a.words) (λ is. grind (arith, nat_tests)) (λ is. grind (arith, nat_tests)) one other

-- ---- one kind more for the first heap

either_first : (heaps n : ℕ) (parts : List (List Kind)) → HasFirst heaps (n + 1) parts → HasFirst heaps n parts ⊎ HasJust heaps (n + 1) parts
either_first heaps n [] first = absurd first
either_first heaps n (part ∷ parts) first = elim (cases_eq (length part) (n + 1)) [ inl is ↦ inr (is, first.1) | inr ne ↦ inl (omega (arith, ne, first.0), first.1) ]

fewer_first : (heaps n : ℕ) (parts : List (List Kind)) → HasFirst heaps n parts → HasFirst heaps (n + 1) parts
fewer_first heaps n [] first = first
fewer_first heaps n (part ∷ parts) first = (omega (arith, first.0), first.1)

just_first : (heaps n : ℕ) (parts : List (List Kind)) → HasJust heaps n parts → HasFirst heaps n parts
just_first heaps n [] just = just
just_first heaps n (part ∷ parts) just = (omega (arith, just.0), just.1)

fewer_before : (heaps n : ℕ) (parts others : List (List Kind)) → HasFirst heaps n parts → HasJust heaps (n + 1) others → IsNoLater parts others
fewer_before heaps n [] others first just = absurd first
fewer_before heaps n (part ∷ parts) [] first just = absurd just
fewer_before heaps n (part ∷ parts) (other ∷ others) first just = inl (omega (arith, first.0, just.0))

pub longer_first : (sli heaps n : ℕ) (kinds : List Kind) (best rest : Option Split) (words : Option ℕ) → n < length kinds → AreWordsOf sli (take (n + 1) kinds) words
    → IsBestAmong sli (HasFirst heaps n) kinds best → IsBest sli heaps (drop (n + 1) kinds) rest → AreSmall 7 rest
    → IsBestAmong sli (HasFirst heaps (n + 1)) kinds (cheaper best (with_first (n + 1) words rest))
longer_first sli heaps n kinds best rest words inside are is behind small =
    cheaper_best sli (HasFirst heaps n) (HasJust heaps (n + 1)) (HasFirst heaps (n + 1)) kinds (either_first heaps n) (fewer_first heaps n) (just_first heaps (n + 1)) (fewer_before heaps n)
    best (with_first (n + 1) words rest) is (with_first_best sli heaps (n + 1) kinds (omega arith) (omega arith) words rest are behind small)

of_first : (heaps n : ℕ) (parts : List (List Kind)) → HasFirst heaps n parts → HasAtMost (heaps + 1) parts
of_first heaps n [] first = absurd first
of_first heaps n (part ∷ parts) first = omega (arith, first.1)

-- ---- of no kinds, and into no heap

no_parts : (sli heaps : ℕ) (parts : List (List Kind)) → IsCut sli [] parts → HasAtMost (heaps + 1) parts → HasAtMost heaps parts
no_parts sli heaps [] cut few = omega arith
no_parts sli heaps (part ∷ parts) cut few = absurd (omega (arith, ap length cut.0, length-append part (joined parts), cut.1.0.0))

more_parts : (heaps : ℕ) (parts : List (List Kind)) → HasAtMost heaps parts → HasAtMost (heaps + 1) parts
more_parts heaps parts few = omega (arith, few)

pub of_no_kinds : (sli heaps : ℕ) (best : Option Split) → IsBest sli heaps [] best → IsBest sli (heaps + 1) [] best
of_no_kinds sli heaps best is = same_best sli (HasAtMost heaps) (HasAtMost (heaps + 1)) [] best (no_parts sli heaps) (more_parts heaps) is

pub into_none : (sli : ℕ) (kinds : List Kind) → 0 < length kinds → IsBest sli 0 kinds None
into_none sli kinds some [] cut few = omega (arith, some, ap length cut.0)
into_none sli kinds some (part ∷ parts) cut few = omega (arith, few)

-- ---- how large splits are

pub small_first : (heaps n : ℕ) (words : Option ℕ) (rest : Option Split) → heaps ≤ 7 → ((k : ℕ) → words ≡ Some k → k ≤ 2 ^ 24) → AreSmall heaps rest → AreSmall (heaps + 1) (with_first n words rest)
small_first heaps n None rest few upto small = tt
small_first heaps n (Some words) None few upto small = tt
small_first heaps n (Some words) (Some rest) few upto small = record {
  few = omega (arith, small.few);
  words = omega (arith, small.words, upto words refl);
  room = omega (arith, length-set rest.lens rest.heaps n, small.room);
}

small_chosen : (heaps : ℕ) (a b : Split) (t : Bool) → IsSmall heaps a → IsSmall heaps b → AreSmall heaps (cond t (Some b) (Some a))
small_chosen heaps a b true one other = other
small_chosen heaps a b false one other = one

pub small_cheaper : (heaps : ℕ) (a b : Option Split) → AreSmall heaps a → AreSmall heaps b → AreSmall heaps (cheaper a b)
small_cheaper heaps None b one other = other
small_cheaper heaps (Some a) None one other = one
small_cheaper heaps (Some a) (Some b) one other = small_chosen heaps a b (nat_lt b.words a.words) one other

pub small_more : (heaps more : ℕ) (best : Option Split) → heaps ≤ more → AreSmall heaps best → AreSmall more best
small_more heaps more None upto small = tt
small_more heaps more (Some split) upto small = record { few = omega (arith, small.few, upto); words = small.words; room = small.room }

-- ---- the row of the best

pub rest_best : (sli heaps at : ℕ) (kinds : List Kind) (row : List (Option Split)) → length row ≡ length kinds + 1 → at < length kinds
    → ((k : ℕ) → at ≤ k → k < length row → IsBest sli heaps (drop k kinds) (get_or row k None) × AreSmall heaps (get_or row k None))
    → AreBest sli heaps (drop 1 (take (length kinds - at) (drop at kinds))) (drop (at + 1) row)
rest_best sli heaps at kinds row long inside before =
    let all : take (length kinds - at) (drop at kinds) ≡ drop at kinds = take_all (length kinds - at) (drop at kinds) (omega (arith, length-drop at kinds)) in
    subst (λ (ks : List Kind). AreBest sli heaps (drop 1 ks) (drop (at + 1) row)) (sym all)
    (λ k below.
    let place : at + (1 + k) ≡ at + 1 + k = omega arith in
    let left : drop k (drop 1 (drop at kinds)) ≡ drop (at + 1 + k) kinds = drop-drop k 1 (drop at kinds) ∙ (drop-drop (1 + k) at kinds ∙ ap (λ (n : ℕ). drop n kinds) place) in
    rw (left, get_or-drop (at + 1) row k None) (before (at + 1 + k) (omega arith) (omega (arith, length-drop (at + 1) row, below))))

pub row_done : (sli heaps at : ℕ) (kinds : List Kind) (row : List (Option Split)) → length row ≡ length kinds + 1 → length kinds ≤ at
    → ((k : ℕ) → k < at → IsBest sli (heaps + 1) (drop k kinds) (get_or row k None) × AreSmall (heaps + 1) (get_or row k None))
    → ((k : ℕ) → at ≤ k → k < length row → IsBest sli heaps (drop k kinds) (get_or row k None) × AreSmall heaps (get_or row k None))
    → AreBest sli (heaps + 1) kinds row
row_done sli heaps at kinds row long end more before k inside = elim (cases_lt k at) [
  | inl below ↦ more k below
  | inr from ↦
      let was = before k from inside in
      let none : drop k kinds ≡ [] = drop_of_length-le kinds (omega (arith, end, from)) in (
        subst (λ (ks : List Kind). IsBest sli (heaps + 1) ks (get_or row k None)) (sym none)
            (of_no_kinds sli heaps (get_or row k None) (subst (λ (ks : List Kind). IsBest sli heaps ks (get_or row k None)) none was.0)),
        small_more heaps (heaps + 1) (get_or row k None) (omega arith) was.1,
      )
]

none_best : (sli : ℕ) (kinds : List Kind) (best : Option Split) → 0 < length kinds → best ≡ None → IsBest sli 0 kinds best × AreSmall 0 best
none_best sli kinds best some is = rw is (into_none sli kinds some, tt)

none_later : (ways : List (List Kind)) → HasAtMost 0 ways → IsNoLater [] ways
none_later [] few = tt
none_later (part ∷ parts) few = absurd (omega (arith, few))

nothing_best : (sli : ℕ) (split : Split) → split.heaps ≡ 0 → split.words ≡ 0 → length split.lens ≡ 8 → IsLeastAmong sli (HasAtMost 0) [] split × IsSmall 0 split
nothing_best sli split none wordless room =
    let parts : parts_of split [] ≡ [] = ap (λ (n : ℕ). cut_by n split.lens []) none in (
      record {
        cut = subst (IsCut sli []) (sym parts) (refl, tt);
        sought = omega (arith, ap length parts);
        words = wordless ∙ sym (ap (words_together sli) parts);
        least = λ ways cut sought. omega (arith, wordless);
        first = λ ways cut sought same. subst (λ (own : List (List Kind)). IsNoLater own ways) (sym parts) (none_later ways sought);
      },
      record { few = omega (arith, none); words = omega (arith, wordless); room = room },
    )

pub row_begun : (sli : ℕ) (kinds : List Kind) (row : List (Option Split)) (split : Split) → split.heaps ≡ 0 → split.words ≡ 0 → length split.lens ≡ 8 → length row ≡ length kinds + 1
    → ((k : ℕ) → k < length kinds → get_or row k None ≡ None) → get_or row (length kinds) None ≡ Some split → AreBest sli 0 kinds row
row_begun sli kinds row split none wordless room long nothing last k inside = elim (cases_lt k (length kinds)) [
  | inl below ↦ none_best sli (drop k kinds) (get_or row k None) (omega (arith, length-drop k kinds)) (nothing k below)
  | inr from ↦
      let place : k ≡ length kinds = omega (arith, from, inside) in
      let empty : drop k kinds ≡ [] = drop_of_length-le kinds (omega (arith, from)) in
      let cell : get_or row k None ≡ Some split = ap (λ (n : ℕ). get_or row n None) place ∙ last in
      rw (empty, cell) (nothing_best sli split none wordless room)
]

-- one kind more for the first heap keeps what is the best small
pub both_longer : (sli heaps n : ℕ) (level : IsLevel sli) (kinds : List Kind) (rests : List (Option Split)) (best : Option Split) (words : Option ℕ) → heaps ≤ 7 → n < length kinds → n < length rests
    → AreWordsOf sli (take (n + 1) kinds) words → AreBest sli heaps (drop 1 kinds) rests → IsBestAmong sli (HasFirst heaps n) kinds best → AreSmall (heaps + 1) best
    → let now = cheaper best (with_first (n + 1) words (get_or rests n None)) in IsBestAmong sli (HasFirst heaps (n + 1)) kinds now × AreSmall (heaps + 1) now
both_longer sli heaps n level kinds rests best words few inside there are each is small =
    let rest = get_or rests n None in
    let place : 1 + n ≡ n + 1 = omega arith in
    let left : drop n (drop 1 kinds) ≡ drop (n + 1) kinds = drop-drop n 1 kinds ∙ ap (λ (k : ℕ). drop k kinds) place in
    let behind = subst (λ (ks : List Kind). IsBest sli heaps ks rest) left (each n there).0 in
    let upto = (each n there).1 in (
      longer_first sli heaps n kinds best rest words inside are is behind (small_more heaps 7 rest few upto),
      small_cheaper (heaps + 1) best (with_first (n + 1) words rest) small (small_first heaps (n + 1) words rest few (words_most sli level (take (n + 1) kinds) words are) upto),
    )

-- ---- one way of cutting alone

same_cut : (ways others : List (List Kind)) → joined ways ≡ joined others → IsNoLater ways others → IsNoLater others ways → ways ≡ others
same_cut [] [] joins upto from = refl
same_cut [] (other ∷ others) joins upto from = absurd upto
same_cut (part ∷ parts) [] joins upto from = absurd upto
same_cut (part ∷ parts) (other ∷ others) joins upto from = elim upto [
  | inl less ↦ absurd (elim from [ inl more ↦ omega (arith, less, more) | inr as_long ↦ omega (arith, less, as_long.0) ])
  | inr as_long ↦ elim from [
    | inl more ↦ absurd (omega (arith, more, as_long.0))
    | inr back ↦
        let begin = begins (length other) (other ++ joined others) part (joined parts) joins as_long.0 in
        ap₂ (λ (p : List Kind) (ps : List (List Kind)). p ∷ ps) (begin.first ∙ take_at other (joined others) (length other) refl)
        (same_cut parts others (begin.behind ∙ drop_at other (joined others) (length other) refl) as_long.1 back.1)
  ]
]

-- there are as many parts as heaps
pub many_parts : (heaps : ℕ) (lens : List ℕ) (kinds : List Kind) → length (cut_by heaps lens kinds) ≡ heaps
many_parts zero lens kinds = refl
many_parts (suc heaps) lens kinds = omega (arith, many_parts heaps lens (drop (get_or lens heaps 0) kinds))

pub one_way : (sli heaps : ℕ) (kinds : List Kind) (split other : Split) → IsLeast sli heaps kinds split → IsLeast sli heaps kinds other → CutAlike kinds split other
one_way sli heaps kinds split other is least =
    let upto : split.words ≤ other.words = omega (arith, is.least (parts_of other kinds) least.cut least.sought, least.words) in
    let from : other.words ≤ split.words = omega (arith, least.least (parts_of split kinds) is.cut is.sought, is.words) in
    let parts = same_cut (parts_of split kinds) (parts_of other kinds) (is.cut.0 ∙ sym least.cut.0)
    (is.first (parts_of other kinds) least.cut least.sought (omega (arith, upto, from, least.words)))
    (least.first (parts_of split kinds) is.cut is.sought (omega (arith, upto, from, is.words))) in
    record {
      parts = parts;
      heaps = omega (arith, ap (λ (ps : List (List Kind)). length ps) parts, many_parts split.heaps split.lens kinds, many_parts other.heaps other.lens kinds);
      words = omega (arith, upto, from);
    }
