-- The heaps of a split, one after the other.
use Rattle.tlsf_command.proofs.Common.{◌≡◌, ◌≤◌, ◌<◌, ◌+◌, ◌-◌, ◌*◌, ◌^◌, ℕ, zero, suc, Bool, cond, fold, map, max, List, [], ◌∷◌, ◌++◌, length, get_or, take, drop, min, refl, sym, ap, ap₂, ◌∙◌, subst, inl, inr, arith, append_assoc, append-nil, length-take, take-append-drop, drop_of_length-le, take_all, AllByRecursion, cases_lt, Kind, cut_by, joined, parts_of, words_together, IsCut, IsPart, Split, asked_bytes, heap_line, heap_lines, IsCheapest, IsServable, IsLevel, most_words, want, lt-ltb}
use Rattle.tlsf_class.proofs.TwoLevels.{most_words_any}
use Rattle.tlsf_command.proofs.SizeTables.{max_least, moved, products, same}
use Rattle.tlsf_pool.specs.laws.Kinds.{count_in, used, HasClass}
use Rattle.tlsf_pool.specs.laws.OneLarge as pool
use Rattle.tlsf_pool.specs.laws.Room.{sure}
use Rattle.tlsf_pool.proofs.lemmas.laws.FreeRoom.{sure_enough}
use Rattle.tlsf_pool.proofs.lemmas.laws.Tables.{all_used}
use Rattle.tlsf_pool.proofs.lemmas.sizes.Sizes.{longest_class}

-- ---- what they ask for

asked_append : (part rest : List Kind) → asked_bytes (part ++ rest) ≡ asked_bytes part + asked_bytes rest
asked_append [] rest = omega arith
asked_append (k ∷ part) rest = omega (arith, asked_append part rest)

front_servable : (sli : ℕ) (part rest : List Kind) → AllByRecursion (IsServable sli) (part ++ rest) → AllByRecursion (IsServable sli) part
front_servable sli [] rest all = tt
front_servable sli (k ∷ part) rest all = (all.0, front_servable sli part rest all.1)

behind_servable : (sli : ℕ) (part rest : List Kind) → AllByRecursion (IsServable sli) (part ++ rest) → AllByRecursion (IsServable sli) rest
behind_servable sli [] rest all = all
behind_servable sli (k ∷ part) rest all = behind_servable sli part rest all.1

-- a table asks for no more bytes than the same number of blocks of the longest
asked_most : (longest : ℕ) (kinds : List Kind) → AllByRecursion (λ kind. kind.len ≤ longest) kinds → asked_bytes kinds ≤ count_in kinds * longest
asked_most longest [] all = omega arith
asked_most longest (k ∷ kinds) all = let own = products k.most k.most k.len longest (same k.most) all.0 in omega (arith, own, asked_most longest kinds all.1)

none_longer : (best longest : ℕ) (kinds : List Kind) → fold max best (map (λ kind. kind.len) kinds) ≤ longest → AllByRecursion (λ kind. kind.len ≤ longest) kinds
none_longer best longest [] few = tt
none_longer best longest (k ∷ kinds) few = (omega (arith, max_least (max best k.len) (map (λ kind. kind.len) kinds), few), none_longer (max best k.len) longest kinds few)

all_held : (sli : ℕ) (kinds : List Kind) → AllByRecursion (IsServable sli) kinds → used kinds ≡ kinds
all_held sli [] all = refl
all_held sli (k ∷ kinds) all = ap (λ (c : Bool). cond c (k ∷ used kinds) (used kinds)) (lt-ltb 0 k.most all.0.0) ∙ ap (λ (ks : List Kind). k ∷ ks) (all_held sli kinds all.1)

-- the table of a heap asks for few bytes
pub few_bytes : (sli : ℕ) → IsLevel sli → (part : List Kind) → AllByRecursion (IsServable sli) part → IsPart sli part → asked_bytes part ≤ 2 ^ 32
few_bytes sli level part all is =
    let longest : ℕ = pool.longest_of (used part) in
    let asked = asked_most longest part (subst (AllByRecursion (λ kind. kind.len ≤ longest)) (all_held sli part all) (none_longer 0 longest (used part) (same longest))) in
    let class : want longest ≤ most_words sli = longest_class sli level (used part) (all_used (HasClass sli) part is.1.0) in
    let short : longest ≤ 8 * sure sli (want longest) = omega (arith, sure_enough sli level (want longest) class) in
    let more = products (count_in part) (count_in part) longest (8 * sure sli (want longest)) (same (count_in part)) short in
    omega (arith, asked, more, moved (count_in part) (sure sli (want longest)), is.1.1, most_words_any sli)

-- those of all heaps ask for few bytes
few_together : (sli : ℕ) → IsLevel sli → (parts : List (List Kind)) → AllByRecursion (IsServable sli) (joined parts) → AllByRecursion (IsPart sli) parts
    → asked_bytes (joined parts) ≤ 2 ^ 32 * length parts
few_together sli level [] all are = omega arith
few_together sli level (part ∷ parts) all are =
    let first = few_bytes sli level part (front_servable sli part (joined parts) all) are.0 in
    omega (arith, first, asked_append part (joined parts), few_together sli level parts (behind_servable sli part (joined parts) all) are.1)

pub split_bytes : (sli : ℕ) → IsLevel sli → (kinds : List Kind) (split : Split) → IsCheapest sli kinds split → asked_bytes kinds ≤ 2 ^ 35
split_bytes sli level kinds split cheapest =
    let cut = cheapest.least.cut in
    let together = few_together sli level (parts_of split kinds) (subst (AllByRecursion (IsServable sli)) (sym cut.0) cheapest.servable) cut.1 in
    omega (arith, together, ap asked_bytes cut.0, cheapest.least.sought)

-- and have few words
words_few : (sli : ℕ) (parts : List (List Kind)) → AllByRecursion (IsPart sli) parts → words_together sli parts ≤ 2 ^ 24 * length parts
words_few sli [] are = omega arith
words_few sli (part ∷ parts) are = omega (arith, are.0.1.1, most_words_any sli, words_few sli parts are.1)

pub split_words : (sli : ℕ) (kinds : List Kind) (split : Split) → IsCheapest sli kinds split → split.words ≤ 2 ^ 27
split_words sli kinds split cheapest =
    omega (arith, words_few sli (parts_of split kinds) cheapest.least.cut.1, cheapest.least.words, cheapest.least.sought)

-- ---- how many heaps

cut_count : (heaps : ℕ) (lens : List ℕ) (kinds : List Kind) → length (cut_by heaps lens kinds) ≡ heaps
cut_count zero lens kinds = refl
cut_count (suc heaps) lens kinds = ap (λ (n : ℕ). suc n) (cut_count heaps lens (drop (get_or lens heaps 0) kinds))

pub split_count : (split : Split) (kinds : List Kind) → length (parts_of split kinds) ≡ split.heaps
split_count split kinds = cut_count split.heaps split.lens kinds

pub split_heaps : (sli : ℕ) (kinds : List Kind) (split : Split) → IsCheapest sli kinds split → split.heaps ≤ 8
split_heaps sli kinds split cheapest = omega (arith, cheapest.least.sought, split_count split kinds)

-- ---- the next of them

-- a heap's part has no more kinds than are left
cut_next : (heaps : ℕ) (lens : List ℕ) (kinds : List Kind) → let n = min (get_or lens heaps 0) (length kinds) in
    cut_by (suc heaps) lens kinds ≡ take n kinds ∷ cut_by heaps lens (drop n kinds)
cut_next heaps lens kinds = elim (cases_lt (length kinds) (get_or lens heaps 0)) [
  | inl more ↦
      let n = get_or lens heaps 0 in
      let upto : min n (length kinds) ≡ length kinds = omega (arith, more) in
      let front : take n kinds ≡ take (length kinds) kinds = take_all n kinds (omega (arith, more)) ∙ sym (take_all (length kinds) kinds (omega arith)) in
      let behind : drop n kinds ≡ drop (length kinds) kinds = drop_of_length-le kinds (omega (arith, more)) ∙ sym (drop_of_length-le kinds (omega arith)) in
      rw upto (ap₂ (λ (part rest : List Kind). part ∷ cut_by heaps lens rest) front behind)
  | inr all ↦ let upto : min (get_or lens heaps 0) (length kinds) ≡ get_or lens heaps 0 = omega (arith, all) in rw upto refl
]

-- what is known of the heaps that are left, from a number on, and of their kinds
pub record AreLeft (sli : ℕ) (split : Split) (heap : ℕ) (left : List Kind) : Type 0 where
  pub cut : IsCut sli left (cut_by (split.heaps - heap) split.lens left)
  pub servable : AllByRecursion (IsServable sli) left

pub all_left : (sli : ℕ) (kinds : List Kind) (split : Split) → IsCheapest sli kinds split → AreLeft sli split 0 kinds
all_left sli kinds split cheapest =
    let all : split.heaps ≡ split.heaps - 0 = omega arith in
    record { cut = subst (λ (n : ℕ). IsCut sli kinds (cut_by n split.lens kinds)) all cheapest.least.cut; servable = cheapest.servable }

dropped : (part rest : List Kind) → drop (length part) (part ++ rest) ≡ rest
dropped [] rest = refl
dropped (kind ∷ part) rest = dropped part rest

module _ (sli : ℕ) (split : Split) (heap : ℕ) (left : List Kind) (n : ℕ) (are : AreLeft sli split heap left) (more : heap < split.heaps)
    (upto : n ≡ min (get_or split.lens (split.heaps - 1 - heap) 0) (length left)) where
  cut_is : cut_by (split.heaps - heap) split.lens left ≡ take n left ∷ cut_by (split.heaps - (heap + 1)) split.lens (drop n left)
  cut_is =
      let count : split.heaps - heap ≡ suc (split.heaps - 1 - heap) = omega (arith, more) in
      let fewer : split.heaps - 1 - heap ≡ split.heaps - (heap + 1) = omega arith in
      ap (λ (k : ℕ). cut_by k split.lens left) count ∙ (cut_next (split.heaps - 1 - heap) split.lens left
      ∙ ap₂ (λ (k m : ℕ). take m left ∷ cut_by k split.lens (drop m left)) fewer (sym upto))

  cut_of : IsCut sli left (take n left ∷ cut_by (split.heaps - (heap + 1)) split.lens (drop n left))
  cut_of = subst (IsCut sli left) cut_is are.cut

  -- the next heap has a part of the table
  next_is : IsPart sli (take n left)
  next_is = cut_of.1.0

  whole : take n left ++ drop n left ≡ left
  whole = take-append-drop n left

  next_servable : AllByRecursion (IsServable sli) (take n left)
  next_servable = front_servable sli (take n left) (drop n left) (subst (AllByRecursion (IsServable sli)) (sym whole) are.servable)

  -- the others have what is left after it
  next_left : AreLeft sli split (heap + 1) (drop n left)
  next_left =
      let rest = joined (cut_by (split.heaps - (heap + 1)) split.lens (drop n left)) in
      let count : length (take n left) ≡ n = omega (arith, length-take n left, upto) in
      let behind : rest ≡ drop n left = sym (ap₂ (λ (k : ℕ) (ks : List Kind). drop k ks) (sym count) (sym cut_of.0) ∙ dropped (take n left) rest) in
      record { cut = (behind, cut_of.1.1); servable = behind_servable sli (take n left) (drop n left) (subst (AllByRecursion (IsServable sli)) (sym whole) are.servable) }

  -- and its line stands before their lines
  next_lines : (before : ℕ) → heap_lines sli heap before (cut_by (split.heaps - heap) split.lens left)
      ≡ heap_line sli heap before (take n left) ++ heap_lines sli (heap + 1) (before + n) (cut_by (split.heaps - (heap + 1)) split.lens (drop n left))
  next_lines before =
      let count : length (take n left) ≡ n = omega (arith, length-take n left, upto) in
      ap (heap_lines sli heap before) cut_is
      ∙ ap (λ (k : ℕ). heap_line sli heap before (take n left) ++ heap_lines sli (heap + 1) (before + k) (cut_by (split.heaps - (heap + 1)) split.lens (drop n left))) count

  -- so the lines that are written grow by it
  pub next_text : (before : ℕ) (old new all : List ℕ) (part rest : List Kind) → part ≡ take n left → rest ≡ drop n left → new ≡ old ++ heap_line sli heap before part
      → old ++ heap_lines sli heap before (cut_by (split.heaps - heap) split.lens left) ≡ all
      → new ++ heap_lines sli (heap + 1) (before + n) (cut_by (split.heaps - (heap + 1)) split.lens rest) ≡ all
  next_text before old new all part rest front back line so_far =
      let behind = heap_lines sli (heap + 1) (before + n) (cut_by (split.heaps - (heap + 1)) split.lens (drop n left)) in
      ap₂ (λ (bytes : List ℕ) (ks : List Kind). bytes ++ heap_lines sli (heap + 1) (before + n) (cut_by (split.heaps - (heap + 1)) split.lens ks)) (line ∙ ap (λ (ks : List Kind). old ++ heap_line sli heap before ks) front) back
      ∙ (append_assoc old (heap_line sli heap before (take n left)) behind ∙ (ap (λ (text : List ℕ). old ++ text) (sym (next_lines before)) ∙ so_far))

  pub left_of : (rest : List Kind) → rest ≡ drop n left → AreLeft sli split (heap + 1) rest
  left_of rest back = subst (AreLeft sli split (heap + 1)) (sym back) next_left

  pub part_of : (part : List Kind) → part ≡ take n left → IsPart sli part
  part_of part front = subst (IsPart sli) (sym front) next_is

  pub servable_of : (part : List Kind) → part ≡ take n left → AllByRecursion (IsServable sli) part
  servable_of part front = subst (AllByRecursion (IsServable sli)) (sym front) next_servable

-- where no heap is left there are no lines more
no_lines : (sli : ℕ) (split : Split) (heap before : ℕ) (left : List Kind) → split.heaps ≤ heap → heap_lines sli heap before (cut_by (split.heaps - heap) split.lens left) ≡ []
no_lines sli split heap before left end = let none : split.heaps - heap ≡ 0 = omega (arith, end) in ap (λ (k : ℕ). heap_lines sli heap before (cut_by k split.lens left)) none

pub all_written : (sli : ℕ) (split : Split) (heap before : ℕ) (left : List Kind) (text all : List ℕ) → split.heaps ≤ heap
    → text ++ heap_lines sli heap before (cut_by (split.heaps - heap) split.lens left) ≡ all → text ≡ all
all_written sli split heap before left text all end is =
    sym (append-nil text) ∙ (ap (λ (more : List ℕ). text ++ more) (sym (no_lines sli split heap before left end)) ∙ is)
