-- Blocks that fit a table of kinds: how many they are, and how many words they take.
use Rattle.tlsf_pool.proofs.Common.{◌≡◌, ℕ, ◌+◌, ◌-◌, ◌*◌, ◌<◌, ◌≤◌, ◌⊎◌, suc, Bool, true, false, cond, List, [], ◌∷◌, length, map, filter, fold, max, nat_le, nat_lt, refl, sym, ap, ap₂, ◌∙◌, subst, inl, inr, arith, le_trans, AllByRecursion, list_all, mul-le-mul_right, cases_lt, lt-ltb, le-ltb, le-leb, lt-leb, nat_tests, want, sure, AreOfKinds, count_in, table_words, used, EmptyKindsAreNothing, Kind}
use Rattle.tlsf_pool.proofs.lemmas.laws.Inventories.{sum_of, sum_one}
use Rattle.tlsf_pool.proofs.lemmas.laws.Held.{one}

-- the words that a block takes at most
abbrev pub spend : ℕ → ℕ
spend n = want n + 3

abbrev pub short : ℕ → List ℕ → List ℕ
short k lens = filter (λ n. nat_le n k) lens

abbrev pub long : ℕ → List ℕ → List ℕ
long k lens = filter (λ n. nat_lt k n) lens

abbrev pub Add : Bool → ℕ → List ℕ → List ℕ
Add c n lens = cond c (n ∷ lens) lens

-- a length is short or long
pub parted : (k n : ℕ) → ((n ≤ k) × (nat_le n k ≡ true) × (nat_lt k n ≡ false)) ⊎ ((k < n) × (nat_le n k ≡ false) × (nat_lt k n ≡ true))
parted k n = elim (cases_lt k n) [ inl l ↦ inr (l, lt-leb n k l, lt-ltb k n l) | inr g ↦ inl (g, le-leb n k g, le-ltb k n g) ]

into : (a b c d : ℕ) → b ≡ c + d → a + b ≡ a + c + d
into a b c d e = omega (arith, e)

beside : (a b c d : ℕ) → b ≡ c + d → a + b ≡ c + (a + d)
beside a b c d e = omega (arith, e)

module _ (f : ℕ → ℕ) where
  pub split : (k : ℕ) (lens : List ℕ) → sum_of f lens ≡ sum_of f (short k lens) + sum_of f (long k lens)
  split k [] = refl
  split k (n ∷ lens) = elim (parted k n) [
    | inl s ↦
        into (f n) (sum_of f lens) (sum_of f (short k lens)) (sum_of f (long k lens)) (split k lens)
        ∙ ap (λ (c : Bool). sum_of f (Add c n (short k lens)) + sum_of f (long k lens)) (sym s.1)
        ∙ ap (λ (c : Bool). sum_of f (short k (n ∷ lens)) + sum_of f (Add c n (long k lens))) (sym s.2)
    | inr s ↦
        beside (f n) (sum_of f lens) (sum_of f (short k lens)) (sum_of f (long k lens)) (split k lens)
        ∙ ap (λ (c : Bool). sum_of f (Add c n (short k lens)) + (f n + sum_of f (long k lens))) (sym s.1)
        ∙ ap (λ (c : Bool). sum_of f (short k (n ∷ lens)) + sum_of f (Add c n (long k lens))) (sym s.2)
  ]

pub spend_rises : (n k : ℕ) → n ≤ k → spend n ≤ spend k
spend_rises n k h = omega (arith, h)

one_more : (a s c w : ℕ) → a ≤ w → s ≤ c * w → a + s ≤ suc c * w
one_more a s c w h e = omega (arith, h, e)

-- short blocks take no more than this many of the kind's own
short_spent : (k : ℕ) (lens : List ℕ) → sum_of spend (short k lens) ≤ length (short k lens) * spend k
short_spent k [] = omega arith
short_spent k (n ∷ lens) = elim (parted k n) [
  | inl s ↦
      subst (λ (c : Bool). sum_of spend (Add c n (short k lens)) ≤ length (Add c n (short k lens)) * spend k) (sym s.1)
      (one_more (spend n) (sum_of spend (short k lens)) (length (short k lens)) (spend k) (spend_rises n k s.0) (short_spent k lens))
  | inr s ↦ subst (λ (c : Bool). sum_of spend (Add c n (short k lens)) ≤ length (Add c n (short k lens)) * spend k) (sym s.1) (short_spent k lens)
]

within : (a b c d e : ℕ) → a ≡ b + c → b ≤ d → c ≤ e → a ≤ d + e
within a b c d e f g h = omega (arith, f, g, h)

-- blocks that fit the table take at most its words
pub spent : (kinds : List Kind) (lens : List ℕ) → AreOfKinds kinds lens → sum_of spend lens ≤ table_words kinds
spent [] lens none = subst (λ (l : List ℕ). sum_of spend l ≤ 0) (sym none) (omega arith)
spent (kind ∷ kinds) lens fit =
    within (sum_of spend lens) (sum_of spend (short kind.len lens)) (sum_of spend (long kind.len lens)) (kind.most * spend kind.len) (table_words kinds) (split spend kind.len lens)
    (le_trans (short_spent kind.len lens) (mul-le-mul_right (spend kind.len) fit.0)) (spent kinds (long kind.len lens) fit.1)

-- and are at most equally many
pub counted_in : (kinds : List Kind) (lens : List ℕ) → AreOfKinds kinds lens → length lens ≤ count_in kinds
counted_in [] lens none = subst (λ (l : List ℕ). length l ≤ 0) (sym none) (omega arith)
counted_in (kind ∷ kinds) lens fit =
    let both : length lens ≡ length (short kind.len lens) + length (long kind.len lens) =
    sym (sum_one lens) ∙ split one kind.len lens ∙ ap (λ (n : ℕ). n + sum_of one (long kind.len lens)) (sum_one (short kind.len lens))
    ∙ ap (λ (n : ℕ). length (short kind.len lens) + n) (sum_one (long kind.len lens)) in
    within (length lens) (length (short kind.len lens)) (length (long kind.len lens)) kind.most (count_in kinds) both fit.0 (counted_in kinds (long kind.len lens) fit.1)

-- ---- one block more

abbrev pub IsOf : Kind → List Kind → Type 0
IsOf kind [] = ⊥
IsOf kind (k ∷ kinds) = (k ≡ kind) ⊎ IsOf kind kinds

-- a kind of which a block may be held is used, and so it is in a table that has one kind more
of_first : (kind : Kind) (kinds : List Kind) → 0 < kind.most → IsOf kind (used (kind ∷ kinds))
of_first kind kinds some = subst (λ (c : Bool). IsOf kind (cond c (kind ∷ used kinds) (used kinds))) (sym (lt-ltb 0 kind.most some)) (inl refl)

of_rest : (kind first : Kind) (kinds : List Kind) → IsOf kind (used kinds) → IsOf kind (used (first ∷ kinds))
of_rest kind first kinds of = at (nat_lt 0 first.most)
  where
    at : (c : Bool) → IsOf kind (cond c (first ∷ used kinds) (used kinds))
    at true = inr of
    at false = of

-- a length has a kind of the table, and the other blocks leave the words of one of it
pub record HasKind (kinds : List Kind) (n : ℕ) (lens : List ℕ) : Type 0 where
  pub kind : Kind
  pub of : IsOf kind (used kinds)
  pub short : n ≤ kind.len
  pub left : sum_of spend lens + spend kind.len ≤ table_words kinds

room_for : (t s l c w m rest : ℕ) → t ≡ s + l → s ≤ c * w → suc c * w ≤ m → l ≤ rest → t + w ≤ m + rest
room_for t s l c w m rest e f g h = omega (arith, e, f, g, h)

behind : (t s l w m rest : ℕ) → t ≡ s + l → s ≤ m → l + w ≤ rest → t + w ≤ m + rest
behind t s l w m rest e f g = omega (arith, e, f, g)

pub has_kind : (kinds : List Kind) (n : ℕ) (lens : List ℕ) → AreOfKinds kinds (n ∷ lens) → HasKind kinds n lens
has_kind [] n lens fit = absurd cc
has_kind (kind ∷ kinds) n lens fit = elim (parted kind.len n) [
  | inl s ↦
      let most : suc (length (short kind.len lens)) ≤ kind.most = subst (λ (c : Bool). length (Add c n (short kind.len lens)) ≤ kind.most) s.1 fit.0 in
      let rest : AreOfKinds kinds (long kind.len lens) = subst (λ (c : Bool). AreOfKinds kinds (Add c n (long kind.len lens))) s.2 fit.1 in record {
        kind = kind;
        of = of_first kind kinds (omega (arith, most));
        short = s.0;
        left = room_for (sum_of spend lens) (sum_of spend (short kind.len lens)) (sum_of spend (long kind.len lens)) (length (short kind.len lens)) (spend kind.len) (kind.most * spend kind.len) (table_words kinds)
            (split spend kind.len lens) (short_spent kind.len lens) (mul-le-mul_right (spend kind.len) most) (spent kinds (long kind.len lens) rest);
      }
  | inr s ↦
      let most : length (short kind.len lens) ≤ kind.most = subst (λ (c : Bool). length (Add c n (short kind.len lens)) ≤ kind.most) s.1 fit.0 in
      let has : HasKind kinds n (long kind.len lens) = has_kind kinds n (long kind.len lens) (subst (λ (c : Bool). AreOfKinds kinds (Add c n (long kind.len lens))) s.2 fit.1) in record {
        kind = has.kind;
        of = of_rest has.kind kind kinds has.of;
        short = has.short;
        left = behind (sum_of spend lens) (sum_of spend (short kind.len lens)) (sum_of spend (long kind.len lens)) (spend has.kind.len) (kind.most * spend kind.len) (table_words kinds)
            (split spend kind.len lens) (le_trans (short_spent kind.len lens) (mul-le-mul_right (spend kind.len) most)) has.left;
      }
]

-- ---- the greatest of the table

pub best_least : (best : ℕ) (xs : List ℕ) → best ≤ fold max best xs
best_least best [] = omega arith
best_least best (x ∷ xs) = let e = best_least (max best x) xs in omega arith

-- a number of one kind is no greater than the greatest of all
pub most_of : (f : Kind → ℕ) (kinds : List Kind) (best : ℕ) (kind : Kind) → IsOf kind kinds → f kind ≤ fold max best (map f kinds)
most_of f [] best kind of = absurd of
most_of f (k ∷ kinds) best kind of = elim of [
  | inl same ↦
      le_trans (subst (λ (x : Kind). f x ≤ max best (f k)) same (top best (f k))) (best_least (max best (f k)) (map f kinds))
  | inr rest ↦ most_of f kinds (max best (f k)) kind rest
]
  where
    top : (a b : ℕ) → b ≤ max a b
    top a b = omega arith

-- what holds of each kind holds of one of them
pub of_all : (P : Kind → Type 0) (kinds : List Kind) (kind : Kind) → IsOf kind kinds → AllByRecursion P kinds → P kind
of_all P [] kind of all = absurd of
of_all P (k ∷ kinds) kind of all = elim of [ inl same ↦ subst P same all.0 | inr rest ↦ of_all P kinds kind rest all.1 ]

-- and of each that is used
pub all_used : (P : Kind → Type 0) (kinds : List Kind) → AllByRecursion P kinds → AllByRecursion P (used kinds)
all_used P [] all = tt
all_used P (k ∷ kinds) all = at (nat_lt 0 k.most) (all_used P kinds all.1)
  where
    at : (c : Bool) → AllByRecursion P (used kinds) → AllByRecursion P (cond c (k ∷ used kinds) (used kinds))
    at true rest = (all.0, rest)
    at false rest = rest

-- ---- the kinds that are used

twice : (kinds : List Kind) → used (used kinds) ≡ used kinds
twice [] = refl
twice (k ∷ kinds) = at (nat_lt 0 k.most) refl (twice kinds)
  where
    at : (c : Bool) → nat_lt 0 k.most ≡ c → used (used kinds) ≡ used kinds → used (cond c (k ∷ used kinds) (used kinds)) ≡ cond c (k ∷ used kinds) (used kinds)
    at true is rest = ap (λ (c : Bool). cond c (k ∷ used (used kinds)) (used (used kinds))) is ∙ ap (λ (ks : List Kind). k ∷ ks) rest
    at false is rest = rest

sum_used : (f : List Kind → ℕ) (g : Kind → ℕ) → ((k : Kind) (kinds : List Kind) → f (k ∷ kinds) ≡ k.most * g k + f kinds) → f [] ≡ 0 → (kinds : List Kind) → f (used kinds) ≡ f kinds
sum_used f g step none [] = refl
sum_used f g step none (k ∷ kinds) = at (nat_lt 0 k.most) refl (sum_used f g step none kinds)
  where
    nothing : (m w rest : ℕ) → m ≡ 0 → rest ≡ m * w + rest
    nothing m w rest is = rw is (omega arith)

    at : (c : Bool) → nat_lt 0 k.most ≡ c → f (used kinds) ≡ f kinds → f (cond c (k ∷ used kinds) (used kinds)) ≡ f (k ∷ kinds)
    at true is rest = step k (used kinds) ∙ (ap (λ (n : ℕ). k.most * g k + n) rest ∙ sym (step k kinds))
    at false is rest = rest ∙ (nothing k.most (g k) (f kinds) (grind (arith, nat_tests)) ∙ sym (step k kinds))

pub table_used : (kinds : List Kind) → table_words (used kinds) ≡ table_words kinds
table_used = sum_used table_words (λ k. want k.len + 3) (λ k kinds. refl) refl

pub count_used : (kinds : List Kind) → count_in (used kinds) ≡ count_in kinds
count_used = sum_used count_in (λ k. 1) (λ k kinds. omega arith) refl

-- a kind of which no block is held asks for no words
pub empty_are_nothing : (sli : ℕ) → EmptyKindsAreNothing sli
empty_are_nothing sli kinds =
    sym (ap (λ (ks : List Kind). asks (table_words (used kinds)) (count_in (used kinds)) ks) (twice kinds)
    ∙ ap₂ (λ (t c : ℕ). asks t c (used kinds)) (table_used kinds) (count_used kinds))
  where
    asks : ℕ → ℕ → List Kind → ℕ
    asks table count ks = cond (list_all (λ kind. nat_le kind.len 8) ks) (max 4 (count * 4)) (fold max 4 (map (λ kind. table - (want kind.len + 3) + count * (sure sli (want kind.len) - 1) + 1) ks))
