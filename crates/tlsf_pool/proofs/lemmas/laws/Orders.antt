-- The order of the kinds of a table doesn't change its words.
use Rattle.tlsf_pool.proofs.Common.{◌≡◌, ℕ, ◌+◌, ◌-◌, ◌*◌, ◌&&◌, Bool, true, false, cond, List, [], ◌∷◌, ◌++◌, map, fold, max, nat_le, nat_lt, refl, ap, ◌∙◌, arith, list_all, want, sure, are_fours, count_in, table_words, used, words_with, OrderIsNothing, Kind}

pub swap_sum : (a b n : ℕ) → a + (b + n) ≡ b + (a + n)
swap_sum a b n = omega arith

swap_max : (n a b : ℕ) → max (max n a) b ≡ max (max n b) a
swap_max n a b = omega arith

swap_and : (a b c : Bool) → (a && (b && c)) ≡ (b && (a && c))
swap_and true true c = refl
swap_and true false c = refl
swap_and false true c = refl
swap_and false false c = refl

module _ (a b : Kind) (behind : List Kind) where
  abbrev One : List Kind → List Kind
  One before = before ++ a ∷ (b ∷ behind)

  abbrev Other : List Kind → List Kind
  Other before = before ++ b ∷ (a ∷ behind)

  same_count : (before : List Kind) → count_in (One before) ≡ count_in (Other before)
  same_count [] = swap_sum a.most b.most (count_in behind)
  same_count (k ∷ before) = ap (λ (n : ℕ). k.most + n) (same_count before)

  same_words : (before : List Kind) → table_words (One before) ≡ table_words (Other before)
  same_words [] = swap_sum (a.most * (want a.len + 3)) (b.most * (want b.len + 3)) (table_words behind)
  same_words (k ∷ before) = ap (λ (n : ℕ). k.most * (want k.len + 3) + n) (same_words before)

  -- a kind of which a block may be held, or none
  abbrev Add : Bool → Kind → List Kind → List Kind
  Add c k kinds = cond c (k ∷ kinds) kinds

  same_fours : (before : List Kind) → are_fours (One before) ≡ are_fours (Other before)
  same_fours [] = at (nat_lt 0 a.most) (nat_lt 0 b.most)
    where
      at : (c d : Bool) → list_all (λ kind. nat_le kind.len 8) (Add c a (Add d b (used behind))) ≡ list_all (λ kind. nat_le kind.len 8) (Add d b (Add c a (used behind)))
      at true true = swap_and (nat_le a.len 8) (nat_le b.len 8) (list_all (λ kind. nat_le kind.len 8) (used behind))
      at true false = refl
      at false true = refl
      at false false = refl
  same_fours (k ∷ before) = at (nat_lt 0 k.most) (same_fours before)
    where
      at : (c : Bool) → are_fours (One before) ≡ are_fours (Other before)
          → list_all (λ kind. nat_le kind.len 8) (Add c k (used (One before))) ≡ list_all (λ kind. nat_le kind.len 8) (Add c k (used (Other before)))
      at true same = ap (λ (r : Bool). nat_le k.len 8 && r) same
      at false same = same

  same_most : (w : Kind → ℕ) (before : List Kind) (most : ℕ) → fold max most (map w (used (One before))) ≡ fold max most (map w (used (Other before)))
  same_most w [] most = at (nat_lt 0 a.most) (nat_lt 0 b.most)
    where
      at : (c d : Bool) → fold max most (map w (Add c a (Add d b (used behind)))) ≡ fold max most (map w (Add d b (Add c a (used behind))))
      at true true = ap (λ (n : ℕ). fold max n (map w (used behind))) (swap_max most (w a) (w b))
      at true false = refl
      at false true = refl
      at false false = refl
  same_most w (k ∷ before) most = at (nat_lt 0 k.most) (λ n. same_most w before n)
    where
      at : (c : Bool) → ((n : ℕ) → fold max n (map w (used (One before))) ≡ fold max n (map w (used (Other before))))
          → fold max most (map w (Add c k (used (One before)))) ≡ fold max most (map w (Add c k (used (Other before))))
      at true same = same (max most (w k))
      at false same = same most

-- the words by the sums of a table
abbrev words_by : (sli : ℕ) → Bool → (count words : ℕ) → List Kind → ℕ
words_by sli c count words kinds = cond c (max 4 (count * 4)) (fold max 4 (map (λ kind. words - (want kind.len + 3) + count * (sure sli (want kind.len) - 1) + 1) kinds))

pub order_is_nothing : (sli : ℕ) → OrderIsNothing sli
order_is_nothing sli before a b behind =
    let one : List Kind = One a b behind before in
    let other : List Kind = Other a b behind before in
    ap (λ (c : Bool). words_by sli c (count_in one) (table_words one) (used one)) (same_fours a b behind before)
    ∙ ap (λ (n : ℕ). words_by sli (are_fours other) n (table_words one) (used one)) (same_count a b behind before)
    ∙ ap (λ (n : ℕ). words_by sli (are_fours other) (count_in other) n (used one)) (same_words a b behind before)
    ∙ ap (λ (n : ℕ). cond (are_fours other) (max 4 (count_in other * 4)) n) (same_most a b behind (words_with sli other) before 4)
