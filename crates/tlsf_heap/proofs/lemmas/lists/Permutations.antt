-- Lists of free places in another order, told by how often each place stands in them.
use Rattle.tlsf_heap.proofs.Common.{◌≡◌, ℕ, ◌+◌, ◌<◌, Bool, true, false, ◌&&◌, cond, eqb, List, [], ◌∷◌, ◌++◌, refl, sym, ap, ◌∙◌, subst, arith, sum_by, IsPermutation, eqb-true, nat_tests, IsPermutation-refl, IsPermutation-sym, IsPermutation-cons, IsPermutation-trans, IsPermutation-middle, sum_by-IsPermutation, FreePlace}
use Rattle.std.proofs.lemmas.List.Recursion.{is_sum_by}
use Rattle.tlsf_heap.proofs.lemmas.blocks.Find.{and_left, and_right}

abbrev same : FreePlace → FreePlace → Bool
same a b = eqb a.class b.class && (eqb a.at b.at && eqb a.stamp b.stamp)

-- how often a place stands in a list
abbrev count : FreePlace → List FreePlace → ℕ
count e [] = 0
count e (x ∷ xs) = cond (same e x) 1 0 + count e xs

same_true : (a b : FreePlace) → same a b ≡ true → a ≡ b
same_true a b h =
    let rest = and_right (eqb a.class b.class) _ h in
    ap (λ (n : ℕ). record { class = n; at = a.at; stamp = a.stamp }) (eqb-true a.class b.class (and_left _ _ h))
    ∙ ap (λ (n : ℕ). record { class = b.class; at = n; stamp = a.stamp }) (eqb-true a.at b.at (and_left _ _ rest))
    ∙ ap (λ (n : ℕ). record { class = b.class; at = b.at; stamp = n }) (eqb-true a.stamp b.stamp (and_right (eqb a.at b.at) _ rest))

same_refl : (e : FreePlace) → same e e ≡ true
same_refl e = grind (arith, nat_tests)

count-permuted : (e : FreePlace) (xs ys : List FreePlace) → IsPermutation xs ys → count e xs ≡ count e ys
count-permuted e xs ys p =
    let f : FreePlace → ℕ = λ x. cond (same e x) 1 0 in
    let is : (l : List FreePlace) → count e l ≡ sum_by f l = is_sum_by (count e) f refl (λ x l. refl) in
    is xs ∙ sym (sum_by-IsPermutation f xs ys p) ∙ sym (is ys)

count-append : (e : FreePlace) (xs ys : List FreePlace) → count e (xs ++ ys) ≡ count e xs + count e ys
count-append e [] ys = omega arith
count-append e (x ∷ xs) ys = let h = count-append e xs ys in omega arith

count-first : (e : FreePlace) (xs : List FreePlace) → count e (e ∷ xs) ≡ 1 + count e xs
count-first e xs = ap (λ (b : Bool). cond b 1 0 + count e xs) (same_refl e)

-- a place in a list, and what stands before and behind it
pub record Parted (e : FreePlace) (xs : List FreePlace) : Type 0 where
  pub front : List FreePlace
  pub back : List FreePlace
  pub is : xs ≡ front ++ e ∷ back

found : (e : FreePlace) (xs : List FreePlace) → 0 < count e xs → Parted e xs
found e [] h = absurd (omega (arith, h))
found e (x ∷ xs) h = at (same e x) refl (found e xs) h
  where
    at : (b : Bool) → same e x ≡ b → (0 < count e xs → Parted e xs) → 0 < cond b 1 0 + count e xs → Parted e (x ∷ xs)
    at true is behind some = record { front = []; back = xs; is = ap (λ (y : FreePlace). y ∷ xs) (sym (same_true e x is)) }
    at false is behind some =
        let rest = behind (omega (arith, some)) in
        record { front = x ∷ rest.front; back = rest.back; is = ap (λ (l : List FreePlace). x ∷ l) rest.is }

-- lists in which each place stands equally often are the same but for the order
permuted : (xs ys : List FreePlace) → ((e : FreePlace) → count e xs ≡ count e ys) → IsPermutation xs ys
permuted [] [] h = IsPermutation-refl []
permuted [] (y ∷ ys) h = absurd (omega (arith, h y, count-first y ys))
permuted (x ∷ xs) ys h =
    let at = found x ys (omega (arith, h x, count-first x xs)) in
    let rest : IsPermutation xs (at.front ++ at.back) =
    permuted xs (at.front ++ at.back) (λ e. omega (arith, h e, ap (count e) at.is, count-append e at.front (x ∷ at.back), count-append e at.front at.back)) in
    IsPermutation-trans (x ∷ xs) (x ∷ (at.front ++ at.back)) ys (IsPermutation-cons x xs (at.front ++ at.back) rest)
    (subst (IsPermutation (x ∷ (at.front ++ at.back))) (sym at.is) (IsPermutation-sym (at.front ++ x ∷ at.back) (x ∷ (at.front ++ at.back)) (IsPermutation-middle at.front x at.back)))

-- a place that stands in a list stands in the list in another order
pub parted : (e : FreePlace) (xs front back : List FreePlace) → IsPermutation xs (front ++ e ∷ back) → Parted e xs
parted e xs front back p = found e xs (omega (arith, count-permuted e _ _ p, count-append e front (e ∷ back), count-first e back))

-- and is taken out of both
pub taken_out : (e : FreePlace) (xs ys front back : List FreePlace) → IsPermutation (xs ++ e ∷ ys) (front ++ e ∷ back) → IsPermutation (xs ++ ys) (front ++ back)
taken_out e xs ys front back p =
    permuted (xs ++ ys) (front ++ back) (λ x.
    omega (arith, count-permuted x _ _ p, count-append x xs (e ∷ ys), count-append x xs ys, count-append x front (e ∷ back), count-append x front back))
