-- New heaps for the parts of a table, one after the other.
use Rattle.tlsf_pool.proofs.Common.{◌≡◌, ℕ, zero, suc, ◌+◌, ◌-◌, ◌<◌, ◌≤◌, List, [], ◌∷◌, ◌++◌, length, replicate, get_or, take, drop, min, refl, sym, ap, ◌∙◌, subst, arith, append_assoc, add-zero, length-append, length-drop, AllByRecursion, HeapState, opened, fixed_kinds_words, Kind, IsLeast, IsPart, HasWords, cut_by, parts_of, Split, IsTabled, TableState, AreNew, ArePools, IsNew, no_part}
use Rattle.tlsf_heap.specs.Memory.{Extent}
use Rattle.tlsf_heap.proofs.lemmas.blocks.Lawful.{all_append}

module _ (sli first : ℕ) where
  -- one more after the others
  new_more : (from : ℕ) (tables : List (List Kind)) (parts : List TableState) (kinds : List Kind) (t : TableState) → AreNew sli from first tables parts → IsNew sli (from + length tables) first kinds t
      → AreNew sli from first (tables ++ kinds ∷ []) (parts ++ t ∷ [])
  new_more from [] [] kinds t are new = (subst (λ (n : ℕ). IsNew sli n first kinds t) (add-zero from) new, tt)
  new_more from [] (p ∷ parts) kinds t are new = absurd are
  new_more from (k ∷ tables) [] kinds t are new = absurd are
  new_more from (k ∷ tables) (p ∷ parts) kinds t are new =
      let next : from + suc (length tables) ≡ from + 1 + length tables = omega arith in
      (are.0, new_more (from + 1) tables parts kinds t are.1 (subst (λ (n : ℕ). IsNew sli n first kinds t) next new))

  as_many : (from : ℕ) (tables : List (List Kind)) (parts : List TableState) → AreNew sli from first tables parts → length tables ≡ length parts
  as_many from [] [] are = refl
  as_many from [] (p ∷ parts) are = absurd are
  as_many from (k ∷ tables) [] are = absurd are
  as_many from (k ∷ tables) (p ∷ parts) are = ap suc (as_many (from + 1) tables parts are.1)

  numbered : (from : ℕ) (tables : List (List Kind)) (parts : List TableState) → AreNew sli from first tables parts → (i : ℕ) → i < length parts → (get_or parts i no_part).heap.id ≡ from + i
  numbered from [] [] are i within = absurd (omega (arith, within))
  numbered from [] (p ∷ parts) are i within = absurd are
  numbered from (k ∷ tables) [] are i within = absurd are
  numbered from (k ∷ tables) (p ∷ parts) are zero within = ap (λ (h : HeapState). h.id) are.0.heap ∙ sym (add-zero from)
  numbered from (k ∷ tables) (p ∷ parts) are (suc i) within =
      let next : from + 1 + i ≡ from + suc i = omega arith in
      let rest = numbered (from + 1) tables parts are.1 i (omega (arith, within)) in
      rest ∙ next

take_least : (n : ℕ) (xs : List Kind) → take (min n (length xs)) xs ≡ take n xs
take_least zero [] = refl
take_least zero (x ∷ xs) = let none : min zero (suc (length xs)) ≡ zero = omega arith in ap (λ (m : ℕ). take m (x ∷ xs)) none
take_least (suc n) [] = let none : min (suc n) zero ≡ zero = omega arith in ap (λ (m : ℕ). take m []) none
take_least (suc n) (x ∷ xs) = let less : min (suc n) (suc (length xs)) ≡ suc (min n (length xs)) = omega arith in ap (λ (m : ℕ). take m (x ∷ xs)) less ∙ ap (λ (ys : List Kind). x ∷ ys) (take_least n xs)

drop_least : (n : ℕ) (xs : List Kind) → drop (min n (length xs)) xs ≡ drop n xs
drop_least zero [] = refl
drop_least zero (x ∷ xs) = let none : min zero (suc (length xs)) ≡ zero = omega arith in ap (λ (m : ℕ). drop m (x ∷ xs)) none
drop_least (suc n) [] = let none : min (suc n) zero ≡ zero = omega arith in ap (λ (m : ℕ). drop m []) none
drop_least (suc n) (x ∷ xs) = let less : min (suc n) (suc (length xs)) ≡ suc (min n (length xs)) = omega arith in ap (λ (m : ℕ). drop m (x ∷ xs)) less ∙ drop_least n xs

-- this many parts are still to be opened, for what is left of the table
pub record OpenedSoFar (sli id first : ℕ) (all : List (List Kind)) (left : ℕ) (lens : List ℕ) (rest : List Kind) (parts : List TableState) : Type 0 where
  pub done : List (List Kind)
  pub whole : all ≡ done ++ cut_by left lens rest
  pub are : AreNew sli id first done parts
  pub tables : AllByRecursion (IsTabled sli) parts
  pub few : length rest ≤ 64
  pub cut : AllByRecursion (IsPart sli) (cut_by left lens rest)

module _ (sli id first : ℕ) (all : List (List Kind)) (lens : List ℕ) (rest : List Kind) (parts : List TableState) (k : ℕ) (so_far : OpenedSoFar sli id first all (suc k) lens rest parts) where
  -- the next part, as its length is taken
  pub next_part : IsPart sli (take (min (get_or lens k 0) (length rest)) rest)
  next_part = subst (IsPart sli) (sym (take_least (get_or lens k 0) rest)) so_far.cut.0

  pub opened_next : (t : TableState) → IsNew sli (id + length parts) first (take (min (get_or lens k 0) (length rest)) rest) t → IsTabled sli t
      → OpenedSoFar sli id first all k lens (drop (min (get_or lens k 0) (length rest)) rest) (parts ++ t ∷ [])
  opened_next t new is =
      let len : ℕ = get_or lens k 0 in
      let own = subst (λ (kinds : List Kind). IsNew sli (id + length parts) first kinds t) (take_least len rest) new in
      let placed = subst (λ (n : ℕ). IsNew sli (id + n) first (take len rest) t) (sym (as_many sli first id so_far.done parts so_far.are)) own in
      let fewer : length (drop len rest) ≤ 64 = omega (arith, length-drop len rest, so_far.few) in
      let whole_part : OpenedSoFar sli id first all k lens (drop len rest) (parts ++ t ∷ []) = record {
        done = so_far.done ++ take len rest ∷ [];
        whole = so_far.whole ∙ sym (append_assoc so_far.done (take len rest ∷ []) (cut_by k lens (drop len rest)));
        are = new_more sli first id so_far.done parts (take len rest) t so_far.are placed;
        tables = all_append (IsTabled sli) parts (t ∷ []) so_far.tables (is, tt);
        few = fewer;
        cut = so_far.cut.1;
      } in
      subst (λ (left : List Kind). OpenedSoFar sli id first all k lens left (parts ++ t ∷ [])) (sym (drop_least len rest)) whole_part

-- the same, as the loop has it
module _ (sli id first : ℕ) (all : List (List Kind)) (lens : List ℕ) (rest : List Kind) (parts : List TableState) (heaps at len : ℕ) (more : at < heaps) (so_far : OpenedSoFar sli id first all (heaps - at) lens rest parts)
    (least : len ≡ min (get_or lens (heaps - 1 - at) 0) (length rest)) where
  one_left : OpenedSoFar sli id first all (suc (heaps - 1 - at)) lens rest parts
  one_left = let one : heaps - at ≡ suc (heaps - 1 - at) = omega (arith, more) in subst (λ (n : ℕ). OpenedSoFar sli id first all n lens rest parts) one so_far

  pub part_words : HasWords sli (take len rest)
  part_words = (subst (λ (n : ℕ). IsPart sli (take n rest)) (sym least) (next_part sli id first all lens rest parts (heaps - 1 - at) one_left)).1

  pub opened_step : (t : TableState) (left : List Kind) (now : List TableState) → length parts ≡ at → t.heap ≡ opened (id + at) (fixed_kinds_words sli (take len rest)) first → t.ledger.kinds ≡ take len rest → t.ledger.held ≡ replicate (length (take len rest)) 0
      → IsTabled sli t → left ≡ drop len rest → now ≡ parts ++ t ∷ [] → OpenedSoFar sli id first all (heaps - (at + 1)) lens left now
  opened_step t left now many heap kinds held table is_left is_now =
      let new : IsNew sli (id + at) first (take len rest) t = record { heap = heap; kinds = kinds; held = held } in
      let placed = subst (λ (n : ℕ). IsNew sli (id + n) first (take len rest) t) (sym many) new in
      let whole = subst (λ (n : ℕ). IsNew sli (id + length parts) first (take n rest) t) least placed in
      let next = opened_next sli id first all lens rest parts (heaps - 1 - at) one_left t whole table in
      let fewer : heaps - 1 - at ≡ heaps - (at + 1) = omega (arith, more) in
      let shorter = subst (λ (n : ℕ). OpenedSoFar sli id first all (heaps - 1 - at) lens (drop n rest) (parts ++ t ∷ [])) (sym least) next in
      let here = subst (λ (n : ℕ). OpenedSoFar sli id first all n lens (drop len rest) (parts ++ t ∷ [])) fewer shorter in
      subst (λ (ks : List Kind). OpenedSoFar sli id first all (heaps - (at + 1)) lens ks now) (sym is_left)
      (subst (λ (ts : List TableState). OpenedSoFar sli id first all (heaps - (at + 1)) lens (drop len rest) ts) (sym is_now) here)

-- new heaps are those of a table
pub new_pools : (sli id first : ℕ) (kinds : List Kind) (split : Split) (parts : List TableState) (extent : Extent) → IsLeast sli 8 kinds split → AreNew sli id first (parts_of split kinds) parts → AllByRecursion (IsTabled sli) parts
    → ArePools sli (record { id = id; parts = parts; extent = extent })
new_pools sli id first kinds split parts extent is are tables = record {
  tables = tables;
  numbers = numbered sli first id (parts_of split kinds) parts are;
  few = omega (arith, as_many sli first id (parts_of split kinds) parts are, is.sought);
}

pub length_more : (parts : List TableState) (t : TableState) (n : ℕ) → length parts ≡ n → length (parts ++ t ∷ []) ≡ n + 1
length_more parts t n many = omega (arith, length-append parts (t ∷ []), many)
