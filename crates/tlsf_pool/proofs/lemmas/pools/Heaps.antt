-- Several heaps stay heaps for the parts of a table, whichever of them a call changes.
use Rattle.tlsf_pool.proofs.Common.{◌≡◌, ◌≢◌, ℕ, zero, suc, ◌+◌, ◌-◌, ◌<◌, ◌≤◌, ◌↔◌, ◌&&◌, Bool, true, false, cond, List, [], ◌∷◌, length, get_or, set, nat_le, nat_lt, Option, Some, None, Result, Ok, Err, refl, sym, ap, ◌∙◌, subst, inl, inr, arith, AllByRecursion, IfSome, IsOk, IsSomeAnd, OnOk, is_some, cases_lt, false≢true, le-ltb, lt-ltb, position_or_len_is, nat_tests, HeapState, payload_words_given, Name, PoolRefusal, IsTabled, TableState, row_of, ArePools, PoolsState, named_in, no_part, part_at, part_in, length-set, get_or-set_same}
use Rattle.std.proofs.lemmas.List.Quantifiers.{position-Some}
use Rattle.std.proofs.lemmas.List.{get_or_default, set-get_or}

-- ---- one of a list

all_set : (P : TableState → Type 0) (xs : List TableState) (i : ℕ) (t : TableState) → AllByRecursion P xs → P t → AllByRecursion P (set xs i t)
all_set P [] i t all one = tt
all_set P (x ∷ xs) zero t all one = (one, all.1)
all_set P (x ∷ xs) (suc i) t all one = (all.0, all_set P xs i t all.1 one)

number_set : (xs : List TableState) (i j : ℕ) (t d : TableState) → t.heap.id ≡ (get_or xs i d).heap.id → (get_or (set xs i t) j d).heap.id ≡ (get_or xs j d).heap.id
number_set [] i j t d same = refl
number_set (x ∷ xs) zero zero t d same = same
number_set (x ∷ xs) zero (suc j) t d same = refl
number_set (x ∷ xs) (suc i) zero t d same = refl
number_set (x ∷ xs) (suc i) (suc j) t d same = number_set xs i j t d same

-- the heap at a part is the one that was read
pub is_part : (p : PoolsState) (i : ℕ) (t : TableState) → i < length p.parts → t ≡ get_or p.parts i t → t ≡ part_at p i
is_part p i t within is = is ∙ get_or_default p.parts i t no_part within

-- and then the one that was put there
pub new_part : (p : PoolsState) (i : ℕ) (t : TableState) → i < length p.parts → t ≡ part_at (record { id = p.id; parts = set p.parts i t; extent = p.extent }) i
new_part p i t within = sym (get_or-set_same p.parts i t no_part within)

-- where the one that was read is put back, all are as they were
pub put_back : (p : PoolsState) (i : ℕ) (old new : TableState) → i < length p.parts → old ≡ get_or p.parts i old → new ≡ old → record { id = p.id; parts = set p.parts i new; extent = p.extent } ≡ p
put_back p i old new within is same =
    ap (λ (t : TableState). record { id = p.id; parts = set p.parts i t; extent = p.extent }) (same ∙ is_part p i old within is)
    ∙ ap (λ (ts : List TableState). record { id = p.id; parts = ts; extent = p.extent }) (set-get_or p.parts i no_part)

-- so all are heaps for their tables, as before
pub kept : (sli : ℕ) (p : PoolsState) (i : ℕ) (t : TableState) → ArePools sli p → IsTabled sli t → t.heap.id ≡ (part_at p i).heap.id → ArePools sli (record { id = p.id; parts = set p.parts i t; extent = p.extent })
kept sli p i t are is same = record {
  tables = all_set (IsTabled sli) p.parts i t are.tables is;
  numbers = λ j within. number_set p.parts i j t no_part same ∙ are.numbers j (subst (λ (n : ℕ). j < n) (length-set p.parts i t) within);
  few = subst (λ (n : ℕ). n ≤ 8) (sym (length-set p.parts i t)) are.few;
}

-- ---- an allocate by its answer

pub on_ok : {A B : Type 0} (P : Type 0) (answer : Result Name PoolRefusal) → IsOk answer ↔ (A × B) → (A → P) → OnOk answer P
on_ok P (Ok name) is p = p (is.0 refl).0
on_ok P (Err why) is p = tt

-- the block that it gave, in the heap that it left
pub left_given : (k : ℕ) (heap left : HeapState) (answer : Result Name PoolRefusal) → OnOk answer (left ≡ heap) → payload_words_given answer heap ≤ k → payload_words_given answer left ≤ k
left_given k heap left (Ok name) same few = subst (λ (h : HeapState). payload_words_given {E = PoolRefusal} (Ok name) h ≤ k) (sym same) few
left_given k heap left (Err why) same few = few

-- ---- which part

some_row : (o : Option ℕ) → is_some o ≡ true → o ≢ None
some_row None is = λ e. false≢true is
some_row (Some row) is = λ e. cc

-- the part for which a length counts is there, and has a row for it
pub part_has : (parts : List TableState) (len i : ℕ) → part_in parts len ≡ Some i → (i < length parts) × (row_of (get_or parts i no_part).ledger.kinds len ≢ None)
part_has parts len i is =
    let found = position-Some (λ t. is_some (row_of t.ledger.kinds len)) parts i no_part is in
    (found.0, some_row (row_of (get_or parts i no_part).ledger.kinds len) found.1)

pub named_within : (id : ℕ) (parts : List TableState) (name : Name) (i : ℕ) → named_in id parts name ≡ Some i → (i < length parts) × (id + i ≡ name.heap)
named_within id parts name i is = at (nat_le id name.heap) (nat_lt (name.heap - id) (length parts)) refl refl is
  where
    at : (a b : Bool) → nat_le id name.heap ≡ a → nat_lt (name.heap - id) (length parts) ≡ b → cond (a && b) (Some (name.heap - id)) None ≡ Some i → (i < length parts) × (id + i ≡ name.heap)
    at true true above within e =
        let same : name.heap - id ≡ i = cc in
        let less : name.heap - id < length parts = grind (arith, nat_tests) in
        let from : id ≤ name.heap = grind (arith, nat_tests) in
        (omega (arith, same, less), omega (arith, same, from))
    at true false above within e = absurd cc
    at false b above within e = absurd cc

-- ---- a fact of the part that there is

pub if_part : (P : ℕ → Type 0) (o : Option ℕ) (i : ℕ) → o ≡ Some i → P i → IfSome o P
if_part P o i is here = subst (λ (o : Option ℕ). IfSome o P) (sym is) here

pub iff_part : {A : Type 0} (P : ℕ → Type 0) (o : Option ℕ) (i : ℕ) → o ≡ Some i → A ↔ P i → A ↔ IsSomeAnd o P
iff_part {A} P o i is both = subst (λ (o : Option ℕ). A ↔ IsSomeAnd o P) (sym is) both

pub not_none : (o : Option ℕ) (i : ℕ) → o ≡ Some i → o ≢ None
not_none o i is = λ e. cc

-- ---- the search for a part

module _ (parts : List TableState) (len at : ℕ) where
  abbrev pub Has : ℕ → Bool → Type 0
  Has i b = is_some (row_of (get_or parts i no_part).ledger.kinds len) ≡ b

  -- whether the part that was read has a row
  pub has_at : (t : TableState) (b : Bool) → at < length parts → t ≡ get_or parts at t → is_some (row_of t.ledger.kinds len) ≡ b → Has at b
  has_at t b within is serves = subst (λ (x : TableState). is_some (row_of x.ledger.kinds len) ≡ b) (is ∙ get_or_default parts at t no_part within) serves

  pub none_before : ((k : ℕ) → k < at → Has k false) → Has at false → (k : ℕ) → k < at + 1 → Has k false
  none_before before here k below = elim (cases_lt k at) [ inl less ↦ before k less | inr above ↦ subst (λ (i : ℕ). Has i false) (omega (arith, below, above)) here ]

  pub found_at : at < length parts → ((k : ℕ) → k < at → Has k false) → Has at true → part_in parts len ≡ Some at
  found_at within before here =
      ap (λ (i : ℕ). cond {A = Option ℕ} (nat_lt i (length parts)) (Some i) None) (position_or_len_is (λ t. is_some (row_of t.ledger.kinds len)) parts at no_part (omega (arith, within)) before (λ _. here))
      ∙ ap (λ (c : Bool). cond {A = Option ℕ} c (Some at) None) (lt-ltb at (length parts) within)

  pub found_none : at ≡ length parts → ((k : ℕ) → k < at → Has k false) → part_in parts len ≡ None
  found_none end before =
      ap (λ (i : ℕ). cond {A = Option ℕ} (nat_lt i (length parts)) (Some i) None) (position_or_len_is (λ t. is_some (row_of t.ledger.kinds len)) parts at no_part (omega (arith, end)) before (λ within. absurd (omega (arith, within, end))))
      ∙ ap (λ (c : Bool). cond {A = Option ℕ} c (Some at) None) (le-ltb at (length parts) (omega (arith, end)))
