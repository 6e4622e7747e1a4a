-- The rows of the whole table, which the parts have one part after the other.
use Rattle.tlsf_pool.proofs.Common.{◌≡◌, ◌≢◌, ℕ, zero, suc, ◌+◌, ◌-◌, ◌<◌, ◌≤◌, ◌↔◌, ◌&&◌, Bool, true, false, cond, List, [], ◌∷◌, ◌++◌, length, take, get_or, set, nat_le, nat_lt, Option, Some, None, Result, Ok, Err, map, refl, sym, ap, ap₂, ◌∙◌, subst, inl, inr, arith, length-append, AllByRecursion, position_or_len, IfOk, IsSomeAnd, OnOk, is_some, option_map, cases_lt, false≢true, le-leb, le-ltb, lt-leb, lt-ltb, nat_tests, get_or_append_left, get_or-append-add, set-append_left, set-append_right, fails_before_first, position_or_len_is, HeapState, allocated_words, place_of, Name, Kind, Rises, len_at, joined, PoolRefusal, AreAllReached, CountsOneMore, HoldsOneMore, IsTabled, TableExtents, TableState, lengths_in, row_len, row_of, table_allocated, fixed_size, AreNew, ArePools, HasRow, PoolsState, Stay, held_by, held_in, memory_of, named_in, no_part, part_at, part_in, part_named, part_of, rows_before, rows_in, table_of, IsRowOf, RowCounts, counts_at}
use Rattle.std.proofs.lemmas.List.Quantifiers.{position-Some}
use Rattle.tlsf_heap.specs.Memory.{Extents}
use Rattle.tlsf_heap.proofs.lemmas.calls.Outcomes.{by_allocated_words}
use Rattle.tlsf_pool.proofs.lemmas.pools.Answering.{of_some, some_of}
use Rattle.tlsf_pool.proofs.lemmas.pools.RowTotals.{held_length, next_row, none, place, row_is, this_row}
use Rattle.tlsf_pool.proofs.lemmas.pools.Heaps.{is_part, part_has}
use Rattle.tlsf_pool.proofs.lemmas.sizes.Risings.{shorter_before}
use Rattle.std.proofs.lemmas.List.{map-set, set-get_or}

-- the rows before the first part, and those before the part after another
before_none : (parts : List TableState) (row : ℕ) → row ≡ rows_before parts 0 + row
before_none parts row = omega arith

before_more : (t : TableState) (parts : List TableState) (i row : ℕ) → length t.ledger.kinds + (rows_before parts i + row) ≡ rows_before (t ∷ parts) (suc i) + row
before_more t parts i row = omega (arith, length-append t.ledger.kinds (rows_in (take i parts)))

-- ---- the row for which a length counts

module _ (len : ℕ) where
  abbrev Enough : List Kind → ℕ → Bool → Type 0
  Enough rows k c = nat_le len (get_or rows k (record { most = 0; len = 0 })).len ≡ c

  -- a row is the first that is long enough
  record IsFirst (rows : List Kind) (row : ℕ) : Type 0 where
    within : row < length rows
    enough : Enough rows row true
    shorter : (k : ℕ) → k < row → Enough rows k false

  -- none is
  abbrev AreShort : List Kind → Type 0
  AreShort rows = (k : ℕ) → k < length rows → Enough rows k false

  is_first : (rows : List Kind) (row : ℕ) → row_of rows len ≡ Some row → IsFirst rows row
  is_first rows row is =
      let found = position-Some (λ kind. nat_le len kind.len) rows row (record { most = 0; len = 0 }) is in
      record { within = found.0; enough = found.1; shorter = found.2 }

  are_short : (rows : List Kind) → is_some (row_of rows len) ≡ false → AreShort rows
  are_short rows none = at (nat_lt (place rows len) (length rows)) refl none
    where
      at : (c : Bool) → nat_lt (place rows len) (length rows) ≡ c → is_some (cond {A = Option ℕ} c (Some (place rows len)) None) ≡ false → AreShort rows
      at true within some = absurd (false≢true (sym some))
      at false past none = λ k less.
          let end : length rows ≤ place rows len = grind (arith, nat_tests) in
          fails_before_first (λ kind. nat_le len kind.len) rows k (record { most = 0; len = 0 }) (omega (arith, less, end))

  row_first : (rows : List Kind) (row : ℕ) → IsFirst rows row → row_of rows len ≡ Some row
  row_first rows row first =
      ap (λ (i : ℕ). cond {A = Option ℕ} (nat_lt i (length rows)) (Some i) None) (position_or_len_is (λ kind. nat_le len kind.len) rows row (record { most = 0; len = 0 }) (omega (arith, first.within)) first.shorter (λ _. first.enough))
      ∙ ap (λ (c : Bool). cond {A = Option ℕ} c (Some row) None) (lt-ltb row (length rows) first.within)

  row_none : (rows : List Kind) → AreShort rows → row_of rows len ≡ None
  row_none rows short =
      ap (λ (i : ℕ). cond {A = Option ℕ} (nat_lt i (length rows)) (Some i) None) (position_or_len_is (λ kind. nat_le len kind.len) rows (length rows) (record { most = 0; len = 0 }) (omega arith) short (λ within. absurd (omega (arith, within))))
      ∙ ap (λ (c : Bool). cond {A = Option ℕ} c (Some (length rows)) None) (le-ltb (length rows) (length rows) (omega arith))

  -- ---- of one table behind another

  left_is : (xs ys : List Kind) (k : ℕ) (c : Bool) → k < length xs → Enough xs k c → Enough (xs ++ ys) k c
  left_is xs ys k c less is = ap (λ (kind : Kind). nat_le len kind.len) (get_or_append_left xs ys (record { most = 0; len = 0 }) k less) ∙ is

  right_is : (xs ys : List Kind) (k : ℕ) (c : Bool) → Enough ys k c → Enough (xs ++ ys) (length xs + k) c
  right_is xs ys k c is = ap (λ (kind : Kind). nat_le len kind.len) (get_or-append-add xs ys k (record { most = 0; len = 0 })) ∙ is

  first_left : (xs ys : List Kind) (row : ℕ) → IsFirst xs row → IsFirst (xs ++ ys) row
  first_left xs ys row first = record {
    within = omega (arith, length-append xs ys, first.within);
    enough = left_is xs ys row true first.within first.enough;
    shorter = λ k less. left_is xs ys k false (omega (arith, less, first.within)) (first.shorter k less);
  }

  short_before : (xs ys : List Kind) (n k : ℕ) → AreShort xs → ((j : ℕ) → j < n → Enough ys j false) → k < length xs + n → Enough (xs ++ ys) k false
  short_before xs ys n k short shorter less = elim (cases_lt k (length xs)) [
    | inl before ↦ left_is xs ys k false before (short k before)
    | inr behind ↦
        let same : length xs + (k - length xs) ≡ k = omega (arith, behind) in
        subst (λ (i : ℕ). Enough (xs ++ ys) i false) same (right_is xs ys (k - length xs) false (shorter (k - length xs) (omega (arith, less, behind))))
  ]

  first_right : (xs ys : List Kind) (row : ℕ) → AreShort xs → IsFirst ys row → IsFirst (xs ++ ys) (length xs + row)
  first_right xs ys row short first = record {
    within = omega (arith, length-append xs ys, first.within);
    enough = right_is xs ys row true first.enough;
    shorter = λ k less. short_before xs ys row k short first.shorter less;
  }

  short_both : (xs ys : List Kind) → AreShort xs → AreShort ys → AreShort (xs ++ ys)
  short_both xs ys short shorter = λ k less. short_before xs ys (length ys) k short shorter (omega (arith, length-append xs ys, less))

  -- ---- of the parts

  abbrev Lacks : List TableState → ℕ → Type 0
  Lacks parts k = is_some (row_of (get_or parts k no_part).ledger.kinds len) ≡ false

  first_in : (parts : List TableState) (i row : ℕ) → i < length parts → ((k : ℕ) → k < i → Lacks parts k) → IsFirst (get_or parts i no_part).ledger.kinds row → IsFirst (rows_in parts) (rows_before parts i + row)
  first_in [] i row within before first = absurd (omega (arith, within))
  first_in (t ∷ parts) zero row within before first = subst (IsFirst (t.ledger.kinds ++ rows_in parts)) (before_none (t ∷ parts) row) (first_left t.ledger.kinds (rows_in parts) row first)
  first_in (t ∷ parts) (suc i) row within before first =
      let rest = first_in parts i row (this_row _ _ within) (λ k less. before (suc k) (next_row _ _ less)) first in
      subst (IsFirst (t.ledger.kinds ++ rows_in parts)) (before_more t parts i row) (first_right t.ledger.kinds (rows_in parts) (rows_before parts i + row) (are_short t.ledger.kinds (before zero (omega arith))) rest)

  short_in : (parts : List TableState) → ((k : ℕ) → k < length parts → Lacks parts k) → AreShort (rows_in parts)
  short_in [] none = λ k less. absurd (omega (arith, less))
  short_in (t ∷ parts) none = short_both t.ledger.kinds (rows_in parts) (are_short t.ledger.kinds (none zero (omega arith))) (short_in parts (λ k less. none (suc k) (next_row _ _ less)))

  -- the row of the whole table is that of the part for which the length counts
  pub whole_row : (parts : List TableState) (i row : ℕ) → part_in parts len ≡ Some i → row_of (get_or parts i no_part).ledger.kinds len ≡ Some row → row_of (rows_in parts) len ≡ Some (rows_before parts i + row)
  whole_row parts i row is own =
      let found = position-Some (λ t. is_some (row_of t.ledger.kinds len)) parts i no_part is in
      row_first (rows_in parts) (rows_before parts i + row) (first_in parts i row found.0 found.2 (is_first (get_or parts i no_part).ledger.kinds row own))

  abbrev first_part : List TableState → ℕ
  first_part parts = position_or_len (λ t. is_some (row_of t.ledger.kinds len)) parts

  -- and there is none where no part has one
  pub no_whole_row : (parts : List TableState) → part_in parts len ≡ None → row_of (rows_in parts) len ≡ None
  no_whole_row parts none = row_none (rows_in parts) (short_in parts (at (nat_lt (first_part parts) (length parts)) refl none))
    where
      at : (c : Bool) → nat_lt (first_part parts) (length parts) ≡ c → cond {A = Option ℕ} c (Some (first_part parts)) None ≡ None → (k : ℕ) → k < length parts → Lacks parts k
      at true within none = absurd cc
      at false past none = λ k less.
          let end : length parts ≤ first_part parts = grind (arith, nat_tests) in
          fails_before_first (λ t. is_some (row_of t.ledger.kinds len)) parts k no_part (omega (arith, less, end))

-- a row of a part is one of the whole table
row_kind : (parts : List TableState) (i row : ℕ) → i < length parts → row < length (get_or parts i no_part).ledger.kinds
    → get_or (rows_in parts) (rows_before parts i + row) none ≡ get_or (get_or parts i no_part).ledger.kinds row none
row_kind [] i row within short = absurd (omega (arith, within))
row_kind (t ∷ parts) zero row within short =
    ap (λ (n : ℕ). get_or (t.ledger.kinds ++ rows_in parts) n none) (sym (before_none (t ∷ parts) row)) ∙ get_or_append_left t.ledger.kinds (rows_in parts) none row short
row_kind (t ∷ parts) (suc i) row within short =
    ap (λ (n : ℕ). get_or (t.ledger.kinds ++ rows_in parts) n none) (sym (before_more t parts i row))
    ∙ (get_or-append-add t.ledger.kinds (rows_in parts) (rows_before parts i + row) none ∙ row_kind parts i row (this_row _ _ within) short)

row_get : (parts : List TableState) (i row : ℕ) → i < length parts → row < length (get_or parts i no_part).ledger.kinds
    → len_at (rows_in parts) (rows_before parts i + row) ≡ len_at (get_or parts i no_part).ledger.kinds row
row_get parts i row within short = ap (λ (kind : Kind). kind.len) (row_kind parts i row within short)

-- so a request counts for a row of the same bytes
pub whole_row_len : (len : ℕ) (parts : List TableState) (i : ℕ) → part_in parts len ≡ Some i → row_len (get_or parts i no_part).ledger.kinds len ≡ row_len (rows_in parts) len
whole_row_len len parts i is = at (row_of (get_or parts i no_part).ledger.kinds len) refl
  where
    at : (o : Option ℕ) → row_of (get_or parts i no_part).ledger.kinds len ≡ o → row_len (get_or parts i no_part).ledger.kinds len ≡ row_len (rows_in parts) len
    at None none = absurd ((part_has parts len i is).1 none)
    at (Some row) some =
        let kinds = (get_or parts i no_part).ledger.kinds in
        ap (λ (o : Option ℕ). option_map (λ (r : ℕ). len_at kinds r) o) some
        ∙ (ap (λ (n : ℕ). Some n) (sym (row_get parts i row (part_has parts len i is).0 (row_is kinds len row some).1))
        ∙ sym (ap (λ (o : Option ℕ). option_map (λ (r : ℕ). len_at (rows_in parts) r) o) (whole_row len parts i row is some)))

pub no_row_len : (len : ℕ) (parts : List TableState) → part_in parts len ≡ None → row_len (rows_in parts) len ≡ None
no_row_len len parts none = ap (λ (o : Option ℕ). option_map (λ (r : ℕ). len_at (rows_in parts) r) o) (no_whole_row len parts none)

-- in a table whose rows rise requests count for each row
pub all_reached : (kinds : List Kind) → Rises kinds → AreAllReached kinds
all_reached kinds rises row within =
    row_first (len_at kinds row) kinds row (record {
      within = within;
      enough = le-leb (len_at kinds row) (len_at kinds row) (omega arith);
      shorter = λ k before. lt-leb (len_at kinds row) (len_at kinds k) (shorter_before kinds rises row k before within);
    })

-- ---- what is held of each row

-- as many numbers as rows
abbrev AreCounts : TableState → Type 0
AreCounts t = length t.ledger.held ≡ length t.ledger.kinds

are_counts : (sli : ℕ) (parts : List TableState) → AllByRecursion (IsTabled sli) parts → AllByRecursion AreCounts parts
are_counts sli [] are = tt
are_counts sli (t ∷ parts) are = (ap length are.0.holds.held ∙ held_length t.ledger.kinds (lengths_in t.heap.blocks), are_counts sli parts are.1)

held_set : (parts : List TableState) (i row v : ℕ) (new : TableState) → AllByRecursion AreCounts parts → i < length parts → row < length (get_or parts i no_part).ledger.kinds
    → new.ledger.held ≡ set (get_or parts i no_part).ledger.held row v → held_in (set parts i new) ≡ set (held_in parts) (rows_before parts i + row) v
held_set [] i row v new counts within short is = absurd (omega (arith, within))
held_set (t ∷ parts) zero row v new counts within short is =
    ap (λ (xs : List ℕ). xs ++ held_in parts) is
    ∙ (sym (set-append_left t.ledger.held (held_in parts) row v (omega (arith, counts.0, short))) ∙ ap (λ (n : ℕ). set (t.ledger.held ++ held_in parts) n v) (before_none (t ∷ parts) row))
held_set (t ∷ parts) (suc i) row v new counts within short is =
    let rest = held_set parts i row v new counts.1 (this_row _ _ within) short is in
    let row_is : length t.ledger.kinds + (rows_before parts i + row) ≡ rows_before (t ∷ parts) (suc i) + row = before_more t parts i row in
    let behind : length t.ledger.held ≤ rows_before (t ∷ parts) (suc i) + row = omega (arith, row_is, counts.0) in
    let left : rows_before (t ∷ parts) (suc i) + row - length t.ledger.held ≡ rows_before parts i + row = omega (arith, row_is, counts.0) in
    ap (λ (xs : List ℕ). t.ledger.held ++ xs) rest
    ∙ sym (set-append_right t.ledger.held (held_in parts) (length t.ledger.held) (rows_before (t ∷ parts) (suc i) + row) v refl behind ∙ ap (λ (n : ℕ). t.ledger.held ++ set (held_in parts) n v) left)

held_get : (parts : List TableState) (i row : ℕ) → AllByRecursion AreCounts parts → i < length parts → row < length (get_or parts i no_part).ledger.kinds
    → get_or (held_in parts) (rows_before parts i + row) 0 ≡ get_or (get_or parts i no_part).ledger.held row 0
held_get [] i row counts within short = absurd (omega (arith, within))
held_get (t ∷ parts) zero row counts within short =
    ap (λ (n : ℕ). get_or (t.ledger.held ++ held_in parts) n 0) (sym (before_none (t ∷ parts) row)) ∙ get_or_append_left t.ledger.held (held_in parts) 0 row (omega (arith, counts.0, short))
held_get (t ∷ parts) (suc i) row counts within short =
    let row_is : length t.ledger.kinds + (rows_before parts i + row) ≡ rows_before (t ∷ parts) (suc i) + row = before_more t parts i row in
    let same : rows_before (t ∷ parts) (suc i) + row ≡ length t.ledger.held + (rows_before parts i + row) = omega (arith, row_is, counts.0) in
    ap (λ (n : ℕ). get_or (t.ledger.held ++ held_in parts) n 0) same ∙ (get_or-append-add t.ledger.held (held_in parts) (rows_before parts i + row) 0 ∙ held_get parts i row counts.1 (this_row _ _ within) short)

-- ---- a row of the whole table by its number

-- the rows before the part after one
before_next : (parts : List TableState) (i : ℕ) → i < length parts → rows_before parts (suc i) ≡ rows_before parts i + length (get_or parts i no_part).ledger.kinds
before_next [] i within = absurd (omega (arith, within))
before_next (t ∷ parts) zero within = omega (arith, length-append t.ledger.kinds (rows_in (take zero parts)))
before_next (t ∷ parts) (suc i) within = omega (arith, before_more t parts (suc i) 0, before_more t parts i 0, before_next parts i (this_row _ _ within))

pub rows_passed : (parts : List TableState) (i : ℕ) → i < length parts → rows_before parts (i + 1) ≡ rows_before parts i + length (get_or parts i no_part).ledger.kinds
rows_passed parts i within =
    let same : suc i ≡ i + 1 = omega arith in
    subst (λ (n : ℕ). rows_before parts n ≡ rows_before parts i + length (get_or parts i no_part).ledger.kinds) same (before_next parts i within)

row_within : (parts : List TableState) (i row : ℕ) → i < length parts → row < length (get_or parts i no_part).ledger.kinds → rows_before parts i + row < length (rows_in parts)
row_within [] i row within short = absurd (omega (arith, within))
row_within (t ∷ parts) zero row within short = omega (arith, before_none (t ∷ parts) row, length-append t.ledger.kinds (rows_in parts), short)
row_within (t ∷ parts) (suc i) row within short = omega (arith, before_more t parts i row, length-append t.ledger.kinds (rows_in parts), row_within parts i row (this_row _ _ within) short)

abbrev pub counts : ℕ → ℕ → RowCounts
counts held most = record { held = held; most = most }

-- the counts of a row are those that its part has of it
pub counts_there : (sli : ℕ) (p : PoolsState) (row i own : ℕ) → ArePools sli p → IsRowOf p.parts row i own
    → Some (record { held = get_or (part_at p i).ledger.held own 0; most = (get_or (part_at p i).ledger.kinds own none).most }) ≡ counts_at p row
counts_there sli p row i own are is =
    let held : get_or (held_by p) row 0 ≡ get_or (part_at p i).ledger.held own 0 = subst (λ (n : ℕ). get_or (held_by p) n 0 ≡ get_or (part_at p i).ledger.held own 0) is.row_is
    (held_get p.parts i own (are_counts sli p.parts are.tables) is.part is.within) in
    let most : (get_or (table_of p) row none).most ≡ (get_or (part_at p i).ledger.kinds own none).most =
    ap (λ (kind : Kind). kind.most) (subst (λ (n : ℕ). get_or (table_of p) n none ≡ get_or (part_at p i).ledger.kinds own none) is.row_is (row_kind p.parts i own is.part is.within)) in
    let less : row < length (table_of p) = subst (λ (n : ℕ). n < length (rows_in p.parts)) is.row_is (row_within p.parts i own is.part is.within) in
    ap₂ (λ (h m : ℕ). Some (counts h m)) (sym held) (sym most)
    ∙ sym (ap (λ (c : Bool). cond {A = Option RowCounts} c (Some (counts (get_or (held_by p) row 0) (get_or (table_of p) row none).most)) None) (lt-ltb row (length (table_of p)) less))

-- and no row has none
pub no_counts : (p : PoolsState) (row : ℕ) → length (table_of p) ≤ row → None ≡ counts_at p row
no_counts p row past = sym (ap (λ (c : Bool). cond {A = Option RowCounts} c (Some (counts (get_or (held_by p) row 0) (get_or (table_of p) row none).most)) None) (le-ltb row (length (table_of p)) past))

-- ---- the table stays

rows_set : (parts : List TableState) (i : ℕ) (t : TableState) → i < length parts → t.ledger.kinds ≡ (get_or parts i no_part).ledger.kinds → rows_in (set parts i t) ≡ rows_in parts
rows_set [] i t within same = absurd (omega (arith, within))
rows_set (x ∷ parts) zero t within same = ap (λ (ks : List Kind). ks ++ rows_in parts) same
rows_set (x ∷ parts) (suc i) t within same = ap (λ (ks : List Kind). x.ledger.kinds ++ ks) (rows_set parts i t (this_row _ _ within) same)

pub rows_kept : (p : PoolsState) (part : ℕ) (old new : TableState) → part < length p.parts → old ≡ get_or p.parts part old → new.ledger.kinds ≡ old.ledger.kinds → rows_in (set p.parts part new) ≡ rows_in p.parts
rows_kept p part old new within is same = rows_set p.parts part new within (same ∙ ap (λ (t : TableState). t.ledger.kinds) (is_part p part old within is))

-- the memory of all heaps and tables stays where that of one does
memory_set : (parts : List TableState) (i : ℕ) (t : TableState) → memory_of t ≡ memory_of (get_or parts i no_part) → map memory_of (set parts i t) ≡ map memory_of parts
memory_set parts i t same =
    map-set memory_of parts i t ∙ ap (set (map memory_of parts) i) same ∙ sym (map-set memory_of parts i (get_or parts i no_part)) ∙ ap (map memory_of) (set-get_or parts i no_part)

pub all_stay : (p : PoolsState) (part : ℕ) (old new : TableState) → part < length p.parts → old ≡ get_or p.parts part old → new.extents ≡ old.extents → new.ledger.extents ≡ old.ledger.extents
    → Stay p (record { id = p.id; parts = set p.parts part new; extent = p.extent })
all_stay p part old new within is heap table = record {
  parts = memory_set p.parts part new (ap₂ (λ (e : Extents) (t : TableExtents). (e, t)) heap table ∙ ap memory_of (is_part p part old within is));
  extent = refl;
}

-- new heaps have the rows of the tables for which they were opened
pub new_rows : (sli from first : ℕ) (tables : List (List Kind)) (parts : List TableState) → AreNew sli from first tables parts → rows_in parts ≡ joined tables
new_rows sli from first [] [] are = refl
new_rows sli from first [] (t ∷ parts) are = absurd are
new_rows sli from first (kinds ∷ tables) [] are = absurd are
new_rows sli from first (kinds ∷ tables) (t ∷ parts) are =
    ap (λ (ks : List Kind). ks ++ rows_in parts) are.0.kinds ∙ ap (λ (ks : List Kind). kinds ++ ks) (new_rows sli (from + 1) first tables parts are.1)

-- ---- an allocate in the part that a length counts for

given_heap : (sli : ℕ) (h : HeapState) (n len : ℕ) (name : Name) → Ok name ≡ (allocated_words sli h n len).answer → name.heap ≡ h.id
given_heap sli h n len name = by_allocated_words sli (λ o. Ok name ≡ o.answer → name.heap ≡ h.id) h n len (λ why ok. absurd cc) (λ s site fit ok.
    let own : Name = record { heap = h.id; at = place_of s; serial = h.tick } in
    let same : name ≡ own = cc in
    ap (λ (n : Name). n.heap) same)

named_at : (id i : ℕ) (parts : List TableState) (name : Name) → name.heap ≡ id + i → i < length parts → named_in id parts name ≡ Some i
named_at id i parts name is within =
    let from : nat_le id name.heap ≡ true = le-leb id name.heap (omega (arith, is)) in
    let same : name.heap - id ≡ i = omega (arith, is) in
    let less : nat_lt (name.heap - id) (length parts) ≡ true = lt-ltb (name.heap - id) (length parts) (omega (arith, same, within)) in
    ap (λ (c : Bool). cond {A = Option ℕ} (c && nat_lt (name.heap - id) (length parts)) (Some (name.heap - id)) None) from
    ∙ (ap (λ (c : Bool). cond {A = Option ℕ} c (Some (name.heap - id)) None) less ∙ ap (λ (n : ℕ). Some n) same)

module _ (sli : ℕ) (p : PoolsState) (len part : ℕ) (old new : TableState) (are : ArePools sli p) (found : part_of p len ≡ Some part) (within : part < length p.parts) (is : old ≡ get_or p.parts part old) where
  own : old ≡ part_at p part
  own = is_part p part old within is

  whole : (row : ℕ) → row_of old.ledger.kinds len ≡ Some row → row_of (table_of p) len ≡ Some (rows_before p.parts part + row)
  whole row at = whole_row len p.parts part row found (subst (λ (t : TableState). row_of t.ledger.kinds len ≡ Some row) own at)

  -- one more is held of the row of the whole table
  pub one_more : HoldsOneMore old.ledger.kinds len old.ledger.held new.ledger.held → HoldsOneMore (table_of p) len (held_by p) (held_in (set p.parts part new))
  one_more more =
      let one = some_of (λ (row : ℕ). new.ledger.held ≡ set old.ledger.held row (get_or old.ledger.held row 0 + 1)) (row_of old.ledger.kinds len) more in
      let row = one.0 in
      let counts = are_counts sli p.parts are.tables in
      let short : row < length (part_at p part).ledger.kinds = subst (λ (t : TableState). row < length t.ledger.kinds) own (row_is old.ledger.kinds len row one.1).1 in
      let set_is : new.ledger.held ≡ set (part_at p part).ledger.held row (get_or (part_at p part).ledger.held row 0 + 1) = subst (λ (t : TableState). new.ledger.held ≡ set t.ledger.held row (get_or t.ledger.held row 0 + 1)) own one.2 in
      let now = held_set p.parts part row (get_or (part_at p part).ledger.held row 0 + 1) new counts within short set_is in
      of_some (λ (r : ℕ). held_in (set p.parts part new) ≡ set (held_by p) r (get_or (held_by p) r 0 + 1)) (row_of (table_of p) len) (rows_before p.parts part + row) (whole row one.1)
      (now ∙ ap (λ (v : ℕ). set (held_by p) (rows_before p.parts part + row) (v + 1)) (sym (held_get p.parts part row counts within short)))

  -- the block is of the heap that has this row
  pub of_row : (name : Name) → Ok name ≡ (table_allocated sli old.heap old.ledger len).answer → HoldsOneMore old.ledger.kinds len old.ledger.held new.ledger.held → IsSomeAnd (row_of (table_of p) len) (λ row. IsSomeAnd (part_named p name) (HasRow p row))
  of_row name answer more =
      let one = some_of (λ (row : ℕ). new.ledger.held ≡ set old.ledger.held row (get_or old.ledger.held row 0 + 1)) (row_of old.ledger.kinds len) more in
      let row = one.0 in
      let short : row < length (part_at p part).ledger.kinds = subst (λ (t : TableState). row < length t.ledger.kinds) own (row_is old.ledger.kinds len row one.1).1 in
      let number : name.heap ≡ p.id + part = given_heap sli old.heap (fixed_size sli old.ledger.kinds) len name answer ∙ (ap (λ (t : TableState). t.heap.id) own ∙ are.numbers part within) in
      of_some (λ (r : ℕ). IsSomeAnd (part_named p name) (HasRow p r)) (row_of (table_of p) len) (rows_before p.parts part + row) (whole row one.1)
      (of_some (HasRow p (rows_before p.parts part + row)) (part_named p name) part (named_at p.id part p.parts name number within) (omega arith, omega (arith, short)))

  -- the same by the answer
  pub row_given : (answer : Result Name PoolRefusal) → IfOk answer (λ name. (table_allocated sli old.heap old.ledger len).answer ≡ Ok name) → OnOk answer (CountsOneMore len old.ledger new.ledger)
      → IfOk answer (λ name. IsSomeAnd (row_of (table_of p) len) (λ row. IsSomeAnd (part_named p name) (HasRow p row)))
  row_given (Ok name) ok more = of_row name (sym ok) more.held
  row_given (Err why) ok more = tt

  pub held_given : (answer : Result Name PoolRefusal) → OnOk answer (CountsOneMore len old.ledger new.ledger) → OnOk answer (HoldsOneMore (table_of p) len (held_by p) (held_in (set p.parts part new)))
  held_given (Ok name) more = one_more more.held
  held_given (Err why) more = tt

-- a request is too long for its part just where it is for the whole table
pub long_row : {A : Type 0} (p : PoolsState) (len part : ℕ) (old : TableState) → part_of p len ≡ Some part → part < length p.parts → old ≡ get_or p.parts part old
    → A ↔ (row_of old.ledger.kinds len ≡ None) → A ↔ (row_of (table_of p) len ≡ None)
long_row {A} p len part old found within is both =
    let own = is_part p part old within is in
    let has = (part_has p.parts len part found).1 in
    let row_there : row_of old.ledger.kinds len ≢ None = subst (λ (t : TableState). row_of t.ledger.kinds len ≢ None) (sym own) has in
    (λ a. absurd (row_there (both.0 a)), λ none. absurd (at (row_of old.ledger.kinds len) refl none))
  where
    at : (o : Option ℕ) → row_of old.ledger.kinds len ≡ o → row_of (table_of p) len ≡ None → ⊥
    at None e none = subst (λ (t : TableState). row_of t.ledger.kinds len ≢ None) (sym (is_part p part old within is)) (part_has p.parts len part found).1 e
    at (Some row) e none =
        let some = whole_row len p.parts part row found (subst (λ (t : TableState). row_of t.ledger.kinds len ≡ Some row) (is_part p part old within is) e) in
        let bad : Some (rows_before p.parts part + row) ≡ None = sym some ∙ none in
        cc
