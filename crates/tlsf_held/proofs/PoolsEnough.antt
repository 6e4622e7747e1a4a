-- Pools of the kinds of a merged table have a place for each request of the run that was measured.
use Rattle.tlsf_held.proofs.Common.{◌≡◌, ◌≢◌, ◌==◌, ℕ, zero, suc, ◌+◌, ◌-◌, ◌<◌, ◌≤◌, Bool, true, false, cond, nat_le, nat_lt, List, [], ◌∷◌, ◌++◌, length, map, get_or, take, Option, Some, None, inl, inr, refl, sym, ap, ◌∙◌, subst, arith, filter, range_with_len, AllByRecursion, cases_eq, cases_lt, le-leb, lt-leb, le-ltb, lt-ltb, ltb-true, nat_tests, Call, Answer, Inventory, inventory_after, lengths, AreOfKinds, ArePlanned, IsPlanned, answers_on, calls_on, level_in, run_of, kinds_of, lengths_with, IsLevel, IsOfRow, KeepWithin, IsWithin, no_row, row_count, row_in, row_of, used, with_one, band_of, AreMerged, IsBandRow, IsMergedTable, starts_at, EachServed, HeldPoolsSuffice, IsServed, Row}
use Rattle.std.specs.Prelude.{IsSomeAnd, ◌&&◌}
use Rattle.std.proofs.Common.{length-append}
use Rattle.std.proofs.lemmas.List.{get_or-append-add, get_or_append_left}
use Rattle.tlsf_heap.specs.Calls.{Allocate}
use Rattle.tlsf_pool.specs.declared.kind.Kind.{Kind}
use Rattle.tlsf_pool.specs.pools.Parts.{ArePools, PoolsState, held_by, held_in, no_part, part_at, part_of, rows_before, rows_in, table_of}
use Rattle.tlsf_pool.specs.pools.Tables.{HasPlace, IsTabled, TableState, held_of, lengths_in, most_at}
use Rattle.tlsf_pool.specs.pools.Tables as tables
use Rattle.tlsf_pool.proofs.lemmas.pools.Answering.{of_some}
use Rattle.tlsf_pool.proofs.lemmas.pools.Heaps.{part_has}
use Rattle.tlsf_pool.proofs.lemmas.pools.RowTotals.{HasOneMore, fit_less, held_length, place, row_is, row_within, this_row}
use Rattle.tlsf_pool.proofs.lemmas.pools.WholeTable.{no_whole_row, whole_row}
use Rattle.tlsf_held.proofs.KindsEnough.{row_below, row_rises}
use Rattle.tlsf_held.proofs.LeastRows.{cons_within, fewer_within, same_within, within_trans}
use Rattle.tlsf_held.proofs.Measured.{is_level}

-- ---- the lengths that count for a table's rows

starts_zero : (rows : List Row) → starts_at rows 0 ≡ 0
starts_zero rows = let b : (0 == 0) ≡ true = grind (arith, nat_tests) in ap (λ (c : Bool). cond {A = ℕ} c 0 ((get_or rows (0 - 1) no_row).longest + 1)) b

starts_next : (rows : List Row) (n : ℕ) → starts_at rows (suc n) ≡ (get_or rows n no_row).longest + 1
starts_next rows n =
    let b : (suc n == 0) ≡ false = grind (arith, nat_tests) in
    let one : suc n - 1 ≡ n = omega arith in
    ap (λ (c : Bool). cond {A = ℕ} c 0 ((get_or rows (suc n - 1) no_row).longest + 1)) b ∙ ap (λ (k : ℕ). (get_or rows k no_row).longest + 1) one

starts_above : (rows : List Row) (n : ℕ) → 0 < n → 0 < starts_at rows n
starts_above rows zero some = absurd (omega (arith, some))
starts_above rows (suc n) some = omega (arith, starts_next rows n)

-- no length from here on counts for a row
abbrev end_of : List Row → ℕ
end_of rows = starts_at rows (length rows)

some_row : (row : Row) (rows : List Row) → (row ∷ rows) ≢ []
some_row row rows none = cc

end_more : (first row : Row) (rows : List Row) → end_of (first ∷ (row ∷ rows)) ≡ end_of (row ∷ rows)
end_more first row rows = starts_next (first ∷ (row ∷ rows)) (suc (length rows)) ∙ sym (starts_next (row ∷ rows) (length rows))

keep_end : (b : Bool) (first : Row) (rows : List Row) (len : ℕ) → len < end_of rows → len < end_of (cond b (first ∷ rows) rows)
keep_end true first [] len less = absurd (omega (arith, less, starts_zero []))
keep_end true first (row ∷ rows) len less = omega (arith, less, end_more first row rows)
keep_end false first rows len less = less

last_end : (b : Bool) (first : Row) (rows : List Row) (len : ℕ) → (b ≡ true → len ≤ first.longest) → (rows ≢ [] → len < end_of rows) → cond b (first ∷ rows) rows ≢ [] → len < end_of (cond b (first ∷ rows) rows)
last_end true first [] len here there some = omega (arith, here refl, starts_next (first ∷ []) 0)
last_end true first (row ∷ rows) len here there some = omega (arith, there (some_row row rows), end_more first row rows)
last_end false first rows len here there some = there some

module _ (row : ℕ → ℕ) (rises : (a b : ℕ) → a ≤ b → row a ≤ row b) (all : ℕ → Row) where
  abbrev rows_from : ℕ → ℕ → List Row
  rows_from at k = used (map all (range_with_len at k))

  abbrev Own : ℕ → Type 0
  Own to = (i : ℕ) → i < to → IsOfRow row i (all i)

  own_next : (at k : ℕ) → Own (at + suc k) → Own (at + 1 + k)
  own_next at k own i inside = own i (omega (arith, inside))

  -- a length of a lower row comes before the end of the rows
  lower : (at k len : ℕ) → Own (at + k) → row len < at → rows_from at k ≢ [] → len < end_of (rows_from at k)
  lower at zero len own less some = absurd (some refl)
  lower at (suc k) len own less some =
      last_end (nat_lt 0 (all at).most) (all at) (rows_from (at + 1) k) len
      (λ held. let its : row (all at).longest ≡ at = own at (omega arith) (ltb-true 0 (all at).most held) in elim (cases_lt (all at).longest len) [
        | inl above ↦ absurd (omega (arith, rises (all at).longest len (omega (arith, above)), its, less))
        | inr upto ↦ omega (arith, upto)
      ])
      (λ more. lower (at + 1) k len (own_next at k own) (omega (arith, less)) more) some

  -- and so does one that a row has
  inside_end : (at k len : ℕ) → Own (at + k) → at ≤ row len → row len < at + k → 0 < (all (row len)).most → len ≤ (all (row len)).longest → len < end_of (rows_from at k)
  inside_end at zero len own from to held upto = absurd (omega (arith, from, to))
  inside_end at (suc k) len own from to held upto = elim (cases_eq (row len) at) [
    | inl is ↦
        let some : nat_lt 0 (all at).most ≡ true = lt-ltb 0 (all at).most (subst (λ (i : ℕ). 0 < (all i).most) is held) in
        let here : len ≤ (all at).longest = subst (λ (i : ℕ). len ≤ (all i).longest) is upto in
        last_end (nat_lt 0 (all at).most) (all at) (rows_from (at + 1) k) len (λ _. here)
        (λ more. lower (at + 1) k len (own_next at k own) (omega (arith, is)) more)
        (λ none. some_row (all at) (rows_from (at + 1) k) (subst (λ (b : Bool). cond b (all at ∷ rows_from (at + 1) k) (rows_from (at + 1) k) ≡ []) some none))
    | inr ne ↦ keep_end (nat_lt 0 (all at).most) (all at) (rows_from (at + 1) k) len (inside_end (at + 1) k len (own_next at k own) (omega (arith, ne, from)) (omega (arith, to)) held upto)
  ]

  -- so all lengths that come to no more than the rows do
  all_inside : (to : ℕ) → Own (0 + to) → ((len : ℕ) → row len < to) → (lens : List ℕ) → ((i : ℕ) → i < to → IsWithin (row_in row i lens) (all i)) → AllByRecursion (λ len. len < end_of (rows_from 0 to)) lens
  all_inside to own below [] within = tt
  all_inside to own below (len ∷ lens) within =
      let here = within (row len) (below len) in
      let b : (row len == row len) ≡ true = grind (arith, nat_tests) in
      let one : IsWithin (with_one (row_in row (row len) lens) len) (all (row len)) = subst (λ (c : Bool). IsWithin (cond c (with_one (row_in row (row len) lens) len) (row_in row (row len) lens)) (all (row len))) b here in (
        inside_end 0 to len own (omega arith) (omega (arith, below len)) (omega (arith, one.0)) (omega (arith, one.1)),
        all_inside to own below lens (λ i inside. within_trans _ _ _ (cons_within row i len lens) (within i inside)),
      )

-- ---- one band of lengths

band_one : (from to len : ℕ) → from ≤ len → len < to → (band_of from to len == 1) ≡ true
band_one from to len low high = rw (le-leb from len low, lt-ltb len to high) refl

module _ (row : ℕ → ℕ) (at : ℕ) where
  -- what is within one bound at each moment is within another
  keep_map : (a b : Row) → ((lens : List ℕ) → IsWithin (row_in row at lens) a → IsWithin (row_in row at lens) b) → (inventory : Inventory) (calls : List Call) (answers : List Answer) → KeepWithin row at a inventory calls answers → KeepWithin row at b inventory calls answers
  keep_map a b more inventory [] answers kept = more (lengths inventory) kept
  keep_map a b more inventory (call ∷ calls) [] kept = more (lengths inventory) kept
  keep_map a b more inventory (call ∷ calls) (answer ∷ answers) kept = (more (lengths_with inventory call) kept.0, keep_map a b more (inventory_after inventory call answer) calls answers kept.1)

module _ (from to : ℕ) (above : 0 < to) where
  abbrev Band : ℕ → ℕ
  Band = band_of from to

  -- no length of a band is past it
  band_short : (lens : List ℕ) → (row_in Band 1 lens).longest < to
  band_short [] = above
  band_short (len ∷ lens) = elim (cases_lt len to) [
    | inl high ↦ by (Band len == 1) high (band_short lens)
    | inr past ↦ let b : (Band len == 1) ≡ false = rw (le-ltb len to past) (out (nat_le from len)) in rw b (band_short lens)
  ]
    where
      out : (b : Bool) → ((cond (b && false) 1 0) == 1) ≡ false
      out true = refl
      out false = refl

      by : (b : Bool) → len < to → (row_in Band 1 lens).longest < to → (cond b (with_one (row_in Band 1 lens) len) (row_in Band 1 lens)).longest < to
      by true high rest = omega (arith, high, rest)
      by false high rest = rest

  -- nor is the longest that is held of it
  longest_short : (calls : List Call) (answers : List Answer) (row : Row) → IsBandRow calls answers from to row → row.longest < to
  longest_short calls answers row is =
      let bound : Row = record { most = row.most; longest = to - 1 } in
      let kept = keep_map Band 1 row bound (λ lens within. (within.0, omega (arith, band_short lens))) [] calls answers ((is row).1 (same_within row)) in
      omega (arith, ((is bound).0 kept).1, above)

  module _ (row : Row) (short : row.longest < to) where
    abbrev IsFrom : ℕ → Type 0
    IsFrom len = from ≤ len

    -- those up to the longest count for the band
    counted : (lens : List ℕ) → AllByRecursion (λ len. from ≤ len) lens → length (filter (λ n. nat_le n row.longest) lens) ≤ (row_in Band 1 lens).most
    counted [] low = omega arith
    counted (len ∷ lens) low = elim (cases_lt row.longest len) [
      | inl past ↦
          let b : nat_le len row.longest ≡ false = lt-leb len row.longest past in
          rw b (omega (arith, counted lens low.1, (cons_within Band 1 len lens).0))
      | inr upto ↦
          let a : nat_le len row.longest ≡ true = le-leb len row.longest upto in
          let b : (Band len == 1) ≡ true = band_one from to len low.0 (omega (arith, upto, short)) in
          rw (a, b) (omega (arith, counted lens low.1))
    ]

    -- and the others come after it
    rest_after : (end : ℕ) (lens : List ℕ) → (row_in Band 1 lens).longest ≤ row.longest → AllByRecursion (λ len. (from ≤ len) × (len < end)) lens → AllByRecursion (λ len. (to ≤ len) × (len < end)) (filter (λ n. nat_lt row.longest n) lens)
    rest_after end [] within between = tt
    rest_after end (len ∷ lens) within between =
        let rest = rest_after end lens (omega (arith, within, (cons_within Band 1 len lens).1)) between.1 in elim (cases_lt row.longest len) [
          | inl past ↦ rw (lt-ltb row.longest len past) ((after past, between.0.1), rest)
          | inr upto ↦ rw (le-ltb row.longest len upto) rest
        ]
      where
        after : row.longest < len → to ≤ len
        after past = elim (cases_lt len to) [
          | inl high ↦
              let b : (Band len == 1) ≡ true = band_one from to len between.0.0 high in
              let here : (with_one (row_in Band 1 lens) len).longest ≤ row.longest = subst (λ (c : Bool). (cond c (with_one (row_in Band 1 lens) len) (row_in Band 1 lens)).longest ≤ row.longest) b within in
              absurd (omega (arith, here, past))
          | inr far ↦ far
        ]

-- ---- a merged table

lows : (from end : ℕ) (lens : List ℕ) → AllByRecursion (λ len. (from ≤ len) × (len < end)) lens → AllByRecursion (λ len. from ≤ len) lens
lows from end [] all = tt
lows from end (len ∷ lens) all = (all.0.0, lows from end lens all.1)

none_left : (from end : ℕ) (lens : List ℕ) → from ≡ end → AllByRecursion (λ len. (from ≤ len) × (len < end)) lens → lens ≡ []
none_left from end [] same all = refl
none_left from end (len ∷ lens) same all = absurd (omega (arith, same, all.0.0, all.0.1))

module _ (calls : List Call) (answers : List Answer) (table : List Row) where
  -- each band of the calls bounds these lengths
  abbrev AreBanded : List ℕ → Type 0
  AreBanded lens = (from to : ℕ) (row : Row) → IsBandRow calls answers from to row → IsWithin (row_in (band_of from to) 1 lens) row

  of_merged : (at : ℕ) (lens : List ℕ) (rows : List Row) → AreMerged calls answers table at lens rows → (held : List ℕ) → AreBanded held → AllByRecursion (λ len. (starts_at table at ≤ len) × (len < end_of table)) held → AreOfKinds (kinds_of rows) held
  of_merged at [] [] merged held banded between = none_left (starts_at table at) (end_of table) held (ap (starts_at table) merged) between
  of_merged at [] (row ∷ rows) merged held banded between = absurd merged
  of_merged at (n ∷ lens) [] merged held banded between = absurd merged
  of_merged at (n ∷ lens) (row ∷ rows) merged held banded between =
      let from = starts_at table at in
      let to = starts_at table (at + n) in
      let above : 0 < to = starts_above table (at + n) (omega (arith, merged.0)) in
      let short : row.longest < to = longest_short from to above calls answers row merged.2 in
      let within = banded from to row merged.2 in (
        omega (arith, counted from to above row short held (lows from (end_of table) held between), within.0),
        of_merged (at + n) lens rows merged.3 (filter (λ n. nat_lt row.longest n) held)
            (λ f t r is. within_trans _ _ _ (fewer_within (band_of f t) 1 (λ n. nat_lt row.longest n) held) (banded f t r is))
            (rest_after from to above row short (end_of table) held within.1 between),
      )

  module _ (lens : List ℕ) (rows : List Row) (merged : AreMerged calls answers table 0 lens rows) where
    from_start : (held : List ℕ) → AllByRecursion (λ len. len < end_of table) held → AllByRecursion (λ len. (starts_at table 0 ≤ len) × (len < end_of table)) held
    from_start [] all = tt
    from_start (len ∷ held) all = ((omega (arith, starts_zero table), all.0), from_start held all.1)

    -- at each moment from one on the bands bound what is held, and each length counts for a row
    abbrev Bounded : Inventory → List Call → List Answer → Type 0
    Bounded inventory cs told = (from to : ℕ) (row : Row) → IsBandRow calls answers from to row → KeepWithin (band_of from to) 1 row inventory cs told

    one_planned : (inventory : Inventory) (call : Call) (answer : Answer) (cs : List Call) (told : List Answer) → Bounded inventory (call ∷ cs) (answer ∷ told) → AllByRecursion (λ len. len < end_of table) (lengths_with inventory call) → IsPlanned (kinds_of rows) inventory call
    one_planned inventory (Allocate n) answer cs told bounded inside = of_merged 0 lens rows merged (n ∷ lengths inventory) (λ from to row is. (bounded from to row is).0) (from_start (n ∷ lengths inventory) inside)
    one_planned inventory call answer cs told bounded inside = tt

module _ (row : ℕ → ℕ) (rises : (a b : ℕ) → a ≤ b → row a ≤ row b) (all : ℕ → Row) (to : ℕ) (own : Own row rises all (0 + to)) (below : (len : ℕ) → row len < to) where
  abbrev whole : List Row
  whole = rows_from row rises all 0 to

  module _ (calls : List Call) (answers : List Answer) (lens : List ℕ) (rows : List Row) (merged : AreMerged calls answers whole 0 lens rows) where
    all_planned : (inventory : Inventory) (cs : List Call) (told : List Answer) → Bounded calls answers whole lens rows merged inventory cs told → ((i : ℕ) → i < to → KeepWithin row i (all i) inventory cs told)
        → ArePlanned (kinds_of rows) inventory cs told
    all_planned inventory [] told bounded kept = tt
    all_planned inventory (call ∷ cs) [] bounded kept = tt
    all_planned inventory (call ∷ cs) (answer ∷ told) bounded kept = (
      one_planned calls answers whole lens rows merged inventory call answer cs told bounded
          (all_inside row rises all to own below (lengths_with inventory call) (λ i inside. (kept i inside).0)),
      all_planned (inventory_after inventory call answer) cs told (λ f t r is. (bounded f t r is).1) (λ i inside. (kept i inside).1),
    )

-- the calls keep to the kinds of a merged table
merged_planned : (sli heaps : ℕ) → IsLevel sli → (calls : List Call) (answers : List Answer) (rows : List Row) → IsMergedTable sli heaps calls answers rows → ArePlanned (kinds_of rows) [] calls answers
merged_planned sli heaps level calls answers rows is =
    let are = is.is_table.are in
    let grain = is.is_table.grain in
    let merge = is.merged.merge in
    all_planned (row_of sli grain) (row_rises sli level grain) are.all (row_count sli grain) (λ i inside. are.own i (omega (arith, inside))) (row_below sli level grain) calls answers merge.lens rows
    (subst (λ (t : List Row). AreMerged calls answers t 0 merge.lens rows) are.rows_are merge.are)
    [] calls answers (λ from to row is. (is row).1 (same_within row)) (λ i inside. (are.least i inside (are.all i)).1 (same_within (are.all i)))

-- ---- pools

abbrev no_kind : Kind
no_kind = record { most = 0; len = 0 }

-- as many numbers as rows
abbrev AreCounts : TableState → Type 0
AreCounts t = length t.ledger.held ≡ length t.ledger.kinds

are_counts : (sli : ℕ) (parts : List TableState) → AllByRecursion (IsTabled sli) parts → AllByRecursion AreCounts parts
are_counts sli [] are = tt
are_counts sli (t ∷ parts) are = (ap length are.0.holds.held ∙ held_length t.ledger.kinds (lengths_in t.heap.blocks), are_counts sli parts are.1)

-- a row of the whole table is that of its part, and so is what is held of it
row_at : (parts : List TableState) (i row : ℕ) → AllByRecursion AreCounts parts → i < length parts → row < length (get_or parts i no_part).ledger.kinds
    → (get_or (rows_in parts) (rows_before parts i + row) no_kind ≡ get_or (get_or parts i no_part).ledger.kinds row no_kind) × (get_or (held_in parts) (rows_before parts i + row) 0 ≡ get_or (get_or parts i no_part).ledger.held row 0)
row_at [] i row counts within short = absurd (omega (arith, within))
row_at (t ∷ parts) zero row counts within short =
    let here : rows_before (t ∷ parts) 0 + row ≡ row = omega arith in (
      ap (λ (n : ℕ). get_or (t.ledger.kinds ++ rows_in parts) n no_kind) here ∙ get_or_append_left t.ledger.kinds (rows_in parts) no_kind row short,
      ap (λ (n : ℕ). get_or (t.ledger.held ++ held_in parts) n 0) here ∙ get_or_append_left t.ledger.held (held_in parts) 0 row (omega (arith, counts.0, short)),
    )
row_at (t ∷ parts) (suc i) row counts within short =
    let rest = row_at parts i row counts.1 (this_row _ _ within) short in
    let more : rows_before (t ∷ parts) (suc i) ≡ length t.ledger.kinds + rows_before parts i = length-append t.ledger.kinds (rows_in (take i parts)) in
    let by_kinds : rows_before (t ∷ parts) (suc i) + row ≡ length t.ledger.kinds + (rows_before parts i + row) = omega (arith, more) in
    let by_held : rows_before (t ∷ parts) (suc i) + row ≡ length t.ledger.held + (rows_before parts i + row) = omega (arith, more, counts.0) in (
      ap (λ (n : ℕ). get_or (t.ledger.kinds ++ rows_in parts) n no_kind) by_kinds ∙ (get_or-append-add t.ledger.kinds (rows_in parts) (rows_before parts i + row) no_kind ∙ rest.0),
      ap (λ (n : ℕ). get_or (t.ledger.held ++ held_in parts) n 0) by_held ∙ (get_or-append-add t.ledger.held (held_in parts) (rows_before parts i + row) 0 ∙ rest.1),
    )

module _ (sli : ℕ) (p : PoolsState) (len : ℕ) (lens : List ℕ) (are : ArePools sli p) (held : held_by p ≡ held_of (table_of p) lens) (fit : AreOfKinds (table_of p) (len ∷ lens)) where
  more : HasOneMore (table_of p) (held_of (table_of p) lens) (place (table_of p) len)
  more = (fit_less (table_of p) len lens fit).1

  abbrev Serves : Type 0
  Serves = IsSomeAnd (part_of p len) (λ i. HasPlace (part_at p i).ledger len)

  in_row : (i row : ℕ) → part_of p len ≡ Some i → i < length p.parts → tables.row_of (part_at p i).ledger.kinds len ≡ Some row → Serves
  in_row i row found within own =
      let whole = row_is (table_of p) len (rows_before p.parts i + row) (whole_row len p.parts i row found own) in
      let short : row < length (part_at p i).ledger.kinds = (row_is (part_at p i).ledger.kinds len row own).1 in
      let same = row_at p.parts i row (are_counts sli p.parts are.tables) within short in
      let few : get_or (held_of (rows_in p.parts) lens) (rows_before p.parts i + row) 0 < (get_or (rows_in p.parts) (rows_before p.parts i + row) no_kind).most =
      subst (λ (k : ℕ). get_or (held_of (rows_in p.parts) lens) k 0 < (get_or (rows_in p.parts) k no_kind).most) (sym whole.0) more.1 in
      let all : get_or (held_in p.parts) (rows_before p.parts i + row) 0 ≡ get_or (held_of (rows_in p.parts) lens) (rows_before p.parts i + row) 0 = ap (λ (l : List ℕ). get_or l (rows_before p.parts i + row) 0) held in
      let there : get_or (get_or p.parts i no_part).ledger.held row 0 < (get_or (get_or p.parts i no_part).ledger.kinds row no_kind).most = omega (arith, few, all, same.1, ap (λ (k : Kind). k.most) same.0) in
      of_some (λ (j : ℕ). HasPlace (part_at p j).ledger len) (part_of p len) i found (of_some (λ (r : ℕ). get_or (part_at p i).ledger.held r 0 < most_at (part_at p i).ledger.kinds r) (tables.row_of (part_at p i).ledger.kinds len) row own there)

  by_row : (i : ℕ) (o : Option ℕ) → tables.row_of (part_at p i).ledger.kinds len ≡ o → part_of p len ≡ Some i → (i < length p.parts) × (tables.row_of (part_at p i).ledger.kinds len ≢ None) → Serves
  by_row i (Some row) own found has = in_row i row found has.0 own
  by_row i None own found has = absurd (has.1 own)

  by_part : (o : Option ℕ) → part_of p len ≡ o → Serves
  by_part (Some i) found = by_row i (tables.row_of (part_at p i).ledger.kinds len) refl found (part_has p.parts len i found)
  by_part None none = let some : tables.row_of (table_of p) len ≡ Some (place (table_of p) len) = row_within (table_of p) len more.0 in absurd (not_both (no_whole_row len p.parts none) some)
    where
      not_both : tables.row_of (table_of p) len ≡ None → tables.row_of (table_of p) len ≡ Some (place (table_of p) len) → ⊥
      not_both a b = cc

  served : Serves
  served = by_part (part_of p len) refl

one_served : (kinds : List Kind) (inventory : Inventory) (call : Call) → IsPlanned kinds inventory call → IsServed kinds inventory call
one_served kinds inventory (Allocate len) planned = λ sli p are same held.
    served sli p len (lengths inventory) are (held ∙ ap (λ (k : List Kind). held_of k (lengths inventory)) (sym same)) (subst (λ (k : List Kind). AreOfKinds k (len ∷ lengths inventory)) (sym same) planned)
one_served kinds inventory call planned = tt

all_served : (kinds : List Kind) (inventory : Inventory) (calls : List Call) (answers : List Answer) → ArePlanned kinds inventory calls answers → EachServed kinds inventory calls answers
all_served kinds inventory [] answers planned = tt
all_served kinds inventory (call ∷ calls) [] planned = tt
all_served kinds inventory (call ∷ calls) (answer ∷ answers) planned = (one_served kinds inventory call planned.0, all_served kinds (inventory_after inventory call answer) calls answers planned.1)

pub pools_enough : HeldPoolsSuffice
pools_enough trace heaps j rows merged =
    let run = run_of trace in
    let calls = calls_on j run.made run.entries in
    let answers = answers_on j run.entries in
    all_served (kinds_of rows) [] calls answers (merged_planned (level_in trace.header) heaps (is_level trace.header.version) calls answers rows merged)
