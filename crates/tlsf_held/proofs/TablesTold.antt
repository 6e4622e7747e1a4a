-- The rows that the entries of a run tell are the table that the calls on the heap keep to.
use Rattle.tlsf_held.proofs.Common.{◌≡◌, ◌⊎◌, ℕ, zero, suc, ◌+◌, ◌<◌, ◌≤◌, Bool, true, false, cond, nat_le, List, [], length, get_or, map, replicate, Option, inl, inr, refl, sym, ap, ap₂, ◌∙◌, subst, arith, nat_lt, range_with_len, leb-true, cases_eq, nat_tests, get_or-map-range_with_len, length-map-range_with_len, IsLevel, Call, Answer, Name, Entry, Event, answers_on, calls_on, World, replies, AreRows, IsLeastRow, IsOfRow, IsTable, first_few, no_rows, rows_told, table_of, used_rows, no_row, row_count, row_of, used, IsWithin, Row}
use Rattle.std.proofs.lemmas.List.{ext_get_or, length-replicate}
use Rattle.std.proofs.lemmas.List.Sums.{length-filter, count_by-le-length}
use Rattle.tlsf_class.proofs.TwoLevels.{by_level}
use Rattle.tlsf_crew.proofs.lemmas.histories.AllEntries.{replies_tell}
use Rattle.tlsf_held.proofs.LeastRows.{all_whole, least_row, own_row, same_within}
use Rattle.tlsf_held.proofs.RowEntries.{entries_rowed, rows_after_all}

-- ---- a list by its places

by_places : (rows : List Row) (count : ℕ) → length rows ≡ count → rows ≡ map (λ at. get_or rows at no_row) (range_with_len 0 count)
by_places rows count whole =
    let all = λ (at : ℕ). get_or rows at no_row in
    ext_get_or no_row rows (map all (range_with_len 0 count)) (whole ∙ sym (length-map-range_with_len all 0 count))
    (λ i inside. sym (get_or-map-range_with_len all 0 count i i no_row (omega (arith, whole, inside)) (omega arith)))

same_places : (f g : ℕ → Row) (count : ℕ) → ((at : ℕ) → at < count → f at ≡ g at) → map f (range_with_len 0 count) ≡ map g (range_with_len 0 count)
same_places f g count same =
    let one = length-map-range_with_len f 0 count in
    ext_get_or no_row (map f (range_with_len 0 count)) (map g (range_with_len 0 count)) (one ∙ sym (length-map-range_with_len g 0 count))
    (λ i inside. let below : i < count = omega (arith, one, inside) in
    get_or-map-range_with_len f 0 count i i no_row below (omega arith) ∙ (same i below ∙ sym (get_or-map-range_with_len g 0 count i i no_row below (omega arith))))

-- ---- the rows of a grain are unique

pub same_row : (a b : Row) → IsWithin a b → IsWithin b a → a ≡ b
same_row a b p q = let most : a.most ≡ b.most = omega (arith, p.0, q.0) in let longest : a.longest ≡ b.longest = omega (arith, p.1, q.1) in
    ap₂ (λ (m n : ℕ). let r : Row = record { most = m; longest = n } in r) most longest

pub one_table : {sli grain : ℕ} (calls : List Call) (answers : List Answer) (rows others : List Row) → AreRows sli grain calls answers rows → AreRows sli grain calls answers others → rows ≡ others
one_table {sli} {grain} calls answers rows others are were =
    are.rows_are ∙ (ap used (same_places are.all were.all (row_count sli grain)
    (λ at inside. same_row (are.all at) (were.all at)
    ((are.least at inside (were.all at)).0 ((were.least at inside (were.all at)).1 (same_within (were.all at))))
    ((were.least at inside (are.all at)).0 ((are.least at inside (are.all at)).1 (same_within (are.all at))))))
    ∙ sym were.rows_are)

-- ---- the first list that is short enough

record IsFirstFew (lists : ℕ → List Row) (at more : ℕ) (found : List Row) : Type 0 where
  place : ℕ
  is : found ≡ lists place
  few : (length (lists place) ≤ 64) ⊎ (place ≡ at + more)
  finer : (k : ℕ) → at ≤ k → k < place → 64 < length (lists k)

by_few : (lists : ℕ → List Row) (at more : ℕ) (b : Bool) (found : List Row) → nat_le (length (lists at)) 64 ≡ b → IsFirstFew lists (at + 1) more found
    → IsFirstFew lists at (suc more) (cond b (lists at) found)
by_few lists at more true found is first = record {
  place = at;
  is = refl;
  few = inl (leb-true (length (lists at)) 64 is);
  finer = λ k low below. absurd (omega (arith, low, below));
}
by_few lists at more false found is first = record {
  place = first.place;
  is = first.is;
  few = elim first.few [ inl few ↦ inl few | inr last ↦ inr (omega (arith, last)) ];
  finer = λ k low below. elim (cases_eq k at) [
    | inl same ↦ let many : 64 < length (lists at) = grind (arith, nat_tests) in subst (λ (n : ℕ). 64 < length (lists n)) (sym same) many
    | inr ne ↦ first.finer k (omega (arith, ne, low)) below
  ];
}

first_is : (lists : ℕ → List Row) (at more : ℕ) → IsFirstFew lists at more (first_few lists at more)
first_is lists at zero = record { place = at; is = refl; few = inr (omega arith); finer = λ k low below. absurd (omega (arith, low, below)) }
first_is lists at (suc more) = by_few lists at more (nat_le (length (lists at)) 64) (first_few lists (at + 1) more) refl (first_is lists (at + 1) more)

-- ---- the table

few_rows : (sli : ℕ) → IsLevel sli → row_count sli 4 ≤ 64
few_rows sli level = by_level (λ n. row_count n 4 ≤ 64) (omega arith) (omega arith) sli level

few_used : (rows : List Row) → length (used rows) ≤ length rows
few_used rows = omega (arith, length-filter (λ (row : Row). nat_lt 0 row.most) rows, count_by-le-length (λ (row : Row). nat_lt 0 row.most) rows)

module _ {sli : ℕ} (level : IsLevel sli) (w : World sli) (es : List Event) (j : ℕ) (inside : j < length w.heaps) where
  abbrev made : List (Option Name)
  made = (replies w es).made

  abbrev entries : List Entry
  entries = (replies w es).entries

  abbrev calls : List Call
  calls = calls_on j made entries

  abbrev answers : List Answer
  answers = answers_on j entries

  told_is : (grain : ℕ) → (rows_told sli grain j made entries).rows ≡ rows_after_all (row_of sli grain) (replicate (row_count sli grain) no_row) [] calls answers
  told_is grain = entries_rowed (row_of sli grain) made (length w.heaps) j inside (no_rows (row_count sli grain)) entries (replies_tell w es).history.each

  told_whole : (grain : ℕ) → length (rows_told sli grain j made entries).rows ≡ row_count sli grain
  told_whole grain = ap (λ (rows : List Row). length rows) (told_is grain)
      ∙ (all_whole (row_of sli grain) (replicate (row_count sli grain) no_row) [] calls answers ∙ length-replicate (row_count sli grain) no_row)

  rows_are : (grain : ℕ) → AreRows sli grain calls answers (used_rows sli j made entries grain)
  rows_are grain =
      let rows = (rows_told sli grain j made entries).rows in
      record {
        all = λ at. get_or rows at no_row;
        least = λ at below. subst (λ (found : List Row). IsLeastRow (row_of sli grain) at calls answers (get_or found at no_row)) (sym (told_is grain))
            (least_row (row_of sli grain) at (row_count sli grain) calls answers below);
        own = λ at below. subst (λ (found : List Row). IsOfRow (row_of sli grain) at (get_or found at no_row)) (sym (told_is grain))
            (own_row (row_of sli grain) at (row_count sli grain) calls answers below);
        rows_are = ap used (by_places rows (row_count sli grain) (told_whole grain));
      }

  pub table_is : IsTable sli calls answers (table_of sli j made entries)
  table_is =
      let first = first_is (used_rows sli j made entries) 0 4 in
      record {
        grain = first.place;
        are = subst (AreRows sli first.place calls answers) (sym first.is) (rows_are first.place);
        few = subst (λ (rows : List Row). length rows ≤ 64) (sym first.is) (short first.few);
        finest = λ finer others below were. subst (λ (rows : List Row). 64 < length rows) (one_table calls answers (used_rows sli j made entries finer) others (rows_are finer) were) (first.finer finer (omega arith) below);
      }
    where
      short : (length (used_rows sli j made entries (first_is (used_rows sli j made entries) 0 4).place) ≤ 64) ⊎ ((first_is (used_rows sli j made entries) 0 4).place ≡ 0 + 4)
          → length (used_rows sli j made entries (first_is (used_rows sli j made entries) 0 4).place) ≤ 64
      short (inl few) = few
      short (inr last) =
          subst (λ (grain : ℕ). length (used_rows sli j made entries grain) ≤ 64) (sym last)
          (omega (arith, few_used (rows_told sli 4 j made entries).rows, told_whole 4, few_rows sli level))
