-- A table that is merged by the steps of its worker is the one that the calls on the heap keep to. It is merged for the fewest
-- words.
use Rattle.tlsf_held.proofs.Common.{◌≡◌, ℕ, suc, ◌+◌, ◌<◌, List, [], ◌∷◌, length, get_or, Option, refl, sym, ap, ap₂, ◌∙◌, subst, arith, IsLevel, Call, Answer, Name, Entry, Event, answers_on, calls_on, entries_of, World, replies, part_row, part_words, rows_by, words_by, Divide, IsCheapest, IsLeastRow, heaps_of, rows_words, band_of, starts_at, AreMerged, IsLeastMerge, IsMergedTable, IsBandRow, no_rows, table_of, no_row, row_between, steps_told, Row, Step}
use Rattle.tlsf_crew.proofs.lemmas.histories.AllEntries.{replies_tell}
use Rattle.tlsf_held.proofs.LeastRows.{least_row, same_within}
use Rattle.tlsf_held.proofs.RowEntries.{entries_rowed}
use Rattle.tlsf_held.proofs.StepsTold.{band_told}
use Rattle.tlsf_held.proofs.TablesTold.{same_row, table_is}

-- ---- as many rows as parts

how_many : (steps : List Step) (table : List Row) (at : ℕ) (lens : List ℕ) → length (rows_by steps table at lens) ≡ length lens
how_many steps table at [] = refl
how_many steps table at (n ∷ lens) = ap suc (how_many steps table (at + n) lens)

-- and equally many words
words_same : (sli : ℕ) (steps : List Step) (table : List Row) (at : ℕ) (lens : List ℕ)
    → rows_words sli (rows_by steps table at lens) ≡ words_by (part_words sli steps table) at lens
words_same sli steps table at [] = refl
words_same sli steps table at (n ∷ lens) = ap (λ (k : ℕ). part_words sli steps table at (at + n) + k) (words_same sli steps table (at + n) lens)

-- ---- rows by steps and rows by calls

-- a least row is the only one
one_row : (row : ℕ → ℕ) (at : ℕ) (calls : List Call) (answers : List Answer) (a b : Row) → IsLeastRow row at calls answers a → IsLeastRow row at calls answers b → a ≡ b
one_row row at calls answers a b p q = same_row a b ((p b).0 ((q b).1 (same_within b))) ((q a).0 ((p a).1 (same_within a)))

module _ (calls : List Call) (answers : List Answer) (steps : List Step) (bands : (from to : ℕ) → IsBandRow calls answers from to (row_between steps from to)) (table : List Row) where
  are_merged : (at : ℕ) (lens : List ℕ) → Divide (length table) at lens → AreMerged calls answers table at lens (rows_by steps table at lens)
  are_merged at [] divide = divide
  are_merged at (n ∷ lens) divide = (divide.0, divide.1, bands (starts_at table at) (starts_at table (at + n)), are_merged (at + n) lens divide.2)

  divided : (at : ℕ) (lens : List ℕ) (rows : List Row) → AreMerged calls answers table at lens rows → Divide (length table) at lens
  divided at [] [] merged = merged
  divided at [] (row ∷ rows) merged = absurd merged
  divided at (n ∷ lens) [] merged = absurd merged
  divided at (n ∷ lens) (row ∷ rows) merged = (merged.0, merged.1, divided (at + n) lens rows merged.3)

  -- merged rows are those by steps
  only_so : (at : ℕ) (lens : List ℕ) (rows : List Row) → AreMerged calls answers table at lens rows → rows ≡ rows_by steps table at lens
  only_so at [] [] merged = refl
  only_so at [] (row ∷ rows) merged = absurd merged
  only_so at (n ∷ lens) [] merged = absurd merged
  only_so at (n ∷ lens) (row ∷ rows) merged =
      ap₂ (λ (r : Row) (rs : List Row). r ∷ rs)
      (one_row (band_of (starts_at table at) (starts_at table (at + n))) 1 calls answers row (part_row steps table at (at + n)) merged.2 (bands (starts_at table at) (starts_at table (at + n))))
      (only_so (at + n) lens rows merged.3)

  least_merge : (sli heaps : ℕ) (rows : List Row) → IsCheapest sli heaps steps table rows → IsLeastMerge sli heaps calls answers table rows
  least_merge sli heaps rows is = record {
    merge = record { lens = is.lens; are = subst (AreMerged calls answers table 0 is.lens) (sym is.rows_are) (are_merged 0 is.lens is.divide) };
    few = omega (arith, ap (λ (rs : List Row). length rs) is.rows_are, how_many steps table 0 is.lens, is.few);
    least = λ others merge few.
        let same = only_so 0 merge.lens others merge.are in
        let words = ap (rows_words sli) is.rows_are ∙ words_same sli steps table 0 is.lens in
        let other_words = ap (rows_words sli) same ∙ words_same sli steps table 0 merge.lens in
        let other_many = ap (λ (rs : List Row). length rs) same ∙ how_many steps table 0 merge.lens in
        let upto = is.least merge.lens (divided 0 merge.lens others merge.are) (omega (arith, other_many, few)) in
        omega (arith, words, other_words, upto);
  }

-- ---- of a worker

module _ {sli : ℕ} (level : IsLevel sli) (w : World sli) (es : List Event) (j : ℕ) (inside : j < length w.heaps) where
  abbrev made : List (Option Name)
  made = (replies w es).made

  abbrev entries : List Entry
  entries = (replies w es).entries

  band_is : (from to : ℕ) → IsBandRow (calls_on j made entries) (answers_on j entries) from to (row_between (steps_told j made entries) from to)
  band_is from to =
      subst (λ (row : Row). IsBandRow (calls_on j made entries) (answers_on j entries) from to row)
      (sym (band_told from to made (entries_of j entries)
      ∙ ap (λ (rows : List Row). get_or rows 1 no_row) (entries_rowed (band_of from to) made (length w.heaps) j inside (no_rows 2) entries (replies_tell w es).history.each)))
      (least_row (band_of from to) 1 2 (calls_on j made entries) (answers_on j entries) (omega arith))

  pub merged_is : (heaps : ℕ) (rows : List Row) → IsCheapest sli (heaps_of heaps) (steps_told j made entries) (table_of sli j made entries) rows
      → IsMergedTable sli heaps (calls_on j made entries) (answers_on j entries) rows
  merged_is heaps rows cheapest = record {
    table = table_of sli j made entries;
    is_table = table_is level w es j inside;
    merged = least_merge (calls_on j made entries) (answers_on j entries) (steps_told j made entries) band_is (table_of sli j made entries) sli (heaps_of heaps) rows cheapest;
  }
