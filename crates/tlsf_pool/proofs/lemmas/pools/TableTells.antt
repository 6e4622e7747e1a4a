-- The facts that the answers of a table tell.
use Rattle.tlsf_pool.proofs.Common.{◌≡◌, ℕ, ◌<◌, ◌≤◌, Option, Some, None, Result, Err, refl, subst, arith, nat_lt, slice_index, nat_tests, IsSomeAnd, HeapState, Name, PoolRefusal, TooLong, Full, or_worn, HasPlace, IsFull, IsTable, TableRows, TellsTable, answered_by_table, answered_in, most_at, row_of, table_allocated, fixed_size}
use Rattle.tlsf_pool.proofs.lemmas.pools.Answering.{of_some, none_some, full_at, given_words, is_planned, planned, room}
use Rattle.tlsf_pool.proofs.lemmas.pools.Served.{fits_table}
use Rattle.tlsf_pool.proofs.lemmas.pools.PoolTells.{Answers, tells_full, tells_long, tells_served}
use Rattle.tlsf_pool.proofs.lemmas.laws.Refits.{whether}

module _ (sli : ℕ) (h : HeapState) (t : TableRows) (len : ℕ) (is : IsTable sli h t) where
  abbrev s : ℕ
  s = fixed_size sli t.kinds

  abbrev pub Tells : Result Name PoolRefusal → Type 0
  Tells answer = TellsTable sli h t len answer

  abbrev IsUnder : ℕ → Type 0
  IsUnder row = slice_index t.held row < most_at t.kinds row

  abbrev IsAt : ℕ → Type 0
  IsAt row = slice_index t.held row ≡ most_at t.kinds row

  told : (answer : Result Name PoolRefusal) → Answers sli h s len (row_of t.kinds len ≡ None) (IsFull t len) (HasPlace t len) answer → Tells answer
  told answer a = record {
    ok = a.ok;
    planned = is_planned sli h t is len;
    too_long = a.too_long;
    full = a.full;
    room = room sli h t is len;
    given = a.given;
    name = a.name;
  }

  -- a fact of the row that is found
  of_row : (P : ℕ → Type 0) (row : ℕ) → row_of t.kinds len ≡ Some row → IsSomeAnd (row_of t.kinds len) P → P row
  of_row P row found b = subst (λ (o : Option ℕ). IsSomeAnd o P) found b

  there : (row : ℕ) → row_of t.kinds len ≡ Some row → ¬ (row_of t.kinds len ≡ None)
  there row found none = let no : ⊥ = cc in no

  by_row : (o : Option ℕ) → row_of t.kinds len ≡ o → Tells (answered_in t (table_allocated sli h t len).answer o)
  by_row None none = told (Err TooLong) (tells_long sli h s len none (none_some IsAt (row_of t.kinds len) none) (none_some IsUnder (row_of t.kinds len) none))
  by_row (Some row) found = whether Tells (nat_lt (slice_index t.held row) (most_at t.kinds row)) (or_worn (table_allocated sli h t len).answer) (Err Full) (λ less.
      let few : slice_index t.held row < most_at t.kinds row = grind (arith, nat_tests, less) in
      let has = of_some IsUnder (row_of t.kinds len) row found few in
      told (or_worn (table_allocated sli h t len).answer) (tells_served sli h s len (there row found) (λ b. let same : slice_index t.held row ≡ most_at t.kinds row = of_row IsAt row found b in omega (arith, few, same)) has
      (fits_table sli h t is len (planned sli h t is len has)) (λ name e. given_words sli h t is row len name found few e) (table_allocated sli h t len).answer refl)) (λ past.
      let above : most_at t.kinds row ≤ slice_index t.held row = grind (arith, nat_tests, past) in
      let not : ¬ (slice_index t.held row < most_at t.kinds row) = λ less. omega (arith, less, above) in
      told (Err Full) (tells_full sli h s len (there row found) (full_at sli h t is len row found not) (λ b. not (of_row IsUnder row found b))))

  pub table_tells : Tells (answered_by_table t len (table_allocated sli h t len).answer)
  table_tells = by_row (row_of t.kinds len) refl
