-- The clauses of a table's calls.
use Rattle.tlsf_pool.proofs.Common.{◌≡◌, ◌≢◌, ℕ, zero, suc, ◌+◌, ◌-◌, ◌<◌, ◌≤◌, ◌↔◌, List, [], ◌∷◌, length, get_or, set, Option, Some, None, Ok, Err, refl, sym, ap, ◌∙◌, subst, inl, inr, arith, le_trans, sum, IsSomeAnd, slice_index, cases_lt, HeapState, bytes_of, want, payload_words_at, block_at, IsGrant, live_among, named, released, Name, NoFit, fixed_size, AreOfKinds, count_in, HasPlace, HoldsOneMore, IsFull, IsTable, TableRows, held_of, lengths_in, most_at, row_of, table_allocated, get_or-set_same}
use Rattle.tlsf_heap.specs.InPlace.{payload_of}
use Rattle.tlsf_heap.specs.Named.{IsNamed}
use Rattle.tlsf_heap.proofs.lemmas.calls.Alter.{payload_is}
use Rattle.tlsf_pool.proofs.lemmas.pools.RowTotals.{HasOneMore, fit_less, fit_more, held_few, held_length, held_more, held_sum, none, place, row_is, row_within, same_held}
use Rattle.tlsf_pool.proofs.lemmas.pools.TableKept.{given_table, taken_fit, taken_lengths, taken_table}
use Rattle.tlsf_pool.proofs.lemmas.laws.PlannedCalls.{live_lengths}
use Rattle.tlsf_pool.proofs.lemmas.pools.Served.{fits_longest, four, has_room, lengths_load, longest_used, modest, no_longer}
use Rattle.tlsf_pool.proofs.lemmas.laws.FreeRoom.{sure_enough, wants}
use Rattle.tlsf_pool.proofs.lemmas.pools.Given.{given_whole}
use Rattle.tlsf_pool.proofs.lemmas.pools.PoolKept.{whole_words}

module _ {X : Type 0} (P : X → Type 0) where
  -- a fact of the row that there is
  pub of_some : (o : Option X) (x : X) → o ≡ Some x → P x → IsSomeAnd o P
  of_some o x e p = subst (λ (o : Option X). IsSomeAnd o P) (sym e) p

  pub none_some : (o : Option X) → o ≡ None → IsSomeAnd o P → ⊥
  none_some o e p = subst (λ (o : Option X). IsSomeAnd o P) e p

  -- where there is one, it is found
  pub some_of : (o : Option X) → IsSomeAnd o P → (x : X) × (o ≡ Some x) × P x
  some_of None p = absurd p
  some_of (Some x) p = (x, refl, p)

-- ---- a count one higher

-- where one count goes up by one, they were the same before
pub same_but_one : (xs ys : List ℕ) (i : ℕ) → set xs i (get_or xs i 0 + 1) ≡ set ys i (get_or ys i 0 + 1) → xs ≡ ys
same_but_one [] [] i same = refl
same_but_one [] (y ∷ ys) zero same = absurd cc
same_but_one [] (y ∷ ys) (suc i) same = absurd cc
same_but_one (x ∷ xs) [] zero same = absurd cc
same_but_one (x ∷ xs) [] (suc i) same = absurd cc
same_but_one (x ∷ xs) (y ∷ ys) zero same =
    let more : x + 1 ≡ y + 1 = cc in
    let head : x ≡ y = omega (arith, more) in
    let rest : xs ≡ ys = cc in
    cc
same_but_one (x ∷ xs) (y ∷ ys) (suc i) same =
    let head : x ≡ y = cc in
    let rest : xs ≡ ys = same_but_one xs ys i cc in
    cc

module _ (sli : ℕ) (h : HeapState) (t : TableRows) (is : IsTable sli h t) where
  -- a request has a place just where the law lets a program make it
  pub planned : (len : ℕ) → HasPlace t len → AreOfKinds t.kinds (len ∷ lengths_in h.blocks)
  planned len has =
      let row = some_of (λ (row : ℕ). slice_index t.held row < most_at t.kinds row) (row_of t.kinds len) has in
      let at = row_is t.kinds len row.0 row.1 in
      let few : get_or t.held row.0 0 < (get_or t.kinds row.0 none).most = row.2 in
      let has : HasOneMore t.kinds (held_of t.kinds (lengths_in h.blocks)) row.0 = subst (λ (held : List ℕ). HasOneMore t.kinds held row.0) is.held (at.1, few) in
      fit_more t.kinds len (lengths_in h.blocks) is.fit (subst (HasOneMore t.kinds (held_of t.kinds (lengths_in h.blocks))) at.0 has)

  pub has_place : (len : ℕ) → AreOfKinds t.kinds (len ∷ lengths_in h.blocks) → HasPlace t len
  has_place len fit =
      let has = (fit_less t.kinds len (lengths_in h.blocks) fit).1 in
      let own : HasOneMore t.kinds t.held (place t.kinds len) = subst (λ (held : List ℕ). HasOneMore t.kinds held (place t.kinds len)) (sym is.held) has in
      of_some (λ (row : ℕ). slice_index t.held row < most_at t.kinds row) (row_of t.kinds len) (place t.kinds len) (row_within t.kinds len has.0) own.1

  pub is_planned : (len : ℕ) → HasPlace t len ↔ AreOfKinds t.kinds (len ∷ lengths_in h.blocks)
  is_planned len = (planned len, has_place len)

  -- a request with a place wants no more words than each block has
  pub enough_words : (len : ℕ) → HasPlace t len → want len ≤ fixed_size sli t.kinds
  enough_words len has =
      let short = no_longer t.kinds len (lengths_in h.blocks) (planned len has) in
      omega (arith, wants len _ short, sure_enough sli is.level _ (longest_used sli is.level t.kinds is.classes))

  -- and finds room
  pub room : (len : ℕ) → HasPlace t len → (table_allocated sli h t len).answer ≢ Err NoFit
  room len has = has_room sli h t is len (planned len has)

  -- and is no longer than the grant
  pub granted : (grant : ℕ) → IsGrant sli h.blocks grant → (len : ℕ) → HasPlace t len → len ≤ grant
  granted grant served len has =
      let fit = planned len has in
      le_trans (no_longer t.kinds len (lengths_in h.blocks) fit) (served.greatest _ (fits_longest sli h t is len fit))

  -- as many blocks are live as are held
  pub live_held : length (live_among h.blocks) ≡ sum t.held
  live_held = live_lengths h.blocks (lengths_in h.blocks) (λ f. lengths_load f h.blocks) ∙ (sym (held_sum t.kinds (lengths_in h.blocks) is.fit) ∙ ap sum (sym is.held))

  -- no more are held of a row than may be
  pub few_held : (row : ℕ) → slice_index t.held row ≤ most_at t.kinds row
  few_held row = subst (λ (held : List ℕ). get_or held row 0 ≤ (get_or t.kinds row none).most) (sym is.held) (held_few t.kinds (lengths_in h.blocks) is.fit row)

  -- each row has a count
  pub as_long : length t.held ≡ length t.kinds
  as_long = ap length is.held ∙ held_length t.kinds (lengths_in h.blocks)

  -- the row of a length has a count
  pub row_held : (len row : ℕ) → row_of t.kinds len ≡ Some row → row < length t.held
  row_held len row found = subst (λ (n : ℕ). row < n) (sym as_long) (row_is t.kinds len row found).1

  -- where not fewer are held than may be, just this number is held
  pub full_at : (len row : ℕ) → row_of t.kinds len ≡ Some row → (slice_index t.held row < most_at t.kinds row → ⊥) → IsFull t len
  full_at len row found not =
      of_some (λ (row : ℕ). slice_index t.held row ≡ most_at t.kinds row) (row_of t.kinds len) row found
      (elim (cases_lt (slice_index t.held row) (most_at t.kinds row)) [ inl less ↦ absurd (not less) | inr above ↦ omega (arith, above, few_held row) ])

  -- an allocate in a row where fewer are held than may be leaves a table
  pub given_at : (row len : ℕ) (name : Name) (held : List ℕ) → row_of t.kinds len ≡ Some row → slice_index t.held row < most_at t.kinds row
      → held ≡ set t.held row (slice_index t.held row + 1) → Ok name ≡ (table_allocated sli h t len).answer → IsTable sli (table_allocated sli h t len).heap (record { kinds = t.kinds; held = held; extents = t.extents })
  given_at row len name held found few counts answer =
      given_table sli h t is len name held (planned len (of_some (λ (row : ℕ). slice_index t.held row < most_at t.kinds row) (row_of t.kinds len) row found few))
      (subst (λ (r : ℕ). held ≡ set t.held r (slice_index t.held r + 1)) (row_is t.kinds len row found).0 counts) answer

  -- before a release that was done, its block counted for a row
  pub take_one : (name : Name) (len : ℕ) → len ≡ length (payload_of h name) → Ok tt ≡ (released h name).answer → IsSomeAnd (row_of t.kinds len) (λ (row : ℕ). (row < length t.held) × (0 < slice_index t.held row))
  take_one name len same answer =
      let left : List ℕ = lengths_in (released h name).heap.blocks in
      let n : ℕ = length (payload_of h name) in
      let has = (fit_less t.kinds n left (taken_fit sli h t is name answer)).1 in
      let p : ℕ = place t.kinds n in
      let counts : t.held ≡ set (held_of t.kinds left) p (get_or (held_of t.kinds left) p 0 + 1) = is.held ∙ (sym (same_held t.kinds (n ∷ left) (lengths_in h.blocks) (taken_lengths h name answer)) ∙ held_more t.kinds n left) in
      let within : p < length (held_of t.kinds left) = subst (λ (m : ℕ). p < m) (sym (held_length t.kinds left)) has.0 in
      let here : get_or t.held p 0 ≡ get_or (held_of t.kinds left) p 0 + 1 = ap (λ (xs : List ℕ). get_or xs p 0) counts ∙ get_or-set_same (held_of t.kinds left) p (get_or (held_of t.kinds left) p 0 + 1) 0 within in
      subst (λ (m : ℕ). IsSomeAnd (row_of t.kinds m) (λ (row : ℕ). (row < length t.held) × (0 < slice_index t.held row))) (sym same)
      (of_some (λ (row : ℕ). (row < length t.held) × (0 < slice_index t.held row)) (row_of t.kinds n) p (row_within t.kinds n has.0) (subst (λ (m : ℕ). p < m) (sym as_long) has.0, omega (arith, here)))

  -- after one fewer is held of that row it is a table
  pub taken_at : (name : Name) (len : ℕ) (held : List ℕ) → len ≡ length (payload_of h name) → HoldsOneMore t.kinds len held t.held → Ok tt ≡ (released h name).answer
      → IsTable sli (released h name).heap (record { kinds = t.kinds; held = held; extents = t.extents })
  taken_at name len held same holds answer =
      let rest : List ℕ = lengths_in (released h name).heap.blocks in
      let n : ℕ = length (payload_of h name) in
      let own = subst (λ (m : ℕ). HoldsOneMore t.kinds m held t.held) same holds in
      let row = some_of (λ (row : ℕ). t.held ≡ set held row (slice_index held row + 1)) (row_of t.kinds n) own in
      let counts : t.held ≡ set (held_of t.kinds rest) (place t.kinds n) (get_or (held_of t.kinds rest) (place t.kinds n) 0 + 1) =
      is.held ∙ (sym (same_held t.kinds (n ∷ rest) (lengths_in h.blocks) (taken_lengths h name answer)) ∙ held_more t.kinds n rest) in
      let at : t.held ≡ set held (place t.kinds n) (get_or held (place t.kinds n) 0 + 1) = subst (λ (r : ℕ). t.held ≡ set held r (get_or held r 0 + 1)) (row_is t.kinds n row.0 row.1).0 row.2 in
      taken_table sli h t is name held answer (same_but_one held (held_of t.kinds rest) (place t.kinds n) (sym at ∙ counts))

  -- the block that the heap gave has the words of each
  pub given_words : (row len : ℕ) (name : Name) → row_of t.kinds len ≡ Some row → slice_index t.held row < most_at t.kinds row → Ok name ≡ (table_allocated sli h t len).answer
      → payload_words_at (named name (table_allocated sli h t len).heap.blocks) ≤ fixed_size sli t.kinds - 3
  given_words row len name found few answer =
      let least = four sli h t is in
      let some : 0 < count_in t.kinds = omega (arith, (modest sli h t is len (planned len (of_some (λ (row : ℕ). slice_index t.held row < most_at t.kinds row) (row_of t.kinds len) row found few))).1) in
      let given = given_at row len name _ found few refl answer in
      given_whole (fixed_size sli t.kinds) name (table_allocated sli h t len).heap least given.lawful given.fixed (whole_words (fixed_size sli t.kinds) (count_in t.kinds) _ least some given.words)

-- the bytes of the block of a name
pub len_is : (h : HeapState) (name : Name) (len : ℕ) (check : (is_named : IsNamed h name) × (len ≡ length (bytes_of (block_at h.blocks is_named.1.0)))) → len ≡ length (payload_of h name)
len_is h name len check = check.1 ∙ sym (ap length (payload_is h name check.0))
