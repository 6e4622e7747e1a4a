-- The words that the entries of a run account for and the rows that they tell, by the calls on the heap and its answers.
use Rattle.tlsf_held.proofs.Common.{◌≡◌, ◌+◌, ◌==◌, ℕ, ◌<◌, Bool, true, false, true≢false, cond, List, [], ◌∷◌, All, fold, max, Option, Some, None, Result, Ok, Err, refl, sym, ap, ◌∙◌, is_ok, is_some, option_map, want, Name, Refusal, Inventory, inventory_after, lengths, with_length, Allocate, Release, Write, Read, Resize, Take, Drain, Heap, Entry, Reply, Made, Freed, Resized, Took, Refused, answer_told, answers_on, call_on_own, calls_on, entries_of, meant, name_on_heap, name_of, accounted, wanted_in, with_resized, with_taken, Account, row_accounted, with_lengths, RowAccount, Row}
use Rattle.tlsf_heap.specs.Calls as heap
use Rattle.tlsf_calls.specs.Bytes.{bytes_of}
use Rattle.tlsf_calls.specs.declared.call.Call.{Call}
use Rattle.tlsf_crew.proofs.lemmas.histories.JoinedEntries.{HasItsAnswer}
use Rattle.tlsf_held.proofs.Entries.{after_all, after_one, by_call, entries_told, no_answer, quiet}

-- ---- by the calls on the heap and its answers

-- the most words once a block was resized, or not
abbrev pub most_resized : Account → Name → ℕ → heap.Answer → ℕ
most_resized a name len (heap.Resized (Ok done)) = max a.most (wanted_in (with_length a.inventory name len))
most_resized a name len answer = a.most

abbrev pub most_after : Account → heap.Call → heap.Answer → ℕ
most_after a (heap.Allocate len) answer = max a.most (want len + wanted_in a.inventory)
most_after a (heap.Resize name len) answer = most_resized a name len answer
most_after a call answer = a.most

-- a call more
abbrev pub account_after : Account → heap.Call → heap.Answer → Account
account_after a call answer = record { inventory = inventory_after a.inventory call answer; most = most_after a call answer }

-- a block resized, or not
abbrev pub rows_behind : (ℕ → ℕ) → List Row → ℕ → heap.Answer → Inventory → List Row
rows_behind row rows len (heap.Resized (Ok done)) inventory = with_lengths row rows len (lengths inventory)
rows_behind row rows len answer inventory = rows

-- a call more, by what is held before it and after it
abbrev pub rows_after : (ℕ → ℕ) → List Row → heap.Call → heap.Answer → (before behind : Inventory) → List Row
rows_after row rows (heap.Allocate len) answer before behind = with_lengths row rows len (len ∷ lengths before)
rows_after row rows (heap.Resize name len) answer before behind = rows_behind row rows len answer behind
rows_after row rows call answer before behind = rows

-- and calls in turn
abbrev pub rows_after_all : (ℕ → ℕ) → List Row → Inventory → List heap.Call → List heap.Answer → List Row
rows_after_all row rows inventory [] answers = rows
rows_after_all row rows inventory (call ∷ calls) [] = rows
rows_after_all row rows inventory (call ∷ calls) (answer ∷ answers) =
    rows_after_all row (rows_after row rows call answer inventory (inventory_after inventory call answer)) (inventory_after inventory call answer) calls answers

-- both
abbrev row_after : (ℕ → ℕ) → RowAccount → heap.Call → heap.Answer → RowAccount
row_after row told call answer =
    let next = account_after told.account call answer in record { account = next; rows = rows_after row told.rows call answer told.account.inventory next.inventory }

-- ---- one entry

module _ (row : ℕ → ℕ) (made : List (Option Name)) where
  written : (told : RowAccount) (at : ℕ) (bytes : List ℕ) (name : Name) (answer : heap.Answer) → told ≡ row_after row told (heap.Write name at bytes) answer
  written told at bytes name (heap.Allocated r) = refl
  written told at bytes name answer = refl

  read : (told : RowAccount) (at n : ℕ) (name : Name) (answer : heap.Answer) → told ≡ row_after row told (heap.Read name at n) answer
  read told at n name (heap.Allocated r) = refl
  read told at n name answer = refl

  -- a block is taken back
  abbrev freed : RowAccount → Option Name → RowAccount
  freed told o = record { account = with_taken told.account o; rows = told.rows }

  own_freed : (told : RowAccount) (name : Name) (own : Bool) → is_some (option_map heap.Release (cond own (Some name) None)) ≡ true
      → freed told (Some name) ≡ after_one (row_after row) told (option_map heap.Release (cond own (Some name) None)) (Some (heap.Released (Ok tt)))
  own_freed told name true some = refl
  own_freed told name false some = absurd (true≢false (sym some))

  of_freed : (told : RowAccount) (at : ℕ) (o : Option Name) → is_some (option_map heap.Release (name_on_heap at o)) ≡ true
      → freed told o ≡ after_one (row_after row) told (option_map heap.Release (name_on_heap at o)) (Some (heap.Released (Ok tt)))
  of_freed told at None some = absurd (true≢false (sym some))
  of_freed told at (Some name) some = own_freed told name (name.heap == at) some

  of_post : (told : RowAccount) (name : Name) (r : Result (Unit {0}) Refusal) → freed told (cond (is_ok r) (Some name) None) ≡ row_after row told (heap.Release name) (heap.Released r)
  of_post told name (Ok done) = refl
  of_post told name (Err why) = refl

  -- and one is resized
  abbrev longer : RowAccount → ℕ → Option Name → RowAccount
  longer told len o = let next = with_resized told.account len o in record { account = next; rows = with_lengths row told.rows len (lengths next.inventory) }

  of_resized : (told : RowAccount) (len : ℕ) (o : Option Name) → is_some (option_map (λ name. heap.Resize name len) o) ≡ true
      → longer told len o ≡ after_one (row_after row) told (option_map (λ name. heap.Resize name len) o) (Some (heap.Resized (Ok tt)))
  of_resized told len None some = absurd (true≢false (sym some))
  of_resized told len (Some name) some = refl

  -- what is told of an entry that tells an answer of its worker's heap where it tells a call
  entry_rows : (at : ℕ) (told : RowAccount) (call : Call) (reply : Reply) → is_some (call_on_own made at call reply) ≡ is_some (answer_told call reply)
      → row_accounted row made told call reply ≡ after_one (row_after row) told (call_on_own made at call reply) (answer_told call reply)
  entry_rows at told (Allocate len) (Made name) even = refl
  entry_rows at told (Allocate len) (Refused (Heap why)) even = refl
  entry_rows at told (Allocate len) reply even = absurd (true≢false even)
  entry_rows at told (Release target) Freed even = of_freed told at (name_of made target) even
  entry_rows at told (Release target) (Refused (Heap why)) even =
      by_call (row_after row) told _ heap.Release (name_on_heap at (meant made target (Refused (Heap why)))) (heap.Released (Err why)) even (λ name. refl)
  entry_rows at told (Release target) reply even = no_answer (row_after row) told (call_on_own made at (Release target) reply)
  entry_rows at told (Write target from bytes) reply even =
      quiet (row_after row) told (λ name. heap.Write name from (bytes_of bytes)) (meant made target reply) (answer_told (Write target from bytes) reply) (written told from (bytes_of bytes))
  entry_rows at told (Read target from n) reply even =
      quiet (row_after row) told (λ name. heap.Read name from n) (meant made target reply) (answer_told (Read target from n) reply) (read told from n)
  entry_rows at told (Resize target len) Resized even = of_resized told len (name_of made target) even
  entry_rows at told (Resize target len) (Refused (Heap why)) even =
      by_call (row_after row) told _ (λ name. heap.Resize name len) (meant made target (Refused (Heap why))) (heap.Resized (Err why)) even (λ name. refl)
  entry_rows at told (Resize target len) reply even = no_answer (row_after row) told (call_on_own made at (Resize target len) reply)
  entry_rows at told (Take from) (Took took) even = of_post told took.name took.answer
  entry_rows at told (Take from) reply even = refl
  entry_rows at told (Drain most) reply even = refl

  -- ---- all entries

  rows_only : (told : RowAccount) (calls : List heap.Call) (answers : List heap.Answer)
      → (after_all (row_after row) told calls answers).rows ≡ rows_after_all row told.rows told.account.inventory calls answers
  rows_only told [] answers = refl
  rows_only told (call ∷ calls) [] = refl
  rows_only told (call ∷ calls) (answer ∷ answers) = rows_only (row_after row told call answer) calls answers

  pub entries_rowed : (workers j : ℕ) → j < workers → (told : RowAccount) (es : List Entry) → All (HasItsAnswer made workers) es
      → (fold (λ told e. row_accounted row made told e.call e.reply) told (entries_of j es)).rows ≡ rows_after_all row told.rows told.account.inventory (calls_on j made es) (answers_on j es)
  entries_rowed workers j inside told es each =
      ap (λ (t : RowAccount). t.rows) (entries_told (row_after row) made workers j inside (row_accounted row made) entry_rows told es each) ∙ rows_only told (calls_on j made es) (answers_on j es)

-- the account alone
account_told : (row : ℕ → ℕ) (told : RowAccount) (o : Option heap.Call) (r : Option heap.Answer) → (after_one (row_after row) told o r).account ≡ after_one account_after told.account o r
account_told row told None r = refl
account_told row told (Some call) None = refl
account_told row told (Some call) (Some answer) = refl

pub entry_accounted : (made : List (Option Name)) (at : ℕ) (a : Account) (call : Call) (reply : Reply) → is_some (call_on_own made at call reply) ≡ is_some (answer_told call reply)
    → accounted made a call reply ≡ after_one account_after a (call_on_own made at call reply) (answer_told call reply)
entry_accounted made at a call reply even =
    let told : RowAccount = record { account = a; rows = [] } in
    ap (λ (t : RowAccount). t.account) (entry_rows (λ n. 0) made at told call reply even) ∙ account_told (λ n. 0) told (call_on_own made at call reply) (answer_told call reply)
