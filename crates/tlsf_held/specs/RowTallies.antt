-- The rows of a table, as the entries of a worker tell of them.
use Rattle.std.specs.Prelude.{ℕ, zero, suc, ◌+◌, List, ◌∷◌, Option, fold, length, nat_le, replicate, if◌then◌else◌}
use Rattle.tlsf_heap.specs.declared.name.Name.{Name}
use Rattle.tlsf_pool.specs.laws.Kinds.{Inventory, lengths}
use Rattle.tlsf_calls.specs.declared.call.Call.{Call}
use Rattle.tlsf_calls.specs.declared.call.Call.TheVariants.{Allocate, Resize}
use Rattle.tlsf_calls.specs.declared.entry.Entry.{Entry}
use Rattle.tlsf_calls.specs.declared.reply.Reply.{Reply}
use Rattle.tlsf_calls.specs.declared.reply.Reply.TheVariants.{Resized}
use Rattle.tlsf_crew.specs.histories.History.{entries_of}
use Rattle.tlsf_held.specs.Loans.{accounted, no_loans, Account}
use Rattle.tlsf_held.specs.Rows.{no_row, raised, row_count, row_in, row_of, used}
use Rattle.tlsf_held.specs.declared.row.Row.{Row}

-- what is held, and the rows so far
pub record RowAccount : Type 0 where
  pub account : Account
  pub rows : List Row

abbrev pub no_rows : ℕ → RowAccount
no_rows count = record { account = no_loans; rows = replicate count no_row }

-- these lengths are held at once, and the row of one may have risen
abbrev pub with_lengths : (ℕ → ℕ) → List Row → ℕ → List ℕ → List Row
with_lengths row rows len lens = raised rows (row len) (row_in row (row len) lens)

-- the rows after a call, by what was held before it: the block that is asked for counts, given or not
abbrev pub rows_asked : (ℕ → ℕ) → List Row → Call → Inventory → List Row
rows_asked row rows (Allocate len) inventory = with_lengths row rows len (len ∷ lengths inventory)
rows_asked row rows call inventory = rows

-- a block that was resized
abbrev pub rows_resized : (ℕ → ℕ) → List Row → ℕ → Reply → Inventory → List Row
rows_resized row rows len Resized inventory = with_lengths row rows len (lengths inventory)
rows_resized row rows len reply inventory = rows

-- and by what is held after it
abbrev pub rows_left : (ℕ → ℕ) → List Row → Call → Reply → Inventory → List Row
rows_left row rows (Resize target len) reply inventory = rows_resized row rows len reply inventory
rows_left row rows call reply inventory = rows

-- one entry more
abbrev pub row_accounted : (ℕ → ℕ) → List (Option Name) → RowAccount → Call → Reply → RowAccount
row_accounted row made told call reply =
    let next = accounted made told.account call reply in
    record { account = next; rows = rows_left row (rows_asked row told.rows call told.account.inventory) call reply next.inventory }

abbrev pub rows_told : (sli grain worker : ℕ) → List (Option Name) → List Entry → RowAccount
rows_told sli grain worker made entries =
    fold (λ told e. row_accounted (row_of sli grain) made told e.call e.reply) (no_rows (row_count sli grain)) (entries_of worker entries)

-- the rows that were used
abbrev pub used_rows : (sli worker : ℕ) → List (Option Name) → List Entry → (grain : ℕ) → List Row
used_rows sli worker made entries grain = used (rows_told sli grain worker made entries).rows

-- the first of this many lists, from one on, that has at most 64 rows, otherwise the last
abbrev pub first_few : (ℕ → List Row) → (at more : ℕ) → List Row
first_few lists at zero = lists at
first_few lists at (suc more) = if nat_le (length (lists at)) 64 then lists at else first_few lists (at + 1) more

-- the table that the entries tell: at most 16 classes make a row
abbrev pub table_of : (sli worker : ℕ) → List (Option Name) → List Entry → List Row
table_of sli worker made entries = first_few (used_rows sli worker made entries) 0 4
