-- The blocks that a worker holds of its heap, and the most words that it wants at once.
use Rattle.std.specs.Prelude.{◌↔◌, ℕ, ◌+◌, ◌≤◌, List, [], ◌∷◌, Option, Some, None, fold, max, filter, not, is_ok, if◌then◌else◌}
use Rattle.tlsf_heap.specs.Blocks.{want}
use Rattle.tlsf_heap.specs.Calls.{Call as HeapCall, Allocate as AllocateAt, Answer}
use Rattle.tlsf_heap.specs.declared.name.Name.{Name}
use Rattle.tlsf_pool.specs.laws.Contents.{is_same}
use Rattle.tlsf_pool.specs.laws.Kinds.{Inventory, inventory_after, with_length}
use Rattle.tlsf_calls.specs.declared.call.Call.{Call}
use Rattle.tlsf_calls.specs.declared.call.Call.TheVariants.{Allocate, Release, Resize, Take}
use Rattle.tlsf_calls.specs.declared.entry.Entry.{Entry}
use Rattle.tlsf_calls.specs.declared.reply.Reply.{Reply}
use Rattle.tlsf_calls.specs.declared.reply.Reply.TheVariants.{Made, Freed, Resized, Took}
use Rattle.tlsf_calls.specs.declared.target.Target.{Target}
use Rattle.tlsf_crew.specs.histories.History.{entries_of}
use Rattle.tlsf_held.specs.declared.loans.Loan.{Loan}
use Rattle.tlsf_crew.specs.model.World.{name_of}

-- the words that the blocks of an inventory want
abbrev pub wanted_in : Inventory → ℕ
wanted_in [] = 0
wanted_in (entry ∷ inventory) = want entry.1 + wanted_in inventory

-- these, and those of the block that a call asks for
abbrev pub wanted_with : Inventory → HeapCall → ℕ
wanted_with inventory (AllocateAt len) = want len + wanted_in inventory
wanted_with inventory call = wanted_in inventory

-- these calls, which get these answers, want at most this many words at once: with each block that is asked for, and in the end
abbrev pub WantAtMost : ℕ → Inventory → List HeapCall → List Answer → Type 0
WantAtMost words inventory [] answers = wanted_in inventory ≤ words
WantAtMost words inventory (call ∷ calls) [] = wanted_in inventory ≤ words
WantAtMost words inventory (call ∷ calls) (answer ∷ answers) = (wanted_with inventory call ≤ words) × WantAtMost words (inventory_after inventory call answer) calls answers

-- these calls want at most this many words at once, and no fewer
abbrev pub IsMostWanted : List HeapCall → List Answer → ℕ → Type 0
IsMostWanted calls answers most = (words : ℕ) → WantAtMost words [] calls answers ↔ (most ≤ words)

-- ---- by entries

-- what is held, and the most words that were wanted at once
pub record Account : Type 0 where
  pub inventory : Inventory
  pub most : ℕ

abbrev pub no_loans : Account
no_loans = record { inventory = []; most = 0 }

-- a block of this many bytes is asked for
abbrev pub with_asked : Account → ℕ → Account
with_asked account len = record account { most = max account.most (want len + wanted_in account.inventory) }

-- it is given, or not
abbrev pub with_given : Account → ℕ → Reply → Account
with_given account len (Made name) = record account { inventory = (name, len) ∷ account.inventory }
with_given account len reply = account

-- the block of a name is taken back
abbrev pub with_taken : Account → Option Name → Account
with_taken account None = account
with_taken account (Some name) = record account { inventory = filter (λ entry. not (is_same name entry.0)) account.inventory }

-- the block of a name is resized
abbrev pub with_resized : Account → ℕ → Option Name → Account
with_resized account len None = account
with_resized account len (Some name) =
    let inventory = with_length account.inventory name len in
    record { inventory = inventory; most = max account.most (wanted_in inventory) }

-- the name of the block that the heap took back
abbrev pub freed_by : List (Option Name) → Call → Reply → Option Name
freed_by made (Release target) Freed = name_of made target
freed_by made (Take from) (Took took) = if is_ok took.answer then Some took.name else None
freed_by made call reply = None

-- that of the block which it resized
abbrev pub resized_by : List (Option Name) → Target → Reply → Option Name
resized_by made target Resized = name_of made target
resized_by made target reply = None

-- one entry more, where the events made these names
abbrev pub accounted : List (Option Name) → Account → Call → Reply → Account
accounted made account (Allocate len) reply = with_given (with_asked account len) len reply
accounted made account (Release target) reply = with_taken account (freed_by made (Release target) reply)
accounted made account (Take from) reply = with_taken account (freed_by made (Take from) reply)
accounted made account (Resize target len) reply = with_resized account len (resized_by made target reply)
accounted made account call reply = account

abbrev pub account_of : ℕ → List (Option Name) → List Entry → Account
account_of worker made entries = fold (λ account e. accounted made account e.call e.reply) no_loans (entries_of worker entries)

-- ---- the loans of a worker as an inventory

-- one loan more stands first
abbrev pub with_loan : Inventory → Loan → Inventory
with_loan inventory loan = (loan.name, loan.len) ∷ inventory

-- the newest first
abbrev pub inventory_of : List Loan → Inventory
inventory_of loans = fold with_loan [] loans

-- the loans but those of a name
abbrev pub others : Name → List Loan → List Loan
others name loans = filter (λ loan. not (is_same name loan.name)) loans

-- a loan with another length, where it is of the name
abbrev pub with_len : Name → ℕ → Loan → Loan
with_len name len loan = if is_same name loan.name then record loan { len = len } else loan
