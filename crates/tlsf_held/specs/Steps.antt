-- The lengths that a worker holds, step by step, as its entries tell of them.
use Rattle.std.specs.Prelude.{ℕ, ◌+◌, ◌-◌, List, [], ◌∷◌, ◌++◌, Option, Some, None, fold, max, if◌then◌else◌}
use Rattle.tlsf_heap.specs.declared.name.Name.{Name}
use Rattle.tlsf_pool.specs.laws.Contents.{is_same}
use Rattle.tlsf_pool.specs.laws.Kinds.{Inventory}
use Rattle.tlsf_calls.specs.declared.call.Call.{Call}
use Rattle.tlsf_calls.specs.declared.call.Call.TheVariants.{Allocate, Release, Resize, Take}
use Rattle.tlsf_calls.specs.declared.entry.Entry.{Entry}
use Rattle.tlsf_calls.specs.declared.reply.Reply.{Reply}
use Rattle.tlsf_crew.specs.histories.History.{entries_of}
use Rattle.tlsf_held.specs.Loans.{accounted, freed_by, no_loans, resized_by, Account}
use Rattle.tlsf_held.specs.Merges.{is_between}
use Rattle.tlsf_held.specs.Tallies.{is_given}
use Rattle.tlsf_held.specs.Rows.{no_row}
use Rattle.tlsf_held.specs.declared.row.Row.{Row}
use Rattle.tlsf_held.specs.declared.band.Band.{Band}
use Rattle.tlsf_held.specs.declared.steps.Step.{Step}
use Rattle.tlsf_held.specs.declared.steps.Step.TheVariants.{Held, Freed, Reached}

-- ---- the steps of an entry

-- a block is asked for, and given or not
abbrev pub asked_steps : ℕ → Reply → List Step
asked_steps len reply = Held len ∷ (Reached ∷ (if is_given reply then [] else Freed len ∷ []))

-- the blocks of a name are taken back, the oldest first
abbrev pub freed_steps : Name → Inventory → List Step
freed_steps name [] = []
freed_steps name (entry ∷ inventory) = freed_steps name inventory ++ (if is_same name entry.0 then Freed entry.1 ∷ [] else [])

-- they get another length
abbrev pub moved_steps : Name → ℕ → Inventory → List Step
moved_steps name len [] = []
moved_steps name len (entry ∷ inventory) = moved_steps name len inventory ++ (if is_same name entry.0 then Freed entry.1 ∷ (Held len ∷ []) else [])

-- the block of a name is taken back, where there is one
abbrev pub taken_steps : Inventory → Option Name → List Step
taken_steps inventory None = []
taken_steps inventory (Some name) = freed_steps name inventory

-- that of a name is resized
abbrev pub resized_steps : Inventory → ℕ → Option Name → List Step
resized_steps inventory len None = []
resized_steps inventory len (Some name) = moved_steps name len inventory ++ Reached ∷ []

-- an entry, by what is held before it
abbrev pub entry_steps : List (Option Name) → Inventory → Call → Reply → List Step
entry_steps made inventory (Allocate len) reply = asked_steps len reply
entry_steps made inventory (Release target) reply = taken_steps inventory (freed_by made (Release target) reply)
entry_steps made inventory (Take from) reply = taken_steps inventory (freed_by made (Take from) reply)
entry_steps made inventory (Resize target len) reply = resized_steps inventory len (resized_by made target reply)
entry_steps made inventory call reply = []

-- ---- those of all entries

pub record StepAccount : Type 0 where
  pub account : Account
  pub steps : List Step

abbrev pub no_steps : StepAccount
no_steps = record { account = no_loans; steps = [] }

abbrev pub stepped : List (Option Name) → StepAccount → Call → Reply → StepAccount
stepped made told call reply = record {
  account = accounted made told.account call reply;
  steps = told.steps ++ entry_steps made told.account.inventory call reply;
}

abbrev pub stepped_all : List (Option Name) → StepAccount → List Entry → StepAccount
stepped_all made told entries = fold (λ told e. stepped made told e.call e.reply) told entries

abbrev pub steps_told : ℕ → List (Option Name) → List Entry → List Step
steps_told worker made entries = (stepped_all made no_steps (entries_of worker entries)).steps

-- ---- what steps tell of the lengths from one on, below another

abbrev pub no_band : Band
no_band = record { held = 0; row = no_row }

-- a block more of this many bytes, a block fewer, and all of these at once
abbrev pub with_held : Band → ℕ → Band
with_held band len = record { held = band.held + 1; row = record { most = band.row.most; longest = max band.row.longest len } }

abbrev pub with_freed : Band → Band
with_freed band = record { held = band.held - 1; row = band.row }

abbrev pub with_reached : Band → Band
with_reached band = record { held = band.held; row = record { most = max band.row.most band.held; longest = band.row.longest } }

-- one step more
abbrev pub band_step : (from to : ℕ) → Band → Step → Band
band_step from to band (Held len) = if is_between from to len then with_held band len else band
band_step from to band (Freed len) = if is_between from to len then with_freed band else band
band_step from to band Reached = with_reached band

abbrev pub band_after : (from to : ℕ) → Band → List Step → Band
band_after from to band steps = fold (band_step from to) band steps

-- the most that were held at once, and the longest
abbrev pub row_between : List Step → (from to : ℕ) → Row
row_between steps from to = (band_after from to no_band steps).row
