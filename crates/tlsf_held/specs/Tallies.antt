-- The needs of a worker's calls from its heap, as its entries tell them.
use Rattle.std.specs.Prelude.{ℕ, ◌+◌, ◌-◌, Bool, true, false, is_ok, List, fold, max, if◌then◌else◌}
use Rattle.tlsf_calls.specs.declared.call.Call.{Call}
use Rattle.tlsf_calls.specs.declared.call.Call.TheVariants.{Allocate, Release, Resize, Take}
use Rattle.tlsf_calls.specs.declared.entry.Entry.{Entry}
use Rattle.tlsf_calls.specs.declared.crew_refusal.CrewRefusal.TheVariants.{Heap}
use Rattle.tlsf_calls.specs.declared.reply.Reply.{Reply}
use Rattle.tlsf_calls.specs.declared.reply.Reply.TheVariants.{Made, Freed, Resized, Took, Refused}
use Rattle.tlsf_crew.specs.histories.History.{entries_of}
use Rattle.tlsf_held.specs.declared.tally.Tally.{Tally}

-- ---- replies, as they tell of the heap

-- it gave a block
abbrev pub is_given : Reply → Bool
is_given (Made name) = true
is_given _ = false

-- it took a block back
abbrev pub is_freed : Reply → Bool
is_freed Freed = true
is_freed _ = false

-- it took the block of a post back
abbrev pub is_post_freed : Reply → Bool
is_post_freed (Took took) = is_ok took.answer
is_post_freed _ = false

-- it was asked to resize a block, and answered
abbrev pub is_judged : Reply → Bool
is_judged Resized = true
is_judged (Refused (Heap why)) = true
is_judged _ = false

-- ---- the tally of these

abbrev pub no_calls : Tally
no_calls = record { held = 0; most = 0; longest = 0 }

-- this many bytes are asked for
abbrev pub with_length : Tally → ℕ → Tally
with_length tally len = record tally { longest = max tally.longest len }

-- a block of this many bytes is asked for, and given or not
abbrev pub with_request : Tally → ℕ → Bool → Tally
with_request tally len given = record {
  held = if given then tally.held + 1 else tally.held;
  most = max tally.most (tally.held + 1);
  longest = max tally.longest len;
}

-- a block is taken back or not
abbrev pub with_release : Tally → Bool → Tally
with_release tally freed = record tally { held = if freed then tally.held - 1 else tally.held }

-- one entry more
abbrev pub noted : Tally → Call → Reply → Tally
noted tally (Allocate len) reply = with_request tally len (is_given reply)
noted tally (Release target) reply = with_release tally (is_freed reply)
noted tally (Take from) reply = with_release tally (is_post_freed reply)
noted tally (Resize target len) reply = if is_judged reply then with_length tally len else tally
noted tally _ reply = tally

abbrev pub tally_of : ℕ → List Entry → Tally
tally_of worker entries = fold (λ tally e. noted tally e.call e.reply) no_calls (entries_of worker entries)
