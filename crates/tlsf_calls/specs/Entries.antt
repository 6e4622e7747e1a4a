-- Facts that entries tell by themselves.
use Rattle.std.specs.Prelude.{ℕ, List, [], get_or, Option, Some, None}
use Rattle.tlsf_heap.specs.declared.name.Name.{Name}
use Rattle.tlsf_calls.specs.declared.entry.Entry.{Entry}
use Rattle.tlsf_calls.specs.declared.reply.Reply.{Reply}
use Rattle.tlsf_calls.specs.declared.reply.Reply.TheVariants.{Made, Freed, Posted, Wrote, Got, Resized, Took, Empty, Drained, Refused}

-- the name that an event made, where it made one
abbrev pub made_by : Reply → Option Name
made_by (Made name) = Some name
made_by Freed = None
made_by Posted = None
made_by (Wrote n) = None
made_by (Got bytes) = None
made_by Resized = None
made_by (Took t) = None
made_by Empty = None
made_by (Drained n) = None
made_by (Refused why) = None

-- the record of worker j, among those of all workers
abbrev pub record_of : List (List Entry) → ℕ → List Entry
record_of records j = get_or records j []
