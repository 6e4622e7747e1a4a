-- Events that are kept in little memory: what is kept of each. Contracts of public functions see the events alone.
use Rattle.std.specs.Prelude.{ℕ, ◌≡◌, ◌<◌, List, [], ◌++◌, get_or}
use Rattle.tlsf_calls.specs.Bytes.{chunk_of}
use Rattle.tlsf_calls.specs.declared.call.Call.{Call}
use Rattle.tlsf_calls.specs.declared.call.Call.TheVariants as call
use Rattle.tlsf_calls.specs.declared.chunk.Chunk.{Chunk}
use Rattle.tlsf_calls.specs.declared.event.Event.{Event}
use Rattle.tlsf_lines.specs.declared.kept_event.KeptCall.{KeptCall}
use Rattle.tlsf_lines.specs.declared.kept_event.KeptCall.TheVariants.{Allocate, Release, Write, Read, Resize, Drain}
use Rattle.tlsf_lines.specs.declared.kept_event.KeptEvent.{KeptEvent}
use Rattle.tlsf_lines.specs.Events.{made_by}

-- the call that is kept in this way, where the writes have these bytes
abbrev pub call_kept : List Chunk → KeptCall → Call
call_kept chunks (Allocate len) = call.Allocate len
call_kept chunks (Release made) = call.Release (made_by made)
call_kept chunks (Write made at place) = call.Write (made_by made) at (get_or chunks place (chunk_of []))
call_kept chunks (Read made at n) = call.Read (made_by made) at n
call_kept chunks (Resize made len) = call.Resize (made_by made) len
call_kept chunks (Drain most) = call.Drain most

abbrev pub event_kept : List Chunk → KeptEvent → Event
event_kept chunks kept = record { worker = kept.worker; call = call_kept chunks kept.call }

-- the bytes of a write are among this many
abbrev pub IsCallWithin : ℕ → KeptCall → Type 0
IsCallWithin count (Write made at place) = place < count
IsCallWithin count _ = Unit {0}

abbrev pub IsWithin : ℕ → KeptEvent → Type 0
IsWithin count kept = IsCallWithin count kept.call

-- the bytes of more writes stand behind those so far
pub record Grows (old new : List Chunk) : Type 0 where
  pub more : List Chunk
  pub is : new ≡ old ++ more
