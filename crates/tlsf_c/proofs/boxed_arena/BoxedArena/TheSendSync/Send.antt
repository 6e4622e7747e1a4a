-- An arena may go to another thread: what it owns names no thread.
use mir.Raw.{raw}
use Rattle.tlsf_c.proofs.Walking.{Global, Option, Some, None, quiet, lies, Keyless, lone, Ptr, exits_of, shape, fields, to, IsSend, AllSend, owning_send, struct_send, sendable}
use Rattle.std.proofs.Crossing as heap
use Rattle.std_heap.proofs.Global.TheSendSync as handle
use Rattle.tlsf_c.specs.contracts.any_arena.AnyArena as Home
use Rattle.tlsf_c.proofs.any_arena.AnyArena.TheSendSync.{the_send as home}
use Rattle.tlsf_c.specs.declared.any_arena.AnyArena.{AnyArena}
use Rattle.tlsf_c.specs.ArenaOwned.{arena_owned}
use Rattle.tlsf_c.specs.contracts.boxed_arena.BoxedArena.{the_row, the_type}

crosses : (alloc : Global) (at : Ptr) (held : Option AnyArena) → Keyless (arena_owned alloc at held)
crosses alloc at (Some h) = (lies Home.the_row home at h, heap.frees.frees alloc (raw (lone Home.the_row.mir)) at)
crosses alloc at None = tt

pub send : IsSend the_row
send =
    let all : AllSend (fields the_type) = (search sendable, (handle.the_field_send, tt)) in
    owning_send the_type all (λ d. crosses d.alloc d.at d.value)
    (λ k. quiet (to the_type) (exits_of k (fields the_type)) ((struct_send (shape the_type) all).leaving k))
