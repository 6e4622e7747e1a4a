-- A heap may go to another thread: what it owns names no thread.
use Rattle.tlsf_c.proofs.Walking.{Global, quiet, lies, Bool, true, false, Keyless, lone, Ptr, exits_of, shape, fields, to, IsSend, AllSend, owning_send, struct_send, sendable}
use mir.Raw.{raw}
use Rattle.std.proofs.Crossing as heap
use Rattle.std_heap.proofs.Global.TheSendSync as handle
use Rattle.tlsf_c.specs.contracts.held_heap.HeldHeap as Home
use Rattle.tlsf_c.proofs.held_heap.HeldHeap.TheSendSync.{the_send as home}
use Rattle.tlsf_c.specs.HeapOwned.{heap_owned}
use Rattle.tlsf_c.specs.declared.held_heap.HeldHeap.{HeldHeap}
use Rattle.tlsf_c.specs.contracts.boxed_heap.BoxedHeap.{the_row, the_type}

crosses : (full : Bool) (alloc : Global) (at : Ptr) (h : HeldHeap) → Keyless (heap_owned full alloc at h)
crosses true alloc at h = (lies Home.the_row home at h, heap.frees.frees alloc (raw (lone Home.the_row.mir)) at)
crosses false alloc at h = tt

pub send : IsSend the_row
send =
    let all : AllSend (fields the_type) = (search sendable, (handle.the_field_send, tt)) in
    owning_send the_type all (λ d. crosses d.full d.alloc d.at d.value)
    (λ k. quiet (to the_type) (exits_of k (fields the_type)) ((struct_send (shape the_type) all).leaving k))
