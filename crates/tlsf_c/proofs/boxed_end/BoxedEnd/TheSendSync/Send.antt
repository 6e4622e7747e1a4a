-- An end may go to another thread: what it owns names no thread.
use mir.Raw.{raw}
use denote.Param.Send.{recorded_send}
use Rattle.tlsf_c.proofs.Walking.{Global, ghosts, Option, Some, None, quiet, lies, Keyless, lone, Ptr, exits_of, shape, fields, to, IsSend, AllSend, owning_send, struct_send, sendable}
use Rattle.std.proofs.Crossing as heap
use Rattle.std_heap.specs.contracts.Global as Heap
use Rattle.std_alloc.proofs.SendSync.{Box-send, Vec-send}
use Rattle.std_heap.proofs.Global.TheSendSync as handle
use Rattle.tlsf_c.specs.contracts.any_end.AnyEnd as Home
use Rattle.tlsf_c.specs.declared.any_end.AnyEnd.{AnyEnd}
use Rattle.tlsf_c.proofs.any_end.AnyEnd.TheLaws.TheKnot.{send-AnyEnd}
use Rattle.tlsf_post.proofs.post_end.PostEnd.TheSendSync.{the_field_send as post}
use Rattle.tlsf_post.proofs.take_end.TakeEnd.TheSendSync.{the_field_send as take}
use Rattle.tlsf_post.proofs.poster_end.PosterEnd.TheSendSync.{the_field_send as poster}
use Rattle.tlsf_post.proofs.owner_end.OwnerEnd.TheSendSync.{the_field_send as owner}
use Rattle.tlsf_c.specs.EndOwned.{end_owned}
use Rattle.tlsf_c.specs.contracts.boxed_end.BoxedEnd.{the_row, the_type}

home : IsSend Home.the_row
home = recorded_send (Home.the_field).row _ _ (Home.the_type).to_one (send-AnyEnd (search sendable) post take poster owner (λ h s. Vec-send _ _ _ (Box-send h Heap.the_row ghosts s handle.the_send heap.frees) handle.the_send heap.frees))

crosses : (alloc : Global) (at : Ptr) (held : Option AnyEnd) → Keyless (end_owned alloc at held)
crosses alloc at (Some h) = (lies Home.the_row home at h, heap.frees.frees alloc (raw (lone Home.the_row.mir)) at)
crosses alloc at None = tt

pub send : IsSend the_row
send =
    let all : AllSend (fields the_type) = (search sendable, (handle.the_field_send, tt)) in
    owning_send the_type all (λ d. crosses d.alloc d.at d.value)
    (λ k. quiet (to the_type) (exits_of k (fields the_type)) ((struct_send (shape the_type) all).leaving k))
