use Rattle.tlsf_c.proofs.Common.{Ok, subst, IsPayloadCheck, Name, heap_in, name_of}
use Rattle.tlsf_c.specs.declared.heap_slot.HeapSlot.{HeapSlot}
use Rattle.tlsf_c.specs.declared.held_heap.HeldHeap.{HeldHeap}
use Rattle.tlsf_c.proofs.heap_calls.tlsf_locate.Goals as goal

pub returns-in-Ok-clause-len : goal.returns-in-Ok-clause-len
returns-in-Ok-clause-len c serves done =
    subst (λ (s : HeapSlot). IsPayloadCheck (heap_in s) (name_of c.args.name) (Ok c.in-Ok.n)) c.serves.ensures.same
    (subst (λ (k : HeldHeap). IsPayloadCheck k.heap.heap (name_of c.args.name) (Ok c.in-Ok.n)) c.lend-held.ensures.heap
    (subst (λ (n : Name). IsPayloadCheck c.lend-held.result.now.heap.heap n (Ok c.in-Ok.n)) c.name.ensures c.in-Ok.ensures.locates.payload))
