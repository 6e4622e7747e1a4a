-- The answer of a heap is the reply of its worker: where the call's target means a name, and where it means none.
use Rattle.tlsf_crew.proofs.Common.{◌≡◌, ℕ, List, Option, Some, None, Result, Ok, Err, length, ap, refl, subst, HeapState, Name, Refusal, Reply, Refused, CrewRefusal, Heap, Unmade, KeepsHeap, by_heap, written, resized, chunk_read, IsHeapReply, HeapReply, own_named, own_writing, own_reading, own_resizing, reply_by}
use Rattle.tlsf_heap.specs.Calls as heap
use Rattle.tlsf_crew.specs.model.OwnReplies.{reply_wrote, reply_got, reply_resized}
use Rattle.tlsf_crew.proofs.lemmas.worker.OwnHeaps.{call_keeps, same_heap_keeps}

pub by_ok : {A : Type 0} (given : A → Reply) (o : Result A Refusal) (x : A) → Ok x ≡ by_heap o → given x ≡ reply_by given o
by_ok given (Ok y) x e = let q : x ≡ y = cc in ap given q
by_ok given (Err why) x e = cc

pub by_err : {A : Type 0} (given : A → Reply) (o : Result A Refusal) (why : CrewRefusal) → Err why ≡ by_heap o → Refused why ≡ reply_by given o
by_err given (Ok y) why e = cc
by_err given (Err x) why e = let q : why ≡ Heap x = cc in ap Refused q

-- of a target that means no name
pub own_unmade_is : (h : HeapState) (by : Name → HeapReply) (o : Option Name) → None ≡ o → IsHeapReply (Refused Unmade) h (own_named h by o)
own_unmade_is h by o none = subst (λ o. IsHeapReply (Refused Unmade) h (own_named h by o)) none (record { same = refl; left = refl })

own_named_is : (h g : HeapState) (by : Name → HeapReply) (o : Option Name) (name : Name) (reply : Reply) → Some name ≡ o → reply ≡ (by name).reply → g ≡ (by name).heap → IsHeapReply reply g (own_named h by o)
own_named_is h g by o name reply known e f = subst (λ o. IsHeapReply reply g (own_named h by o)) known (record { same = e; left = f })

pub own_write_is : (h g : HeapState) (o : Option Name) (name : Name) (from : ℕ) (list bytes : List ℕ) (reply : Reply) → Some name ≡ o → list ≡ bytes
    → reply ≡ reply_wrote (length list) (heap.written h name from list).answer → g ≡ (heap.written h name from list).heap → IsHeapReply reply g (own_writing h o from bytes)
unfolding written
own_write_is h g o name from list bytes reply known are e f = subst (λ l. IsHeapReply reply g (own_writing h o from l)) are (own_named_is h g _ o name reply known e f)

pub own_read_is : (h g : HeapState) (o : Option Name) (name : Name) (from n : ℕ) (reply : Reply) → Some name ≡ o → reply ≡ reply_got (chunk_read h name from n) → g ≡ h → IsHeapReply reply g (own_reading h o from n)
own_read_is h g o name from n reply = own_named_is h g _ o name reply

pub own_resize_is : (h g : HeapState) (o : Option Name) (name : Name) (len : ℕ) (reply : Reply) → Some name ≡ o
    → reply ≡ reply_resized (heap.resized h name len).answer → g ≡ (heap.resized h name len).heap → IsHeapReply reply g (own_resizing h o len)
unfolding resized
own_resize_is h g o name len reply = own_named_is h g _ o name reply

-- ---- the heap that is left keeps its number, and stays lawful

named_keeps : (h g : HeapState) (by : Name → HeapReply) (o : Option Name) → g ≡ (own_named h by o).heap → ((name : Name) → g ≡ (by name).heap → KeepsHeap h g) → KeepsHeap h g
named_keeps h g by None e keeps = same_heap_keeps h g e
named_keeps h g by (Some name) e keeps = keeps name e

pub write_keeps : (h g : HeapState) (o : Option Name) (from : ℕ) (bytes : List ℕ) → g ≡ (own_writing h o from bytes).heap → KeepsHeap h g
unfolding written
write_keeps h g o from bytes e = named_keeps h g _ o e (λ name. call_keeps h g (heap.Write name from bytes))

pub read_keeps : (h g : HeapState) (o : Option Name) (from k : ℕ) → g ≡ (own_reading h o from k).heap → KeepsHeap h g
read_keeps h g o from k e = named_keeps h g _ o e (λ name. same_heap_keeps h g)

pub resize_keeps : (h g : HeapState) (o : Option Name) (len : ℕ) → g ≡ (own_resizing h o len).heap → KeepsHeap h g
unfolding resized
resize_keeps h g o len e = named_keeps h g _ o e (λ name. call_keeps h g (heap.Resize name len))
